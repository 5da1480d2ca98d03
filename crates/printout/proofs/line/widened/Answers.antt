-- Each number is the one that it widens.
use Rattle.std.specs.Prelude.{◌≡◌, ℕ, ◌<◌, length}
use Rattle.std.proofs.lemmas.List.{ext_get_or}
use Rattle.basis.proofs.Names.{arith, rules}
use Rattle.printout.proofs.line.widened.Goals as goal

pub returns : goal.returns
returns c =
    let eight : length c.map.result ≡ 8 = c.map.ensures.items.long in
    ext_get_or 0 c.map.result c.args.values (search rules)
    (λ (i : ℕ) (h : i < length c.map.result). let one = (c.map.ensures.items.at i 0 0 (omega arith)).2 in search rules)
