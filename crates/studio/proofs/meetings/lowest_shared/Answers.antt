-- `meetings::lowest_shared` meets its contract: the sorts of places one after the other.
use Rattle.std.specs.Prelude.{◌≡◌, ◌&&◌, option_map}
use Rattle.std.specs.Option.{option_or}
use Rattle.basis.proofs.Names.{rules, ap, ◌∙◌}
use Rattle.studio.specs.declared.Place.TheVariants.{Mmx, Integer, Byte}
use Rattle.studio.specs.Meetings.{paper_of_place}
use Rattle.studio.proofs.laws.meetings.Sharing.{one_after_the_other, of_mmx, of_integer, of_byte, of_mark}
use Rattle.studio.proofs.meetings.lowest_shared.Goals as goal
use Rattle.studio.proofs.meetings.lowest_shared.Goals.{then-one, else-one}

pub returns : goal.returns
returns c =
    let one = c.args.one in
    let other = c.args.other in
    let mmx : c.map-mmx.result ≡ option_map Mmx c.lowest_register.result = search rules in
    let integer : c.map-integer.result ≡ option_map Integer c.lowest_register-2.result = search rules in
    let byte : c.map-byte.result ≡ option_map Byte c.lowest_byte.result = search rules in
    let marked : c.if-one.then_some ≡ (one.zero && other.zero) = elim c.if-one.branch [ then-one w ↦ search rules | else-one w ↦ search rules ] in
    let joined : c.or-3.result ≡ option_or (option_or (option_or c.map-mmx.result c.map-integer.result) c.map-byte.result) c.then_some-mark.result = search rules in
    ap (option_map paper_of_place) joined
    ∙ one_after_the_other one other c.args.bytes c.map-mmx.result c.map-integer.result c.map-byte.result c.then_some-mark.result
    (ap (option_map paper_of_place) mmx ∙ of_mmx one other c.args.bytes c.lowest_register.result c.lowest_register.ensures)
    (ap (option_map paper_of_place) integer ∙ of_integer one other c.args.bytes c.lowest_register-2.result c.lowest_register-2.ensures)
    (ap (option_map paper_of_place) byte ∙ of_byte one other c.args.bytes c.lowest_byte.result c.lowest_byte.ensures)
    (of_mark one other c.args.bytes c.then_some-mark.result c.if-one.then_some c.then_some-mark.ensures marked)
