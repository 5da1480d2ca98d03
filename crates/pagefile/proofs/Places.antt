-- Whether a field stands at the front of what remains of a file, by the tests that the code makes there, and what remains after it.
use Rattle.std.specs.Prelude.{◌≡◌, refl, true, false, List, ℕ, ◌+◌, ◌-◌, ◌≤◌, ◌<◌, length, get_or, take, drop}
use Rattle.basis.proofs.Names.{sym, ap, ◌∙◌, and-false, add-one, arith, rules, eq-eqb, le-leb, lt-leb, length-drop, length-take-le, take_all}
use Rattle.words.specs.Buffer.{loaded}
use Rattle.words.proofs.Laws.{loaded-inside}
use Rattle.pagefile.specs.Fields.{may_hold}
use Rattle.pagefile.specs.Parsing.{length_in, contents_in, stands, size, remaining}
use Rattle.pagefile.proofs.Fronts.{stood, lacking}

-- what stands behind a field's heading
module _ (rest : List ℕ) (tag n : ℕ) (headed : 3 ≤ length rest) (read : n ≡ loaded rest 1 2) where
  abbrev after : List ℕ
  after = take (length rest - 3) (drop 3 rest)

  counted : length_in rest ≡ n
  counted = sym (read ∙ loaded-inside rest 1 2 (omega arith) (omega arith))

  all_after : after ≡ drop 3 rest
  all_after = take_all (length rest - 3) (drop 3 rest) (omega (arith, length-drop 3 rest))

  pub contents_at : take n after ≡ contents_in rest
  contents_at = rw (counted, all_after)

  pub runs_past : length after < n → stands tag rest ≡ false
  runs_past cut =
      let less : length rest < 3 + n = omega (arith, ap length all_after, length-drop 3 rest) in
      simp (counted, lt-leb _ _ less, and-false)

  pub wrong_contents : may_hold tag (take n after) ≡ false → stands tag rest ≡ false
  wrong_contents wrong = let none : may_hold tag (contents_in rest) ≡ false = rw contents_at at wrong in simp (none, and-false)

  pub field_stands : get_or rest 0 0 ≡ tag → n ≤ length after → may_hold tag (take n after) ≡ true → stands tag rest ≡ true
  field_stands same within right =
      let enough : 3 + length_in rest ≤ length rest = omega (arith, counted, ap length all_after, length-drop 3 rest) in
      let allowed : may_hold tag (contents_in rest) ≡ true = rw contents_at at right in
      rw (eq-eqb _ _ same, le-leb _ _ enough) allowed

-- what remains behind the field, and where there is none
module _ (rest : List ℕ) (tag : ℕ) where
  pub after_standing : (contents : List ℕ) → stands tag rest ≡ true → contents ≡ contents_in rest
      → take (length rest - (3 + length contents)) (drop (3 + length contents) rest) ≡ drop (size tag rest) rest
  after_standing contents all same =
      let field = stood tag rest all in
      let long : length contents ≡ length_in rest = ap length same ∙ length-take-le (length_in rest) (drop 3 rest) (omega (arith, field.within, length-drop 3 rest)) in
      let sized : 3 + length contents ≡ size tag rest = omega (arith, field.sized) in
      rw sized (take_all (length rest - size tag rest) (drop (size tag rest) rest) (omega (arith, length-drop (size tag rest) rest)))

  pub after_none : stands tag rest ≡ false → rest ≡ drop (size tag rest) rest
  after_none fails = rw (lacking tag rest fails).sized

-- what remains of a file: all, then a field less
pub none_read : (file : List ℕ) → file ≡ remaining 0 file
unfolding remaining
none_read file = refl

pub one_read : (file rest : List ℕ) (tag : ℕ) → rest ≡ remaining tag file → drop (size (tag + 1) rest) rest ≡ remaining (tag + 1) file
unfolding remaining
one_read file rest tag here = rw (here, add-one tag)

pub ruleset fields = (rules, contents_at, runs_past, wrong_contents, field_stands, after_standing, after_none)

pub ruleset remains = (rules, none_read, one_read)
