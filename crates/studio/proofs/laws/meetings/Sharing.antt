-- The lowest place that two sets share: the sorts of places stand one behind the other, each with a test of its own.
use Rattle.std.specs.Prelude.{◌≡◌, refl, Bool, true, false, cond, ◌&&◌, [], ◌∷◌, ◌++◌, find, Option, Some, None, option_map, ℕ}
use Rattle.std.specs.Bool.{then_some}
use Rattle.std.specs.Option.{option_or}
use Rattle.std.proofs.lemmas.List.Folds.{find-append}
use Rattle.basis.specs.Names.{bit_and}
use Rattle.basis.proofs.Names.{ap, ap₂, sym, ◌∙◌}
use Rattle.manual.specs.Places.{mmx, integer, byte, zero_mark}
use Rattle.manual.specs.Locations.{bytes_from}
use Rattle.machine.specs.declared.Places.{Places}
use Rattle.studio.specs.declared.Place as declared
use Rattle.studio.specs.declared.Place.TheVariants.{Mmx, Integer, Byte, ZeroMark}
use Rattle.studio.specs.Meetings.{eight, all_places, paper_of_place}
use Rattle.studio.specs.inner.Meetings.{registers, in_mask, is_shared}
use Rattle.studio.proofs.laws.meetings.Masks.{in_masks}
use Rattle.studio.proofs.laws.meetings.Finding.{find-map}

-- a sort made into places, and the one or the other of two

by_sort : {A : Type 0} (f : A → declared.Place) (o : Option A) → option_map paper_of_place (option_map f o) ≡ option_map (λ a. paper_of_place (f a)) o
by_sort f None = refl
by_sort f (Some a) = refl

or_map : (o p : Option declared.Place) → option_map paper_of_place (option_or o p) ≡ option_or (option_map paper_of_place o) (option_map paper_of_place p)
or_map None p = refl
or_map (Some a) p = refl

module _ (one other : Places) (n : ℕ) where
  module _ (m i b z : Option declared.Place)
      (mmx_is : option_map paper_of_place m ≡ find (is_shared one other) (eight mmx))
      (integer_is : option_map paper_of_place i ≡ find (is_shared one other) (eight integer))
      (byte_is : option_map paper_of_place b ≡ find (is_shared one other) (bytes_from 0 n))
      (mark_is : option_map paper_of_place z ≡ find (is_shared one other) (zero_mark ∷ [])) where
    in_registers : option_map paper_of_place (option_or m i) ≡ find (is_shared one other) (eight mmx ++ eight integer)
    in_registers = or_map m i ∙ ap₂ option_or mmx_is integer_is ∙ sym (find-append (is_shared one other) (eight mmx) (eight integer))

    before_mark : option_map paper_of_place (option_or (option_or m i) b) ≡ find (is_shared one other) (eight mmx ++ eight integer ++ bytes_from 0 n)
    before_mark =
        or_map (option_or m i) b ∙ ap₂ option_or in_registers byte_is
        ∙ sym (find-append (is_shared one other) (eight mmx ++ eight integer) (bytes_from 0 n))

    pub one_after_the_other : option_map paper_of_place (option_or (option_or (option_or m i) b) z) ≡ find (is_shared one other) (all_places n)
    one_after_the_other =
        or_map (option_or (option_or m i) b) z ∙ ap₂ option_or before_mark mark_is
        ∙ sym (find-append (is_shared one other) (eight mmx ++ eight integer ++ bytes_from 0 n) (zero_mark ∷ []))

  pub of_mmx : (r : Option ℕ) → r ≡ find (in_mask (bit_and one.mmx other.mmx)) registers
      → option_map paper_of_place (option_map Mmx r) ≡ find (is_shared one other) (eight mmx)
  unfolding is_shared
  of_mmx r e =
      by_sort Mmx r ∙ ap (option_map mmx) e
      ∙ sym (find-map mmx (in_mask (bit_and one.mmx other.mmx)) (is_shared one other) (λ k. in_masks one.mmx other.mmx k) registers)

  pub of_integer : (r : Option ℕ) → r ≡ find (in_mask (bit_and one.integers other.integers)) registers
      → option_map paper_of_place (option_map Integer r) ≡ find (is_shared one other) (eight integer)
  unfolding is_shared
  of_integer r e =
      by_sort Integer r ∙ ap (option_map integer) e
      ∙ sym (find-map integer (in_mask (bit_and one.integers other.integers)) (is_shared one other) (λ k. in_masks one.integers other.integers k) registers)

  pub of_byte : (r : Option ℕ) → option_map byte r ≡ find (is_shared one other) (bytes_from 0 n)
      → option_map paper_of_place (option_map Byte r) ≡ find (is_shared one other) (bytes_from 0 n)
  of_byte r e = by_sort Byte r ∙ e

  pub of_mark : (z : Option declared.Place) (t : Bool) → z ≡ then_some t ZeroMark → t ≡ (one.zero && other.zero)
      → option_map paper_of_place z ≡ find (is_shared one other) (zero_mark ∷ [])
  unfolding is_shared
  of_mark z t e h = ap (option_map paper_of_place) e ∙ by t ∙ ap (λ (b : Bool). cond b (Some zero_mark) None) h
    where
      by : (t : Bool) → option_map paper_of_place (then_some t ZeroMark) ≡ cond t (Some zero_mark) None
      by true = refl
      by false = refl
