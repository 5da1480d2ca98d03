-- Nothing is left exactly where a half that is read is unsupported.
use Rattle.std.specs.Prelude.{◌≡◌, refl, ℕ, Bool, true, false, ◌||◌, Option, Some, None}
use Rattle.basis.proofs.Names.{sym, ap₂, ◌∙◌, false≢true}
use Rattle.lanes.specs.Lane.{lane}
use Rattle.singles.specs.Ranges.{Range, zero_range, normal_range, unsupported_range, range_of}
use Rattle.singles.specs.Tables.{greater_cell, greater_half, maximum_cell, maximum_half, word_cell, word_half}
use Rattle.singles.specs.Siblings.{both, pf2iw, pfcmpgt, pfmax, Sibling, PF2IW, PI2FW, PSWAPD, PAVGUSB, PFCMPGT, PFMAX, leave, is_unsupported, has_unsupported, refuses}

abbrev fails : Option ℕ → Bool
fails (Some r) = false
fails None = true

abbrev is_undefined : Option ℕ → Bool
is_undefined (Some n) = false
is_undefined None = true

both_fails : (low high : Option ℕ) → fails (both low high) ≡ (is_undefined low || is_undefined high)
unfolding both
both_fails (Some l) (Some h) = refl
both_fails (Some l) None = refl
both_fails None high = refl

module _ (a b : ℕ) where
  greater_undefined : (x y : Range) → is_undefined (greater_cell x y a b) ≡ (is_unsupported x || is_unsupported y)
  unfolding greater_cell
  greater_undefined zero_range zero_range = refl
  greater_undefined zero_range normal_range = refl
  greater_undefined zero_range unsupported_range = refl
  greater_undefined normal_range zero_range = refl
  greater_undefined normal_range normal_range = refl
  greater_undefined normal_range unsupported_range = refl
  greater_undefined unsupported_range zero_range = refl
  greater_undefined unsupported_range normal_range = refl
  greater_undefined unsupported_range unsupported_range = refl

  maximum_undefined : (x y : Range) → is_undefined (maximum_cell x y a b) ≡ (is_unsupported x || is_unsupported y)
  unfolding maximum_cell
  maximum_undefined zero_range zero_range = refl
  maximum_undefined zero_range normal_range = refl
  maximum_undefined zero_range unsupported_range = refl
  maximum_undefined normal_range zero_range = refl
  maximum_undefined normal_range normal_range = refl
  maximum_undefined normal_range unsupported_range = refl
  maximum_undefined unsupported_range zero_range = refl
  maximum_undefined unsupported_range normal_range = refl
  maximum_undefined unsupported_range unsupported_range = refl

word_undefined : (a : ℕ) (x : Range) → is_undefined (word_cell x a) ≡ is_unsupported x
unfolding word_cell
word_undefined a zero_range = refl
word_undefined a normal_range = refl
word_undefined a unsupported_range = refl

-- by halves, and by registers
across : (p q r s : Bool) → ((p || q) || (r || s)) ≡ ((p || r) || (q || s))
across true q r s = refl
across false true true s = refl
across false true false s = refl
across false false r s = refl

abbrev low : ℕ → Range
low register = range_of (lane 32 0 register)

abbrev high : ℕ → Range
high register = range_of (lane 32 1 register)

fails_exactly : (x : Sibling) (a b : ℕ) → fails (leave x a b) ≡ refuses x a b
unfolding leave pf2iw word_half pfcmpgt greater_half pfmax maximum_half has_unsupported
fails_exactly PF2IW a b = both_fails _ _ ∙ ap₂ ◌||◌ (word_undefined _ (low b)) (word_undefined _ (high b))
fails_exactly PI2FW a b = refl
fails_exactly PSWAPD a b = refl
fails_exactly PAVGUSB a b = refl
fails_exactly PFCMPGT a b =
    both_fails _ _ ∙ ap₂ ◌||◌ (greater_undefined _ _ (low a) (low b)) (greater_undefined _ _ (high a) (high b))
    ∙ across (is_unsupported (low a)) (is_unsupported (low b)) _ _
fails_exactly PFMAX a b =
    both_fails _ _ ∙ ap₂ ◌||◌ (maximum_undefined _ _ (low a) (low b)) (maximum_undefined _ _ (high a) (high b))
    ∙ across (is_unsupported (low a)) (is_unsupported (low b)) _ _

failing : (r : Option ℕ) → fails r ≡ true → r ≡ None
failing (Some v) h = absurd (false≢true h)
failing None h = refl

leaving : (r : Option ℕ) → fails r ≡ false → (v : ℕ) × (r ≡ Some v)
leaving (Some v) h = (v, refl)
leaving None h = absurd (false≢true (sym h))

module _ (x : Sibling) (a b : ℕ) where
  pub fails_where : refuses x a b ≡ true → leave x a b ≡ None
  fails_where h = failing (leave x a b) (fails_exactly x a b ∙ h)

  pub leaves_where : refuses x a b ≡ false → (v : ℕ) × (leave x a b ≡ Some v)
  leaves_where h = leaving (leave x a b) (fails_exactly x a b ∙ h)
