-- What the laws take from the kit beside what the definitions take.
pub use Prim.Native.Nat.{max, zero-le}
pub use borrow.Author.Rules.{rules}
pub use borrow.Author.Tests.{eq-eqb, eqb-false, eqb-true, le-leb, le-ltb, leb-false, leb-true, lt-leb, lt-ltb, ltb-false, ltb-true, ne_eqb, not-false, not-true}
pub use lib.Arith.{bin_ind, digits_lt, mod-mul}
pub use lib.Bits.{and_le_l, and_le_r, and_mask, and_mod, and_shr, and_step, and_zero_r, differ, or_add_and, or_lt, or_mod, or_shr, or_step, or_zero_l, or_zero_r, xor_add_and, xor_block, xor_comm, xor_lt, xor_mod, xor_self, xor_shifted, xor_shr, xor_step, xor_zero_r}
pub use lib.Dec.{T}
pub use lib.Ieee.{below, down, fin, inf, nan, up}
unfoldable pub use lib.Ieee.{div, is_nan, nan_bits, odd, of_fields, round}
pub use lib.Ieee.Back.{round_whole, whole_unique}
pub use lib.Ieee.Bits.{nan_bits_above, nan_bits_is}
pub use lib.Ieee.Exact.{HasValue, odd_sign}
pub use lib.Ieee.Fits.{down_pos, neg-fits, round-fits}
pub use lib.Ieee.Nearest.{div_same}
pub use lib.IntN.{nat_abs, neg_ℤ}
pub use lib.ListN.{get_or-eq_default, drop_of_length-le, length-append, length-drop, length-map, length-replicate, length-set, length-take, take-append-drop}
pub use lib.Pow.{field, high, low, mod-mod-pow, mod-pow-add, ones_lt, ones_split, ones_sub-lt, pow-add, pow-lt, pow_mono, pow_pos, shl_exact, shl-shr, shr_lt, shr-shr}
pub use lib.Seq.{drop-append-le, drop-append_seam, drop_at, drop-cons, drop-drop, drop-length, get_or-drop, get_or-set_other, length-sets, length-take-le, set_comm, sets-eq, take-add, take_all, take-append-le, take-append_seam, take_at, take-length, take-set-le, take-suc, take-suc-set}
pub use lib.Signed.{mag, non_neg}
pub use mathlib.Core.Bool.{and-false, and-true, false≢true, or-false, or-true, true≢false}
pub use mathlib.Core.List.Memᴰ.{append_cases as Memᴰ-append_cases, append_left as Memᴰ-append_left, append_right as Memᴰ-append_right, eq_of_singleton as Memᴰ-eq_of_singleton, head as Memᴰ-head, map as Memᴰ-map, not-nil as Memᴰ-not_nil, tail as Memᴰ-tail}
pub use mathlib.Core.List.{append_assoc, append-nil}
pub use mathlib.Core.Logic.{dite, inl, inr, ⊎_elim}
pub use mathlib.Core.Path.{◌∙◌, ap, ap₂, subst, subst₂, sym}
pub use native.Mathlib.Decide.{dec_le, dec_lt, ℕ_discrete}
pub use native.Mathlib.Nat.{add_assoc, add_comm, add-mod, add-mod-mod, add-mod_right, add-mul, add-mul-mod_self_right, add-sub_cancel_left, add-suc, add-zero, div-add-mod', div-eq_of_lt, div-le_self, div-lt_iff_lt-mul, div-mul-le_self, div-one, div_self, eq-or-lt_of_le, le-div_iff_mul-le, le_of_eq, le_of_lt, le_of_mul-le-mul_right, le_of_suc-le-suc, le_trans, lt_of_le_of_lt, lt_of_lt_of_le, lt_of_not-le, lt-suc_self, lt_trans, min-eq_left, min-eq_right, mod-add-mod, mod-eq_of_lt, mod-lt, mod-mod, mod-one, mod_self, mul-add, mul-add-mod_self_right, mul_assoc, mul_comm, mul-div_cancel, mul-le-mul, mul-le-mul_left, mul-le-mul_right, mul-lt-mul_of_pos_right, mul-mod_left, mul-one, mul-pos, mul_right_comm, mul-suc, mul-zero, not-suc-le-zero, one-le-pow, one-mul, pow-le-pow_right, pow-suc, pow-succ', sub_self, sub-zero, suc-add, two-pow-succ, zero-add, zero-div, zero-mod, zero-mul}
pub use native.Mathlib.Numerals.{add-one, towards_suc}
pub use native.Mathlib.Omega.{arith}
