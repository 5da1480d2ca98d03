-- Halves as lanes, and which of them are NaNs.
use Rattle.std.specs.Prelude.{◌≡◌, refl, ℕ, ◌/◌, ◌%◌, ◌^◌, ◌<◌, true, Float}
use Rattle.basis.specs.Names.{binary32, of_bits}
use Rattle.basis.proofs.Names.{sym, ◌∙◌, lt-ltb, nan, inf, div, is_nan, nan_bits_above, nan_bits_is, fin}
use Rattle.lanes.specs.Lane.{lane}
use Rattle.lanes.proofs.Registers.{lane_first}

pub low_lane : (x : ℕ) → x % 2 ^ 32 ≡ lane 32 0 x
low_lane x = sym (lane_first 32 x)

pub high_lane : (x : ℕ) → x / 2 ^ 32 % 2 ^ 32 ≡ lane 32 1 x
unfolding lane
high_lane x = refl

is_nan_lem : (x : Float) → is_nan x ≡ true → nan ≡ x
unfolding is_nan
is_nan_lem nan h = refl
is_nan_lem (inf s) h = cc
is_nan_lem (fin s m e) h = cc

-- the NaNs lie above infinity, without their signs
pub nan_above : (half : ℕ) → 0x7F80_0000 < half % 0x8000_0000 → div binary32 (of_bits binary32 0) (of_bits binary32 0) ≡ of_bits binary32 half
unfolding div of_bits
nan_above half h = is_nan_lem (of_bits binary32 half) (sym (nan_bits_is binary32 half) ∙ nan_bits_above binary32 half ∙ lt-ltb _ _ h)
