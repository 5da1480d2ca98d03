-- Rules of lanes that change places, and of two registers' lanes in turn.
use Rattle.std.specs.Prelude.{ℕ, ◌+◌, ◌*◌, ◌/◌, ◌%◌, ℤ}
use Rattle.lanes.specs.Lane.{lane}
use Rattle.lanes.specs.Signed.{signed, wrap}
use Rattle.lanes.specs.Rules.{unpack}

-- the place of lane i when, of every four lanes, the middle two change places: its number's two low bits do
abbrev pub exchanged : ℕ → ℕ
exchanged i = i / 4 * 4 + i % 2 * 2 + i % 4 / 2

-- x with its lanes so exchanged, whatever the source
unfoldable pub swapped : ℕ → ℕ → ℕ → ℕ → ℕ
swapped w x source i = lane w (exchanged i) x

-- lanes of twice the width, in turn: the low part of each, where k is 0, or the high part, where k is 1
unfoldable pub part : ℕ → ℕ → ℕ → ℕ → ℕ → ℕ
part k w destination source i = lane w k (unpack 0 (w + w) destination source i)

-- lanes of twice the width, in turn, clamped
unfoldable pub in_turn : (ℕ → ℤ → ℤ) → ℕ → ℕ → ℕ → ℕ → ℕ
in_turn clamped w destination source i = wrap w (clamped w (signed (w + w) (unpack 0 (w + w) destination source i)))
