-- The instructions on pairs of single-precision numbers, and those that come with them: what each leaves of its destination and its source, and where
-- it leaves nothing. Those of 000 stand before those of 003, each in the manual's order.
use Rattle.std.specs.Prelude.{ℕ, ◌+◌, ◌*◌, ◌^◌, Bool, true, false, ◌||◌, Option, Some, None}
use Rattle.lanes.specs.Lane.{lane}
use Rattle.lanes.specs.Operations.{PAVGB, operate}
use Rattle.singles.specs.Ranges.{Range, zero_range, normal_range, unsupported_range, range_of}
use Rattle.singles.specs.Tables.{greater_half, maximum_half, word_half, single_of}

-- the register of two halves, bits 31:0 and 63:32
abbrev pub join : ℕ → ℕ → ℕ
join low high = high * 2 ^ 32 + low

-- where the tables leave a half undefined, nothing is left
unfoldable pub both : Option ℕ → Option ℕ → Option ℕ
both (Some low) (Some high) = Some (join low high)
both (Some low) None = None
both None high = None

unfoldable pub pf2iw : ℕ → Option ℕ
pf2iw source = both (word_half (lane 32 0 source)) (word_half (lane 32 1 source))

unfoldable pub pi2fw : ℕ → ℕ
pi2fw source = join (single_of (lane 32 0 source)) (single_of (lane 32 1 source))

unfoldable pub pswapd : ℕ → ℕ
pswapd source = join (lane 32 1 source) (lane 32 0 source)

unfoldable pub pfcmpgt : ℕ → ℕ → Option ℕ
pfcmpgt destination source =
    both (greater_half (lane 32 0 destination) (lane 32 0 source)) (greater_half (lane 32 1 destination) (lane 32 1 source))

unfoldable pub pfmax : ℕ → ℕ → Option ℕ
pfmax destination source =
    both (maximum_half (lane 32 0 destination) (lane 32 0 source)) (maximum_half (lane 32 1 destination) (lane 32 1 source))

pub data Sibling : Type 0 where
  PF2IW PI2FW PSWAPD PAVGUSB PFCMPGT PFMAX : Sibling

-- PAVGUSB is PAVGB: 000 says that they are identical
unfoldable pub leave : Sibling → ℕ → ℕ → Option ℕ
leave PF2IW destination source = pf2iw source
leave PI2FW destination source = Some (pi2fw source)
leave PSWAPD destination source = Some (pswapd source)
leave PAVGUSB destination source = Some (operate PAVGB destination source)
leave PFCMPGT destination source = pfcmpgt destination source
leave PFMAX destination source = pfmax destination source

abbrev pub is_unsupported : Range → Bool
is_unsupported zero_range = false
is_unsupported normal_range = false
is_unsupported unsupported_range = true

-- a half of a register is unsupported
unfoldable pub has_unsupported : ℕ → Bool
has_unsupported register = is_unsupported (range_of (lane 32 0 register)) || is_unsupported (range_of (lane 32 1 register))

-- an instruction reads such a half
abbrev pub refuses : Sibling → ℕ → ℕ → Bool
refuses PF2IW destination source = has_unsupported source
refuses PI2FW destination source = false
refuses PSWAPD destination source = false
refuses PAVGUSB destination source = false
refuses PFCMPGT destination source = has_unsupported destination || has_unsupported source
refuses PFMAX destination source = has_unsupported destination || has_unsupported source
