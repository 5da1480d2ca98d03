-- Registers by what stands in every lane: one number, the lowest bit, all bits but the top bit, the top bit of another register's lane, or the end of
-- the signed range on that lane's side.
use Rattle.std.specs.Prelude.{ℕ, ◌+◌, ◌-◌, ◌^◌}
use Rattle.lanes.specs.Lane.{register, top_bit}

-- x in every lane
unfoldable pub repeated : ℕ → ℕ → ℕ
repeated w x = register w (λ i. x)

-- the lowest bit of every lane
abbrev pub lowest_bits : ℕ → ℕ
lowest_bits w = repeated w 1

-- all bits but the top bit, which are the greatest signed number, in every lane
abbrev pub rests : ℕ → ℕ
rests w = repeated w (2 ^ (w - 1) - 1)

-- the end of the signed range on the side of lane i: the greatest number, or the least, which has the top bit alone
unfoldable pub range_end : ℕ → ℕ → ℕ → ℕ
range_end w x i = top_bit w x i + (2 ^ (w - 1) - 1)
