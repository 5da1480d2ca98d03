-- The refusal numbers of a studio's questions, from document 02's Req 02 and Req 07.
use Rattle.std.specs.Prelude.{ℕ}

-- two equal instruction numbers, or one that is not below the count
abbrev pub numbers_wrong : ℕ
numbers_wrong = 29

-- reading from 0 onward reaches a jump
abbrev pub block_jumps : ℕ
block_jumps = 30
