-- Every cell of the tables, at both signs and at the ends of what it is for. The numbers are our own, but PAVGUSB's, which are 003's: for the others
-- the manuals have none. Both halves of a register are examples.
use Rattle.std.specs.Prelude.{ℕ, Bool, true, false, ◌&&◌, List, [], ◌∷◌, eqb, Option, Some, None}
use Rattle.singles.specs.Siblings.{Sibling, PF2IW, PI2FW, PSWAPD, PAVGUSB, PFCMPGT, PFMAX, leave}

-- an instruction, its destination, its source, and what it leaves; or nothing
pub data Illustration : Type 0 where
  shows : Sibling → ℕ → ℕ → ℕ → Illustration
  fails : Sibling → ℕ → ℕ → Illustration

abbrev leaves : Option ℕ → ℕ → Bool
leaves (Some x) result = eqb x result
leaves None result = false

abbrev is_nothing : Option ℕ → Bool
is_nothing (Some x) = false
is_nothing None = true

abbrev pub hold : List Illustration → Bool
hold [] = true
hold (shows sibling destination source result ∷ rest) = leaves (leave sibling destination source) result && hold rest
hold (fails sibling destination source ∷ rest) = is_nothing (leave sibling destination source) && hold rest

abbrev pub illustrations : List Illustration
illustrations =
    -- PF2IW: 0 and -0, and what has their exponent
    shows PF2IW 0 0x8000000000000000 0
    ∷ shows PF2IW 0 0x007FFFFF80000001 0
    -- below 1 in magnitude
    ∷ shows PF2IW 0 0x3F7FFFFFBF7FFFFF 0
    ∷ shows PF2IW 0 0x8080000000800000 0
    -- from 1 on, and from -1 down: 1.99999 and -1.99999 too
    ∷ shows PF2IW 0 0xBF8000003F800000 0xFFFFFFFF00000001
    ∷ shows PF2IW 0 0x3FFFFFFFBFFFFFFF 0x00000001FFFFFFFF
    -- 32767 and -32767, and just below 32768 in magnitude
    ∷ shows PF2IW 0 0xC6FFFE0046FFFE00 0xFFFF800100007FFF
    ∷ shows PF2IW 0 0x46FFFFFFC6FFFFFF 0x00007FFFFFFF8001
    -- 32768 and -32768, and beyond
    ∷ shows PF2IW 0 0xC700000047000000 0xFFFF800000007FFF
    ∷ shows PF2IW 0 0x4F000000C7000100 0x00007FFFFFFF8000
    ∷ shows PF2IW 0 0xFF7FFFFF7F7FFFFF 0xFFFF800000007FFF
    -- infinities and NaNs, in either half; the destination is not looked at
    ∷ fails PF2IW 0 0x000000007F800000
    ∷ fails PF2IW 0 0xFF8000003F800000
    ∷ fails PF2IW 0 0xBF800000FFC00000
    ∷ fails PF2IW 0 0x7F80000100000000
    ∷ shows PF2IW 0x7F8000007F800000 0x0000000040400000 0x0000000000000003
    -- PI2FW: 0 and 1, -1 and 32767, -32768 and 2, whatever stands above the words
    ∷ shows PI2FW 0 0x0000000100000000 0x3F80000000000000
    ∷ shows PI2FW 0 0x1234FFFFABCD7FFF 0xBF80000046FFFE00
    ∷ shows PI2FW 0x7F800000FF800000 0xFFFF8000FFFF0002 0xC700000040000000
    -- PSWAPD; PAVGUSB, which is rounded up
    ∷ shows PSWAPD 0 0x0123456789ABCDEF 0x89ABCDEF01234567
    ∷ shows PAVGUSB 0xFFFF010F0070079A 0xFF00FF100144F7A8 0xFF808010015A7FA1
    -- PFCMPGT: two zeros of any signs
    ∷ shows PFCMPGT 0x0000000080000000 0x8000000000000000 0
    ∷ shows PFCMPGT 0x8000000100000001 0x007FFFFF807FFFFF 0
    -- a zero against a number below it, and above it
    ∷ shows PFCMPGT 0x8000000000000000 0xBF8000003F800000 0xFFFFFFFF00000000
    ∷ shows PFCMPGT 0x007FFFFF80000001 0x0080000080800000 0x00000000FFFFFFFF
    -- a number above zero, and below it
    ∷ shows PFCMPGT 0x3F800000BF800000 0x8000000000000000 0xFFFFFFFF00000000
    ∷ shows PFCMPGT 0x8080000000800000 0x80000001007FFFFF 0x00000000FFFFFFFF
    -- numbers of two signs
    ∷ shows PFCMPGT 0x00800000FF7FFFFF 0xFF7FFFFF00800000 0xFFFFFFFF00000000
    -- both negative, and both positive, one exponent or two; equal ones
    ∷ shows PFCMPGT 0xC7000000C7000000 0xBF800000C7000100 0x00000000FFFFFFFF
    ∷ shows PFCMPGT 0x3F7FFFFF46FFFFFF 0x3F80000046FFFE00 0x00000000FFFFFFFF
    ∷ shows PFCMPGT 0x7F7FFFFFFF7FFFFF 0x46FFFFFFC6FFFFFF 0xFFFFFFFF00000000
    ∷ shows PFCMPGT 0x46FFFE00C6FFFE00 0x46FFFE00C6FFFE00 0
    -- an unsupported half in each place
    ∷ fails PFCMPGT 0x0000000000000000 0x000000007F800000
    ∷ fails PFCMPGT 0x0000000000000000 0xFF80000000000000
    ∷ fails PFCMPGT 0x3F8000003F800000 0x3F800000FFC00000
    ∷ fails PFCMPGT 0xBF800000BF800000 0x7F800001BF800000
    ∷ fails PFCMPGT 0x00000000FF800000 0x0000000000000000
    ∷ fails PFCMPGT 0x7FFFFFFF00000000 0x0000000000000000
    ∷ fails PFCMPGT 0x3F8000007F800000 0x3F8000003F800000
    ∷ fails PFCMPGT 0xFFC00000BF800000 0xBF800000BF800000
    ∷ fails PFCMPGT 0x000000007F800000 0x00000000FF800000
    ∷ fails PFCMPGT 0xFF80000000000000 0x7F80000000000000
    -- PFMAX: two zeros of any signs
    ∷ shows PFMAX 0x8000000080000000 0x8000000000000000 0
    ∷ shows PFMAX 0x007FFFFF80000001 0x0000000180000000 0
    -- a zero and a positive number, and a negative one
    ∷ shows PFMAX 0x8000000000000000 0x3F800000BF800000 0x3F80000000000000
    ∷ shows PFMAX 0x007FFFFF80000001 0x8080000000800000 0x0000000000800000
    -- a positive number and a zero, and a negative one
    ∷ shows PFMAX 0x3F800000BF800000 0x8000000080000000 0x3F80000000000000
    ∷ shows PFMAX 0xFF7FFFFF00800000 0x80000001007FFFFF 0x0000000000800000
    -- numbers of two signs
    ∷ shows PFMAX 0x00800000FF7FFFFF 0xFF7FFFFF80800000 0x0080000080800000
    ∷ shows PFMAX 0xBF8000003F800000 0x3F800000BF800000 0x3F8000003F800000
    -- both negative, and both positive, one exponent or two; equal ones
    ∷ shows PFMAX 0xC7000000C7000000 0xBF800000C7000100 0xBF800000C7000000
    ∷ shows PFMAX 0x3F7FFFFF46FFFFFF 0x3F80000046FFFE00 0x3F80000046FFFFFF
    ∷ shows PFMAX 0x7F7FFFFFFF7FFFFF 0x46FFFFFFC6FFFFFF 0x7F7FFFFFC6FFFFFF
    ∷ shows PFMAX 0x46FFFE00C6FFFE00 0x46FFFE00C6FFFE00 0x46FFFE00C6FFFE00
    -- an unsupported half in each place
    ∷ fails PFMAX 0x0000000000000000 0x000000007F800000
    ∷ fails PFMAX 0x0000000000000000 0xFF80000000000000
    ∷ fails PFMAX 0x3F8000003F800000 0x3F800000FFC00000
    ∷ fails PFMAX 0xBF800000BF800000 0x7F800001BF800000
    ∷ fails PFMAX 0x00000000FF800000 0x0000000000000000
    ∷ fails PFMAX 0x7FFFFFFF00000000 0x0000000000000000
    ∷ fails PFMAX 0x3F8000007F800000 0x3F8000003F800000
    ∷ fails PFMAX 0xFFC00000BF800000 0xBF800000BF800000
    ∷ fails PFMAX 0x000000007F800000 0x00000000FF800000
    ∷ fails PFMAX 0xFF80000000000000 0x7F80000000000000
    ∷ []
