-- Words and numbers as characters, each a byte.
use Rattle.std.specs.Prelude.{cond, List, [], ◌∷◌, ◌++◌, ℕ, zero, suc, ◌+◌, ◌-◌, ◌/◌, ◌%◌, ltb}
use Rattle.basis.specs.Names.{code}
use Prim.Native.String.{String, [] as none, ◌∷◌ as ◌then◌}

-- the characters of a word
abbrev pub ascii : String → List ℕ
ascii none = []
ascii (c then s) = code c ∷ ascii s

-- a line end
abbrev pub newline : List ℕ
newline = ascii "\n"

-- the digits 0 to 9, then A to F
abbrev pub digit_of : ℕ → ℕ
digit_of d = cond (ltb d 10) (code "0" + d) (code "A" + (d - 10))

-- the k lowest digits of a number, the most significant first
unfoldable pub digits : ℕ → ℕ → ℕ → List ℕ
digits base zero n = []
digits base (suc k) n = digits base k (n / base) ++ (digit_of (n % base) ∷ [])

-- k hex digits
abbrev pub hex : ℕ → ℕ → List ℕ
hex k n = digits 16 k n

-- how many decimal digits a number has: one below ten, else one more than its tenth (`most` ends the recursion: n is enough for n)
unfoldable pub places : ℕ → ℕ → ℕ
places zero n = 1
places (suc most) n = cond (ltb n 10) 1 (suc (places most (n / 10)))

-- a number in decimal, without zeros in front
unfoldable pub decimal : ℕ → List ℕ
decimal n = digits 10 (places n n) n
