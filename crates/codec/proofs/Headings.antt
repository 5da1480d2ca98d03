-- The list has 47 headings of manual 004 with 57 lines, and 16 of manual 000 with 19, and each line is found by its bytes; the six of 3DNow are found
-- by their suffixes, and the four of loops by their 18 first bytes: by computation.
use Rattle.std.specs.Prelude.{◌≡◌, refl, Bool, false, not, ◌&&◌, cond, List, [], ◌∷◌, map, ℕ, zero, suc, eqb, length, replicate}
use Rattle.basis.specs.Names.{flatten, Option, none, some}
use Rattle.codec.specs.Forms.{is_absent, is_among}
use Rattle.codec.specs.Contents.{Line, contents, extensions, lines_of, three_dnow, lines, siblings, OneByte, loops}
use Rattle.codec.specs.Opcodes.{prefixes, escape, form_at, operation_at, suffixed_of, is_of, form_of_first}
use Rattle.codec.specs.Table.{listed}

-- what stands in reg: the digit, or anything, as 0
abbrev reg_of : Option ℕ → ℕ
reg_of none = 0
reg_of (some d) = d

abbrev is_digit : ℕ → Option ℕ → Bool
is_digit digit none = false
is_digit digit (some d) = eqb digit d

-- a digit, once for each line of a second byte that has it
abbrev with_digit : ℕ → ℕ → List Line → List ℕ
with_digit second digit [] = []
with_digit second digit (x ∷ xs) = cond (eqb second x.second && is_digit digit x.digit) (digit ∷ with_digit second digit xs) (with_digit second digit xs)

-- the digits of the lines of a second byte, in ascending order
abbrev digits_at : ℕ → List ℕ
digits_at second = flatten (listed (λ digit. with_digit second digit lines) 0 8)

-- the numbers from one on, of so many, that pass a test
abbrev filter : (ℕ → Bool) → ℕ → ℕ → List ℕ
filter test from zero = []
filter test from (suc count) = cond (test from) (from ∷ filter test (suc from) count) (filter test (suc from) count)

-- the first bytes of an instruction of one opcode byte
abbrev bytes_of : OneByte → List ℕ
bytes_of x = filter (is_of x) 0 256

abbrev first_bytes : List ℕ
first_bytes = flatten (map bytes_of loops)

pub record Complete : Type 0 where
  pub headings : length contents ≡ 47
  pub in_lines : length (lines_of contents) ≡ 57
  pub extension_headings : length extensions ≡ 16
  pub extension_lines : length (lines_of extensions) ≡ 19
  -- they have 68 second bytes, and 3DNow one more
  pub second_bytes : length (filter (λ second. not (is_absent (form_at second))) 0 256) ≡ 69
  -- no line is hidden by another: its bytes have its form and its operation
  pub forms : map (λ x. form_at x.second) lines ≡ map (λ (x : Line). x.form) lines
  pub operations : map (λ x. operation_at x.second (reg_of x.digit)) lines ≡ map (λ (x : Line). x.operation) lines
  -- and its form has the digits of the lines with its second byte
  pub digits : map (λ x. digits_at x.second) lines ≡ map (λ (x : Line). x.form.digits) lines
  -- 3DNow has six suffixes, and its form has them and no other
  pub suffix_count : length siblings ≡ 6
  pub suffixes : filter (λ suffix. is_among suffix (map (λ x. x.suffix) siblings)) 0 256 ≡ (form_at three_dnow).suffixes
  -- no instruction is hidden by another: its suffix names it
  pub suffix_names : map (λ x. suffixed_of x.suffix) siblings ≡ siblings
  -- ADD, DEC, JNZ and MOV have 1, 8, 1 and 8 first bytes, and no other byte has a form
  pub loop_byte_count : map (λ x. length (bytes_of x)) loops ≡ 1 ∷ 8 ∷ 1 ∷ 8 ∷ []
  pub first_byte_count : length (filter (λ first. not (is_absent (form_of_first first))) 0 256) ≡ 18
  -- no instruction is hidden by another: its first bytes have its form
  pub loop_forms : map (λ x. map form_of_first (bytes_of x)) loops ≡ map (λ x. map (λ b. x.form) (bytes_of x)) loops
  -- and none of them is 0F or a prefix
  pub apart : map (λ first. is_among first (escape ∷ prefixes)) first_bytes ≡ replicate 18 false

pub complete : Complete
unfolding flatten form_at operation_at suffixed_of form_of_first
complete = record { headings = refl; in_lines = refl; extension_headings = refl; extension_lines = refl; second_bytes = refl; forms = refl; operations = refl; digits = refl; suffix_count = refl; suffixes = refl; suffix_names = refl; loop_byte_count = refl; first_byte_count = refl; loop_forms = refl; apart = refl }
