-- The opcode bytes, all 256 of each: of the first, document 01's eleven are refused by 4 on their own, 0F and those of loops go on or are whole, and
-- every other byte is refused by 5; of the second, after 0F, every byte that the list has not is.
use Rattle.std.specs.Prelude.{ℕ, zero, suc, ◌≡◌, refl, Bool, true, false, cond, List, [], ◌∷◌, eqb, length, not, map}
use Rattle.codec.specs.Refusals.{code_ends, prefixed, not_listed}
use Rattle.codec.specs.Forms.{is_among}
use Rattle.codec.specs.Contents.{Line, lines}
use Rattle.codec.specs.Opcodes.{form_at, form_of_first}
use Rattle.codec.specs.Table.{listed}
use Rattle.codec.specs.Reads.{read_part, immediate_reader, modrm_reader, form_reader, refusal_of, first_reader, second_reader, instruction_reader}
use Rattle.codec.specs.Answers.{Decoded, good, refused}

abbrev is_refused_by : ℕ → Decoded → Bool
is_refused_by n (good i size) = false
is_refused_by n (refused m) = eqb m n

abbrev is_good : Decoded → Bool
is_good (good i size) = true
is_good (refused m) = false

-- the first bytes from b on, so many, of which reading alone gives such an answer
abbrev first_bytes : (Decoded → Bool) → ℕ → ℕ → List ℕ
first_bytes such b zero = []
first_bytes such b (suc more) = cond (such (read_part (b ∷ []))) (b ∷ first_bytes such (suc b) more) (first_bytes such (suc b) more)

pub record FirstBytes : Type 0 where
  -- "26, 2E, 36, 3E, 64, 65, 66, 67, F0, F2 or F3 hex"
  pub four : first_bytes (is_refused_by prefixed) 0 256 ≡ 0x26 ∷ 0x2e ∷ 0x36 ∷ 0x3e ∷ 0x64 ∷ 0x65 ∷ 0x66 ∷ 0x67 ∷ 0xf0 ∷ 0xf2 ∷ 0xf3 ∷ []
  -- more is looked for after 0F, and after JNZ, ADD and MOV
  pub three : first_bytes (is_refused_by code_ends) 0 256
      ≡ 0x0f ∷ 0x75 ∷ 0x83 ∷ 0xb8 ∷ 0xb9 ∷ 0xba ∷ 0xbb ∷ 0xbc ∷ 0xbd ∷ 0xbe ∷ 0xbf ∷ []
  -- DEC is whole
  pub whole : first_bytes is_good 0 256 ≡ 0x48 ∷ 0x49 ∷ 0x4a ∷ 0x4b ∷ 0x4c ∷ 0x4d ∷ 0x4e ∷ 0x4f ∷ []
  pub five : length (first_bytes (is_refused_by not_listed) 0 256) ≡ 226

pub first_byte_count : FirstBytes
unfolding form_of_first immediate_reader modrm_reader form_reader refusal_of first_reader second_reader instruction_reader
first_byte_count = record { four = refl; three = refl; whole = refl; five = refl }

-- after 0F, a second byte is refused by 5 exactly where no line of the list has it
pub second_bytes : listed (λ b. is_refused_by not_listed (read_part (0x0f ∷ b ∷ []))) 0 256
    ≡ listed (λ b. not (is_among b (map (λ (x : Line). x.second) lines))) 0 256
unfolding form_at immediate_reader modrm_reader form_reader refusal_of second_reader instruction_reader
second_bytes = refl
