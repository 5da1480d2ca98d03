-- How long each piece of the text is: a number as its digits are, a line of a register 5 characters more than its digits, a byte 3.
use Rattle.std.specs.Prelude.{map, replicate, ◌≡◌, refl, Bool, true, false, List, [], ◌∷◌, ℕ, suc, ◌+◌, ◌*◌, length}
use Rattle.basis.proofs.Names.{mul-suc, arith, length-append}
use Rattle.machine.specs.declared.End.{End}
use Rattle.machine.specs.declared.End.TheVariants.{Done, Spent, Refused}
use Rattle.printout.specs.Characters.{places, decimal}
use Rattle.printout.specs.Lines.{answer, first_line, register_lines, mmx_names, integer_names, mmx_lines, integer_lines, tags_line, zero_line, memory_line, byte_lines, report_text, refusal_text}
use Rattle.printout.specs.inner.Room.{report_length}
use Rattle.printout.proofs.Numbers.{length_digits}

length-decimal : (n : ℕ) → length (decimal n) ≡ places n n
unfolding decimal
length-decimal n = length_digits 10 (places n n) n

-- the answer's, as the code counts it
module _ (ending : End) where
  pub length_done : ending ≡ Done → 4 ≡ length (answer ending)
  unfolding answer
  length_done e = rw e

  pub length_spent : ending ≡ Spent → 5 ≡ length (answer ending)
  unfolding answer
  length_spent e = rw e

  pub length-refused : (number count : ℕ) → ending ≡ Refused number → count ≡ places number number → 8 + count ≡ length (answer ending)
  unfolding answer
  length-refused number count e counted = rw e (omega (arith, length-decimal number))

-- the lines'
length-first_line : (ending : End) (count position : ℕ)
    → length (first_line ending count position) ≡ length (answer ending) + places count count + places position position + 6
unfolding first_line
length-first_line ending count position =
    simp (length-append, length-decimal) (omega arith)

length-memory_line : (n : ℕ) → length (memory_line n) ≡ places n n + 8
unfolding memory_line
length-memory_line n = simp (length-append, length-decimal) (omega arith)

-- of names of four characters
length-register_lines : (names : List (List ℕ)) (k : ℕ) (values : List ℕ) → map length names ≡ replicate (length values) 4
    → length (register_lines names k values) ≡ (5 + k) * length values
unfolding register_lines
length-register_lines names k [] four = omega arith
length-register_lines [] k (v ∷ vs) four = cc
length-register_lines (name ∷ names) k (v ∷ vs) four =
    let first : length name ≡ 4 = cc in
    let rest : map length names ≡ replicate (length vs) 4 = cc in
    simp (length-append, length_digits, first, length-register_lines names k vs rest, mul-suc) (omega arith)

length-byte_lines : (i : ℕ) (memory : List ℕ) → length (byte_lines i memory) ≡ 3 * length memory
unfolding byte_lines
length-byte_lines i [] = refl
length-byte_lines i (b ∷ bs) = simp (length-append, length_digits) (omega (arith, length-byte_lines (suc i) bs))

length-tags_line : (valid : Bool) → length (tags_line valid) ≡ 11
unfolding tags_line
length-tags_line true = refl
length-tags_line false = refl

length-zero_line : (zero : Bool) → length (zero_line zero) ≡ 7
unfolding zero_line
length-zero_line true = refl
length-zero_line false = refl

-- the whole text's
pub length_refusal : (number : ℕ) → length (refusal_text number) ≡ 8 + places number number + 1
unfolding refusal_text
length_refusal number = simp (length-append, length-decimal) (omega arith)

pub length_report : (ending : End) (count position : ℕ) (mmx integers : List ℕ) (valid zero : Bool) (memory : List ℕ)
    → length mmx ≡ 8 → length integers ≡ 8
    → length (report_text ending count position mmx integers valid zero memory) ≡ report_length ending count position (length memory)
unfolding report_text mmx_lines integer_lines
length_report ending count position mmx integers valid zero memory eight eight' =
    let mmx_lines_lem = length-register_lines mmx_names 16 mmx (rw eight refl) in
    let integer_lines_lem = length-register_lines integer_names 8 integers (rw eight' refl) in
    simp length-append (omega (arith, mmx_lines_lem, integer_lines_lem, length-tags_line valid, length-zero_line zero, length-byte_lines 0 memory))

-- the report's, from the characters that are counted of its numbers
pub counted_report : (ending : End) (count position memory a c p m : ℕ)
    → a ≡ length (answer ending) → c ≡ places count count → p ≡ places position position → m ≡ places memory memory
    → report_length ending count position memory ≡ a + c + p + m + 6 + 168 + 104 + 11 + 7 + 8 + 3 * memory
counted_report ending count position memory a c p m answered counted placed sized =
    omega (arith, length-first_line ending count position, length-memory_line memory)
