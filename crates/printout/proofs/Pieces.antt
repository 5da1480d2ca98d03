-- Each text by what the code knows of it: an answer by its case, a number by its digits, and what remains of a text by its next piece.
use denote.Bor.{Bor}
use Rattle.std.specs.Prelude.{map, ◌≡◌, ◌⊎◌, List, [], ◌∷◌, ◌++◌, ℕ, suc, ◌+◌, ◌-◌, ◌≤◌, ◌<◌, length, get_or, drop}
use Rattle.basis.proofs.Names.{sym, ap, ◌∙◌, inl, inr, add-one, arith, length-drop, drop_of_length-le, drop-cons}
use Rattle.std.proofs.lemmas.List.{nil_from_length}
use Rattle.machine.specs.declared.End.{End}
use Rattle.machine.specs.declared.End.TheVariants.{Done, Spent, Refused}
use Rattle.printout.specs.Characters.{ascii, newline, hex, digits, places, decimal}
use Rattle.printout.specs.Lines.{answer, refused, register_lines, gap_after, byte_lines}
use Rattle.printout.proofs.Putting.{turning, chain, fits_as, puts_as}

module _ (ending : End) where
  pub answer_done : ending ≡ Done → answer ending ≡ ascii "done"
  unfolding answer
  answer_done e = rw e

  pub answer_spent : ending ≡ Spent → answer ending ≡ ascii "spent"
  unfolding answer
  answer_spent e = rw e

  pub answer-refused : (number : ℕ) → ending ≡ Refused number → answer ending ≡ refused number
  unfolding answer
  answer-refused number e = rw e

pub decimal_is : (number count : ℕ) → count ≡ places number number → decimal number ≡ digits 10 count number
unfolding decimal
decimal_is number count counted = rw counted

pub ruleset naming = (chain, fits_as, puts_as, answer_done, answer_spent, answer-refused, decimal_is)

-- the lines of registers, of which the names are lent
module _ (k : ℕ) (lent : List (Bor (List ℕ))) (values : List ℕ) where
  pub next-register : (name : Bor (List ℕ)) (names : List (Bor (List ℕ))) (value : ℕ) (others : List ℕ)
      → lent ≡ name ∷ names → values ≡ value ∷ others
      → register_lines (map (λ name. name.now) lent) k values
      ≡ name.now ++ (hex k value ++ newline) ++ register_lines (map (λ name. name.now) names) k others
  unfolding register_lines
  next-register name names value others e f = rw (e, f)

  pub no_register : length values ≡ 0 → register_lines (map (λ name. name.now) lent) k values ≡ []
  unfolding register_lines
  no_register e = rw (nil_from_length values e)

-- of two lists as long as each other, one of which has ended, the other has ended too
pub both_end : {A B : Type 0} {P : A → Type 0} {Q : B → Type 0} {m n : ℕ} → m ≡ n → ((x : A) × ((m ≡ 0) × P x)) ⊎ ((x : B) × ((n ≡ 0) × Q x)) → n ≡ 0
both_end same (inl first) = sym same ∙ first.1.0
both_end same (inr second) = second.1.0

-- the bytes of a memory
module _ (memory : List ℕ) (i : ℕ) where
  pub next_byte : (gap : ℕ) → gap ≡ gap_after i (length memory - i - 1) → i < length memory
      → byte_lines i (drop i memory) ≡ hex 2 (get_or memory i 0) ++ (gap ∷ []) ++ byte_lines (i + 1) (drop (i + 1) memory)
  unfolding byte_lines
  next_byte gap after some =
      let following : length memory - suc i ≡ length memory - i - 1 = omega arith in
      rw (after, drop-cons memory i 0 some, add-one i, length-drop (suc i) memory, following)

  pub no_byte : length memory ≤ i → byte_lines i (drop i memory) ≡ []
  unfolding byte_lines
  no_byte none = ap (byte_lines i) (drop_of_length-le memory none)

pub ruleset pieces = (turning, next-register, no_register, next_byte, no_byte)
