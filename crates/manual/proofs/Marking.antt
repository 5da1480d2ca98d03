-- Marks as laws and tests make them, with given control marks and with none; and what holds past the test of the control marks.
use Rattle.std.specs.Prelude.{◌≡◌, refl, Bool, true, false, ℕ}
use Rattle.reorder.specs.Result.{Result, refused}
use Rattle.manual.specs.declared.Marks.{Marks}
use Rattle.manual.specs.Refusals.{invalid_opcode, not_available, is_pending}
use Rattle.manual.specs.Effects.{unless_marked}

-- the marks with these control marks
abbrev pub controlled : Marks → Bool → Bool → Bool → Marks
controlled marks em ts pending = record { valid = marks.valid; zero = marks.zero; em = em; ts = ts; pending = pending }

-- the tag mark, and no other
abbrev pub clear : Bool → Marks
clear valid = record { valid = valid; zero = false; em = false; ts = false; pending = false }

-- what holds of every refusal, and of what follows the test of the control marks, holds of both
pub by_marks : {A B : Type 0} (P : Result A → Result B → Type 0) → ((n : ℕ) → P (refused n) (refused n)) → (marks : Marks) (a : Result A) (b : Result B)
    → P a b → P (unless_marked marks a) (unless_marked marks b)
by_marks P kept marks a b h = tests marks.em marks.ts marks.pending
  where
    tests : (em ts pending : Bool) → let tested = controlled marks em ts pending in P (unless_marked tested a) (unless_marked tested b)
    tests true ts pending = kept invalid_opcode
    tests false true pending = kept not_available
    tests false false true = kept is_pending
    tests false false false = search

-- what keeps every refusal keeps those of the control marks
pub past_marks : {A B : Type 0} (f : Result A → Result B) → ((n : ℕ) → f (refused n) ≡ refused n) → (marks : Marks) (o : Result A)
    → f (unless_marked marks o) ≡ unless_marked marks (f o)
past_marks f kept marks o = by_marks (λ a b. f a ≡ b) kept marks o (f o) refl
