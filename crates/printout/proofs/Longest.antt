-- Every text of a page has room in a buffer of `longest_report` bytes, so none is cut: its numbers have no more digits than the largest of their kind.
use Rattle.std.specs.Prelude.{◌≡◌, refl, Bool, List, ◌++◌, ℕ, ◌^◌, ◌≤◌, ◌<◌, length, drop}
use Rattle.basis.proofs.Names.{pow-suc, arith, le-leb}
use Rattle.manual.specs.State.{longest_memory}
use Rattle.machine.specs.declared.End.{End}
use Rattle.machine.specs.declared.End.TheVariants.{Done, Spent, Refused}
use Rattle.printout.specs.Characters.{places}
use Rattle.printout.specs.Lines.{answer, report_text, longest_report, refusal_text}
use Rattle.printout.specs.Printing.{printing, printed}
use Rattle.printout.proofs.Numbers.{places_most}
use Rattle.printout.proofs.Lengths.{length-refused, length_refusal, length_report, counted_report}

-- the refusals' numbers are bytes
abbrev pub Small : End → Type 0
Small Done = Unit {0}
Small Spent = Unit {0}
Small (Refused number) = number < 256

byte_most : (number : ℕ) → number < 256 → places number number ≤ 3
byte_most number small = places_most 2 number number (omega (arith, pow-suc 10 0, pow-suc 10 1, pow-suc 10 2))

answer_most : (ending : End) → Small ending → length (answer ending) ≤ 11
unfolding answer
answer_most Done small = omega arith
answer_most Spent small = omega arith
answer_most (Refused number) small = omega (arith, length-refused (Refused number) number _ refl refl, byte_most number small)

pub refusal_most : (number : ℕ) → number < 256 → length (refusal_text number) ≤ longest_report
refusal_most number small = omega (arith, length_refusal number, byte_most number small)

-- a report of a memory that the machine takes, with a count and a position that the code can hold
pub report_most : (ending : End) (count position : ℕ) (mmx integers : List ℕ) (valid zero : Bool) (memory : List ℕ)
    → Small ending → count < 2 ^ 64 → position < 2 ^ 64 → length mmx ≡ 8 → length integers ≡ 8 → length memory ≤ longest_memory
    → length (report_text ending count position mmx integers valid zero memory) ≤ longest_report
report_most ending count position mmx integers valid zero memory small less less' eight eight' largest =
    omega (
      arith,
      length_report ending count position mmx integers valid zero memory eight eight',
      counted_report ending count position (length memory) _ _ _ _ refl refl refl refl,
      answer_most ending small,
      places_most 19 count count (omega arith),
      places_most 19 position position (omega arith),
      places_most 4 (length memory) (length memory) (omega arith),
    )

-- a text that has room is printed whole
pub printed_whole : (text buffer : List ℕ) → length text ≤ length buffer → printed text buffer ≡ printing (length text) (text ++ drop (length text) buffer)
unfolding printed
printed_whole text buffer enough = rw (le-leb _ _ enough)
