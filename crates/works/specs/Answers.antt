-- What the code answers as the paper does, which has refusals by their numbers.
use Rattle.std.specs.Prelude.{ℕ, Ok, Err}
use Rattle.std.specs.Prelude as code
use Rattle.refusals.specs.declared.Refusal.{Refusal}
use Rattle.refusals.specs.Numbers.{number_of}
use Rattle.reorder.specs.Result.{Result, done, refused}
use Rattle.works.specs.declared.Work.{Work}
use Rattle.works.specs.Works.{refused_work}

-- something, or its refusal
abbrev pub paper_of : {A : Type 0} → code.Result A Refusal → Result A
paper_of (Ok x) = done x
paper_of (Err refusal) = refused (number_of refusal)

-- where a jump leads
abbrev pub paper_of_target : code.Result ℕ Refusal → Result ℕ
paper_of_target target = paper_of target

-- what remains to be done, as one work, which a refusal is too
abbrev pub work_in : code.Result Work Refusal → Work
work_in (Ok work) = work
work_in (Err refusal) = refused_work (number_of refusal)
