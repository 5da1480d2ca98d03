-- `go_on` meets its contract: where the run was spent the rest of the code is run alone, and its position and its count are added.
use Rattle.basis.proofs.Names.{arith}
use Rattle.studio.proofs.laws.going.Continuing.{ends_within, counts_within, continuing}
use Rattle.studio.proofs.going.go_on.Goals as goal

pub slice_bounds-run-count : goal.slice_bounds-run-count
slice_bounds-run-count c = search continuing

pub slice_bounds-run-start : goal.slice_bounds-run-start
slice_bounds-run-start c = search continuing

pub overflow_add-result : goal.overflow_add-result
overflow_add-result c = omega (arith, ends_within _ _ c.args.ran _ c.requires c.run-rest.result _ c.run-rest.ensures)

pub overflow_add-result-in-Spent : goal.overflow_add-result-in-Spent
overflow_add-result-in-Spent c = omega (arith, counts_within _ _ c.args.ran _ c.requires c.run-rest.result _ c.run-rest.ensures)

pub returns-in-Spent : goal.returns-in-Spent
returns-in-Spent c = search continuing
