-- `Machine::run_from`: a turn is a step at its position.
use Rattle.std.specs.Prelude.{refl}
use Rattle.basis.proofs.Names.{ap, ◌∙◌, arith, rules}
use Rattle.works.specs.Bars.{open_table}
use Rattle.machine.proofs.laws.running.Budgets.{run_starts, run_spent, run_done, run_within, run_on, run_refused, still_barred}
use Rattle.machine.proofs.Machine.run_from.Goals as goal

pub loop-at-init : goal.loop-at-init
loop-at-init c =
    record {
      left = search rules;
      within = search (rules, c.requires);
      kept = refl;
      barred = c.barred-bar.ensures;
      same = run_starts _ _ _ _ _;
    }

pub advance-requires : goal.advance-requires
advance-requires c = (
  c.table-table.ensures,
  (c.table-quick.ensures ∙ ap open_table c.number_in.ensures, (c.requires.0, (search (rules, c.requires), search (rules, c.requires)))),
)

pub returns-in-Err : goal.returns-in-Err
returns-in-Err c =
    let inv = c.loop-at.invariant in
    let floor_fits = c.requires.1.1.0 in
    run_refused _ _ _ _ _ _ _ _ _ _ inv.same c.loop-at-test.true inv.left c.if-remaining-eq0.false c.requires.0 c.args.memory.now
    inv.kept c.requires.1.0 floor_fits _ _ _ _ _ inv.barred _ _ refl refl c.in-Err.ensures _ refl

pub loop-at-preserved : goal.loop-at-preserved
loop-at-preserved c =
    let inv = c.loop-at.invariant in
    let fits = c.requires.1.1.0 in
    record {
      left = omega arith;
      within = run_within _ _ _ _ _ _ _ _ _ _ inv.same c.loop-at-test.true inv.left c.if-remaining-eq0.false c.requires.0 c.args.memory.now
          inv.kept c.requires.1.0 fits _ _ _ _ _ inv.barred _ _ refl refl c.in-Ok.ensures _ refl;
      kept = search rules;
      barred = still_barred _ _ _ _ inv.barred;
      same = run_on _ _ _ _ _ _ _ _ _ _ inv.same c.loop-at-test.true inv.left c.if-remaining-eq0.false c.requires.0 c.args.memory.now
          inv.kept c.requires.1.0 fits _ _ _ _ _ inv.barred _ _ refl refl c.in-Ok.ensures _ refl;
    }

pub returns-then-remaining-eq0 : goal.returns-then-remaining-eq0
returns-then-remaining-eq0 c =
    let inv = c.loop-at.invariant in run_spent _ _ _ _ _ _ _ _ inv.same c.loop-at-test.true c.if-remaining-eq0.true

pub returns : goal.returns
returns c = let inv = c.loop-at.invariant in run_done _ _ _ _ _ _ _ _ inv.same c.loop-at-test.false inv.within
