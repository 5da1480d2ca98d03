-- `fields::allowed` meets its contract: SFENCE and ADD allow no other byte than theirs.
use Rattle.std.specs.Prelude.{◌≡◌}
use Rattle.basis.proofs.Names.{◌∙◌, arith, ne_eqb}
use Rattle.codec.proofs.FormNumbers.{add_memory, fence_memory, fence_other}
use Rattle.codec.proofs.fields.allowed.Goals as goal
use Rattle.codec.proofs.fields.allowed.Goals.{then-mode-eq-REGISTER, else-mode-eq-REGISTER}

pub returns-else-rm-eq-FENCE_RM : goal.returns-else-rm-eq-FENCE_RM
returns-else-rm-eq-FENCE_RM c =
    elim c.if-mode-eq-REGISTER.branch [
      | then-mode-eq-REGISTER w ↦
          let other : c.args.rm ≡ 0 → ⊥ = omega (arith, c.if-rm-eq-FENCE_RM.either) in
          w.t-7-is ∙ ne_eqb c.args.rm 0 other
          ∙ fence_other c.args.form c.args.mode c.args.reg c.args.rm c.in-9.is w.if-mode-eq-REGISTER.true other
      | else-mode-eq-REGISTER w ↦
          w.t-7-is ∙ ne_eqb c.args.mode 3 w.if-mode-eq-REGISTER.false
          ∙ fence_memory c.args.form c.args.mode c.args.reg c.args.rm c.in-9.is w.if-mode-eq-REGISTER.false
    ]

pub returns-else-mode-eq-REGISTER-2 : goal.returns-else-mode-eq-REGISTER-2
returns-else-mode-eq-REGISTER-2 c =
    ne_eqb c.args.mode 3 c.if-mode-eq-REGISTER-2.false
    ∙ add_memory c.args.form c.args.mode c.args.reg c.args.rm c.in-11.is c.if-mode-eq-REGISTER-2.false
