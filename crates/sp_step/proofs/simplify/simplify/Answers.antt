use Rattle.std.proofs.Common.{◌-◌, ◌+◌, sym, ◌∙◌, arith}
use Rattle.sp_system.specs.SystemView.{system_of}
use Rattle.sp_step.specs.View.{rules_of}
use Rattle.sp_step.proofs.Turns.{no_turns, last_turn, one_turn}
use Rattle.sp_step.proofs.simplify.simplify.Goals as goal

pub loop-turns-preserved : goal.loop-turns-preserved
loop-turns-preserved c =
    let does = rw c.in-Some.is at c.in_ok-row.ensures.does in
    let keeps = rw c.in-Some.is at c.in_ok-row.ensures.keeps in (
      c.loop-turns.invariant.0
          ∙ one_turn (rules_of c.args.rules.now) (10000 - c.loop-turns.turns) (10000 - (c.loop-turns.turns + 1)) (system_of c.loop-turns.system) (system_of c.turn.new.system)
          (omega (arith, c.loop-turns-test.true)) does,
      λ e. keeps (sym c.keeps_terms-irreducible.ensures ∙ e),
    )

pub returns-in_default : goal.returns-in_default
returns-in_default c =
    let does = rw c.in_default.is at c.in_ok-row.ensures.does in
    does.1
    ∙ sym
    (c.loop-turns.invariant.0
    ∙ last_turn (rules_of c.args.rules.now) (10000 - c.loop-turns.turns) (10000 - (c.loop-turns.turns + 1)) (system_of c.loop-turns.system)
    (omega (arith, c.loop-turns-test.true)) does.0)

pub returns : goal.returns
returns c =
    sym (c.loop-turns.invariant.0 ∙ no_turns (rules_of c.args.rules.now) (10000 - c.loop-turns.turns) (system_of c.loop-turns.system) (omega (arith, c.loop-turns-test.false)))
