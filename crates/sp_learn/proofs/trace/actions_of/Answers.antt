use Rattle.sp_term.proofs.Cloned.{cloned}
use Rattle.sp_fact.specs.GroundView.{ground_action}
use Rattle.sp_learn.proofs.trace.actions_of.Goals as goal

pub returns-in_ok-actions-in-Step : goal.returns-in_ok-actions-in-Step
returns-in_ok-actions-in-Step c = rw c.in-Step.is (cloned ground_action c.in-Step.step.facts.actions.items c.in_ok-actions-in-Step.actions.items c.in_ok-actions-in-Step.ensures.cases.0)
