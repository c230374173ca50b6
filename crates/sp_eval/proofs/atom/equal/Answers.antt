use Rattle.std.proofs.Common.{ap₂, ◌∙◌}
use Rattle.sp_spec.specs.Same.{same_term}
use Rattle.sp_eval.proofs.atom.equal.Goals as goal

pub returns : goal.returns
returns c = c.same.ensures.tests ∙ ap₂ same_term c.in_ok-first.ensures c.in_ok-second.ensures
