use Rattle.sp_law_guard.proofs.Proper.{form_proper, negate_proper, negate_twice}
use Rattle.sp_law_guard.proofs.negation_is_an_involution.Goals as goal

pub returns : goal.returns
returns c = record { each = negate_twice; forms = form_proper; negations = negate_proper }
