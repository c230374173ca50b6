use Rattle.sp_spec_text.specs.Signs as s
use Rattle.sp_spec.specs.Formula.{precedes}
use Rattle.sp_read_parts.specs.Parts.{IsVariable}
use Rattle.sp_read_atoms.proofs.Atomic.{infix_at}
use Rattle.sp_read_parts.proofs.Shown.{precedes_shown}
use Rattle.sp_read_atoms.proofs.atoms.order.Goals as goal

pub returns-clause-value : goal.returns-clause-value
returns-clause-value c =
    rw (precedes_shown c.in_ok-left.left c.in_ok-right.right) (infix_at IsVariable s.Less IsVariable precedes c.in_ok-left.ensures.value c.in_ok-behind.ensures.value c.in_ok-right.ensures.value)
