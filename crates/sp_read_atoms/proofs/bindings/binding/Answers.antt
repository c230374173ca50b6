use Rattle.sp_spec_text.specs.Signs as s
use Rattle.sp_read_parts.specs.Parts.{IsVariable, IsTerm}
use Rattle.sp_read_atoms.specs.Lets.{bound_to}
use Rattle.sp_read_atoms.proofs.Atomic.{infix_at}
use Rattle.sp_read_atoms.proofs.bindings.binding.Goals as goal

pub returns-clause-value : goal.returns-clause-value
returns-clause-value c =
    let term = rw c.in-Some-2.is at c.in_ok-value.ensures in
    infix_at IsVariable s.Equals (IsTerm 0) bound_to c.in-Some.ensures.value c.in-Some-after.ensures.value term.value
