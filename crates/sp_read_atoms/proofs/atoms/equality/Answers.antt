use Rattle.sp_spec_text.specs.Signs as s
use Rattle.sp_spec.specs.Formula.{equals}
use Rattle.sp_read_parts.specs.Parts.{IsTerm}
use Rattle.sp_read_parts.proofs.One.{terms}
use Rattle.sp_read_atoms.proofs.Atomic.{infix_at, infix_no_sign, infix_no_right}
use Rattle.sp_read_parts.proofs.Shown.{equals_shown}
use Rattle.sp_read_atoms.proofs.atoms.equality.Goals as goal

pub returns-in_default-after-clause-value : goal.returns-in_default-after-clause-value
returns-in_default-after-clause-value c =
    let one = rw c.in-Some.is at c.in_ok-left.ensures in
    infix_no_sign terms one.value c.in_default-after.ensures.value

pub returns-in_default-2-clause-value : goal.returns-in_default-2-clause-value
returns-in_default-2-clause-value c =
    let one = rw c.in-Some.is at c.in_ok-left.ensures in
    let none = rw c.in_default-2.is at c.in_ok-right.ensures in
    infix_no_right terms one.value c.in-Some-after.ensures.value none.value

pub returns-clause-value : goal.returns-clause-value
returns-clause-value c =
    let one = rw c.in-Some.is at c.in_ok-left.ensures in
    let two = rw c.in-Some-2.is at c.in_ok-right.ensures in
    rw (equals_shown c.in-Some.left c.in-Some-2.right) (infix_at (IsTerm c.args.nesting) s.Equals (IsTerm c.args.nesting) equals one.value c.in-Some-after.ensures.value two.value)
