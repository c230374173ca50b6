use Rattle.std.proofs.Common.{◌≡◌, refl}
use Rattle.sp_spec_text.specs.Signs as s
use Rattle.sp_spec.specs.Formula.{happens}
use Rattle.sp_read_parts.specs.Views as view
use Rattle.sp_read_parts.specs.Parts.{IsVariable, IsFact}
use Rattle.sp_read_atoms.specs.Atoms.{happening_of}
use Rattle.sp_read_parts.proofs.One.{facts'}
use Rattle.sp_read_atoms.proofs.Atomic.{infix_at, infix_no_sign, infix_no_right}
use Rattle.sp_read_parts.proofs.Shown.{happens_shown}
use Rattle.sp_read_atoms.proofs.atoms.action.Goals as goal

pub returns-in_default-after-clause-value : goal.returns-in_default-after-clause-value
returns-in_default-after-clause-value c =
    let one = rw c.in-Some.is at c.in_ok-found.ensures in
    infix_no_sign facts' one.value c.in_default-after.ensures.value

pub returns-in_default-variable-clause-value : goal.returns-in_default-variable-clause-value
returns-in_default-variable-clause-value c =
    let one = rw c.in-Some.is at c.in_ok-found.ensures in
    infix_no_right facts' one.value c.in-Some-after.ensures.value c.in_default-variable.ensures.value

pub returns-clause-value : goal.returns-clause-value
returns-clause-value c =
    let one = rw c.in-Some.is at c.in_ok-found.ensures in
    let seen : happens (view.action_of c.action_of-shown.result) (view.variable c.in-Some-variable.moment) ≡ happening_of (view.fact_of c.in-Some.found) (view.variable c.in-Some-variable.moment) = rw c.action_of-shown.ensures refl in
    rw (happens_shown c.action_of-shown.result c.in-Some-variable.moment, seen) (infix_at (IsFact c.args.nesting) s.At IsVariable happening_of one.value c.in-Some-after.ensures.value c.in-Some-variable.ensures.value)
