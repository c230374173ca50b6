use Rattle.std.proofs.Common.{◌≡◌, IfOk, List, Option, map, option_map, subst}
use Rattle.sp_law_guard.specs.CheckedForm.{checked_form}
use Rattle.sp_read_parts.specs.Formulas.{formula}
use Rattle.sp_pose.specs.Asked.{Asked, asked_of}
use Rattle.sp_pose.proofs.Items.{one_asked}
use Rattle.sp_pose.proofs.problem.with_lemma.Goals as goal

pub returns : goal.returns
returns c =
    let one = one_asked (map asked_of c.in-Some.others.items) c.args.lemma c.in_ok-last.last (checked_form (formula c.args.lemma.formula)) c.in_ok-last.ensures in
    rw c.in-Some.is (subst (λ (x : Option (List Asked)). IfOk c.and_one.result (λ o. option_map (λ ls. map asked_of ls.items) o ≡ x)) one c.and_one.ensures)
