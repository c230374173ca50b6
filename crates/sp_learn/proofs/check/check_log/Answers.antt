use Rattle.std.proofs.Common.{◌∙◌, sym, ap₂, subst, List}
use Rattle.sp_spec.specs.Signature as signature
use Rattle.sp_spec_forms.specs.Forms.{RuleForms}
use Rattle.sp_learn.specs.declared.check.Checked.{Checked}
use Rattle.sp_learn.specs.Checking.{check_of}
use Rattle.sp_learn.specs.Meaning.{IsChecked}
use Rattle.sp_learn.specs.View.{entries_of}
use Rattle.sp_learn.proofs.Checks.{is_checked}
use Rattle.sp_learn.proofs.check.check_log.Goals as goal

pub returns-clause-means : goal.returns-clause-means
returns-clause-means c = λ theory good rules_same signature_same.
    let es = entries_of c.args.log.now in
    let answer =
    ap₂ (λ (s : signature.Signature) (rs : List RuleForms). check_of s rs es) signature_same rules_same ∙ sym c.in_ok-answer.ensures in
    subst (λ (a : Checked). IsChecked theory es a) answer (is_checked theory good es)
