-- What finished trees show of lemmas: of logs, and so of executions.
use Rattle.std.proofs.Common.{◌≡◌, Some, false}
use Rattle.sp_spec.proofs.Lists.{every_weaken}
use Rattle.sp_spec.specs.Theory.{Restriction, signature_of}
use Rattle.sp_spec.specs.Written.{WrittenTheory, theory_of}
use Rattle.sp_spec.specs.Formula.{Formula}
use Rattle.sp_spec.specs.Guarded.{Guarded}
use Rattle.sp_spec.specs.Verdict.{names_learning}
use Rattle.sp_spec_system.specs.Move.{Context}
use Rattle.sp_law_equal.specs.RightTheory.{LeavesReserved}
use Rattle.sp_law_guard.proofs.Checked.{form_checked}
use Rattle.sp_law_guard.specs.CheckedForm.{checked_form}
use Rattle.sp_law_adversary.specs.Lemmas.{IsOfExecutions, HasLogs}
use Rattle.sp_law_adversary.proofs.Lemmas.{logs_show}
use Rattle.sp_law_system.specs.Rules.{SuitsProofs}
use Rattle.sp_law_basic.specs.Restrictions.{IsBasicRestriction}
use Rattle.sp_law_basic.proofs.ClosedRules.{IsRightRule, each_right}
use Rattle.sp_law_tree.specs.Laws.{HasRestrictions, IsProvable, LemmasAreShown}
use Rattle.sp_law_tree.proofs.Suited.{text_suits}
use Rattle.sp_law_tree.proofs.OverLogs.{trees_show_logs_lem}

-- a formula with a guarded form that doesn't speak of learning
of_executions : (f : Formula) → names_learning f ≡ false → (g : Guarded) → checked_form f ≡ Some g → IsOfExecutions f
of_executions f u g e = let c = form_checked f g e in ((g, c.0, c.1), u)

module _ (t : WrittenTheory) (provable : IsProvable t) where
  suits : SuitsProofs (theory_of t)
  suits = text_suits t provable.normal_forms provable.basic provable.right

  -- its executions have logs, which show of formulas that don't speak of learning what the executions show
  has_logs : (context : Context) → HasRestrictions (theory_of t) context → HasLogs (theory_of t)
  has_logs context has = record {
    normal_forms = provable.normal_forms.normal_forms;
    keeps = provable.keeps;
    reserved = every_weaken IsRightRule LeavesReserved (λ r h. h.reserved) (theory_of t).rules (each_right (signature_of (theory_of t)) t.rules provable.basic provable.right);
    restrictions = every_weaken (IsBasicRestriction (signature_of (theory_of t))) (λ (r : Restriction). IsOfExecutions r.formula) (λ r h. of_executions r.formula h.unlearnt h.form h.form_is) t.restrictions has.basic;
  }

pub lemmas_are_shown_lem : LemmasAreShown
lemmas_are_shown_lem = record {
  all_traces = λ t provable context is_of has lemma f names u g e r begins tree accepted finished.
      (logs_show (theory_of t) (has_logs t provable context has) lemma (of_executions lemma.formula u g e)).0
      (trees_show_logs_lem.all_traces (theory_of t) (suits t provable) context is_of has lemma f names g e r begins tree accepted finished);
  exists_trace = λ t provable context is_of has lemma f names u g e r begins tree accepted finished.
      (logs_show (theory_of t) (has_logs t provable context has) lemma (of_executions lemma.formula u g e)).1
      (trees_show_logs_lem.exists_trace (theory_of t) (suits t provable) context is_of has lemma f names g e r begins tree accepted finished);
}
