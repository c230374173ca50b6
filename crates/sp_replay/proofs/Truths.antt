-- What the code writes of restrictions and lemmas is whether they are true over the trace.
use Rattle.std.proofs.Common.{◌≡◌, Bool, true, false, ℕ, List, [], ◌∷◌, ◌++◌, map, Option, Some, refl, sym, ap, subst, true≢false}
use Rattle.std.specs.Prelude.{◌↔◌, IsTrue}
use Rattle.sp_spec.specs.Lists.{Every}
use Rattle.sp_spec.specs.Signature.{Signature}
use Rattle.sp_spec.specs.Formula.{Formula}
use Rattle.sp_spec.specs.Theory.{Theory, Restriction, Lemma, signature_of}
use Rattle.sp_spec.specs.Execution.{Step, Trace, IsExecution}
use Rattle.sp_spec.specs.Truth.{IsTrueOver}
use Rattle.sp_spec.specs.Guarded.{Guarded}
use Rattle.sp_law_equal.specs.NormalForms.{HaveNormalForms, KeepSymbols}
use Rattle.sp_law_guard.specs.CheckedForm.{checked_form}
use Rattle.sp_law_guard.proofs.Checked.{form_checked}
use Rattle.sp_law_run.specs.NormalStep.{normal_trace}
use Rattle.sp_law_equal.specs.Right.{RulesAreOver}
use Rattle.sp_law_decide.specs.Deciding.{decided, empty}
use Rattle.sp_law_basic.specs.BasicTheory.{IsBasicFormula}
use Rattle.sp_law_basic.specs.Restrictions.{IsBasicRestriction, form_in, restriction_forms}
use Rattle.sp_read_parts.specs.Formulas.{formula}
use Rattle.sp_written.specs.Views as view
use Rattle.sp_written.specs.declared.theory.WrittenLemma.{WrittenLemma}
use Rattle.sp_pose.specs.Asked.{asked_with}
use Rattle.sp_pose.specs.Required.{Required, required_by, all_required}
use Rattle.sp_pose.proofs.Forms.{AreForms, asked_list}
use Rattle.sp_replay.specs.Held.{held, required_line, required_lines, held_line, held_lines}
use Rattle.sp_replay.specs.Replay.{IsMet, AreMet, restriction_formulas, lemma_formulas, restriction_lines, met_lines}
use Rattle.sp_replay.proofs.Truth.{formula_constructors, true_where_decided}

-- ---- each is told

met_as_told : (signature : Signature) (trace : Trace) (f : Formula) (b : Bool) → IsTrue b ↔ IsTrueOver signature trace f → IsMet signature trace b f
met_as_told signature trace f true h = h.0 refl
met_as_told signature trace f false h = λ t. true≢false (sym (h.1 t))

module _ (theory : Theory) (good : HaveNormalForms (signature_of theory).equations) (keeps : KeepSymbols (signature_of theory).symbols (signature_of theory).equations)
    (rules : RulesAreOver (signature_of theory).symbols theory.rules) (steps : List Step) (shown : Trace) (run : IsExecution theory steps shown) where
  formula_met : (f : Formula) (g : Guarded) → IsBasicFormula (signature_of theory) f → checked_form f ≡ Some g → IsMet (signature_of theory) shown (held (normal_trace (signature_of theory).equations shown) g) f
  formula_met f g basic e =
      let c = form_checked f g e in
      met_as_told (signature_of theory) shown f (decided (normal_trace (signature_of theory).equations shown) empty g)
      (true_where_decided theory good keeps rules steps shown run f g (formula_constructors (signature_of theory) f basic) c.0 c.1)

  pub restrictions_met : (rs : List Restriction) → Every (IsBasicRestriction (signature_of theory)) rs
      → AreMet (signature_of theory) shown (restriction_formulas rs) (map (held (normal_trace (signature_of theory).equations shown)) (restriction_forms rs))
  restrictions_met [] basic = tt
  restrictions_met (r ∷ rs) basic =
      let trace = normal_trace (signature_of theory).equations shown in
      subst (λ (o : Option Guarded). AreMet (signature_of theory) shown (restriction_formulas (r ∷ rs)) (map (held trace) (form_in o ++ restriction_forms rs))) (sym basic.0.form_is)
      (formula_met r.formula basic.0.form basic.0.basic basic.0.form_is, restrictions_met rs basic.1)

  pub lemmas_met : (ls : List WrittenLemma) (gs : List Guarded) → Every (λ (l : Lemma). IsBasicFormula (signature_of theory) l.formula) (map view.lemma ls) → AreForms ls gs
      → AreMet (signature_of theory) shown (lemma_formulas (map view.lemma ls)) (map (held (normal_trace (signature_of theory).equations shown)) gs)
  lemmas_met [] [] basic h = tt
  lemmas_met [] (g ∷ gs) basic h = absurd h
  lemmas_met (l ∷ ls) [] basic h = absurd h
  lemmas_met (l ∷ ls) (g ∷ gs) basic h = (formula_met (formula l.formula) g basic.0 h.0, lemmas_met ls gs basic.1 h.1)

-- ---- and written

pub restrictions_same : (signature : Signature) (trace : Trace) (rs : List Restriction) → Every (IsBasicRestriction signature) rs
    → required_lines trace (all_required rs) ≡ restriction_lines rs (map (held trace) (restriction_forms rs))
restrictions_same signature trace [] basic = refl
restrictions_same signature trace (r ∷ rs) basic =
    let q : Required = record { name = r.name; form = basic.0.form } in
    subst (λ (o : Option Guarded). required_lines trace (required_by r.name o ++ all_required rs) ≡ restriction_lines (r ∷ rs) (map (held trace) (form_in o ++ restriction_forms rs))) (sym basic.0.form_is)
    (ap (λ (rest : List ℕ). required_line trace q ++ rest) (restrictions_same signature trace rs basic.1))

pub lemmas_same : (trace : Trace) (ls : List WrittenLemma) (gs : List Guarded) → held_lines trace (asked_list ls gs) ≡ met_lines (map view.lemma ls) (map (held trace) gs)
lemmas_same trace [] gs = refl
lemmas_same trace (l ∷ ls) [] = refl
lemmas_same trace (l ∷ ls) (g ∷ gs) = ap (λ (rest : List ℕ). held_line trace (asked_with l g) ++ rest) (lemmas_same trace ls gs)
