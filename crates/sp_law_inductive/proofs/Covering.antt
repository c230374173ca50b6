-- The two cases of a lemma's induction cover the root of its proof.
use Rattle.std.proofs.Common.{◌≡◌, zero, true, false, List, [], ◌∷◌, ◌++◌, Option, Some, None, refl, sym, subst, inl, inr, ◌∙◌, arith}
use Rattle.sp_spec.specs.Lists.{Every}
use Rattle.sp_spec.specs.Term.{Names}
use Rattle.sp_spec.specs.Signature.{Signature}
use Rattle.sp_spec.specs.Theory.{Theory, Restriction, Lemma, signature_of}
use Rattle.sp_spec.specs.Truth.{IsTrueOver}
use Rattle.sp_spec.specs.Guarded.{Guarded}
use Rattle.sp_spec.specs.Log.{Log, IsLog, log_trace}
use Rattle.sp_spec.proofs.Lists.{every_append, every_parts, every_weaken}
use Rattle.sp_spec.proofs.Options.{some_same}
use Rattle.sp_law_equal.specs.NormalForms.{HaveNormalForms}
use Rattle.sp_law_truth.specs.Shown.{IsTimed}
use Rattle.sp_law_guard.specs.GuardedForm.{negate}
use Rattle.sp_law_guard.specs.CheckedForm.{checked_form}
use Rattle.sp_law_guard.proofs.Checked.{form_checked}
use Rattle.sp_law_guard.proofs.Kept.{form_kept}
use Rattle.sp_law_guard.proofs.Turned.{turned}
use Rattle.sp_law_basic.specs.BasicTheory.{IsBasicFormula, HasNames}
use Rattle.sp_law_basic.specs.Restrictions.{IsBasicRestriction, form_in, restriction_forms}
use Rattle.sp_law_induction.specs.Hypothesis.{hypothesis}
use Rattle.sp_law_induction.specs.Covering.{safe_among, others_among, induction_form, IsCase, StartsOrFollows}
use Rattle.sp_spec_system.specs.System.{System}
use Rattle.sp_spec_system.specs.Solutions.{Valuation, assignment, AreAll, Solves}
use Rattle.sp_spec_system.specs.Numbered.{names_in}
use Rattle.sp_spec_system.specs.Move.{InductionCases, Root, root_system, Context, formulas_from, systems_in}
use Rattle.sp_spec_formula.specs.Induction.{induction_cases}
use Rattle.sp_law_system.specs.Proofs.{IsKept, IsPast}
use Rattle.sp_law_cover.specs.Admitted.{start, Over, Admits, CoversBelow}
use Rattle.sp_law_cover.specs.Contexts.{InductionCovers}
use Rattle.sp_law_tree.specs.Laws.{IsRightForm, HasRestrictions, BeginsWith}
use Rattle.sp_law_tree.proofs.OverLogs.{root_right}
use Rattle.sp_law_inductive.specs.Cases.{cases_of, HasCasesOf}
use Rattle.sp_law_inductive.proofs.Bound.{IsBoundForm, right_bound, negation_bound, hypothesis_bound, inductive_bound}
use Rattle.sp_law_inductive.proofs.Principle.{induction}
use Rattle.sp_law_induction.proofs.Sides.{every_safe, every_other}
use Rattle.sp_law_inductive.proofs.Solved.{alone_numbered, alone_solved}

-- a log meets the restrictions where their guarded forms are true over it
meets : (theory : Theory) (log : Log) (rs : List Restriction) → Every (IsBasicRestriction (signature_of theory)) rs → Every (Over theory log) (restriction_forms rs)
    → Every (λ (r : Restriction). IsTrueOver (signature_of theory) (log_trace log) r.formula) rs
meets theory log [] b h = tt
meets theory log (r ∷ rs) b h =
    let signature = signature_of theory in
    let k : Every (Over theory log) (b.0.form ∷ restriction_forms rs) = subst (λ (o : Option Guarded). Every (Over theory log) (form_in o ++ restriction_forms rs)) b.0.form_is h in
    ((form_kept signature (log_trace log) r.formula b.0.form (form_checked r.formula b.0.form b.0.form_is).0 (assignment start)).1 k.0, meets theory log rs b.1 k.1)

-- all of an empty log stands in a system without events
nothing_more : AreAll [] start []
nothing_more p l = absurd (omega (arith, l))

module _ (theory : Theory) (good : HaveNormalForms (signature_of theory).equations) (context : Context) (has : HasRestrictions theory context)
    (lemma : Lemma) (basic : IsBasicFormula (signature_of theory) lemma.formula) (named : HasNames (names_in context.public_names) lemma.formula)
    (g : Guarded) (form : checked_form lemma.formula ≡ Some g) (r : Root) (begins : BeginsWith theory context r (negate g)) where
  abbrev signature : Signature
  signature = signature_of theory

  abbrev names : Names
  names = names_in context.public_names

  abbrev safe : List Guarded
  safe = safe_among r.restrictions

  abbrev others : List Guarded
  others = others_among r.restrictions

  -- what is shown by induction
  abbrev shown : Guarded
  shown = induction_form r.restrictions g

  abbrev cases : InductionCases
  cases = cases_of r.restrictions r.taken g

  abbrev IsMade : Guarded → Type 0
  IsMade h = IsBoundForm signature names h × IsTimed zero h

  each_made : (fs : List Guarded) → Every (IsRightForm signature names) fs → Every IsMade fs
  each_made fs h = every_weaken (IsRightForm signature names) IsMade (right_bound signature names) fs h

  restrictions_made : Every IsMade r.restrictions
  restrictions_made =
      let right = root_right theory context has r (negate g) begins (lemma.formula, basic, named, g, form, inr refl) in
      each_made r.restrictions (every_parts (IsRightForm signature names) r.restrictions (r.taken ++ r.sought ∷ []) right).0

  restrictions_timed : Every (IsTimed zero) r.restrictions
  restrictions_timed = every_weaken IsMade (IsTimed zero) (λ h m. m.1) r.restrictions restrictions_made

  restrictions_bound : Every (IsBoundForm signature names) r.restrictions
  restrictions_bound = every_weaken IsMade (IsBoundForm signature names) (λ h m. m.0) r.restrictions restrictions_made

  lemma_made : IsMade g
  lemma_made = right_bound signature names g (lemma.formula, basic, named, g, form, inl refl)

  outside_bound : Every (IsBoundForm signature names) (safe ++ r.taken)
  outside_bound =
      every_append (IsBoundForm signature names) safe r.taken (every_safe (IsBoundForm signature names) r.restrictions restrictions_bound)
      (every_weaken IsMade (IsBoundForm signature names) (λ h m. m.0) r.taken (each_made r.taken begins.forms))

  shown_bound : IsBoundForm signature names shown
  shown_bound = inductive_bound signature names others g (every_other (IsBoundForm signature names) r.restrictions restrictions_bound) lemma_made.0

  empty_bound : Every (IsBoundForm signature names) cases.empty_trace
  empty_bound = every_append (IsBoundForm signature names) (safe ++ r.taken) (negate shown ∷ []) outside_bound (negation_bound signature names shown shown_bound, tt)

  non_empty_bound : Every (IsBoundForm signature names) cases.non_empty_trace
  non_empty_bound =
      every_append (IsBoundForm signature names) (safe ++ r.taken) (negate shown ∷ hypothesis shown ∷ []) outside_bound
      (negation_bound signature names shown shown_bound, (hypothesis_bound signature names shown shown_bound, tt))

  kept : Every (IsKept context (root_system r)) (systems_in (induction_cases cases))
  kept = (
    record { well_made = record { numbered = alone_numbered signature names true cases.empty_trace empty_bound; once = tt }; next = omega arith },
    (record { well_made = record { numbered = alone_numbered signature names false cases.non_empty_trace non_empty_bound; once = tt }; next = omega arith }, tt),
  )

  -- the log meets the restrictions, so what is taken is true over it
  taken_true : (past : Log) → IsLog theory past → Every (Over theory past) r.restrictions → Every (Over theory past) r.taken
  taken_true past is_log h =
      let met = meets theory past theory.restrictions has.basic (subst (Every (Over theory past)) begins.restrictions h) in
      every_weaken _ _ (λ f is_taken. is_taken past is_log met) r.taken begins.taken

  admitted_then : (past : Log) → Every (Over theory past) r.restrictions → Every (Over theory past) r.taken → (Over theory past g → ⊥) → Admits theory context past
  admitted_then past h k broken =
      let negated = subst (Over theory past) (sym begins.sought) ((turned signature (log_trace past) g (assignment start)).1 broken) in
      subst (λ (o : Option Root). Every (Over theory past) (formulas_from o)) (sym begins.is_root)
      (every_append (Over theory past) r.restrictions (r.taken ++ r.sought ∷ []) h (every_append (Over theory past) r.taken (r.sought ∷ []) k (negated, tt)))

  -- no admitted log that this one was by then solves a case
  abbrev NoneBefore : Log → Type 0
  NoneBefore log = Every (λ (c : System). (past : Log) → IsPast past log → Admits theory context past → (w : Valuation) → Solves theory past w c → ⊥) (systems_in (induction_cases cases))

  in_case : (log : Log) → NoneBefore log → (past : Log) → IsPast past log → Admits theory context past → Every (Over theory past) (safe ++ r.taken)
      → Over theory past (negate shown) → StartsOrFollows signature (assignment start) shown (log_trace past) → ⊥
  in_case log none [] by_then admitted outside n begun =
      none.0 [] by_then admitted start
      (alone_solved theory good names [] true (λ e. nothing_more) cases.empty_trace empty_bound (every_append (Over theory []) (safe ++ r.taken) (negate shown ∷ []) outside (n, tt)))
  in_case log none (e ∷ past) by_then admitted outside n begun =
      none.1.0 (e ∷ past) by_then admitted start
      (alone_solved theory good names (e ∷ past) false (λ x. absurd cc) cases.non_empty_trace non_empty_bound
      (every_append (Over theory (e ∷ past)) (safe ++ r.taken) (negate shown ∷ hypothesis shown ∷ []) outside (n, (begun, tt))))

  met : (log : Log) → NoneBefore log → (past : Log) → IsPast past log → IsLog theory past → IsCase signature (assignment start) r.restrictions g (log_trace log) (log_trace past) → ⊥
  met log none past by_then is_log c =
      let k = taken_true past is_log c.restrictions_true in
      let outside = every_append (Over theory past) safe r.taken (every_safe (Over theory past) r.restrictions c.restrictions_true) k in
      in_case log none past by_then (admitted_then past c.restrictions_true k c.lemma_false) outside c.negated c.start

  covers : CoversBelow theory context (root_system r) (systems_in (induction_cases cases))
  covers = record {
    below = λ log is_log admitted v solves none.
        let each = subst (λ (o : Option Root). Every (Over theory log) (formulas_from o)) begins.is_root admitted in
        let parts = every_parts (Over theory log) r.restrictions (r.taken ++ r.sought ∷ []) each in
        let negated = subst (Over theory log) begins.sought (every_parts (Over theory log) r.taken (r.sought ∷ []) parts.1).1.0 in
        (turned signature (log_trace log) g (assignment start)).0 negated
        (induction theory signature (assignment start) r.restrictions g restrictions_timed lemma_made.1 log is_log parts.0 (met log none));
  }

  abbrev RootIsCovered : Root → InductionCases → Type 0
  RootIsCovered q i = Every (IsKept context (root_system q)) (systems_in (induction_cases i)) × CoversBelow theory context (root_system q) (systems_in (induction_cases i))

  -- the context's root is this one, and its cases are these
  covered : HasCasesOf r g → (q : Root) → context.root ≡ Some q → (i : InductionCases) → q.cases ≡ Some i → RootIsCovered q i
  covered of q is i its =
      let one = some_same r q (sym begins.is_root ∙ is) in
      let same_cases = of i (subst (λ (x : Root). x.cases ≡ Some i) one its) in
      subst (λ (x : Root). RootIsCovered x i) (sym one) (subst (RootIsCovered r) (sym same_cases) (kept, covers))

  pub induction_covers : HasCasesOf r g → InductionCovers theory context
  induction_covers of = record { kept = λ q is i its. (covered of q is i its).0; covers = λ q is i its. (covered of q is i its).1 }

pub no_cases_cover : (theory : Theory) (context : Context) → ((r : Root) → context.root ≡ Some r → r.cases ≡ None) → InductionCovers theory context
no_cases_cover theory context none = record { kept = λ r is i its. absurd (at r is i its); covers = λ r is i its. absurd (at r is i its) }
  where
    at : (r : Root) → context.root ≡ Some r → (i : InductionCases) → r.cases ≡ Some i → ⊥
    at r is i its = let e : None ≡ Some i = sym (none r is) ∙ its in cc
