-- What a proof begins from in a text that poses its theory: what is taken holds over all logs that meet the restrictions.
use Rattle.std.proofs.Common.{inl, inr, ◌≡◌, ℕ, Bool, true, false, if◌then◌else◌, List, [], ◌∷◌, ◌++◌, Option, Some, None, refl, ap}
use Rattle.sp_spec.specs.Lists.{Every}
use Rattle.sp_spec.proofs.Lists.{every_append, every_from, every_member, every_weaken}
use Rattle.sp_spec.proofs.Options.{some_same}
use Rattle.sp_spec.specs.Signature.{Signature}
use Rattle.sp_spec.specs.Theory.{TraceKind, all_traces, exists_trace, Restriction, Lemma, signature_of}
use Rattle.sp_spec.specs.Written.{WrittenTheory, theory_of}
use Rattle.sp_spec.specs.Guarded.{Guarded}
use Rattle.sp_spec.specs.Constants.{constants_of}
use Rattle.sp_spec.specs.Verdict.{HoldsInAllLogs}
use Rattle.sp_law_guard.specs.CheckedForm.{checked_form}
use Rattle.sp_spec_system.specs.Move.{Root, root_system}
use Rattle.sp_spec_system.specs.Numbered.{names_in}
use Rattle.sp_spec_proof.specs.Tree.{Tree, IsAccepted, IsFinished}
use Rattle.sp_law_system.specs.Rules.{SuitsProofs}
use Rattle.sp_law_cover.specs.Contexts.{InductionCovers, IsContextOf}
use Rattle.sp_law_basic.specs.BasicTheory.{IsBasicFormula, HasNames}
use Rattle.sp_law_basic.specs.Restrictions.{IsBasicRestriction, restriction_forms}
use Rattle.sp_law_basic.proofs.RestrictionForms.{every_form}
use Rattle.sp_law_tree.specs.Laws.{IsRightForm, IsTaken, HasRestrictions, BeginsWith, IsProvable}
use Rattle.sp_law_tree.proofs.WrittenRules.{names_stand_lem}
use Rattle.sp_law_tree.proofs.OverLogs.{asked_written, trees_show_logs_lem, shown_is_taken_lem}
use Rattle.sp_law_tree.proofs.Suited.{text_suits}
use Rattle.sp_law_inductive.specs.Cases.{cases_of}
use Rattle.sp_law_inductive.proofs.Covering.{induction_covers, no_cases_cover}
use Rattle.sp_law_found_log.specs.Shown.{IsSearched}
use Rattle.sp_law_found_log.specs.Laws.{IsRootFormula}
use Rattle.sp_law_found_log.proofs.Ends.{searches_end_as_sought_lem}
use Rattle.sp_wf.specs.Laws.{IsFineRule}
use Rattle.sp_spec_text.specs.Written.{Attribute, WrittenText}
use Rattle.sp_spec_text.specs.Declared.{theory_in}
use Rattle.sp_spec_printed.specs.Verdict.{Verdict, verified, falsified, incomplete, rejected}
use Rattle.sp_pose.specs.Problem.{Poses}
use Rattle.sp_pose.proofs.BasicTheories.{normal_forms, lemmas_are_basic, restrictions_are_basic, rules_are_basic, keeps_public}
use Rattle.sp_analysis.specs.Taken.{Stated, Taken, gives, form_taken, taken_by, is_hidden, taken_for}
use Rattle.sp_analysis.specs.Sought.{sought, root_of, Setting, setting_of, context_of}

-- a lemma of the text, with the text's public names
abbrev pub IsLemmaOf : WrittenTheory → Lemma → Type 0
IsLemmaOf theory l =
    IsBasicFormula (signature_of (theory_of theory)) l.formula × HasNames (names_in (constants_of theory)) l.formula

pub lemmas_of : {bytes : List ℕ} {text : WrittenText} → Poses bytes text → Every (IsLemmaOf (theory_in text)) (theory_in text).lemmas
lemmas_of {text = text} posing =
    let theory = theory_in text in
    let signature = signature_of (theory_of theory) in
    every_from (IsLemmaOf theory) theory.lemmas (λ l among.
    let basic = every_member (λ (m : Lemma). IsBasicFormula signature m.formula) theory.lemmas l among (lemmas_are_basic posing) in
    (basic, names_stand_lem.lemmas theory l among basic))

-- a lemma that is taken was shown of all logs that meet the restrictions
pub record IsTakenRightly (theory : WrittenTheory) (t : Taken) : Type 0 where
  pub lemma : Lemma
  pub is_lemma : IsLemmaOf theory lemma
  pub form_is : checked_form lemma.formula ≡ Some t.form
  pub holds : HoldsInAllLogs (theory_of theory) lemma

abbrev pub AreTakenRightly : WrittenTheory → List Taken → Type 0
AreTakenRightly theory ts = Every (IsTakenRightly theory) ts

-- so it is of each that isn't hidden
each_taken : (P : Guarded → Type 0) (Q : Taken → Type 0) → ((t : Taken) → Q t → P t.form) → (attributes : List Attribute) (ts : List Taken) → Every Q ts → Every P (taken_for attributes ts)
each_taken P Q step attributes [] h = tt
each_taken P Q step attributes (t ∷ ts) h = at (is_hidden attributes t) (each_taken P Q step attributes ts h.1)
  where
    at : (b : Bool) → Every P (taken_for attributes ts) → Every P (if b then taken_for attributes ts else t.form ∷ taken_for attributes ts)
    at true later = later
    at false later = (step t h.0, later)

-- only a lemma on all traces that was verified gives anything
only_verified : (kind : TraceKind) (v : Verdict) (attributes : List Attribute) → gives kind v attributes ≡ true → (kind ≡ all_traces) × (v ≡ verified)
only_verified all_traces verified attributes e = (refl, refl)
only_verified all_traces falsified attributes e = absurd cc
only_verified all_traces incomplete attributes e = absurd cc
only_verified all_traces (rejected step clause) attributes e = absurd cc
only_verified exists_trace verified attributes e = absurd cc
only_verified exists_trace falsified attributes e = absurd cc
only_verified exists_trace incomplete attributes e = absurd cc
only_verified exists_trace (rejected step clause) attributes e = absurd cc

module _ {bytes : List ℕ} (text : WrittenText) (posing : Poses bytes text) where
  abbrev theory : WrittenTheory
  theory = theory_in text

  abbrev signature : Signature
  signature = signature_of (theory_of theory)

  abbrev setting : Setting
  setting = setting_of text

  pub searched : IsSearched theory
  searched = record {
    normal_forms = normal_forms posing;
    basic = rules_are_basic posing;
    rule_names = posing.fine.rule_names;
    right = every_weaken (IsFineRule signature.symbols signature.equations) _ (λ r h. h.right) theory.rules posing.fine.rules;
    restrictions = restrictions_are_basic posing;
  }

  pub provable : IsProvable theory
  provable = record { normal_forms = searched.normal_forms; keeps = keeps_public posing; basic = searched.basic; right = searched.right }

  pub suits : SuitsProofs (theory_of theory)
  suits = text_suits theory searched.normal_forms searched.basic searched.right

  -- what a proof begins from
  abbrev pub root_at : List Attribute → List Taken → TraceKind → Guarded → Root
  root_at attributes taken kind g = root_of setting attributes taken kind g

  pub has_restrictions : (root : Root) → HasRestrictions (theory_of theory) (context_of setting root)
  has_restrictions root = record {
    basic = restrictions_are_basic posing;
    named = every_from (λ (r : Restriction). HasNames (names_in (constants_of theory)) r.formula) theory.restrictions (λ r among.
        names_stand_lem.restrictions theory r among (every_member (IsBasicRestriction signature) theory.restrictions r among (restrictions_are_basic posing)).basic);
  }

  -- each formula for which the search asks is that of a restriction or of the lemma
  asked : (l : Lemma) → IsLemmaOf theory l → (g : Guarded) → checked_form l.formula ≡ Some g → (kind : TraceKind)
      → Every (IsRootFormula signature) (restriction_forms theory.restrictions ++ sought kind g ∷ [])
  asked l f g e kind =
      every_append (IsRootFormula signature) (restriction_forms theory.restrictions) (sought kind g ∷ [])
      (every_form (IsRootFormula signature) (IsBasicRestriction signature) (λ r h is b. (r.formula, b.basic, h, is, inl refl)) theory.restrictions (restrictions_are_basic posing)) (from kind, tt)
    where
      from : (kind : TraceKind) → IsRootFormula signature (sought kind g)
      from all_traces = (l.formula, f.0, g, e, inr refl)
      from exists_trace = (l.formula, f.0, g, e, inl refl)

  pub begins : (attributes : List Attribute) (taken : List Taken) → AreTakenRightly theory taken → (kind : TraceKind) (g : Guarded)
      → BeginsWith (theory_of theory) (context_of setting (root_at attributes taken kind g)) (root_at attributes taken kind g) (sought kind g)
  begins attributes taken h kind g = record {
    is_root = refl;
    restrictions = refl;
    taken = each_taken (IsTaken (theory_of theory)) (IsTakenRightly theory) (λ t k. shown_is_taken_lem.taken (theory_of theory) k.lemma t.form k.form_is k.holds) attributes taken h;
    forms = each_taken (IsRightForm signature (names_in (constants_of theory))) (IsTakenRightly theory)
        (λ t k. (k.lemma.formula, k.is_lemma.0, k.is_lemma.1, t.form, k.form_is, inl refl)) attributes taken h;
    sought = refl;
  }

  -- what is sought is the form of a lemma, or its negation
  sought_right : (l : Lemma) → IsLemmaOf theory l → (g : Guarded) → checked_form l.formula ≡ Some g → (kind : TraceKind)
      → IsRightForm signature (names_in (constants_of theory)) (sought kind g)
  sought_right l f g e all_traces = (l.formula, f.0, f.1, g, e, inr refl)
  sought_right l f g e exists_trace = (l.formula, f.0, f.1, g, e, inl refl)

  pub is_context : (l : Lemma) → IsLemmaOf theory l → (g : Guarded) → checked_form l.formula ≡ Some g → (attributes : List Attribute) (taken : List Taken) → AreTakenRightly theory taken
      → (kind : TraceKind) → IsContextOf (theory_of theory) (context_of setting (root_at attributes taken kind g))
  is_context l f g e attributes taken h kind =
      let root = root_at attributes taken kind g in
      record {
        rules = refl;
        numbered = names_stand_lem.rules theory searched.basic;
        induction = covered kind;
        asked = asked_written (theory_of theory) (context_of setting root) (has_restrictions root) root (sought kind g) (begins attributes taken h kind g) (sought_right l f g e kind);
        ends = searches_end_as_sought_lem.ends theory searched (context_of setting root) root refl (asked l f g e kind) (λ s. refl);
        table = record { taken = []; begun = tt; alone = tt; entries = tt };
      }
    where
      -- a lemma on all traces has the cases of its induction, and one on some trace has none
      covered : (kind : TraceKind) → InductionCovers (theory_of theory) (context_of setting (root_at attributes taken kind g))
      covered all_traces =
          let root = root_at attributes taken all_traces g in
          induction_covers (theory_of theory) searched.normal_forms.normal_forms (context_of setting root) (has_restrictions root) l f.0 f.1 g e root (begins attributes taken h all_traces g)
          (λ i its. some_same (cases_of root.restrictions root.taken g) i its)
      covered exists_trace =
          let root = root_at attributes taken exists_trace g in
          no_cases_cover (theory_of theory) (context_of setting root) (λ r is. ap (λ (x : Root). x.cases) (some_same root r is))

  -- a finished tree of a lemma on all traces shows it of all logs
  pub shown_of_logs : (l : Lemma) → IsLemmaOf theory l → (g : Guarded) → checked_form l.formula ≡ Some g → (attributes : List Attribute) (taken : List Taken) → AreTakenRightly theory taken
      → (kind : TraceKind) → kind ≡ all_traces → (tree : Tree) → IsAccepted (context_of setting (root_at attributes taken kind g)) (root_system (root_at attributes taken kind g)) tree → IsFinished tree
      → HoldsInAllLogs (theory_of theory) l
  shown_of_logs l f g e attributes taken h all_traces is tree accepted finished =
      let root = root_at attributes taken all_traces g in
      trees_show_logs_lem.all_traces (theory_of theory) suits (context_of setting root) (is_context l f g e attributes taken h all_traces) (has_restrictions root) l f.0 f.1 g e root
      (begins attributes taken h all_traces g) tree accepted finished
  shown_of_logs l f g e attributes taken h exists_trace is tree accepted finished = absurd cc

  -- what such a lemma gives is taken rightly
  pub gives_rightly : (q : Stated) (v : Verdict) → IsLemmaOf theory q.lemma → (q.lemma.kind ≡ all_traces → v ≡ verified → HoldsInAllLogs (theory_of theory) q.lemma)
      → AreTakenRightly theory (taken_by q v)
  gives_rightly q v f holds =
      at (gives q.lemma.kind v q.attributes) (checked_form q.lemma.formula) refl (λ e. let only = only_verified q.lemma.kind v q.attributes e in holds only.0 only.1)
    where
      at : (b : Bool) (o : Option Guarded) → checked_form q.lemma.formula ≡ o → (b ≡ true → HoldsInAllLogs (theory_of theory) q.lemma) → AreTakenRightly theory (form_taken b q.lemma.name o)
      at b None e h = tt
      at true (Some g) e h = (record { lemma = q.lemma; is_lemma = f; form_is = e; holds = h refl }, tt)
      at false (Some g) e h = tt

  pub takes_rightly : (taken : List Taken) (q : Stated) (v : Verdict) → AreTakenRightly theory taken → IsLemmaOf theory q.lemma
      → (q.lemma.kind ≡ all_traces → v ≡ verified → HoldsInAllLogs (theory_of theory) q.lemma) → AreTakenRightly theory (taken ++ taken_by q v)
  takes_rightly taken q v h f holds = every_append (IsTakenRightly theory) taken (taken_by q v) h (gives_rightly q v f holds)
