-- What is written of a lemma is so, and of a text one thing is written.
use Rattle.std.proofs.Common.{◌≡◌, ◌↔◌, ℕ, Bool, true, false, ◌&&◌, List, [], ◌∷◌, ◌++◌, Option, Some, None, option_and_then, refl, sym, ap, ◌∙◌, subst}
use Rattle.std.specs.List.{list_all}
use Rattle.sp_spec.specs.Lists.{Every, newest_first}
use Rattle.sp_spec.proofs.Lists.{every_weaken}
use Rattle.sp_spec_forms.specs.Forms.{RuleForms}
use Rattle.sp_spec_system.specs.Rules.{rules_of}
use Rattle.sp_spec.specs.Signature.{Signature}
use Rattle.sp_spec.specs.Log.{Entry, Log, log_trace}
use Rattle.sp_spec.specs.Theory.{TraceKind, all_traces, exists_trace, Lemma, signature_of}
use Rattle.sp_spec.specs.Written.{WrittenTheory, theory_of}
use Rattle.sp_spec.specs.Guarded.{Guarded}
use Rattle.sp_spec.specs.Verdict.{HoldsInAll, HoldsInNone, HoldsInAllLogs, HoldsInNoLog}
use Rattle.sp_law_guard.specs.GuardedForm.{negate}
use Rattle.sp_law_guard.specs.CheckedForm.{checked_form}
use Rattle.sp_law_decide.specs.Deciding.{decided, empty}
use Rattle.sp_learn.specs.Checking.{is_log}
use Rattle.sp_spec_solved.specs.Candidate.{candidate}
use Rattle.sp_solved.specs.Found.{is_sought, kept_if, found}
use Rattle.sp_law_found_log.specs.Shown.{FoundBreaks, FoundSatisfies}
use Rattle.sp_law_found_log.proofs.Learning.{either_reading}
use Rattle.sp_law_found_log.proofs.Found.{found_logs_show_lem}
use Rattle.sp_law_basic.specs.Restrictions.{restriction_forms}
use Rattle.sp_law_tree.proofs.AllShown.{lemmas_are_shown_lem}
use Rattle.sp_law_tree.proofs.OverLogs.{trees_show_logs_lem}
use Rattle.sp_spec_system.specs.System.{System}
use Rattle.sp_spec_system.specs.Move.{Root, root_system, Context}
use Rattle.sp_spec_proof.specs.Tree.{Tree, IsAccepted, IsFinished, found_log}
use Rattle.sp_spec_proof.proofs.Growing.{grown_tree_accepted}
use Rattle.sp_spec_proof.proofs.TreeLogs.{log_found}
use Rattle.sp_check.specs.Skeleton.{Skeleton}
use Rattle.sp_check.specs.Rejected.{ReadIsAccepted}
use Rattle.sp_check.proofs.Right.{judgements_right}
use Rattle.sp_spec.specs.Constants.{constants_of}
use Rattle.sp_spec_printed.specs.Verdict.{Verdict, verified, falsified, incomplete, rejected, Says}
use Rattle.sp_spec_text.specs.Written.{Attribute, WrittenText}
use Rattle.sp_spec_text.specs.Declared.{resolved, theory_in}
use Rattle.sp_pose.specs.Problem.{Poses}
use Rattle.sp_analysis.specs.Taken.{Stated, stated_in, lemmas_stated, Taken, taken_by}
use Rattle.sp_analysis.specs.Chosen.{run_among}
use Rattle.sp_analysis.specs.Sought.{root_of, setting_of, context_of}
use Rattle.sp_analysis.specs.Analysis.{Outcome, IsOutcome, AreOutcomes}
use Rattle.sp_analysis.specs.Checking.{IsVerdictIn, IsVerdictOn, Judged, IsJudged, AreJudged}
use Rattle.sp_analysis.specs.Laws.{Means, IsRejected, JudgedRightly, VerdictsAreRight}
use Rattle.sp_analysis.proofs.Taking.{IsLemmaOf, lemmas_of, AreTakenRightly, searched, provable, suits, is_context, has_restrictions, begins, shown_of_logs, takes_rightly}
use Rattle.sp_analysis.proofs.Spent.{all_spent}
use Rattle.sp_analysis.proofs.StatedItems.{stated_lemmas}
use Rattle.sp_analysis.proofs.Running.{every_run}

-- a proof isn't rejected exactly where it is accepted
accepted_or_rejected : (context : Context) (s : System) (k : Skeleton) (kind : TraceKind) (v : Verdict) (log : Option Log) → IsVerdictIn context s k kind v log
    → (IsRejected v → ⊥) ↔ ReadIsAccepted context s k
accepted_or_rejected context s k kind (rejected step clause) log (h, n) =
    (λ no. absurd (no (step, clause, refl)), λ yes r. (judgements_right.rejects_the_others context s k).1 (step, (clause, h)) yes)
accepted_or_rejected context s k kind verified log (tree, is, accepted, n, h) = (λ no. (tree, is, accepted), λ yes r. let e = r.2 in cc)
accepted_or_rejected context s k kind falsified log (tree, is, accepted, n, h) = (λ no. (tree, is, accepted), λ yes r. let e = r.2 in cc)
accepted_or_rejected context s k kind incomplete log (tree, is, accepted, n, h) = (λ no. (tree, is, accepted), λ yes r. let e = r.2 in cc)

-- a log that is found is one that passes both tests
record IsFound (signature : Signature) (rules : List RuleForms) (fs : List Guarded) (log : Log) : Type 0 where
  entries : List Entry
  is_log : is_log signature rules entries ≡ true
  are_true : list_all (decided (log_trace (newest_first entries)) empty) fs ≡ true
  log_is : newest_first entries ≡ log

found_tested : (signature : Signature) (rules : List RuleForms) (constants : List (List ℕ)) (fs : List Guarded) (s : System) (log : Log) → found signature rules constants fs s ≡ Some log
    → IsFound signature rules fs log
found_tested signature rules constants fs s log e = at (candidate constants s) e
  where
    kept : (entries : List Entry) (a b : Bool) → is_log signature rules entries ≡ a → list_all (decided (log_trace (newest_first entries)) empty) fs ≡ b → kept_if (a && b) entries ≡ Some log
        → IsFound signature rules fs log
    kept entries true true h k l = record { entries = entries; is_log = h; are_true = k; log_is = let g : newest_first entries ≡ log = cc in g }
    kept entries true false h k l = absurd cc
    kept entries false b h k l = absurd cc

    at : (o : Option (List Entry)) → option_and_then (λ (entries : List Entry). kept_if (is_sought signature rules fs entries) entries) o ≡ Some log → IsFound signature rules fs log
    at None h = absurd cc
    at (Some entries) h = kept entries (is_log signature rules entries) (list_all (decided (log_trace (newest_first entries)) empty) fs) refl refl h

-- a verdict on a lemma on all traces that it holds is one of a finished tree
finished_says : (kind : TraceKind) (v : Verdict) (log : Option Log) (F : Type 0) → kind ≡ all_traces → v ≡ verified → Says kind v log F → F
finished_says all_traces verified None F a b says = says
finished_says all_traces verified (Some log) F a b says = absurd says
finished_says all_traces falsified log F a b says = absurd cc
finished_says all_traces incomplete log F a b says = absurd cc
finished_says all_traces (rejected step clause) log F a b says = absurd cc
finished_says exists_trace v log F a b says = absurd cc

module _ {bytes : List ℕ} (text : WrittenText) (posing : Poses bytes text) where
  abbrev theory : WrittenTheory
  theory = theory_in text

  abbrev root : List Attribute → List Taken → TraceKind → Guarded → Root
  root attributes taken kind g = root_of (setting_of text) attributes taken kind g

  abbrev context : List Attribute → List Taken → TraceKind → Guarded → Context
  context attributes taken kind g = context_of (setting_of text) (root attributes taken kind g)

  breaks : (l : Lemma) → IsLemmaOf theory l → (g : Guarded) → checked_form l.formula ≡ Some g → (s : System) (log : Log)
      → found (signature_of (theory_of theory)) (rules_of (theory_of theory)).forms (constants_of theory) (restriction_forms theory.restrictions ++ negate g ∷ []) s ≡ Some log
      → FoundBreaks (theory_of theory) l log
  breaks l f g e s log is =
      let h = found_tested (signature_of (theory_of theory)) (rules_of (theory_of theory)).forms (constants_of theory) (restriction_forms theory.restrictions ++ negate g ∷ []) s log is in
      subst (FoundBreaks (theory_of theory) l) h.log_is (found_logs_show_lem.breaks theory (searched text posing) l f.0 g e h.entries h.is_log h.are_true)

  satisfies : (l : Lemma) → IsLemmaOf theory l → (g : Guarded) → checked_form l.formula ≡ Some g → (s : System) (log : Log)
      → found (signature_of (theory_of theory)) (rules_of (theory_of theory)).forms (constants_of theory) (restriction_forms theory.restrictions ++ g ∷ []) s ≡ Some log
      → FoundSatisfies (theory_of theory) l log
  satisfies l f g e s log is =
      let h = found_tested (signature_of (theory_of theory)) (rules_of (theory_of theory)).forms (constants_of theory) (restriction_forms theory.restrictions ++ g ∷ []) s log is in
      subst (FoundSatisfies (theory_of theory) l) h.log_is (found_logs_show_lem.satisfies theory (searched text posing) l f.0 g e h.entries h.is_log h.are_true)

  -- the log of a tree is one with which the search ends at some system
  ended : (attributes : List Attribute) (taken : List Taken) (kind : TraceKind) (g : Guarded) (tree : Tree) (log : Log)
      → Some log ≡ found_log (context attributes taken kind g) (root_system (root attributes taken kind g)) tree → (s : System) × ((context attributes taken kind g).found s ≡ Some log)
  ended attributes taken kind g tree log e = log_found (context attributes taken kind g) tree (root_system (root attributes taken kind g)) log (sym e)

  -- an accepted tree shows what it says
  module _ (l : Lemma) (f : IsLemmaOf theory l) (g : Guarded) (e : checked_form l.formula ≡ Some g) (attributes : List Attribute) (taken : List Taken) (right : AreTakenRightly theory taken) where
    shown : (kind : TraceKind) (v : Verdict) (log : Option Log) (tree : Tree) → IsAccepted (context attributes taken kind g) (root_system (root attributes taken kind g)) tree
        → log ≡ found_log (context attributes taken kind g) (root_system (root attributes taken kind g)) tree → Says kind v log (IsFinished tree) → Means (theory_of theory) kind v log l
    shown all_traces verified None tree accepted is says =
        either_reading l (HoldsInAllLogs (theory_of theory) l) (HoldsInAll (theory_of theory) l)
        (shown_of_logs text posing l f g e attributes taken right all_traces refl tree accepted says)
        (λ unlearnt. lemmas_are_shown_lem.all_traces theory (provable text posing) (context attributes taken all_traces g) (is_context text posing l f g e attributes taken right all_traces)
        (has_restrictions text posing (root attributes taken all_traces g)) l f.0 f.1 unlearnt g e (root attributes taken all_traces g) (begins text posing attributes taken right all_traces g)
        tree accepted says)
    shown all_traces verified (Some log) tree accepted is says = absurd says
    shown all_traces falsified None tree accepted is says = absurd says
    shown all_traces falsified (Some log) tree accepted is says = let s = ended attributes taken all_traces g tree log is in breaks l f g e s.0 log s.1
    shown all_traces incomplete None tree accepted is says = tt
    shown all_traces incomplete (Some log) tree accepted is says = absurd says
    shown all_traces (rejected step clause) log tree accepted is says = absurd says
    shown exists_trace verified None tree accepted is says = absurd says
    shown exists_trace verified (Some log) tree accepted is says = let s = ended attributes taken exists_trace g tree log is in satisfies l f g e s.0 log s.1
    shown exists_trace falsified None tree accepted is says =
        let c = is_context text posing l f g e attributes taken right exists_trace in
        let r = root attributes taken exists_trace g in
        let begun = begins text posing attributes taken right exists_trace g in
        either_reading l (HoldsInNoLog (theory_of theory) l) (HoldsInNone (theory_of theory) l)
        (trees_show_logs_lem.exists_trace (theory_of theory) (suits text posing) (context attributes taken exists_trace g) c (has_restrictions text posing r) l f.0 f.1 g e r begun tree accepted says)
        (λ unlearnt. lemmas_are_shown_lem.exists_trace theory (provable text posing) (context attributes taken exists_trace g) c (has_restrictions text posing r) l f.0 f.1 unlearnt g e r begun
        tree accepted says)
    shown exists_trace falsified (Some log) tree accepted is says = absurd says
    shown exists_trace incomplete None tree accepted is says = tt
    shown exists_trace incomplete (Some log) tree accepted is says = absurd says
    shown exists_trace (rejected step clause) log tree accepted is says = absurd says

    -- so does a proof that was read; one that is rejected shows nothing
    read_shown : (kind : TraceKind) (k : Skeleton) (v : Verdict) (log : Option Log) → IsVerdictOn (setting_of text) kind (root attributes taken kind g) k v log → Means (theory_of theory) kind v log l
    read_shown all_traces k (rejected step clause) None h = tt
    read_shown exists_trace k (rejected step clause) None h = tt
    read_shown kind k (rejected step clause) (Some log) (h, n) = absurd (let x : Some log ≡ None = n in cc)
    read_shown kind k verified log (tree, is, accepted, n, says) = shown kind verified log tree accepted n says
    read_shown kind k falsified log (tree, is, accepted, n, says) = shown kind falsified log tree accepted n says
    read_shown kind k incomplete log (tree, is, accepted, n, says) = shown kind incomplete log tree accepted n says

    -- and a lemma on all traces that is verified holds in all logs
    read_of_logs : (kind : TraceKind) (k : Skeleton) (v : Verdict) (log : Option Log) → IsVerdictOn (setting_of text) kind (root attributes taken kind g) k v log → kind ≡ all_traces → v ≡ verified
        → HoldsInAllLogs (theory_of theory) l
    read_of_logs kind k verified log (tree, is, accepted, n, says) a b =
        shown_of_logs text posing l f g e attributes taken right kind a tree accepted (finished_says kind verified log (IsFinished tree) a b says)
    read_of_logs kind k falsified log h a b = absurd cc
    read_of_logs kind k incomplete log h a b = absurd cc
    read_of_logs kind k (rejected step clause) log h a b = absurd cc

  -- ---- proofs that are checked

  -- the proof of a lemma of the text, where what is taken was shown
  pub record IsJudgedIn (j : Judged) : Type 0 where
    pub taken : List Taken
    pub stated : Stated
    pub right : AreTakenRightly theory taken
    pub is_lemma : IsLemmaOf theory stated.lemma
    pub is_judged : IsJudged (setting_of text) taken stated j

  pub judged_verdict : (j : Judged) (h : IsJudgedIn j) → IsVerdictOn (setting_of text) h.stated.lemma.kind (root h.stated.attributes h.taken h.stated.lemma.kind h.is_judged.form) j.proof j.verdict j.log
  judged_verdict j h = subst (λ (r : Root). IsVerdictOn (setting_of text) h.stated.lemma.kind r j.proof j.verdict j.log) h.is_judged.root_is h.is_judged.verdict_is

  all_judged_in : (taken : List Taken) (qs : List Stated) (js : List Judged) → AreTakenRightly theory taken → Every (IsLemmaOf theory) (lemmas_stated qs) → AreJudged (setting_of text) taken qs js
      → Every IsJudgedIn js
  all_judged_in taken [] [] right f h = tt
  all_judged_in taken [] (j ∷ js) right f h = absurd h
  all_judged_in taken (q ∷ qs) [] right f h = absurd h
  all_judged_in taken (q ∷ qs) (j ∷ js) right f h =
      let one : IsJudgedIn j = record { taken = taken; stated = q; right = right; is_lemma = f.0; is_judged = h.0 } in
      let holds = read_of_logs q.lemma f.0 h.0.form h.0.form_is q.attributes taken right q.lemma.kind j.proof j.verdict j.log (judged_verdict j one) in
      (one, all_judged_in (taken ++ taken_by q j.verdict) qs js (takes_rightly text posing taken q j.verdict right f.0 holds) f.1 h.1)

  judged_right : (j : Judged) → IsJudgedIn j → JudgedRightly text j
  judged_right j h =
      let q = h.stated in
      let k = h.is_judged in
      record {
        means = subst (λ (m : Lemma). Means (theory_of theory) m.kind j.verdict j.log m) (sym k.lemma_is)
            (read_shown q.lemma h.is_lemma k.form k.form_is q.attributes h.taken h.right q.lemma.kind j.proof j.verdict j.log (judged_verdict j h));
        accepts = accepted_or_rejected (context_of (setting_of text) j.root) (root_system j.root) j.proof q.lemma.kind j.verdict j.log k.verdict_is;
      }

  -- those that are run are lemmas of the text
  run_lemmas : (chosen : Option (List ℕ)) → Every (IsLemmaOf theory) (lemmas_stated (run_among chosen (stated_in (resolved text).items)))
  run_lemmas chosen = every_run chosen (IsLemmaOf theory) (stated_in (resolved text).items) (stated_lemmas text (IsLemmaOf theory) (lemmas_of posing))

  pub all_judged_known : (chosen : Option (List ℕ)) (js : List Judged) → AreJudged (setting_of text) [] (run_among chosen (stated_in (resolved text).items)) js → Every IsJudgedIn js
  all_judged_known chosen js h = all_judged_in [] (run_among chosen (stated_in (resolved text).items)) js tt (run_lemmas chosen) h

  pub all_judged_right : (chosen : Option (List ℕ)) (js : List Judged) → AreJudged (setting_of text) [] (run_among chosen (stated_in (resolved text).items)) js → Every (JudgedRightly text) js
  all_judged_right chosen js h = every_weaken IsJudgedIn (JudgedRightly text) judged_right js (all_judged_known chosen js h)

  -- ---- lemmas that are tried

  -- the outcome of a lemma of the text, where what is taken was shown
  pub record IsTriedIn (budget : ℕ) (o : Outcome) : Type 0 where
    pub taken : List Taken
    pub stated : Stated
    pub right : AreTakenRightly theory taken
    pub is_lemma : IsLemmaOf theory stated.lemma
    pub is_outcome : IsOutcome (setting_of text) budget taken stated o

  module _ (budget : ℕ) where
    grown_accepted : (o : Outcome) (h : IsTriedIn budget o) → let q = h.stated in
        IsAccepted (context q.attributes h.taken q.lemma.kind h.is_outcome.form) (root_system (root q.attributes h.taken q.lemma.kind h.is_outcome.form)) o.tree
    grown_accepted o h =
        let q = h.stated in
        let c = context q.attributes h.taken q.lemma.kind h.is_outcome.form in
        let s = root_system (root q.attributes h.taken q.lemma.kind h.is_outcome.form) in
        subst (IsAccepted c s) (sym h.is_outcome.tree_is) (grown_tree_accepted c s budget)

    all_tried_in : (taken : List Taken) (qs : List Stated) (os : List Outcome) → AreTakenRightly theory taken → Every (IsLemmaOf theory) (lemmas_stated qs)
        → AreOutcomes (setting_of text) budget taken qs os → Every (IsTriedIn budget) os
    all_tried_in taken [] [] right f h = tt
    all_tried_in taken [] (o ∷ os) right f h = absurd h
    all_tried_in taken (q ∷ qs) [] right f h = absurd h
    all_tried_in taken (q ∷ qs) (o ∷ os) right f h =
        let one : IsTriedIn budget o = record { taken = taken; stated = q; right = right; is_lemma = f.0; is_outcome = h.0 } in (
          one,
          all_tried_in (taken ++ taken_by q o.verdict) qs os (takes_rightly text posing taken q o.verdict right f.0 (λ a b.
              shown_of_logs text posing q.lemma f.0 h.0.form h.0.form_is q.attributes taken right q.lemma.kind a o.tree (grown_accepted o one)
              (finished_says q.lemma.kind o.verdict o.log (IsFinished o.tree) a b h.0.verdict_is))) f.1 h.1,
        )

    outcome_right : (o : Outcome) → IsTriedIn budget o → Means (theory_of theory) o.lemma.kind o.verdict o.log o.lemma
    outcome_right o h =
        let q = h.stated in
        let k = h.is_outcome in
        subst (λ (m : Lemma). Means (theory_of theory) m.kind o.verdict o.log m) (sym k.lemma_is)
        (shown q.lemma h.is_lemma k.form k.form_is q.attributes h.taken h.right q.lemma.kind o.verdict o.log o.tree (grown_accepted o h)
        (k.log_is ∙ ap (found_log (context q.attributes h.taken q.lemma.kind k.form) (root_system (root q.attributes h.taken q.lemma.kind k.form))) (sym k.tree_is)) k.verdict_is)

    pub all_tried : (chosen : Option (List ℕ)) (os : List Outcome) → AreOutcomes (setting_of text) budget [] (run_among chosen (stated_in (resolved text).items)) os → Every (IsTriedIn budget) os
    all_tried chosen os h = all_tried_in [] (run_among chosen (stated_in (resolved text).items)) os tt (run_lemmas chosen) h

    pub outcomes_right : (chosen : Option (List ℕ)) (os : List Outcome) → AreOutcomes (setting_of text) budget [] (run_among chosen (stated_in (resolved text).items)) os
        → Every (λ (o : Outcome). Means (theory_of theory) o.lemma.kind o.verdict o.log o.lemma) os
    outcomes_right chosen os h = every_weaken (IsTriedIn budget) _ outcome_right os (all_tried chosen os h)

pub verdicts_are_right_lem : VerdictsAreRight
verdicts_are_right_lem = record {
  right = λ budget chosen text written outcomes a. outcomes_right a.theory a.poses budget chosen outcomes a.outcomes_are;
  spent = λ budget chosen text written outcomes a. all_spent (setting_of a.theory) budget [] (run_among chosen (stated_in (resolved a.theory).items)) outcomes a.outcomes_are;
  judged_right = λ chosen text written judged c. all_judged_right c.theory c.poses chosen judged c.judged_are;
}
