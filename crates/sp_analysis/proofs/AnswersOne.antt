-- Of a text one thing is written.
use Rattle.std.proofs.Common.{◌≡◌, ℕ, true, true≢false, List, [], ◌∷◌, ◌++◌, map, Option, Some, None, refl, sym, ap, ap₂, ◌∙◌, subst}
use Rattle.sp_spec.specs.Log.{Log}
use Rattle.sp_spec.specs.Theory.{TraceKind, all_traces, exists_trace, Theory, Lemma}
use Rattle.sp_spec.specs.Written.{theory_of}
use Rattle.sp_spec.specs.Guarded.{Guarded}
use Rattle.sp_spec_system.specs.System.{System}
use Rattle.sp_spec_system.specs.Move.{Context, Root, root_system}
use Rattle.sp_spec_proof.specs.Tree.{Tree, IsAccepted, IsFinished, found_log}
use Rattle.sp_search.specs.Finished.{finished}
use Rattle.sp_search.proofs.Finished.{finished_decides}
use Rattle.sp_check.specs.Judging as judging
use Rattle.sp_check.specs.Judging.{Judgement, judgement}
use Rattle.sp_check.specs.Skeleton.{Skeleton, tree_of}
use Rattle.sp_check.proofs.Right.{judgements_right}
use Rattle.sp_spec_text.specs.Written.{WrittenText}
use Rattle.sp_spec_text.specs.Declared.{resolved, theory_in}
use Rattle.sp_spec_text.specs.Spans.{Span}
use Rattle.sp_spec_text.specs.Texts.{ArePlaces}
use Rattle.sp_read_theory.proofs.Whole.{text_one, places_one}
use Rattle.sp_pose.specs.Problem.{Poses}
use Rattle.sp_pose.proofs.One.{one_report, not_posed}
use Rattle.sp_analysis.specs.Taken.{Stated, stated_in, Taken, taken_by}
use Rattle.sp_analysis.specs.Chosen.{run_among, has_lemma, placed}
use Rattle.sp_analysis.specs.Replies.{IsShown, LacksLemma}
use Rattle.sp_analysis.specs.Sought.{root_of, Setting, setting_of, context_of, proof_tree, grown_log}
use Rattle.sp_spec_printed.specs.Verdict.{Verdict, verified, falsified, incomplete, rejected, Says}
use Rattle.sp_analysis.specs.Analysis.{Outcome, trees_of, IsOutcome, AreOutcomes, analysed_text, IsAnalysis}
use Rattle.sp_analysis.specs.Checking.{Judged, checked_text, IsVerdictIn, IsVerdictOn, IsJudged, AreJudged, IsChecking}
use Rattle.sp_analysis.specs.Printed.{by_leaves, by_tree, by_judgement, judged_log}
use Rattle.sp_analysis.specs.Laws.{AnswersAreOne}
use Rattle.std.proofs.lemmas.Bool.{false_from_ne_true}

-- ---- verdicts

-- the verdict of a tree that was grown is told by its log and its leaves
pub by_its_tree : (kind : TraceKind) (tree : Tree) (v : Verdict) (log : Option Log) → Says kind v log (IsFinished tree) → v ≡ by_tree kind log (finished tree)
by_its_tree all_traces tree verified None h = sym (ap (by_leaves all_traces) ((finished_decides tree).1 h))
by_its_tree all_traces tree verified (Some log) h = absurd h
by_its_tree all_traces tree falsified None h = absurd h
by_its_tree all_traces tree falsified (Some log) h = refl
by_its_tree all_traces tree incomplete None h = sym (ap (by_leaves all_traces) (false_from_ne_true (finished tree) (λ e. h ((finished_decides tree).0 e))))
by_its_tree all_traces tree incomplete (Some log) h = absurd h
by_its_tree all_traces tree (rejected step clause) log h = absurd h
by_its_tree exists_trace tree verified None h = absurd h
by_its_tree exists_trace tree verified (Some log) h = refl
by_its_tree exists_trace tree falsified None h = sym (ap (by_leaves exists_trace) ((finished_decides tree).1 h))
by_its_tree exists_trace tree falsified (Some log) h = absurd h
by_its_tree exists_trace tree incomplete None h = sym (ap (by_leaves exists_trace) (false_from_ne_true (finished tree) (λ e. h ((finished_decides tree).0 e))))
by_its_tree exists_trace tree incomplete (Some log) h = absurd h
by_its_tree exists_trace tree (rejected step clause) log h = absurd h

-- and that of a tree that was read by its judgement
module _ (context : Context) (s : System) (k : Skeleton) where
  abbrev IsTold : TraceKind → Verdict → Option Log → Judgement → Type 0
  IsTold kind v log j = (v ≡ by_judgement kind j) × (log ≡ judged_log j)

  told : (kind : TraceKind) (v : Verdict) (log : Option Log) (j : Judgement) → judgement context s k ≡ j → IsTold kind v log j → IsTold kind v log (judgement context s k)
  told kind v log j e h = subst (IsTold kind v log) (sym e) h

  closed : (t : Tree) → tree_of k ≡ Some t → IsAccepted context s t → IsFinished t → judgement context s k ≡ judging.finished
  closed t is a h = (judgements_right.finishes context s k).1 (t, is, a, h)

  left : (t : Tree) → tree_of k ≡ Some t → IsAccepted context s t → None ≡ found_log context s t → (IsFinished t → ⊥) → judgement context s k ≡ judging.incomplete
  left t is a n h = (judgements_right.leaves_open context s k).1 (t, is, a, sym n, h)

  ended : (t : Tree) (log : Log) → tree_of k ≡ Some t → IsAccepted context s t → Some log ≡ found_log context s t → judgement context s k ≡ judging.found log
  ended t log is a n = (judgements_right.finds context s k log).1 (t, is, a, sym n)

  pub by_its_judgement : (kind : TraceKind) (v : Verdict) (log : Option Log) → IsVerdictIn context s k kind v log → IsTold kind v log (judgement context s k)
  by_its_judgement kind (rejected step clause) log (h, n) = told kind (rejected step clause) log _ ((judgements_right.rejects context s k step clause).1 h) (refl, n)
  by_its_judgement all_traces verified None (t, is, a, n, h) = told all_traces verified None _ (closed t is a h) (refl, refl)
  by_its_judgement all_traces verified (Some log) (t, is, a, n, h) = absurd h
  by_its_judgement all_traces falsified None (t, is, a, n, h) = absurd h
  by_its_judgement all_traces falsified (Some log) (t, is, a, n, h) = told all_traces falsified (Some log) _ (ended t log is a n) (refl, refl)
  by_its_judgement all_traces incomplete None (t, is, a, n, h) = told all_traces incomplete None _ (left t is a n h) (refl, refl)
  by_its_judgement all_traces incomplete (Some log) (t, is, a, n, h) = absurd h
  by_its_judgement exists_trace verified None (t, is, a, n, h) = absurd h
  by_its_judgement exists_trace verified (Some log) (t, is, a, n, h) = told exists_trace verified (Some log) _ (ended t log is a n) (refl, refl)
  by_its_judgement exists_trace falsified None (t, is, a, n, h) = told exists_trace falsified None _ (closed t is a h) (refl, refl)
  by_its_judgement exists_trace falsified (Some log) (t, is, a, n, h) = absurd h
  by_its_judgement exists_trace incomplete None (t, is, a, n, h) = told exists_trace incomplete None _ (left t is a n h) (refl, refl)
  by_its_judgement exists_trace incomplete (Some log) (t, is, a, n, h) = absurd h

-- ---- outcomes

abbrev made : Lemma → Tree → Option Log → Verdict → Outcome
made l t log v = record { lemma = l; tree = t; log = log; verdict = v }

same_outcome : (setting : Setting) (budget : ℕ) (taken : List Taken) (q : Stated) (o p : Outcome) → IsOutcome setting budget taken q o → IsOutcome setting budget taken q p → o ≡ p
same_outcome setting budget taken q o p h k =
    let forms : Some h.form ≡ Some k.form = sym h.form_is ∙ k.form_is in
    let form : h.form ≡ k.form = cc in
    let root : Guarded → Root = root_of setting q.attributes taken q.lemma.kind in
    let tree : o.tree ≡ p.tree = h.tree_is ∙ ap (λ (g : Guarded). proof_tree setting budget (root g)) form ∙ sym k.tree_is in
    let log : o.log ≡ p.log = h.log_is ∙ ap (λ (g : Guarded). grown_log setting budget (root g)) form ∙ sym k.log_is in
    let says : Says q.lemma.kind o.verdict p.log (IsFinished p.tree) =
    subst (λ (t : Tree). Says q.lemma.kind o.verdict p.log (IsFinished t)) tree (subst (λ (x : Option Log). Says q.lemma.kind o.verdict x (IsFinished o.tree)) log h.verdict_is) in
    let verdict = by_its_tree q.lemma.kind p.tree o.verdict p.log says ∙ sym (by_its_tree q.lemma.kind p.tree p.verdict p.log k.verdict_is) in
    ap₂ (λ (m : Lemma) (t : Tree). made m t o.log o.verdict) (h.lemma_is ∙ sym k.lemma_is) tree ∙ ap₂ (made p.lemma p.tree) log verdict

same_outcomes : (setting : Setting) (budget : ℕ) (taken : List Taken) (qs : List Stated) (os ps : List Outcome) → AreOutcomes setting budget taken qs os → AreOutcomes setting budget taken qs ps → os ≡ ps
same_outcomes setting budget taken [] [] [] h k = refl
same_outcomes setting budget taken [] [] (p ∷ ps) h k = absurd k
same_outcomes setting budget taken [] (o ∷ os) ps h k = absurd h
same_outcomes setting budget taken (q ∷ qs) [] ps h k = absurd h
same_outcomes setting budget taken (q ∷ qs) (o ∷ os) [] h k = absurd k
same_outcomes setting budget taken (q ∷ qs) (o ∷ os) (p ∷ ps) h k =
    let one : o ≡ p = same_outcome setting budget taken q o p h.0 k.0 in
    let later = subst (λ (x : Outcome). AreOutcomes setting budget (taken ++ taken_by q x.verdict) qs os) one h.1 in
    ap₂ (λ (x : Outcome) (xs : List Outcome). x ∷ xs) one (same_outcomes setting budget (taken ++ taken_by q p.verdict) qs os ps later k.1)

abbrev judged : Lemma → Root → Skeleton → Option Log → Verdict → Judged
judged l root k log v = record { lemma = l; root = root; proof = k; log = log; verdict = v }

same_judged : (setting : Setting) (taken : List Taken) (q : Stated) (i j : Judged) → IsJudged setting taken q i → IsJudged setting taken q j → i ≡ j
same_judged setting taken q i j h k =
    let forms : Some h.form ≡ Some k.form = sym h.form_is ∙ k.form_is in
    let form : h.form ≡ k.form = cc in
    let kind = q.lemma.kind in
    let root : i.root ≡ j.root = h.root_is ∙ ap (root_of setting q.attributes taken kind) form ∙ sym k.root_is in
    let proof : i.proof ≡ j.proof = h.proof_is ∙ sym k.proof_is in
    let moved : IsVerdictOn setting kind j.root j.proof i.verdict i.log =
    subst (λ (g : Root). IsVerdictOn setting kind g j.proof i.verdict i.log) root (subst (λ (x : Skeleton). IsVerdictOn setting kind i.root x i.verdict i.log) proof h.verdict_is) in
    let first = by_its_judgement (context_of setting j.root) (root_system j.root) j.proof kind i.verdict i.log moved in
    let second = by_its_judgement (context_of setting j.root) (root_system j.root) j.proof kind j.verdict j.log k.verdict_is in
    ap₂ (λ (m : Lemma) (g : Root). judged m g i.proof i.log i.verdict) (h.lemma_is ∙ sym k.lemma_is) root
    ∙ ap (λ (x : Skeleton). judged j.lemma j.root x i.log i.verdict) proof
    ∙ ap₂ (judged j.lemma j.root j.proof) (first.1 ∙ sym second.1) (first.0 ∙ sym second.0)

same_all_judged : (setting : Setting) (taken : List Taken) (qs : List Stated) (is js : List Judged) → AreJudged setting taken qs is → AreJudged setting taken qs js → is ≡ js
same_all_judged setting taken [] [] [] h k = refl
same_all_judged setting taken [] [] (j ∷ js) h k = absurd k
same_all_judged setting taken [] (i ∷ is) js h k = absurd h
same_all_judged setting taken (q ∷ qs) [] js h k = absurd h
same_all_judged setting taken (q ∷ qs) (i ∷ is) [] h k = absurd k
same_all_judged setting taken (q ∷ qs) (i ∷ is) (j ∷ js) h k =
    let one : i ≡ j = same_judged setting taken q i j h.0 k.0 in
    let later = subst (λ (x : Judged). AreJudged setting (taken ++ taken_by q x.verdict) qs is) one h.1 in
    ap₂ (λ (x : Judged) (xs : List Judged). x ∷ xs) one (same_all_judged setting (taken ++ taken_by q j.verdict) qs is js later k.1)

-- ---- answers

one_answer : (budget : ℕ) (chosen : Option (List ℕ)) (text written other : List ℕ) (outcomes others : List Outcome) → IsAnalysis budget chosen text written outcomes
    → IsAnalysis budget chosen text other others → (written ≡ other) × (outcomes ≡ others)
one_answer budget chosen text written other outcomes others a b =
    let theory = text_one a.poses.says b.poses.says in
    let qs : WrittenText → List Stated = λ t. stated_in (resolved t).items in
    let tried : AreOutcomes (setting_of b.theory) budget [] (run_among chosen (qs b.theory)) outcomes =
    subst (λ (t : WrittenText). AreOutcomes (setting_of t) budget [] (run_among chosen (qs t)) outcomes) theory a.outcomes_are in
    let same = same_outcomes (setting_of b.theory) budget [] (run_among chosen (qs b.theory)) outcomes others tried b.outcomes_are in
    let places = places_one (subst (λ (t : WrittenText). ArePlaces text t a.spans a.behind_end) theory a.places_are) b.places_are in
    let made : WrittenText → List Span → List Outcome → ℕ → List ℕ = λ t ps os end. analysed_text (theory_of (theory_in t)) text ps (placed chosen (qs t) (trees_of os)) os end in (
      a.written_is
          ∙ ap₂ (λ (ps : List Span) (os : List Outcome). made a.theory ps os a.behind_end) places.0 same
          ∙ ap (made a.theory b.spans others) places.1
          ∙ ap (λ (t : WrittenText). made t b.spans others b.behind_end) theory
          ∙ sym b.written_is,
      same,
    )

one_check : (chosen : Option (List ℕ)) (text written other : List ℕ) (js others : List Judged) → IsChecking chosen text written js → IsChecking chosen text other others → (written ≡ other) × (js ≡ others)
one_check chosen text written other js others a b =
    let theory = text_one a.poses.says b.poses.says in
    let qs : WrittenText → List Stated = λ t. run_among chosen (stated_in (resolved t).items) in
    let all : AreJudged (setting_of b.theory) [] (qs b.theory) js = subst (λ (t : WrittenText). AreJudged (setting_of t) [] (qs t) js) theory a.judged_are in
    let same = same_all_judged (setting_of b.theory) [] (qs b.theory) js others all b.judged_are in
    (a.written_is ∙ ap (checked_text (theory_of (theory_in a.theory))) same ∙ ap (λ (t : WrittenText). checked_text (theory_of (theory_in t)) others) theory ∙ sym b.written_is, same)

one_shown : (shows : Theory → List Outcome → List ℕ) (budget : ℕ) (chosen : Option (List ℕ)) (text written other : List ℕ) (verdicts others : List Verdict)
    → IsShown shows budget chosen text written verdicts → IsShown shows budget chosen text other others → (written ≡ other) × (verdicts ≡ others)
one_shown shows budget chosen text written other verdicts others a b =
    let theory = text_one a.analysis.poses.says b.analysis.poses.says in
    let same = (one_answer budget chosen text a.analysed b.analysed a.outcomes b.outcomes a.analysis b.analysis).1 in (
      a.written_is ∙ ap₂ (λ (t : WrittenText) (os : List Outcome). shows (theory_of (theory_in t)) os) theory same ∙ sym b.written_is,
      a.verdicts_are ∙ ap (map (λ (o : Outcome). o.verdict)) same ∙ sym b.verdicts_are,
    )

-- a text has the lemma that is named, or lacks it
not_both : (chosen : Option (List ℕ)) {text : List ℕ} {t : WrittenText} → Poses text t → has_lemma chosen (stated_in (resolved t).items) ≡ true → LacksLemma chosen text → ⊥
not_both chosen p h l =
    let theory = text_one p.says l.poses.says in
    true≢false (sym h ∙ ap (λ (t : WrittenText). has_lemma chosen (stated_in (resolved t).items)) theory ∙ l.lacks)

pub answers_are_one_lem : AnswersAreOne
answers_are_one_lem = record {
  one = one_answer;
  one_check = one_check;
  one_shown = one_shown;
  one_report = one_report;
  refused = λ text lines place h r. h.nothing.none r.theory r.says;
  no_analysis = λ budget chosen text written place outcomes h a. h.nothing.none a.theory a.poses.says;
  no_checking = λ chosen text written place js h c. h.nothing.none c.theory c.poses.says;
  no_showing = λ shows budget chosen text written place verdicts h s. h.nothing.none s.analysis.theory s.analysis.poses.says;
  not_analysed = λ budget chosen text lines written outcomes r a. not_posed r a.poses;
  not_checked = λ chosen text lines written js r c. not_posed r c.poses;
  not_shown = λ shows budget chosen text lines written verdicts r s. not_posed r s.analysis.poses;
  refused_or_lacking = λ chosen text place h l. h.nothing.none l.theory l.poses.says;
  reported_or_lacking = λ chosen text lines r l. not_posed r l.poses;
  analysed_or_lacking = λ budget chosen text written outcomes a l. not_both chosen a.poses a.has l;
  checked_or_lacking = λ chosen text written js c l. not_both chosen c.poses c.has l;
  shown_or_lacking = λ shows budget chosen text written verdicts s l. not_both chosen s.analysis.poses s.analysis.has l;
}
