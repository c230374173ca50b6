-- What is printed of the lemmas is what their outcomes say.
use Rattle.std.proofs.Common.{◌≡◌, ◌+◌, arith, ℕ, Bool, true, false, if◌then◌else◌, List, [], ◌∷◌, ◌++◌, map, codes, Option, Some, None, option_map, Result, Ok, Err, IfOk, refl, sym, ap, ap₂, ◌∙◌, subst, true≢false}
use Rattle.sp_spec.specs.Lists.{Every}
use Rattle.sp_spec.specs.Rule.{Rule}
use Rattle.sp_spec.specs.Signature.{Signature}
use Rattle.sp_spec.specs.Theory.{TraceKind, all_traces, exists_trace, Theory}
use Rattle.sp_spec.specs.Written.{theory_of}
use Rattle.sp_spec.specs.Verdict.{names_learning}
use Rattle.sp_spec.specs.Log.{Log}
use Rattle.sp_spec.specs.Guarded.{Guarded}
use Rattle.sp_law_guard.specs.CheckedForm.{checked_form}
use Rattle.sp_read_parts.specs.Formulas.{formula}
use Rattle.sp_spec_system.specs.System.{System}
use Rattle.sp_spec_system.specs.Move.{Context, Root, root_system}
use Rattle.sp_spec_proof.specs.Tree.{Tree, IsAccepted, IsFinished, found_log, steps}
use Rattle.sp_spec_proof.proofs.TreeLogs.{no_log, finished_no_end}
use Rattle.sp_search.specs.Finished.{finished}
use Rattle.sp_search.proofs.Finished.{finished_decides}
use Rattle.sp_check.specs.Judging as judging
use Rattle.sp_check.specs.Judging.{Judgement, judgement}
use Rattle.sp_check.specs.Skeleton as read
use Rattle.sp_check.specs.Skeleton.{Skeleton, tree_of}
use Rattle.sp_check.proofs.Right.{judgements_right}
use Rattle.sp_spec.specs.Constants.{constants_of}
use Rattle.sp_term.specs.View.{name_of}
use Rattle.sp_fact.specs.View.{rule_of}
use Rattle.sp_spec_forms.specs.Forms.{RuleForms, forms_of}
use Rattle.sp_fact.specs.GroundView.{signature_of}
use Rattle.sp_skel.specs.Places.{HavePlaces}
use Rattle.sp_skel.specs.TreeText.{tree_text}
use Rattle.sp_spec_text.specs.Written.{Attribute, WrittenText}
use Rattle.sp_spec_text.specs.Declared.{resolved, theory_in}
use Rattle.sp_written.specs.Views as view
use Rattle.sp_written.specs.declared.theory.Item.{Item}
use Rattle.sp_written.specs.declared.theory.Item.TheVariants as i
use Rattle.sp_spec_text.specs.Spans.{Span, Rise, goes_on}
use Rattle.sp_written.specs.declared.theory.WrittenLemma.{WrittenLemma}
use Rattle.sp_law_reread.specs.Again.{between, replaced}
use Rattle.sp_pose.proofs.Forms.{AreForms, asked_list, HasForms, has_forms, required_forms}
use Rattle.sp_pose.specs.Required.{Required, required_of}
use Rattle.sp_analysis.specs.Taken.{Stated, stated_in, Taken, gives, form_taken, taken_by}
use Rattle.sp_analysis.specs.Chosen.{is_run, is_among, has_lemma, run_among, placed, next_tree, later_trees}
use Rattle.sp_analysis.specs.Sought.{Setting, setting_by, setting_of, executed, given, context_of, proof_tree, grown_log}
use Rattle.sp_spec_printed.specs.Verdict.{Verdict, Says}
use Rattle.sp_analysis.specs.Found.{block_by, IsNumberedBy}
use Rattle.sp_spec_text.specs.Numerals.{counted}
use Rattle.sp_analysis.specs.Analysis.{Outcome, summary_by, trees_of, IsOutcome, AreOutcomes, IsAnalysis}
use Rattle.sp_analysis.specs.Shown.{graphs_by, graphs, counts_by, all_steps, counts}
use Rattle.sp_analysis.specs.Checking.{proof_read, IsVerdictIn, Judged, checked_by, IsJudged, AreJudged}
use Rattle.sp_pose.specs.Asked.{Asked, asked_of, asked_with, lemmas_read}
use Rattle.sp_analysis.specs.Printed.{Printed, printed_of, by_tree, by_judgement, judged_log, root_for, judged_so, Graphing, graphing, print_by, to_print, taken_from, asked_run, all_print_by, all_to_print, AreNameableBy, AreNameable, line_of, lines, spliced, text_with, verdicts_in, steps_in, graphs_in, counts_in, written_by}
use Rattle.sp_analysis.specs.View.{verdict_of}
use Rattle.sp_pose.specs.Posed.{IsPosedBy}
use Rattle.sp_analysis.specs.Replies.{IsAnalysed, IsChecked, IsShown, LacksLemma, IsDone, IsAnswered}
use Rattle.sp_analysis.proofs.Running.{rise_behind}
use Rattle.sp_analysis.proofs.ReadRun.{read_run, forms_run, are_formed, listed_run, names_listed}
use Rattle.sp_pose.specs.declared.problem.Problem.{Problem}
use Rattle.sp_analysis.specs.declared.replies.Answered.{Answered}
use Rattle.sp_analysis.specs.declared.replies.Command.{Command}
use Rattle.sp_analysis.specs.declared.replies.Command.TheVariants.{Prove, Check, Graph, Count}
use Rattle.sp_analysis.specs.declared.tried.Tried.{Tried}
use Rattle.sp_analysis.specs.declared.verdict.Verdict as memory

-- ---- where proofs stand

abbrev spans_of : List WrittenLemma → List Span
spans_of ls = map (λ (l : WrittenLemma). view.span_of l.span) ls

spans_read : (xs : List Item) → view.spans xs ≡ spans_of (lemmas_read xs)
spans_read [] = refl
spans_read (i.Builtins b ∷ xs) = spans_read xs
spans_read (i.Functions f ∷ xs) = spans_read xs
spans_read (i.Equations e ∷ xs) = spans_read xs
spans_read (i.Heuristic ws ∷ xs) = spans_read xs
spans_read (i.Block w ∷ xs) = spans_read xs
spans_read (i.Rule r ∷ xs) = spans_read xs
spans_read (i.Restriction r ∷ xs) = spans_read xs
spans_read (i.Lemma l ∷ xs) = ap (λ (ss : List Span). view.span_of l.span ∷ ss) (spans_read xs)

abbrev printed_spans : List Printed → List Span
printed_spans ps = map (λ (p : Printed). p.span) ps

-- what is taken behind a lemma that was read
abbrev then_taken : Command → Setting → List Taken → WrittenLemma → Guarded → List Taken
then_taken command setting taken l g = taken ++ taken_from (asked_with l g) (to_print command setting taken (asked_with l g))

span_to_print : (command : Command) (setting : Setting) (taken : List Taken) (l : WrittenLemma) (g : Guarded) → (to_print command setting taken (asked_with l g)).span ≡ view.span_of l.span
span_to_print (Prove budget) setting taken l g = refl
span_to_print Check setting taken l g = refl
span_to_print (Graph budget) setting taken l g = refl
span_to_print (Count budget) setting taken l g = refl

spans_to_print : (command : Command) (setting : Setting) (taken : List Taken) (ls : List WrittenLemma) (gs : List Guarded) → AreForms ls gs
    → printed_spans (all_to_print command setting taken (asked_list ls gs)) ≡ spans_of ls
spans_to_print command setting taken [] [] h = refl
spans_to_print command setting taken [] (g ∷ gs) h = absurd h
spans_to_print command setting taken (l ∷ ls) [] h = absurd h
spans_to_print command setting taken (l ∷ ls) (g ∷ gs) h =
    ap₂ (λ (s : Span) (ss : List Span). s ∷ ss) (span_to_print command setting taken l g) (spans_to_print command setting (then_taken command setting taken l g) ls gs h.1)

tried_spans : (ts : List Tried) → printed_spans (map printed_of ts) ≡ map (λ (t : Tried). view.span_of t.span) ts
tried_spans [] = refl
tried_spans (t ∷ ts) = ap (λ (ss : List Span). view.span_of t.span ∷ ss) (tried_spans ts)

tried_verdicts : (ts : List Tried) → verdicts_in (map printed_of ts) ≡ map verdict_of (map (λ (t : Tried). t.verdict) ts)
tried_verdicts [] = refl
tried_verdicts (t ∷ ts) = ap (λ (vs : List Verdict). verdict_of t.verdict ∷ vs) (tried_verdicts ts)

one_rises : (text : List ℕ) (low : ℕ) (l : WrittenLemma) (ls run : List WrittenLemma) (end : ℕ) (b : Bool) → Rise text low (spans_of (l ∷ ls)) end
    → Rise text (goes_on text (view.span_of l.span)) (spans_of run) end → Rise text low (spans_of (if b then l ∷ run else run)) end
one_rises text low l ls run end true h k = (h.0, h.1, k)
one_rises text low l ls run end false h k = rise_behind text low (view.span_of l.span) (spans_of run) end h.0 h.1 k

-- so do the places of those that are run
rise_run : (chosen : Option (List ℕ)) (text : List ℕ) (low : ℕ) (ls : List WrittenLemma) (end : ℕ) → Rise text low (spans_of ls) end → Rise text low (spans_of (read_run chosen ls)) end
rise_run chosen text low [] end h = h
rise_run chosen text low (l ∷ ls) end h =
    one_rises text low l ls (read_run chosen ls) end (is_run chosen l.name.now) h (rise_run chosen text (goes_on text (view.span_of l.span)) ls end h.2)

-- what is asked of the lemmas that are run
asked_again : (chosen : Option (List ℕ)) (ls : List WrittenLemma) (as' : List Asked) (h : HasForms ls as') → asked_run chosen as' ≡ asked_list (read_run chosen ls) (forms_run chosen ls h.forms)
asked_again chosen ls as' h = ap (asked_run chosen) h.is ∙ listed_run chosen ls h.forms h.are

-- the proofs are put where they stand
pub rise_tried : {text : List ℕ} (command : Command) (chosen : Option (List ℕ)) (setting : Setting) (p : Problem) (ts : List Tried) → IsPosedBy text p
    → map printed_of ts ≡ all_to_print command setting [] (asked_run chosen (map asked_of p.lemmas.items)) → Rise text 0 (map (λ (t : Tried). view.span_of t.span) ts) p.behind_end
rise_tried {text} command chosen setting p ts posed prints =
    let xs = posed.theory.items.items in
    let ls = lemmas_read xs in
    let h = has_forms ls (map asked_of p.lemmas.items) posed.lemmas_are in
    let run = read_run chosen ls in
    let forms = forms_run chosen ls h.forms in
    let same : spans_of run ≡ map (λ (t : Tried). view.span_of t.span) ts =
    sym (spans_to_print command setting [] run forms (are_formed chosen ls h.forms h.are))
    ∙ ap (λ (as' : List Asked). printed_spans (all_to_print command setting [] as')) (sym (asked_again chosen ls (map asked_of p.lemmas.items) h))
    ∙ ap printed_spans (sym prints) ∙ tried_spans ts in
    subst (λ (ss : List Span). Rise text 0 ss p.behind_end) same
    (rise_run chosen text 0 ls p.behind_end (subst (λ (ss : List Span). Rise text 0 ss p.behind_end) (spans_read xs) posed.rise))

-- ---- lemmas that are tried

-- what a proof of a lemma begins from
abbrev root_in : Setting → List Taken → WrittenLemma → Guarded → Root
root_in setting taken l g = root_for setting taken (asked_with l g)

abbrev outcome_of : Setting → ℕ → List Taken → WrittenLemma → Guarded → Outcome
outcome_of setting budget taken l g = record {
  lemma = view.lemma l;
  tree = proof_tree setting budget (root_in setting taken l g);
  log = grown_log setting budget (root_in setting taken l g);
  verdict = by_tree (view.kind l.kind) (grown_log setting budget (root_in setting taken l g)) (finished (proof_tree setting budget (root_in setting taken l g)));
}

abbrev outcomes_of : Setting → ℕ → List Taken → List WrittenLemma → List Guarded → List Outcome
outcomes_of setting budget taken (l ∷ ls) (g ∷ gs) = outcome_of setting budget taken l g ∷ outcomes_of setting budget (then_taken (Prove budget) setting taken l g) ls gs
outcomes_of setting budget taken ls gs = []

-- a lemma that was read, as the text states it
abbrev stated_of : WrittenLemma → Stated
stated_of l = record { lemma = view.lemma l; attributes = view.attributes l.attributes.items; proof = option_map view.proof l.proof }

stated_same : (xs : List Item) → stated_in (view.items xs) ≡ map stated_of (lemmas_read xs)
stated_same [] = refl
stated_same (i.Builtins b ∷ xs) = stated_same xs
stated_same (i.Functions f ∷ xs) = stated_same xs
stated_same (i.Equations e ∷ xs) = stated_same xs
stated_same (i.Heuristic ws ∷ xs) = stated_same xs
stated_same (i.Block w ∷ xs) = stated_same xs
stated_same (i.Rule r ∷ xs) = stated_same xs
stated_same (i.Restriction r ∷ xs) = stated_same xs
stated_same (i.Lemma l ∷ xs) = ap (λ (qs : List Stated). stated_of l ∷ qs) (stated_same xs)

stated_said : {text : List ℕ} (p : Problem) (posed : IsPosedBy text p) → stated_in (resolved posed.said).items ≡ map stated_of (lemmas_read posed.theory.items.items)
stated_said p posed = ap (λ (t : WrittenText). stated_in t.items) (sym posed.resolved_is) ∙ stated_same posed.theory.items.items

one_stated : (l : WrittenLemma) (ls : List WrittenLemma) (qs : List Stated) (b : Bool) → qs ≡ map stated_of ls → (if b then stated_of l ∷ qs else qs) ≡ map stated_of (if b then l ∷ ls else ls)
one_stated l ls qs true e = ap (λ (rest : List Stated). stated_of l ∷ rest) e
one_stated l ls qs false e = e

-- those that are run, as the text states them
stated_run : (chosen : Option (List ℕ)) (ls : List WrittenLemma) → run_among chosen (map stated_of ls) ≡ map stated_of (read_run chosen ls)
stated_run chosen [] = refl
stated_run chosen (l ∷ ls) = one_stated l (read_run chosen ls) (run_among chosen (map stated_of ls)) (is_run chosen l.name.now) (stated_run chosen ls)

run_said : {text : List ℕ} (chosen : Option (List ℕ)) (p : Problem) (posed : IsPosedBy text p)
    → run_among chosen (stated_in (resolved posed.said).items) ≡ map stated_of (read_run chosen (lemmas_read posed.theory.items.items))
run_said chosen p posed = ap (run_among chosen) (stated_said p posed) ∙ stated_run chosen (lemmas_read posed.theory.items.items)

names_stated : (ls : List WrittenLemma) → map (λ (q : Stated). q.lemma.name) (map stated_of ls) ≡ map (λ (l : WrittenLemma). l.name.now) ls
names_stated [] = refl
names_stated (l ∷ ls) = ap (λ (names : List (List ℕ)). l.name.now ∷ names) (names_stated ls)

-- the problem has the lemmas that the text has
pub has_same : {text : List ℕ} (chosen : Option (List ℕ)) (p : Problem) (posed : IsPosedBy text p)
    → is_among chosen (map (λ (a : Asked). a.name) (map asked_of p.lemmas.items)) ≡ has_lemma chosen (stated_in (resolved posed.said).items)
has_same chosen p posed =
    let ls = lemmas_read posed.theory.items.items in
    let h = has_forms ls (map asked_of p.lemmas.items) posed.lemmas_are in
    ap (is_among chosen) (ap (map (λ (a : Asked). a.name)) h.is ∙ names_listed ls h.forms h.are ∙ sym (names_stated ls))
    ∙ ap (has_lemma chosen) (sym (stated_said p posed))

-- it gives what is taken of it
given_same : (l : WrittenLemma) (g : Guarded) → checked_form (formula l.formula) ≡ Some g → (p : Printed) → taken_from (asked_with l g) p ≡ taken_by (stated_of l) p.verdict
given_same l g e p = sym (ap (form_taken (gives (view.kind l.kind) p.verdict (view.attributes l.attributes.items)) l.name.now) e)

verdict_right : (kind : TraceKind) (tree : Tree) (log : Option Log) (b : Bool) → (b ≡ true → IsFinished tree) → (IsFinished tree → b ≡ true)
    → Says kind (by_tree kind log b) log (IsFinished tree)
verdict_right all_traces tree (Some log) b h k = tt
verdict_right exists_trace tree (Some log) b h k = tt
verdict_right all_traces tree None true h k = h refl
verdict_right exists_trace tree None true h k = h refl
verdict_right all_traces tree None false h k = λ f. true≢false (sym (k f))
verdict_right exists_trace tree None false h k = λ f. true≢false (sym (k f))

outcome_right : (setting : Setting) (budget : ℕ) (taken : List Taken) (l : WrittenLemma) (g : Guarded) → checked_form (formula l.formula) ≡ Some g
    → IsOutcome setting budget taken (stated_of l) (outcome_of setting budget taken l g)
outcome_right setting budget taken l g e =
    let tree = proof_tree setting budget (root_in setting taken l g) in
    let d = finished_decides tree in
    record {
      lemma_is = refl;
      form = g;
      form_is = e;
      tree_is = refl;
      log_is = refl;
      verdict_is = verdict_right (view.kind l.kind) tree (grown_log setting budget (root_in setting taken l g)) (finished tree) d.0 d.1;
    }

outcomes_right : (setting : Setting) (budget : ℕ) (taken : List Taken) (ls : List WrittenLemma) (gs : List Guarded) → AreForms ls gs
    → AreOutcomes setting budget taken (map stated_of ls) (outcomes_of setting budget taken ls gs)
outcomes_right setting budget taken [] [] h = tt
outcomes_right setting budget taken [] (g ∷ gs) h = absurd h
outcomes_right setting budget taken (l ∷ ls) [] h = absurd h
outcomes_right setting budget taken (l ∷ ls) (g ∷ gs) h =
    let later = then_taken (Prove budget) setting taken l g in (
      outcome_right setting budget taken l g h.0,
      subst (λ (more : List Taken). AreOutcomes setting budget (taken ++ more) (map stated_of ls) (outcomes_of setting budget later ls gs))
          (given_same l g h.0 (to_print (Prove budget) setting taken (asked_with l g))) (outcomes_right setting budget later ls gs h.1),
    )

module _ (graph : Graphing) (chosen : Option (List ℕ)) (setting : Setting) (budget : ℕ) (text : List ℕ) (end : ℕ) where
  -- what is to be printed from a place on, of lemmas that are run
  abbrev to_splice : List Taken → ℕ → List WrittenLemma → List Guarded → List ℕ
  to_splice taken start run forms = spliced text start (all_print_by (Some budget) graph setting taken (asked_list run forms)) end

  -- their trees
  abbrev trees_run : List Taken → List WrittenLemma → List Guarded → List Tree
  trees_run taken run forms = trees_of (outcomes_of setting budget taken run forms)

  one_spliced : (taken : List Taken) (start : ℕ) (l : WrittenLemma) (g : Guarded) (ls run : List WrittenLemma) (forms : List Guarded) (b : Bool)
      → to_splice (then_taken (Prove budget) setting taken l g) (goes_on text (view.span_of l.span)) run forms
      ≡ replaced text (goes_on text (view.span_of l.span)) (spans_of ls) (placed chosen (map stated_of ls) (trees_run (then_taken (Prove budget) setting taken l g) run forms)) end
      → to_splice taken start run forms ≡ replaced text start (spans_of ls) (placed chosen (map stated_of ls) (trees_run taken run forms)) end
      → let trees = trees_run taken (if b then l ∷ run else run) (if b then g ∷ forms else forms) in
      to_splice taken start (if b then l ∷ run else run) (if b then g ∷ forms else forms)
      ≡ replaced text start (spans_of (l ∷ ls)) (if b then next_tree trees ∷ placed chosen (map stated_of ls) (later_trees trees) else None ∷ placed chosen (map stated_of ls) trees) end
  one_spliced taken start l g ls run forms true put kept =
      ap (λ (rest : List ℕ). between start l.span.from text ++ (codes "\n" ++ (tree_text 0 (proof_tree setting budget (root_in setting taken l g)) ++ rest))) put
  one_spliced taken start l g ls run forms false put kept = kept

  -- the proofs that were grown stand in the places of the lemmas that are run
  proofs_same : (taken : List Taken) (start : ℕ) (ls : List WrittenLemma) (gs : List Guarded) → AreForms ls gs
      → to_splice taken start (read_run chosen ls) (forms_run chosen ls gs)
      ≡ replaced text start (spans_of ls) (placed chosen (map stated_of ls) (trees_run taken (read_run chosen ls) (forms_run chosen ls gs))) end
  proofs_same taken start [] [] h = refl
  proofs_same taken start [] (g ∷ gs) h = absurd h
  proofs_same taken start (l ∷ ls) [] h = absurd h
  proofs_same taken start (l ∷ ls) (g ∷ gs) h =
      one_spliced taken start l g ls (read_run chosen ls) (forms_run chosen ls gs) (is_run chosen l.name.now)
      (proofs_same (then_taken (Prove budget) setting taken l g) (goes_on text (view.span_of l.span)) ls gs h.1) (proofs_same taken start ls gs h.1)

lines_same : (graph : Graphing) (setting : Setting) (budget : ℕ) (taken : List Taken) (ls : List WrittenLemma) (gs : List Guarded)
    → lines (all_print_by (Some budget) graph setting taken (asked_list ls gs)) ≡ summary_by (executed setting) (given setting) (outcomes_of setting budget taken ls gs)
lines_same graph setting budget taken [] gs = refl
lines_same graph setting budget taken (l ∷ ls) [] = refl
lines_same graph setting budget taken (l ∷ ls) (g ∷ gs) =
    let p = print_by (Some budget) graph setting taken (asked_with l g) in
    ap (λ (rest : List ℕ). line_of p ++ (p.block ++ rest)) (lines_same graph setting budget (then_taken (Prove budget) setting taken l g) ls gs)

verdicts_same : (graph : Graphing) (setting : Setting) (budget : ℕ) (taken : List Taken) (ls : List WrittenLemma) (gs : List Guarded)
    → verdicts_in (all_print_by (Some budget) graph setting taken (asked_list ls gs)) ≡ map (λ (o : Outcome). o.verdict) (outcomes_of setting budget taken ls gs)
verdicts_same graph setting budget taken [] gs = refl
verdicts_same graph setting budget taken (l ∷ ls) [] = refl
verdicts_same graph setting budget taken (l ∷ ls) (g ∷ gs) =
    ap (λ (vs : List Verdict). (outcome_of setting budget taken l g).verdict ∷ vs) (verdicts_same graph setting budget (then_taken (Prove budget) setting taken l g) ls gs)

-- their graphs, and how many moves their proofs have
graphs_same : (setting : Setting) (budget : ℕ) (taken : List Taken) (ls : List WrittenLemma) (gs : List Guarded)
    → graphs_in (all_to_print (Graph budget) setting taken (asked_list ls gs)) ≡ graphs_by (given setting) (outcomes_of setting budget taken ls gs)
graphs_same setting budget taken [] gs = refl
graphs_same setting budget taken (l ∷ ls) [] = refl
graphs_same setting budget taken (l ∷ ls) (g ∷ gs) =
    ap (λ (rest : List ℕ). (to_print (Graph budget) setting taken (asked_with l g)).graph ++ rest) (graphs_same setting budget (then_taken (Graph budget) setting taken l g) ls gs)

-- a count of counted numbers is that of the numbers
counted_more : (n m k : ℕ) → counted m ≡ counted k → counted (counted n + m) ≡ counted (n + k)
counted_more n m k e = omega (arith, e)

steps_same : (graph : Graphing) (setting : Setting) (budget : ℕ) (taken : List Taken) (ls : List WrittenLemma) (gs : List Guarded)
    → counted (steps_in (all_print_by (Some budget) graph setting taken (asked_list ls gs))) ≡ counted (all_steps (outcomes_of setting budget taken ls gs))
steps_same graph setting budget taken [] gs = refl
steps_same graph setting budget taken (l ∷ ls) [] = refl
steps_same graph setting budget taken (l ∷ ls) (g ∷ gs) =
    let later = then_taken (Prove budget) setting taken l g in
    counted_more (steps (proof_tree setting budget (root_in setting taken l g))) (steps_in (all_print_by (Some budget) graph setting later (asked_list ls gs)))
    (all_steps (outcomes_of setting budget later ls gs)) (steps_same graph setting budget later ls gs)

outcomes_placed : (graph : Graphing) (setting : Setting) (budget : ℕ) (taken : List Taken) (ls : List WrittenLemma) (gs : List Guarded) → AreNameableBy (Some budget) graph setting taken (asked_list ls gs)
    → Every (λ (o : Outcome). HavePlaces o.tree) (outcomes_of setting budget taken ls gs)
outcomes_placed graph setting budget taken [] gs h = tt
outcomes_placed graph setting budget taken (l ∷ ls) [] h = tt
outcomes_placed graph setting budget taken (l ∷ ls) (g ∷ gs) h = (h.0.0, outcomes_placed graph setting budget (then_taken (Prove budget) setting taken l g) ls gs h.1)

outcomes_numbered : (graph : Graphing) (setting : Setting) (budget : ℕ) (taken : List Taken) (ls : List WrittenLemma) (gs : List Guarded)
    → AreNameableBy (Some budget) graph setting taken (asked_list ls gs) → Every (λ (o : Outcome). IsNumberedBy (executed setting) (given setting) (names_learning o.lemma.formula) o.log) (outcomes_of setting budget taken ls gs)
outcomes_numbered graph setting budget taken [] gs h = tt
outcomes_numbered graph setting budget taken (l ∷ ls) [] h = tt
outcomes_numbered graph setting budget taken (l ∷ ls) (g ∷ gs) h = (h.0.1, outcomes_numbered graph setting budget (then_taken (Prove budget) setting taken l g) ls gs h.1)

-- ---- lemmas whose proofs are checked

abbrev judged_by : Setting → List Taken → WrittenLemma → Guarded → Judgement
judged_by setting taken l g = judged_so setting (root_in setting taken l g) (option_map view.proof l.proof)

abbrev judged_of : Setting → List Taken → WrittenLemma → Guarded → Judged
judged_of setting taken l g = record {
  lemma = view.lemma l;
  root = root_in setting taken l g;
  proof = proof_read (option_map view.proof l.proof);
  log = judged_log (judged_by setting taken l g);
  verdict = by_judgement (view.kind l.kind) (judged_by setting taken l g);
}

abbrev all_judged : Setting → List Taken → List WrittenLemma → List Guarded → List Judged
all_judged setting taken (l ∷ ls) (g ∷ gs) = judged_of setting taken l g ∷ all_judged setting (then_taken Check setting taken l g) ls gs
all_judged setting taken ls gs = []

module _ (context : Context) (s : System) (k : Skeleton) where
  -- of an accepted tree without a log
  closes : judgement context s k ≡ judging.finished → (t : Tree) × (tree_of k ≡ Some t) × IsAccepted context s t × (None ≡ found_log context s t) × IsFinished t
  closes e = let r = (judgements_right.finishes context s k).0 e in (r.0, r.1, r.2, sym (no_log context r.0 s (finished_no_end r.0 r.3)), r.3)

  leaves : judgement context s k ≡ judging.incomplete → (t : Tree) × (tree_of k ≡ Some t) × IsAccepted context s t × (None ≡ found_log context s t) × (IsFinished t → ⊥)
  leaves e = let r = (judgements_right.leaves_open context s k).0 e in (r.0, r.1, r.2, sym r.3, r.4)

  ends : (log : Log) → judgement context s k ≡ judging.found log → (t : Tree) × (tree_of k ≡ Some t) × IsAccepted context s t × (Some log ≡ found_log context s t) × Unit {0}
  ends log e = let r = (judgements_right.finds context s k log).0 e in (r.0, r.1, r.2, sym r.3, tt)

  verdict_on : (kind : TraceKind) (j : Judgement) → judgement context s k ≡ j → IsVerdictIn context s k kind (by_judgement kind j) (judged_log j)
  verdict_on kind (judging.rejected step clause) e = ((judgements_right.rejects context s k step clause).0 e, refl)
  verdict_on all_traces (judging.found log) e = ends log e
  verdict_on all_traces judging.finished e = closes e
  verdict_on all_traces judging.incomplete e = leaves e
  verdict_on exists_trace (judging.found log) e = ends log e
  verdict_on exists_trace judging.finished e = closes e
  verdict_on exists_trace judging.incomplete e = leaves e

judged_right : (setting : Setting) (taken : List Taken) (l : WrittenLemma) (g : Guarded) → checked_form (formula l.formula) ≡ Some g
    → IsJudged setting taken (stated_of l) (judged_of setting taken l g)
judged_right setting taken l g e = record {
  lemma_is = refl;
  proof_is = refl;
  form = g;
  form_is = e;
  root_is = refl;
  verdict_is = verdict_on (context_of setting (root_in setting taken l g)) (root_system (root_in setting taken l g)) (proof_read (option_map view.proof l.proof)) (view.kind l.kind)
      (judged_by setting taken l g) refl;
}

all_judged_right : (setting : Setting) (taken : List Taken) (ls : List WrittenLemma) (gs : List Guarded) → AreForms ls gs
    → AreJudged setting taken (map stated_of ls) (all_judged setting taken ls gs)
all_judged_right setting taken [] [] h = tt
all_judged_right setting taken [] (g ∷ gs) h = absurd h
all_judged_right setting taken (l ∷ ls) [] h = absurd h
all_judged_right setting taken (l ∷ ls) (g ∷ gs) h =
    let later = then_taken Check setting taken l g in (
      judged_right setting taken l g h.0,
      subst (λ (more : List Taken). AreJudged setting (taken ++ more) (map stated_of ls) (all_judged setting later ls gs))
          (given_same l g h.0 (to_print Check setting taken (asked_with l g))) (all_judged_right setting later ls gs h.1),
    )

checked_same : (setting : Setting) (taken : List Taken) (ls : List WrittenLemma) (gs : List Guarded)
    → lines (all_to_print Check setting taken (asked_list ls gs)) ≡ checked_by (executed setting) (given setting) (all_judged setting taken ls gs)
checked_same setting taken [] gs = refl
checked_same setting taken (l ∷ ls) [] = refl
checked_same setting taken (l ∷ ls) (g ∷ gs) =
    let p = to_print Check setting taken (asked_with l g) in
    ap (λ (rest : List ℕ). line_of p ++ (p.block ++ rest)) (checked_same setting (then_taken Check setting taken l g) ls gs)

judged_numbered : (setting : Setting) (taken : List Taken) (ls : List WrittenLemma) (gs : List Guarded) → AreNameable Check setting taken (asked_list ls gs)
    → Every (λ (j : Judged). IsNumberedBy (executed setting) (given setting) (names_learning j.lemma.formula) j.log) (all_judged setting taken ls gs)
judged_numbered setting taken [] gs h = tt
judged_numbered setting taken (l ∷ ls) [] h = tt
judged_numbered setting taken (l ∷ ls) (g ∷ gs) h = (h.0, judged_numbered setting (then_taken Check setting taken l g) ls gs h.1)

judged_verdicts : (setting : Setting) (taken : List Taken) (ls : List WrittenLemma) (gs : List Guarded)
    → verdicts_in (all_to_print Check setting taken (asked_list ls gs)) ≡ map (λ (j : Judged). j.verdict) (all_judged setting taken ls gs)
judged_verdicts setting taken [] gs = refl
judged_verdicts setting taken (l ∷ ls) [] = refl
judged_verdicts setting taken (l ∷ ls) (g ∷ gs) =
    ap (λ (vs : List Verdict). (judged_of setting taken l g).verdict ∷ vs) (judged_verdicts setting (then_taken Check setting taken l g) ls gs)

-- ---- what has been written is what is to be written

abbrev verdicts_of : List Tried → List memory.Verdict
verdicts_of ts = map (λ (t : Tried). t.verdict) ts

-- what the proofs of a problem have in common
abbrev setting_made : Signature → List Rule → List (List ℕ) → List Guarded → List Attribute → Setting
setting_made signature rules constants restrictions ranking = record {
  signature = signature;
  forms = map (forms_of signature.equations) rules;
  constants = constants;
  restrictions = restrictions;
  ranking = ranking;
}

abbrev forms_required : List Required → List Guarded
forms_required qs = map (λ (q : Required). q.form) qs

abbrev pub setting_for : Problem → Setting
setting_for p =
    setting_made (signature_of p.signature) (map rule_of p.rules.items) (map name_of p.constants.items) (forms_required (map required_of p.restrictions.items)) (view.attributes p.ranking.items)

-- with these forms of its rules and its restrictions
abbrev pub setting_with : Problem → List RuleForms → List Guarded → Setting
setting_with p forms restrictions = record { signature = signature_of p.signature; forms = forms; constants = map name_of p.constants.items; restrictions = restrictions; ranking = view.attributes p.ranking.items }

setting_is : {text : List ℕ} (p : Problem) (posed : IsPosedBy text p) → setting_for p ≡ setting_of posed.said
setting_is p posed =
    ap₂ (λ (rules : List Rule) (constants : List (List ℕ)). setting_made (signature_of p.signature) rules constants (forms_required (map required_of p.restrictions.items)) (view.attributes p.ranking.items))
    posed.rules_are posed.constants_are
    ∙ ap₂ (λ (x : Signature) (restrictions : List Guarded). setting_made x (theory_of (theory_in posed.said)).rules (constants_of (theory_in posed.said)) restrictions (view.attributes p.ranking.items)) posed.signature_is
    (ap forms_required posed.restrictions_are ∙ required_forms (theory_in posed.said).restrictions)
    ∙ ap (setting_by (theory_in posed.said)) posed.ranking_is

module _ {text : List ℕ} (chosen : Option (List ℕ)) (p : Problem) (ts : List Tried) (written : List ℕ) (verdicts : List memory.Verdict) (posed : IsPosedBy text p)
    (has : is_among chosen (map (λ (a : Asked). a.name) (map asked_of p.lemmas.items)) ≡ true) where
  abbrev asked : List Asked
  asked = asked_run chosen (map asked_of p.lemmas.items)

  abbrev all_read : List WrittenLemma
  all_read = lemmas_read posed.theory.items.items

  abbrev has_read : HasForms all_read (map asked_of p.lemmas.items)
  has_read = has_forms all_read (map asked_of p.lemmas.items) posed.lemmas_are

  -- those that are run
  abbrev run : List WrittenLemma
  run = read_run chosen all_read

  abbrev forms : List Guarded
  forms = forms_run chosen all_read has_read.forms

  again : asked ≡ asked_list run forms
  again = asked_again chosen all_read (map asked_of p.lemmas.items) has_read

  -- by a command that grows proofs
  module _ (graph : Graphing) (budget : ℕ) (prints : map printed_of ts ≡ all_print_by (Some budget) graph (setting_for p) [] asked)
      (nameable : AreNameableBy (Some budget) graph (setting_for p) [] asked) (verdicts_are : verdicts ≡ verdicts_of ts) where
    abbrev outcomes : List Outcome
    outcomes = outcomes_of (setting_for p) budget [] run forms

    all_grown : map printed_of ts ≡ all_print_by (Some budget) graph (setting_for p) [] (asked_list run forms)
    all_grown = prints ∙ ap (all_print_by (Some budget) graph (setting_for p) []) again

    said_of_them : map verdict_of verdicts ≡ map (λ (o : Outcome). o.verdict) outcomes
    said_of_them = ap (map verdict_of) verdicts_are ∙ sym (tried_verdicts ts) ∙ ap verdicts_in all_grown ∙ verdicts_same graph (setting_for p) budget [] run forms

    abbrev analysis_of : (w : List ℕ) → w ≡ text_with text (map printed_of ts) p.behind_end → IsAnalysis budget chosen text w outcomes
    analysis_of w written_is =
        let xs = posed.theory.items.items in
        let qs = stated_in (resolved posed.said).items in
        let setting = setting_for p in
        let same = setting_is p posed in
        let named = subst (λ (as' : List Asked). AreNameableBy (Some budget) graph setting [] as') again nameable in
        let text_of : List ℕ → List ℕ → List ℕ = λ body words. body ++ (codes "\n/*\n" ++ (words ++ codes "*/\n")) in
        let right : AreOutcomes setting budget [] (run_among chosen qs) outcomes =
        subst (λ (rs : List Stated). AreOutcomes setting budget [] rs outcomes) (sym (run_said chosen p posed))
        (outcomes_right setting budget [] run forms (are_formed chosen all_read has_read.forms has_read.are)) in
        record {
          theory = posed.said;
          poses = posed.poses;
          has = sym (has_same chosen p posed) ∙ has;
          outcomes_are = subst (λ (x : Setting). AreOutcomes x budget [] (run_among chosen qs) outcomes) same right;
          places = outcomes_placed graph setting budget [] run forms named;
          numbers = subst (λ (x : Setting). Every (λ (o : Outcome). IsNumberedBy (executed x) (given x) (names_learning o.lemma.formula) o.log) outcomes) same
              (outcomes_numbered graph setting budget [] run forms named);
          spans = view.spans xs;
          behind_end = p.behind_end;
          places_are = posed.places_are;
          written_is = written_is ∙ ap (λ (ps : List Printed). text_with text ps p.behind_end) all_grown
              ∙ ap₂ text_of
              (proofs_same graph chosen setting budget text p.behind_end [] 0 all_read has_read.forms has_read.are
              ∙ ap₂ (λ (ss : List Span) (rs : List Stated). replaced text 0 ss (placed chosen rs (trees_of outcomes)) p.behind_end) (sym (spans_read xs)) (sym (stated_said p posed)))
              (lines_same graph setting budget [] run forms ∙ ap (λ (x : Setting). summary_by (executed x) (given x) outcomes) same);
        }

    analysed : written ≡ text_with text (map printed_of ts) p.behind_end → IsAnalysed budget chosen text written (map verdict_of verdicts)
    analysed written_is = record { outcomes = outcomes; analysis = analysis_of written written_is; verdicts_are = said_of_them }

    -- in the place of the text
    shown_by : (shows : Theory → List Outcome → List ℕ) → written ≡ shows (theory_of (theory_in posed.said)) outcomes → IsShown shows budget chosen text written (map verdict_of verdicts)
    shown_by shows written_is = record {
      outcomes = outcomes;
      analysed = text_with text (map printed_of ts) p.behind_end;
      analysis = analysis_of (text_with text (map printed_of ts) p.behind_end) refl;
      written_is = written_is;
      verdicts_are = said_of_them;
    }

    counted_so : written ≡ counts_in (map printed_of ts) → IsShown (λ theory. counts) budget chosen text written (map verdict_of verdicts)
    counted_so written_is = shown_by (λ theory. counts)
        (written_is ∙ ap counts_in all_grown ∙ ap₂ counts_by (verdicts_same graph (setting_for p) budget [] run forms) (steps_same graph (setting_for p) budget [] run forms))

  drawn : (budget : ℕ) → map printed_of ts ≡ all_to_print (Graph budget) (setting_for p) [] asked → AreNameable (Graph budget) (setting_for p) [] asked
      → written ≡ graphs_in (map printed_of ts) → verdicts ≡ verdicts_of ts → IsShown graphs budget chosen text written (map verdict_of verdicts)
  drawn budget prints nameable written_is verdicts_are =
      shown_by (graphing (Graph budget)) budget prints nameable verdicts_are graphs
      (written_is ∙ ap graphs_in (all_grown (graphing (Graph budget)) budget prints nameable verdicts_are) ∙ graphs_same (setting_for p) budget [] run forms
      ∙ ap (λ (x : Setting). graphs_by (given x) (outcomes_of (setting_for p) budget [] run forms)) (setting_is p posed))

  checked : map printed_of ts ≡ all_to_print Check (setting_for p) [] asked → AreNameable Check (setting_for p) [] asked
      → written ≡ written_by Check text (map printed_of ts) p.behind_end → verdicts ≡ verdicts_of ts
      → IsChecked chosen text written (map verdict_of verdicts)
  checked prints nameable written_is verdicts_are =
      let qs = stated_in (resolved posed.said).items in
      let setting = setting_for p in
      let same = setting_is p posed in
      let js = all_judged setting [] run forms in
      let all : map printed_of ts ≡ all_to_print Check setting [] (asked_list run forms) = prints ∙ ap (all_to_print Check setting []) again in
      let named = subst (λ (as' : List Asked). AreNameable Check setting [] as') again nameable in
      record {
        judged = js;
        checking = record {
          theory = posed.said;
          poses = posed.poses;
          has = sym (has_same chosen p posed) ∙ has;
          judged_are = subst (λ (x : Setting). AreJudged x [] (run_among chosen qs) js) same
              (subst (λ (rs : List Stated). AreJudged setting [] rs js) (sym (run_said chosen p posed)) (all_judged_right setting [] run forms (are_formed chosen all_read has_read.forms has_read.are)));
          numbers = subst (λ (x : Setting). Every (λ (j : Judged). IsNumberedBy (executed x) (given x) (names_learning j.lemma.formula) j.log) js) same (judged_numbered setting [] run forms named);
          written_is = written_is ∙ ap lines all ∙ checked_same setting [] run forms ∙ ap (λ (x : Setting). checked_by (executed x) (given x) js) same;
        };
        verdicts_are = ap (map verdict_of) verdicts_are ∙ sym (tried_verdicts ts) ∙ ap verdicts_in all ∙ judged_verdicts setting [] run forms;
      }

  is_done : (command : Command) → map printed_of ts ≡ all_to_print command (setting_for p) [] asked
      → AreNameable command (setting_for p) [] asked → written ≡ written_by command text (map printed_of ts) p.behind_end → verdicts ≡ verdicts_of ts
      → IsDone command chosen text written (map verdict_of verdicts)
  is_done (Prove budget) prints nameable written_is verdicts_are = analysed (graphing (Prove budget)) budget prints nameable verdicts_are written_is
  is_done Check prints nameable written_is verdicts_are = checked prints nameable written_is verdicts_are
  is_done (Graph budget) prints nameable written_is verdicts_are = drawn budget prints nameable written_is verdicts_are
  is_done (Count budget) prints nameable written_is verdicts_are = counted_so (graphing (Count budget)) budget prints nameable verdicts_are written_is

-- so of what was answered
pub is_answered : {text : List ℕ} {E : Type 0} (chosen : Option (List ℕ)) (p : Problem) (ts : List Tried) (r : Result Answered E) → IsPosedBy text p
    → is_among chosen (map (λ (a : Asked). a.name) (map asked_of p.lemmas.items)) ≡ true → (command : Command)
    → map printed_of ts ≡ all_to_print command (setting_for p) [] (asked_run chosen (map asked_of p.lemmas.items))
    → AreNameable command (setting_for p) [] (asked_run chosen (map asked_of p.lemmas.items))
    → IfOk r (λ a. a.written.items ≡ written_by command text (map printed_of ts) p.behind_end) → IfOk r (λ a. a.verdicts.items ≡ verdicts_of ts) → IfOk r (IsAnswered command chosen text)
is_answered chosen p ts (Ok a) posed has command prints nameable written_is verdicts_are =
    is_done chosen p ts a.written.items a.verdicts.items posed has command prints nameable written_is verdicts_are
is_answered chosen p ts (Err e) posed has command prints nameable written_is verdicts_are = tt

-- and where there is no lemma of the name that is given
pub lacks_lemma : {text : List ℕ} (chosen : Option (List ℕ)) (p : Problem) → IsPosedBy text p → is_among chosen (map (λ (a : Asked). a.name) (map asked_of p.lemmas.items)) ≡ false
    → LacksLemma chosen text
lacks_lemma chosen p posed none = record { theory = posed.said; poses = posed.poses; lacks = sym (has_same chosen p posed) ∙ none }

-- ---- what is printed of a tree that was grown

abbrev pub made : List ℕ → TraceKind → Bool → Span → Verdict → ℕ → List ℕ → List ℕ → List ℕ → Printed
made name kind marked span v n proof block graph = record { name = name; kind = kind; marked = marked; verdict = v; steps = n; span = span; proof = proof; block = block; graph = graph }

-- the tree and its log are those of the lemma
pub record IsGrown (setting : Setting) (budget : ℕ) (taken : List Taken) (a : Asked) (tree : Tree) (log : Option Log) : Type 0 where
  pub tree_is : tree ≡ proof_tree setting budget (root_for setting taken a)
  pub log_is : log ≡ grown_log setting budget (root_for setting taken a)

pub grown_printed : (graph : Graphing) (setting : Setting) (budget : ℕ) (taken : List Taken) (a : Asked) (tree : Tree) (log : Option Log) → IsGrown setting budget taken a tree log
    → (v : Verdict) (n : ℕ) (proof block drawn : List ℕ)
    → v ≡ by_tree a.kind log (finished tree) → n ≡ counted (steps tree) → proof ≡ tree_text 0 tree → block ≡ block_by (executed setting) (given setting) a.marked log
    → drawn ≡ graph (given setting) a.name log → made a.name a.kind a.marked a.span v n proof block drawn ≡ print_by (Some budget) graph setting taken a
grown_printed graph setting budget taken a tree log is v n proof block drawn verdict_is steps_is proof_is block_is drawn_is =
    let root = root_for setting taken a in
    let t = proof_tree setting budget root in
    let found = grown_log setting budget root in
    let with_verdict = made a.name a.kind a.marked a.span (by_tree a.kind found (finished t)) (counted (steps t)) in
    ap₂ (λ (w : Verdict) (m : ℕ). made a.name a.kind a.marked a.span w m proof block drawn)
    (verdict_is ∙ ap₂ (λ (l : Option Log) (u : Tree). by_tree a.kind l (finished u)) is.log_is is.tree_is) (steps_is ∙ ap (λ (u : Tree). counted (steps u)) is.tree_is)
    ∙ ap₂ (λ (q b : List ℕ). with_verdict q b drawn) (proof_is ∙ ap (tree_text 0) is.tree_is) (block_is ∙ ap (block_by (executed setting) (given setting) a.marked) is.log_is)
    ∙ ap (with_verdict (tree_text 0 t) (block_by (executed setting) (given setting) a.marked found)) (drawn_is ∙ ap (graph (given setting) a.name) is.log_is)

-- ---- what is printed of a proof that was read

pub judged_printed : (setting : Setting) (taken : List Taken) (a : Asked) (j : Judgement) → j ≡ judged_so setting (root_for setting taken a) a.proof
    → (v : Verdict) (n : ℕ) (proof block drawn : List ℕ) → v ≡ by_judgement a.kind j → n ≡ counted (read.steps (proof_read a.proof)) → proof ≡ []
    → block ≡ block_by (executed setting) (given setting) a.marked (judged_log j) → drawn ≡ [] → made a.name a.kind a.marked a.span v n proof block drawn ≡ to_print Check setting taken a
judged_printed setting taken a j j_is v n proof block drawn v_is n_is proof_is block_is drawn_is =
    let with_verdict = made a.name a.kind a.marked a.span (by_judgement a.kind (judged_so setting (root_for setting taken a) a.proof)) (counted (read.steps (proof_read a.proof))) in
    ap₂ (λ (w : Verdict) (m : ℕ). made a.name a.kind a.marked a.span w m proof block drawn) (v_is ∙ ap (by_judgement a.kind) j_is) n_is
    ∙ ap₂ (λ (q b : List ℕ). with_verdict q b drawn) proof_is (block_is ∙ ap (λ (x : Judgement). block_by (executed setting) (given setting) a.marked (judged_log x)) j_is)
    ∙ ap (with_verdict [] (block_by (executed setting) (given setting) a.marked (judged_log (judged_so setting (root_for setting taken a) a.proof)))) drawn_is
