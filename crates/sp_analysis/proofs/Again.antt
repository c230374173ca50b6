-- What is written of a text that was tried is checked as it was tried.
use Rattle.std.proofs.Common.{◌≡◌, ℕ, suc, List, [], ◌∷◌, ◌++◌, length, map, codes, Option, Some, None, refl, sym, ap, ap₂, ◌∙◌, subst, arith}
use Rattle.std.proofs.lemmas.List.{length-map}
use Rattle.sp_spec.specs.Lists.{Every}
use Rattle.sp_spec.specs.Log.{Log}
use Rattle.sp_spec.specs.Verdict.{names_learning}
use Rattle.sp_spec.specs.Theory.{TraceKind, all_traces, exists_trace, Theory}
use Rattle.sp_spec.specs.Written.{WrittenTheory, theory_of}
use Rattle.sp_spec_system.specs.System.{System}
use Rattle.sp_spec_system.specs.Move.{Context, Root, root_system}
use Rattle.sp_spec_proof.specs.Tree.{Tree, IsAccepted, IsFinished, found_log, steps}
use Rattle.sp_spec_proof.proofs.Growing.{grown_tree_accepted}
use Rattle.sp_check.specs.Skeleton.{tree_of}
use Rattle.sp_check.specs.Skeleton as read
use Rattle.sp_check.proofs.Right.{judgements_right}
use Rattle.sp_spec_text.specs.Written.{WrittenProof, WrittenText, item_builtins, item_functions, item_attributes, lemmas_in, proofs_in}
use Rattle.sp_spec_text.specs.Declared.{all_symbols, resolved, theory_in}
use Rattle.sp_spec_text.proofs.Items.{kept, resolved_anew}
use Rattle.sp_spec_text.specs.Texts.{IsTextOf}
use Rattle.sp_skel.specs.Places.{HavePlaces}
use Rattle.sp_skel.specs.Steps.{skeleton}
use Rattle.sp_skel.specs.Spelling.{as_written, IsReadable, IsSpellable}
use Rattle.sp_skel.proofs.Readable.{grown_readable}
use Rattle.sp_law_reread.proofs.Named.{rules_named}
use Rattle.sp_law_printed_log.proofs.TextNames.{texts_have_names_lem}
use Rattle.sp_skel.proofs.Spelled.{tree_says}
use Rattle.sp_law_reread.specs.Again.{proofs_with, with_trees, IsReadableIf}
use Rattle.sp_spec_text.specs.Behind.{IsBehindEnd}
use Rattle.sp_law_reread.proofs.Behind.{behind_end}
use Rattle.sp_law_reread.proofs.Items.{read_again}
use Rattle.sp_law_reread.proofs.Replaced.{each_lemma, each_proof, same_theory, trees_proofs}
use Rattle.sp_pose.specs.Problem.{Poses}
use Rattle.sp_analysis.proofs.Anew.{as_many_resolved, bound_kept, posed_anew}
use Rattle.sp_analysis.specs.Taken.{Stated, stated_in, Taken, taken_by}
use Rattle.sp_analysis.specs.Chosen.{run_among, placed}
use Rattle.sp_pose.specs.Ranking.{item_ranking, rankings_in}
use Rattle.sp_analysis.specs.Sought.{root_of, Setting, setting_by, setting_of, context_of}
use Rattle.sp_spec_printed.specs.Verdict.{Verdict, verified, falsified, incomplete, rejected, Says, summary_line}
use Rattle.sp_analysis.specs.Found.{block_of, IsNumbered}
use Rattle.sp_spec_text.specs.Numerals.{counted}
use Rattle.sp_analysis.specs.Analysis.{Outcome, summary, trees_of, IsOutcome, AreOutcomes, IsAnalysis}
use Rattle.sp_analysis.specs.Checking.{IsVerdictIn, Judged, checked_text, IsJudged, AreJudged}
use Rattle.sp_analysis.specs.Laws.{StandsBehind, IsCheckedAgain, WrittenIsChecked}
use Rattle.sp_analysis.proofs.Running.{run_all, placed_length, placed_readable, placed_all}
use Rattle.sp_analysis.proofs.StatedItems.{as_many_stated, stated_with, stated_put}

-- ---- one lemma

-- the verdict of the grown tree is that of the tree as it is read
verdict_again : (context : Context) (s : System) (kind : TraceKind) (v : Verdict) (log : Option Log) (t : Tree) → IsAccepted context s t → tree_of (skeleton (as_written t)) ≡ Some t
    → log ≡ found_log context s t → Says kind v log (IsFinished t) → IsVerdictIn context s (skeleton (as_written t)) kind v log
verdict_again context s kind verified log t a e is says = (t, e, a, is, says)
verdict_again context s kind falsified log t a e is says = (t, e, a, is, says)
verdict_again context s kind incomplete log t a e is says = (t, e, a, is, says)
verdict_again context s all_traces (rejected step clause) log t a e is says = absurd says
verdict_again context s exists_trace (rejected step clause) log t a e is says = absurd says

module _ (setting : Setting) (budget : ℕ) where
  abbrev judged_of : (taken : List Taken) (q : Stated) (o : Outcome) → IsOutcome setting budget taken q o → Judged
  judged_of taken q o h = record { lemma = o.lemma; root = root_of setting q.attributes taken q.lemma.kind h.form; proof = skeleton (as_written o.tree); log = o.log; verdict = o.verdict }

  -- the lemma with the proof that was grown
  abbrev proved : Stated → Outcome → Stated
  proved q o = record { lemma = q.lemma; attributes = q.attributes; proof = Some (as_written o.tree) }

  judged_again : (taken : List Taken) (q : Stated) (o : Outcome) (h : IsOutcome setting budget taken q o) → IsReadable o.tree → IsJudged setting taken (proved q o) (judged_of taken q o h)
  judged_again taken q o h r =
      let root = root_of setting q.attributes taken q.lemma.kind h.form in
      let context = context_of setting root in
      let s = root_system root in
      record {
        lemma_is = h.lemma_is;
        proof_is = refl;
        form = h.form;
        form_is = h.form_is;
        root_is = refl;
        verdict_is =
            verdict_again context s q.lemma.kind o.verdict o.log o.tree
            (subst (λ (t : Tree). IsAccepted context s t) (sym h.tree_is) (grown_tree_accepted context s budget))
            (tree_says o.tree r) (h.log_is ∙ ap (found_log context s) (sym h.tree_is)) h.verdict_is;
      }

  -- and its line
  steps_again : (o : Outcome) → IsReadable o.tree → counted (read.steps (skeleton (as_written o.tree))) ≡ counted (steps o.tree)
  steps_again o r = ap counted (judgements_right.counts (skeleton (as_written o.tree)) o.tree (tree_says o.tree r))

  -- ---- all of them

  abbrev all_again : (taken : List Taken) (qs : List Stated) (os : List Outcome) → AreOutcomes setting budget taken qs os → List Judged
  all_again taken [] [] h = []
  all_again taken [] (o ∷ os) h = []
  all_again taken (q ∷ qs) [] h = []
  all_again taken (q ∷ qs) (o ∷ os) h = judged_of taken q o h.0 ∷ all_again (taken ++ taken_by q o.verdict) qs os h.1

  are_again : (taken : List Taken) (qs : List Stated) (os : List Outcome) (h : AreOutcomes setting budget taken qs os) → Every (λ (o : Outcome). IsReadable o.tree) os
      → AreJudged setting taken (stated_with qs (map (λ (t : Tree). Some (as_written t)) (trees_of os))) (all_again taken qs os h)
  are_again taken [] [] h r = tt
  are_again taken [] (o ∷ os) h r = absurd h
  are_again taken (q ∷ qs) [] h r = absurd h
  are_again taken (q ∷ qs) (o ∷ os) h r = (judged_again taken q o h.0 r.0, are_again (taken ++ taken_by q o.verdict) qs os h.1 r.1)

  lines_again : (theory : Theory) (taken : List Taken) (qs : List Stated) (os : List Outcome) (h : AreOutcomes setting budget taken qs os) → Every (λ (o : Outcome). IsReadable o.tree) os
      → summary theory os ≡ checked_text theory (all_again taken qs os h)
  lines_again theory taken [] [] h r = refl
  lines_again theory taken [] (o ∷ os) h r = absurd h
  lines_again theory taken (q ∷ qs) [] h r = absurd h
  lines_again theory taken (q ∷ qs) (o ∷ os) h r =
      let marked = names_learning o.lemma.formula in
      ap₂ (λ (n : ℕ) (rest : List ℕ). summary_line o.lemma.name o.lemma.kind marked o.verdict n ++ (block_of theory marked o.log ++ rest)) (sym (steps_again o r.0))
      (lines_again theory (taken ++ taken_by q o.verdict) qs os h.1 r.1)

  -- what is said of each outcome alone is said of its judgement
  of_each : {A : Type 0} (f : Judged → A) (g : Outcome → A) → ((taken : List Taken) (q : Stated) (o : Outcome) (h : IsOutcome setting budget taken q o) → f (judged_of taken q o h) ≡ g o)
      → (taken : List Taken) (qs : List Stated) (os : List Outcome) (h : AreOutcomes setting budget taken qs os) → map f (all_again taken qs os h) ≡ map g os
  of_each f g same taken [] [] h = refl
  of_each f g same taken [] (o ∷ os) h = absurd h
  of_each f g same taken (q ∷ qs) [] h = absurd h
  of_each {A} f g same taken (q ∷ qs) (o ∷ os) h = ap₂ (λ (x : A) (xs : List A). x ∷ xs) (same taken q o h.0) (of_each f g same (taken ++ taken_by q o.verdict) qs os h.1)

  numbers_again : (theory : Theory) (taken : List Taken) (qs : List Stated) (os : List Outcome) (h : AreOutcomes setting budget taken qs os) → Every (λ (o : Outcome). IsNumbered theory o.lemma o.log) os
      → Every (λ (j : Judged). IsNumbered theory j.lemma j.log) (all_again taken qs os h)
  numbers_again theory taken [] [] h n = tt
  numbers_again theory taken [] (o ∷ os) h n = absurd h
  numbers_again theory taken (q ∷ qs) [] h n = absurd h
  numbers_again theory taken (q ∷ qs) (o ∷ os) h n = (n.0, numbers_again theory (taken ++ taken_by q o.verdict) qs os h.1 n.1)

  as_many : (taken : List Taken) (qs : List Stated) (os : List Outcome) → AreOutcomes setting budget taken qs os → length os ≡ length qs
  as_many taken [] [] h = refl
  as_many taken [] (o ∷ os) h = absurd h
  as_many taken (q ∷ qs) [] h = absurd h
  as_many taken (q ∷ qs) (o ∷ os) h = ap suc (as_many (taken ++ taken_by q o.verdict) qs os h.1)

  -- the trees that were grown are readable
  all_readable : (taken : List Taken) (qs : List Stated) (os : List Outcome) → ((root : Root) → IsSpellable (context_of setting root)) → AreOutcomes setting budget taken qs os
      → Every (λ (o : Outcome). HavePlaces o.tree) os → Every (λ (o : Outcome). IsReadable o.tree) os
  all_readable taken [] [] n h p = tt
  all_readable taken [] (o ∷ os) n h p = absurd h
  all_readable taken (q ∷ qs) [] n h p = absurd h
  all_readable taken (q ∷ qs) (o ∷ os) n h p =
      let grown = h.0.tree_is in
      let root = root_of setting q.attributes taken q.lemma.kind h.0.form in (
        subst IsReadable (sym grown) (grown_readable (context_of setting root) (root_system root) budget (n root) (subst HavePlaces grown p.0)),
        all_readable (taken ++ taken_by q o.verdict) qs os n h.1 p.1,
      )

trees_readable : (os : List Outcome) → Every (λ (o : Outcome). IsReadable o.tree) os → Every IsReadable (trees_of os)
trees_readable [] r = tt
trees_readable (o ∷ os) r = (r.0, trees_readable os r.1)

-- what the proofs of a text name can stand in a text
spellable : (text : List ℕ) (theory : WrittenText) → IsTextOf text theory → (root : Root) → IsSpellable (context_of (setting_of theory) root)
spellable text theory says root = record {
  rules = rules_named text theory says;
  symbols = texts_have_names_lem.symbols text theory says;
  names = texts_have_names_lem.constants text theory says;
}

-- ---- what was written

abbrev as_proofs : List Tree → List (Option WrittenProof)
as_proofs trees = map (λ (t : Tree). Some (as_written t)) trees

-- where each proof gets its tree
each_put : (proofs : List (Option WrittenProof)) (trees : List Tree) → length trees ≡ length proofs → proofs_with proofs (map (λ (t : Tree). Some t) trees) ≡ as_proofs trees
each_put [] [] e = refl
each_put [] (t ∷ trees) e = absurd (omega (arith, e))
each_put (p ∷ proofs) [] e = absurd (omega (arith, e))
each_put (p ∷ proofs) (t ∷ trees) e = ap (λ (rest : List (Option WrittenProof)). Some (as_written t) ∷ rest) (each_put proofs trees (omega (arith, e)))

module _ (budget : ℕ) (chosen : Option (List ℕ)) (text written : List ℕ) (outcomes : List Outcome) (a : IsAnalysis budget chosen text written outcomes) where
  abbrev stated : List Stated
  stated = stated_in (resolved a.theory).items

  abbrev trees : List (Option Tree)
  trees = placed chosen stated (trees_of outcomes)

  abbrev words : List ℕ
  words = summary (theory_of (theory_in a.theory)) outcomes

  readable : Every (λ (o : Outcome). IsReadable o.tree) outcomes
  readable = all_readable (setting_of a.theory) budget [] (run_among chosen stated) outcomes (spellable text a.theory a.poses.says) a.outcomes_are a.places

  may_be_read : Every IsReadableIf trees
  may_be_read = placed_readable chosen stated (trees_of outcomes) (trees_readable outcomes readable)

  many_lemmas : length stated ≡ length (lemmas_in a.theory.items)
  many_lemmas = as_many_stated (resolved a.theory).items ∙ as_many_resolved (all_symbols a.theory.items) a.theory.items

  many : length trees ≡ length a.spans
  many = placed_length chosen stated (trees_of outcomes) ∙ many_lemmas ∙ sym (each_lemma text a.theory a.spans a.behind_end a.places_are)

  stands_behind : StandsBehind a.theory written outcomes
  stands_behind = subst (λ (bytes : List ℕ). IsBehindEnd bytes (codes "\n/*\n" ++ (words ++ codes "*/\n"))) (sym a.written_is)
      (behind_end text a.theory a.spans a.behind_end trees (codes "/*\n" ++ (words ++ codes "*/\n")) a.poses.says a.places_are may_be_read many)

  -- the theory that it says
  abbrev again : WrittenText
  again = record { name = a.theory.name; items = with_trees a.theory.items trees }

  says_again : IsTextOf written again
  says_again = subst (λ (bytes : List ℕ). IsTextOf bytes again) (sym a.written_is)
      (read_again text a.theory a.spans a.behind_end trees (codes "/*\n" ++ (words ++ codes "*/\n")) a.poses.says a.places_are may_be_read many)

  poses_again : Poses written again
  poses_again =
      let items = a.theory.items in
      let proofs = proofs_with (proofs_in items) trees in
      posed_anew a.theory again (kept item_builtins (λ l as' p q. refl) items proofs) (kept item_functions (λ l as' p q. refl) items proofs) (bound_kept items proofs)
      (kept item_attributes (λ l as' p q. refl) items proofs) (same_theory a.theory trees) a.poses says_again

pub written_is_checked_lem : WrittenIsChecked
written_is_checked_lem = record { behind = stands_behind; checked = checked }
  where
    checked : (budget : ℕ) (text written : List ℕ) (outcomes : List Outcome) (a : IsAnalysis budget None text written outcomes) → IsCheckedAgain a.theory written outcomes
    checked budget text written outcomes a =
        let theory = theory_in a.theory in
        let setting = setting_of a.theory in
        let items = a.theory.items in
        let qs = stated_in (resolved a.theory).items in
        let tried : AreOutcomes setting budget [] qs outcomes = subst (λ (rs : List Stated). AreOutcomes setting budget [] rs outcomes) (run_all qs) a.outcomes_are in
        let js = all_again setting budget [] qs outcomes tried in
        let r = readable budget None text written outcomes a in
        let grown = trees_of outcomes in
        let many_grown : length grown ≡ length qs = length-map outcomes (λ (o : Outcome). o.tree) ∙ as_many setting budget [] qs outcomes tried in
        let put : List (Option WrittenProof) = proofs_with (proofs_in items) (placed None qs grown) in
        let put_are : put ≡ as_proofs grown =
        ap (proofs_with (proofs_in items)) (placed_all qs grown many_grown)
        ∙ each_put (proofs_in items) grown (many_grown ∙ many_lemmas budget None text written outcomes a ∙ sym (each_proof items)) in
        let anew : WrittenText = again budget None text written outcomes a in
        let same : theory_in anew ≡ theory = same_theory a.theory (placed None qs grown) in
        let same_setting : setting_of anew ≡ setting = ap₂ setting_by same (ap (λ (t : WrittenText). rankings_in t.items) (resolved_anew a.theory put) ∙ kept item_ranking (λ l as' p q. refl) (resolved a.theory).items put) in
        let stated_again : run_among None (stated_in (resolved anew).items) ≡ stated_with qs (as_proofs grown) =
        run_all (stated_in (resolved anew).items) ∙ ap (λ (t : WrittenText). stated_in t.items) (resolved_anew a.theory put) ∙ stated_put (resolved a.theory).items put ∙ ap (stated_with qs) put_are in
        record {
          judged = js;
          checking = record {
            theory = anew;
            poses = poses_again budget None text written outcomes a;
            has = refl;
            judged_are = subst (λ (x : Setting). AreJudged x [] (run_among None (stated_in (resolved anew).items)) js) (sym same_setting)
                (subst (λ (xs : List Stated). AreJudged setting [] xs js) (sym stated_again) (are_again setting budget [] qs outcomes tried r));
            numbers = subst (λ (t : WrittenTheory). Every (λ (j : Judged). IsNumbered (theory_of t) j.lemma j.log) js) (sym same)
                (numbers_again setting budget (theory_of theory) [] qs outcomes tried a.numbers);
            written_is = lines_again setting budget (theory_of theory) [] qs outcomes tried r ∙ ap (λ (t : WrittenTheory). checked_text (theory_of t) js) (sym same);
          };
          same_theory = same;
          proofs = trees_proofs text a.theory a.spans a.behind_end (placed None qs grown) a.places_are (many budget None text written outcomes a) ∙ put_are;
          verdicts = of_each setting budget (λ (j : Judged). j.verdict) (λ (o : Outcome). o.verdict) (λ taken q o h. refl) [] qs outcomes tried;
          logs = of_each setting budget (λ (j : Judged). j.log) (λ (o : Outcome). o.log) (λ taken q o h. refl) [] qs outcomes tried;
        }
