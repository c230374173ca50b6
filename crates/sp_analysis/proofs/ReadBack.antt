-- Each execution that is written is read back from its lines.
use Rattle.std.proofs.Common.{inl, inr, ◌≡◌, ℕ, Bool, true, false, List, [], ◌∷◌, ◌++◌, Option, Some, None, refl, sym, subst}
use Rattle.std.specs.List.{list_all}
use Rattle.sp_spec.specs.Lists.{Every, newest_first}
use Rattle.sp_spec.proofs.Lists.{every_both}
use Rattle.sp_spec.proofs.Options.{then_some}
use Rattle.sp_spec.specs.Log.{Entry, Log, IsLog, log_trace, visible_trace}
use Rattle.sp_spec.specs.Verdict.{names_learning}
use Rattle.std.proofs.lemmas.Bool.{and_parts}
use Rattle.sp_law_decide.specs.Deciding.{decided, empty}
use Rattle.sp_spec_printed.specs.StepLines.{IsWritableStep}
use Rattle.sp_law_printed_log.specs.Shown.{shown_names, LogHasNames, IsShownAction}
use Rattle.sp_spec.specs.Signature.{Signature}
use Rattle.sp_spec.specs.Theory.{TraceKind, all_traces, exists_trace, Lemma, signature_of}
use Rattle.sp_spec.specs.Written.{WrittenTheory, theory_of}
use Rattle.sp_spec.specs.Constants.{constants_of}
use Rattle.sp_spec.specs.Guarded.{Guarded}
use Rattle.sp_law_guard.specs.CheckedForm.{checked_form}
use Rattle.sp_law_log_execution.specs.Executed.{executed_of}
use Rattle.sp_law_basic.specs.Restrictions.{restriction_forms}
use Rattle.sp_spec_text.specs.Written.{Attribute, WrittenText}
use Rattle.sp_spec_system.specs.Rules.{rules_of}
use Rattle.sp_spec_text.specs.Declared.{resolved, theory_in}
use Rattle.sp_spec_system.specs.Numbered.{names_in}
use Rattle.sp_spec_proof.specs.Tree.{Tree, found_log}
use Rattle.sp_law_system.specs.Proofs.{IsWellMade}
use Rattle.sp_law_tree.specs.Laws.{IsRightForm}
use Rattle.sp_law_tree.proofs.OverLogs.{root_right}
use Rattle.sp_law_tree.proofs.Roots.{roots_are_solved_lem}
use Rattle.sp_learn.specs.Checking.{is_log}
use Rattle.sp_learn.proofs.Checks.{log_decides}
use Rattle.sp_spec_solved.specs.Candidate.{candidate}
use Rattle.sp_solved.specs.Found.{is_sought, kept_if}
use Rattle.sp_law_found_log.specs.Shown.{IsSearched}
use Rattle.sp_law_found_log.proofs.Executable.{runnable, checkable}
use Rattle.sp_pose.specs.Problem.{Poses}
use Rattle.sp_law_printed_log.specs.Block.{oldest_first}
use Rattle.sp_law_printed_log.specs.Block as steps
use Rattle.sp_law_log_lines.specs.Block.{given_in, AreNumberedBy}
use Rattle.sp_law_log_lines.proofs.Told.{logs_are_told_lem}
use Rattle.sp_analysis.specs.Found.{IsNumberedBy, IsNumbered}
use Rattle.sp_law_printed_log.proofs.CandidateNames.{candidates_have_names_lem, every_newest}
use Rattle.sp_law_tree.proofs.WellMadeEnds.{ends_are_well_made_lem}
use Rattle.sp_law_printed_log.proofs.LogSteps.{logs_may_be_written_lem}
use Rattle.sp_law_printed_log.proofs.ReadBack.{steps_are_read_back_lem}
use Rattle.sp_law_printed_log.proofs.TextNames.{texts_have_names_lem}
use Rattle.sp_check.specs.Skeleton.{Skeleton}
use Rattle.sp_spec_printed.specs.Verdict.{Verdict, verified, falsified, incomplete, rejected}
use Rattle.sp_spec_system.specs.Move.{Root, Context, root_system}
use Rattle.sp_analysis.specs.Taken.{stated_in, Taken}
use Rattle.sp_analysis.specs.Chosen.{run_among}
use Rattle.sp_analysis.specs.Sought.{root_of, sought, setting_of, context_of, proof_tree}
use Rattle.sp_analysis.specs.Analysis.{Outcome, AreOutcomes}
use Rattle.sp_analysis.specs.Checking.{IsVerdictOn, Judged, AreJudged}
use Rattle.sp_analysis.specs.Laws.{IsReadBack, IsToldByLines, AreReadBack, ExecutionsAreReadBack}
use Rattle.sp_analysis.proofs.Taking.{IsLemmaOf, AreTakenRightly, searched, suits, has_restrictions, is_context, begins}
use Rattle.sp_analysis.proofs.Right.{IsTriedIn, all_tried, IsJudgedIn, judged_verdict, all_judged_known}

-- a candidate that is kept
kept_entries : (b : Bool) (entries : List Entry) (log : Log) → kept_if b entries ≡ Some log → (b ≡ true) × (newest_first entries ≡ log)
kept_entries true entries log e = (refl, cc)
kept_entries false entries log e = absurd cc

module _ (text : List ℕ) (written : WrittenText) (posing : Poses text written) where
  abbrev theory : WrittenTheory
  theory = theory_in written

  abbrev signature : Signature
  signature = signature_of (theory_of theory)

  found_in : IsSearched theory
  found_in = searched written posing

  module _ (l : Lemma) (f : IsLemmaOf theory l) (g : Guarded) (e : checked_form l.formula ≡ Some g) (attributes : List Attribute) (taken : List Taken) (right : AreTakenRightly theory taken) (kind : TraceKind) where
    abbrev root : Root
    root = root_of (setting_of written) attributes taken kind g

    abbrev context : Context
    context = context_of (setting_of written) root

    -- the system in which a proof begins
    begins_well : IsWellMade context (root_system root)
    begins_well =
        roots_are_solved_lem.well_made (theory_of theory) context root
        (root_right (theory_of theory) context (has_restrictions written posing root) root (sought kind g) (begins written posing attributes taken right kind g) (at kind))
      where
        at : (kind : TraceKind) → IsRightForm signature (names_in (constants_of theory)) (sought kind g)
        at all_traces = (l.formula, f.0, f.1, g, e, inr refl)
        at exists_trace = (l.formula, f.0, f.1, g, e, inl refl)

    -- a log that is found in a tree of a lemma
    pub record IsFoundLog (log : Log) : Type 0 where
      pub is_log : IsLog (theory_of theory) log
      pub names : LogHasNames shown_names log

    found_there : (tree : Tree) (log : Log) → found_log context (root_system root) tree ≡ Some log → IsFoundLog log
    found_there tree log is_found =
        let rules = (rules_of (theory_of theory)).forms in
        let fs = restriction_forms theory.restrictions ++ sought kind g ∷ [] in
        let constants = constants_of theory in
        let end = ends_are_well_made_lem.ends (theory_of theory) (suits written posing) context (is_context written posing l f g e attributes taken right kind) (root_system root) begins_well tree log is_found in
        let q = then_some (λ (entries : List Entry). kept_if (is_sought signature rules fs entries) entries) (candidate constants end.0) log end.2 in
        let k = kept_entries (is_sought signature rules fs q.0) q.0 log q.2 in
        let is = (log_decides (theory_of theory) (checkable theory found_in) q.0).0
        (and_parts (is_log signature rules q.0) (list_all (decided (log_trace (newest_first q.0)) empty) fs) k.0).0 in
        subst IsFoundLog k.1
        (record { is_log = is; names = candidates_have_names_lem.names constants (texts_have_names_lem.constants text written posing.says) end.0 end.1.numbered q.0 q.1 })

    -- its execution, and its lines
    steps_read : (log : Log) → IsFoundLog log → steps.IsNumbered (theory_of theory) (Some log) → IsReadBack (theory_of theory) log
    steps_read log h numbers =
        let named = texts_have_names_lem.rules text written posing.says in
        let symbols_named = texts_have_names_lem.symbols text written posing.says in
        let good = runnable theory found_in in
        let writable = every_newest (IsWritableStep signature.symbols) (executed_of (theory_of theory) log) (logs_may_be_written_lem.steps theory good symbols_named named log h.is_log h.names numbers) in
        record {
          writable = writable;
          read = steps_are_read_back_lem.read signature.symbols symbols_named (oldest_first (executed_of (theory_of theory) log)) writable;
          shown = every_newest (Every (IsShownAction signature.symbols)) (visible_trace log) (logs_may_be_written_lem.trace theory good named log h.is_log h.names);
        }

    lines_tell : (log : Log) → IsFoundLog log → AreNumberedBy (given_in (theory_of theory)) (Some log) → IsToldByLines (theory_of theory) log
    lines_tell log h numbers =
        let named = texts_have_names_lem.rules text written posing.says in
        let symbols_named = texts_have_names_lem.symbols text written posing.says in
        let good = runnable theory found_in in
        record {
          writable = logs_are_told_lem.writable (theory_of theory) good symbols_named named log h.is_log h.names numbers;
          tell = logs_are_told_lem.told (theory_of theory) good symbols_named named log h.is_log h.names numbers;
          shown = every_newest (Every (IsShownAction signature.symbols)) (visible_trace log) (logs_may_be_written_lem.trace theory good named log h.is_log h.names);
        }

    read_back : (b : Bool) (log : Log) → IsFoundLog log → IsNumberedBy (executed_of (theory_of theory)) (given_in (theory_of theory)) b (Some log) → AreReadBack (theory_of theory) b (Some log)
    read_back true log h numbers = lines_tell log h numbers
    read_back false log h numbers = steps_read log h numbers

    -- where there is none nothing is written
    option_read : (tree : Tree) (log : Option Log) → log ≡ found_log context (root_system root) tree → IsNumbered (theory_of theory) l log → AreReadBack (theory_of theory) (names_learning l.formula) log
    option_read tree None is numbers = tt
    option_read tree (Some log) is numbers = read_back (names_learning l.formula) log (found_there tree log (sym is)) numbers

    verdict_read : (k : Skeleton) (v : Verdict) (log : Option Log) → IsVerdictOn (setting_of written) kind root k v log → IsNumbered (theory_of theory) l log → AreReadBack (theory_of theory) (names_learning l.formula) log
    verdict_read k (rejected step clause) log (h, none) n = subst (AreReadBack (theory_of theory) (names_learning l.formula)) (sym none) tt
    verdict_read k verified log (tree, is, accepted, ends, says) n = option_read tree log ends n
    verdict_read k falsified log (tree, is, accepted, ends, says) n = option_read tree log ends n
    verdict_read k incomplete log (tree, is, accepted, ends, says) n = option_read tree log ends n

  outcome_read : (budget : ℕ) (o : Outcome) → IsTriedIn written posing budget o → IsNumbered (theory_of theory) o.lemma o.log → AreReadBack (theory_of theory) (names_learning o.lemma.formula) o.log
  outcome_read budget o h numbers =
      let q = h.stated in
      let k = h.is_outcome in
      subst (λ (m : Lemma). AreReadBack (theory_of theory) (names_learning m.formula) o.log) (sym k.lemma_is)
      (option_read q.lemma h.is_lemma k.form k.form_is q.attributes h.taken h.right q.lemma.kind
      (proof_tree (setting_of written) budget (root_of (setting_of written) q.attributes h.taken q.lemma.kind k.form)) o.log k.log_is
      (subst (λ (m : Lemma). IsNumbered (theory_of theory) m o.log) k.lemma_is numbers))

  pub outcomes_read : (budget : ℕ) (chosen : Option (List ℕ)) (os : List Outcome) → AreOutcomes (setting_of written) budget [] (run_among chosen (stated_in (resolved written).items)) os
      → Every (λ (o : Outcome). IsNumbered (theory_of theory) o.lemma o.log) os → Every (λ (o : Outcome). AreReadBack (theory_of theory) (names_learning o.lemma.formula) o.log) os
  outcomes_read budget chosen os h n = every_both (IsTriedIn written posing budget) _ _ (outcome_read budget) os (all_tried written posing budget chosen os h) n

  judged_read : (j : Judged) → IsJudgedIn written posing j → IsNumbered (theory_of theory) j.lemma j.log → AreReadBack (theory_of theory) (names_learning j.lemma.formula) j.log
  judged_read j h numbers =
      let q = h.stated in
      subst (λ (m : Lemma). AreReadBack (theory_of theory) (names_learning m.formula) j.log) (sym h.is_judged.lemma_is)
      (verdict_read q.lemma h.is_lemma h.is_judged.form h.is_judged.form_is q.attributes h.taken h.right q.lemma.kind j.proof j.verdict j.log (judged_verdict written posing j h)
      (subst (λ (m : Lemma). IsNumbered (theory_of theory) m j.log) h.is_judged.lemma_is numbers))

  pub all_judged_read : (chosen : Option (List ℕ)) (js : List Judged) → AreJudged (setting_of written) [] (run_among chosen (stated_in (resolved written).items)) js
      → Every (λ (j : Judged). IsNumbered (theory_of theory) j.lemma j.log) js → Every (λ (j : Judged). AreReadBack (theory_of theory) (names_learning j.lemma.formula) j.log) js
  all_judged_read chosen js h n = every_both (IsJudgedIn written posing) _ _ judged_read js (all_judged_known written posing chosen js h) n

pub executions_are_read_back_lem : ExecutionsAreReadBack
executions_are_read_back_lem = record {
  tried = λ budget chosen text written outcomes a. outcomes_read text a.theory a.poses budget chosen outcomes a.outcomes_are a.numbers;
  checked = λ chosen text written judged c. all_judged_read text c.theory c.poses chosen judged c.judged_are c.numbers;
}
