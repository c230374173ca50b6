-- What is written of a text whose proofs have been checked: a line for each lemma, with the execution
-- that was found behind it. A lemma without a proof has an open one.
-- Source: Tamarin manual, "Proofs" (proofs that stand in a text are checked step by step).
use Rattle.std.specs.Prelude.{◌≡◌, ℕ, true, Option, Some, None, List, [], ◌∷◌, ◌++◌}
use Rattle.sp_spec.specs.Lists.{Every}
use Rattle.sp_spec.specs.Theory.{TraceKind, Theory, Lemma}
use Rattle.sp_spec.specs.Written.{theory_of}
use Rattle.sp_spec.specs.Verdict.{names_learning}
use Rattle.sp_spec.specs.Guarded.{Guarded}
use Rattle.sp_spec.specs.Log.{Log}
use Rattle.sp_spec.specs.Execution.{Step}
use Rattle.sp_law_log_execution.specs.Executed.{executed_of}
use Rattle.sp_law_guard.specs.CheckedForm.{checked_form}
use Rattle.sp_spec_system.specs.System.{System}
use Rattle.sp_spec_system.specs.Move.{Context, unproved, Root, root_system}
use Rattle.sp_spec_proof.specs.Tree.{Tree, IsAccepted, IsFinished, found_log}
use Rattle.sp_check.specs.Skeleton.{Skeleton, node_read, none_read, known, tree_of, steps}
use Rattle.sp_check.specs.Rejected.{IsRejectedAt}
use Rattle.sp_spec_text.specs.Written.{WrittenProof, WrittenText}
use Rattle.sp_spec_text.specs.Declared.{resolved, theory_in}
use Rattle.sp_skel.specs.Steps.{skeleton}
use Rattle.sp_pose.specs.Problem.{Poses}
use Rattle.sp_analysis.specs.Taken.{Stated, stated_in, Taken, taken_by}
use Rattle.sp_analysis.specs.Chosen.{run_among, has_lemma}
use Rattle.sp_analysis.specs.Sought.{root_of, Setting, setting_of, context_of}
use Rattle.sp_spec_text.specs.Numerals.{counted}
use Rattle.sp_spec_printed.specs.Verdict.{Verdict, rejected, Says, summary_line}
use Rattle.sp_spec_log_lines.specs.Line.{Giving}
use Rattle.sp_law_log_lines.specs.Block.{given_in}
use Rattle.sp_analysis.specs.Found.{block_by, IsNumbered}

-- the tree that the proof of a lemma says
abbrev pub proof_read : Option WrittenProof → Skeleton
proof_read None = node_read (known unproved) none_read
proof_read (Some p) = skeleton p

-- A proof that isn't accepted is rejected at its first step that fails, by the first clause that this fails of. An accepted one has the
-- log of its first leaf with which the search ends, if there is one, and says what such a proof says.
abbrev pub IsVerdictIn : Context → System → Skeleton → TraceKind → Verdict → Option Log → Type 0
IsVerdictIn context s k kind (rejected step clause) log = IsRejectedAt context s k step clause × (log ≡ None)
IsVerdictIn context s k kind verdict log =
    (t : Tree) × (tree_of k ≡ Some t) × IsAccepted context s t × (log ≡ found_log context s t) × Says kind verdict log (IsFinished t)

-- so of a proof that begins from the root, of a lemma of this kind
abbrev pub IsVerdictOn : Setting → TraceKind → Root → Skeleton → Verdict → Option Log → Type 0
IsVerdictOn setting kind root k verdict log = IsVerdictIn (context_of setting root) (root_system root) k kind verdict log

-- what came of a lemma whose proof was checked, with what that begins from
pub record Judged : Type 0 where
  pub lemma : Lemma
  pub root : Root
  pub proof : Skeleton
  pub log : Option Log
  pub verdict : Verdict

abbrev pub checked_by : (Log → List Step) → Giving → List Judged → List ℕ
checked_by steps_of given [] = []
checked_by steps_of given (j ∷ js) =
    let marked = names_learning j.lemma.formula in
    summary_line j.lemma.name j.lemma.kind marked j.verdict (counted (steps j.proof)) ++ (block_by steps_of given marked j.log ++ checked_by steps_of given js)

abbrev pub checked_text : Theory → List Judged → List ℕ
checked_text theory js = checked_by (executed_of theory) (given_in theory) js

-- It is that of the lemma and its proof, where these are taken, but for those that it hides: the proof begins with the lemma's guarded form.
pub record IsJudged (setting : Setting) (taken : List Taken) (q : Stated) (j : Judged) : Type 0 where
  pub lemma_is : j.lemma ≡ q.lemma
  pub proof_is : j.proof ≡ proof_read q.proof
  pub form : Guarded
  pub form_is : checked_form q.lemma.formula ≡ Some form
  pub root_is : j.root ≡ root_of setting q.attributes taken q.lemma.kind form
  pub verdict_is : IsVerdictOn setting q.lemma.kind j.root j.proof j.verdict j.log

-- one for each lemma, in the order of the text; each takes what those before it gave, by what their proofs say
abbrev pub AreJudged : Setting → List Taken → List Stated → List Judged → Type 0
AreJudged setting taken [] [] = Unit {0}
AreJudged setting taken [] (j ∷ js) = ⊥
AreJudged setting taken (q ∷ qs) [] = ⊥
AreJudged setting taken (q ∷ qs) (j ∷ js) = IsJudged setting taken q j × AreJudged setting (taken ++ taken_by q j.verdict) qs js

-- The proof of each lemma that the text poses is checked, or of the one alone whose name is given, and its verdict stands in what is written. Each fresh name of an execution or a log is one that a text can name.
pub record IsChecking (chosen : Option (List ℕ)) (text written : List ℕ) (judged : List Judged) : Type 0 where
  pub theory : WrittenText
  pub poses : Poses text theory
  pub has : has_lemma chosen (stated_in (resolved theory).items) ≡ true
  pub judged_are : AreJudged (setting_of theory) [] (run_among chosen (stated_in (resolved theory).items)) judged
  pub numbers : Every (λ (j : Judged). IsNumbered (theory_of (theory_in theory)) j.lemma j.log) judged
  pub written_is : written ≡ checked_text (theory_of (theory_in theory)) judged
