-- How a tree that was read is judged.
use Rattle.std.specs.Prelude.{ℕ, ◌+◌, Bool, true, false, ◌&&◌, if◌then◌else◌, List, [], ◌∷◌, Option, Some, None, bytes_eq}
use Rattle.sp_spec.specs.Log.{Log}
use Rattle.sp_spec_system.specs.System.{System}
use Rattle.sp_spec_system.specs.Move.{Move, Context, Case, end_log}
use Rattle.sp_spec_proof.specs.Cases.{cases}
use Rattle.sp_spec_proof.specs.Tree.{is_solved, first_log}
use Rattle.sp_check.specs.Skeleton.{Step, known, unknown, Skeleton, node_read, BranchesRead, none_read, branch_read, branch_names, has_open}
use Rattle.sp_spec_printed.specs.Verdict.{Clause, clause_move, clause_instance, clause_cases}

-- What comes of a tree: the number of the step that is rejected, and the clause that it fails of; else the log of the first leaf with
-- which the search ends; else whether it has no open leaf.
pub data Judgement : Type 0 where
  rejected : ℕ → Clause → Judgement
  found : Log → Judgement
  finished : Judgement
  incomplete : Judgement

-- these are the names of the cases, one by one in their order
abbrev pub are_named : List Case → List (List ℕ) → Bool
are_named [] [] = true
are_named [] (name ∷ names) = false
are_named (c ∷ cs) [] = false
are_named (c ∷ cs) (name ∷ names) = bytes_eq c.name name && are_named cs names

-- a node by itself: the clause that it fails of; or its cases; or the log with which the search ends here
pub data Checked : Type 0 where
  fails : Clause → Checked
  leads_to : List Case → Checked
  ends_with : Log → Checked

-- by what it says, and by the names of its branches
abbrev pub names_checked : List (List ℕ) → List Case → Checked
names_checked names cs = if are_named cs names then leads_to cs else fails clause_cases

abbrev pub cases_checked : List (List ℕ) → Option (List Case) → Checked
cases_checked names None = fails clause_instance
cases_checked names (Some cs) = names_checked names cs

abbrev pub log_checked : List (List ℕ) → Option Log → Checked
log_checked names None = fails clause_instance
log_checked names (Some log) = if are_named [] names then ends_with log else fails clause_cases

abbrev pub move_checked : Context → System → Move → List (List ℕ) → Checked
move_checked context s move names = if is_solved move then log_checked names (end_log context s) else cases_checked names (cases context s move)

abbrev pub step_checked : Context → System → Step → List (List ℕ) → Checked
step_checked context s (known move) names = move_checked context s move names
step_checked context s (unknown text) names = fails clause_move

-- What comes of a walk in preorder: no node fails, so many have been met by then, and this is the first log that has; or the node of this
-- number fails.
pub data NodesJudged : Type 0 where
  passed : ℕ → Option Log → NodesJudged
  stopped : ℕ → Clause → NodesJudged

abbrev pub walked_on : NodesJudged → (ℕ → Option Log → NodesJudged) → NodesJudged
walked_on (passed n log) later = later n log
walked_on (stopped n clause) later = stopped n clause

-- behind the nodes that have been met before, and the first log among them
abbrev mutual
  pub walk : Context → ℕ → Option Log → System → Skeleton → NodesJudged
  walk context before met s (node_read step branches) = walk_checked context (before + 1) met (step_checked context s step (branch_names branches)) branches

  pub walk_checked : Context → ℕ → Option Log → Checked → BranchesRead → NodesJudged
  walk_checked context number met (fails clause) branches = stopped number clause
  walk_checked context number met (ends_with log) branches = passed number (first_log met (Some log))
  walk_checked context number met (leads_to []) branches = passed number met
  walk_checked context number met (leads_to (c ∷ cs)) none_read = passed number met
  walk_checked context number met (leads_to (c ∷ cs)) (branch_read name k branches) =
      walked_on (walk context number met c.system k) (λ n log. walk_checked context n log (leads_to cs) branches)

abbrev pub judged : Bool → NodesJudged → Judgement
judged left_open (stopped n clause) = rejected n clause
judged left_open (passed n (Some log)) = found log
judged true (passed n None) = incomplete
judged false (passed n None) = finished

abbrev pub judgement : Context → System → Skeleton → Judgement
judgement context s k = judged (has_open k) (walk context 0 None s k)
