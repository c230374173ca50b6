-- Proof trees that are read, as lists of their nodes in preorder, and how they are walked there.
use Rattle.std.specs.Prelude.{ℕ, ◌+◌, List, [], ◌∷◌, ◌++◌, length, Option, Some}
use Rattle.sp_spec.specs.Log.{Log}
use Rattle.sp_spec_nodes.specs.Preorder.{trees, first}
use Rattle.sp_spec_system.specs.System.{System}
use Rattle.sp_spec_system.specs.Move.{Context, systems_in}
use Rattle.sp_spec_proof.specs.Tree.{first_log}
use Rattle.sp_check.specs.Skeleton.{Step, unknown, Skeleton, node_read, BranchesRead, none_read, branch_read}
use Rattle.sp_check.specs.Judging.{Checked, fails, leads_to, ends_with, step_checked, NodesJudged, passed, stopped}

-- what a node says, and the names of its cases
abbrev pub NodeRead : Type 0
NodeRead = Step × List (List ℕ)

abbrev pub with_names : List (List ℕ) → List Skeleton → BranchesRead
with_names [] ks = none_read
with_names (name ∷ names) [] = none_read
with_names (name ∷ names) (k ∷ ks) = branch_read name k (with_names names ks)

abbrev pub cases_at : NodeRead → ℕ
cases_at n = length n.1

abbrev pub over : NodeRead → List Skeleton → Skeleton
over n ks = node_read n.0 (with_names n.1 ks)

-- the tree that the nodes stand for, if they stand for one
abbrev pub tree_read : List NodeRead → Skeleton
tree_read ns = first (node_read (unknown []) none_read) (trees cases_at over ns)

-- A walk over nodes in preorder, behind nodes that have been met before, and the first log among them: these are the systems of the trees
-- that begin there, one behind the other. A node is checked for the first, and in its place come those of its cases.
abbrev pub node_walked : ℕ → Option Log → List System → Checked → (Option Log → List System → NodesJudged) → NodesJudged
node_walked number met ss (fails clause) later = stopped number clause
node_walked number met ss (leads_to cs) later = later met (systems_in cs ++ ss)
node_walked number met ss (ends_with log) later = later (first_log met (Some log)) ss

abbrev pub walk_all : Context → ℕ → Option Log → List System → List NodeRead → NodesJudged
walk_all context before met ss [] = passed before met
walk_all context before met [] (n ∷ ns) = passed before met
walk_all context before met (s ∷ ss) (n ∷ ns) =
    node_walked (before + 1) met ss (step_checked context s n.0 n.1) (λ log left. walk_all context (before + 1) log left ns)
