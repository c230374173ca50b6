-- Proof trees as they are read from a text, before they are judged. Source: Tamarin manual, "Proofs".
use Rattle.std.specs.Prelude.{ℕ, ◌+◌, Bool, false, ◌||◌, List, [], ◌∷◌, Option, Some, None, option_map, option_and_then}
use Rattle.sp_spec_system.specs.Move.{Move}
use Rattle.sp_spec_proof.specs.Tree.{Tree, node, Branches, no_branch, branch, step_of}
use Rattle.sp_spec_proof.specs.Growth.{is_unproved}

-- What a node's text says: a move, or no move, by its text.
pub data Step : Type 0 where
  known : Move → Step
  unknown : List ℕ → Step

mutual
  pub data Skeleton : Type 0 where
    node_read : Step → BranchesRead → Skeleton

  pub data BranchesRead : Type 0 where
    none_read : BranchesRead
    branch_read : List ℕ → Skeleton → BranchesRead → BranchesRead

-- the names of branches, one by one
abbrev pub branch_names : BranchesRead → List (List ℕ)
branch_names none_read = []
branch_names (branch_read name k branches) = name ∷ branch_names branches

-- the tree, if each node says a known move
abbrev pub node_of : Step → Option Branches → Option Tree
node_of (known move) branches = option_map (node move) branches
node_of (unknown text) branches = None

abbrev mutual
  pub tree_of : Skeleton → Option Tree
  tree_of (node_read step branches) = node_of step (branches_of branches)

  pub branches_of : BranchesRead → Option Branches
  branches_of none_read = Some no_branch
  branches_of (branch_read name k branches) = option_and_then (λ t. option_map (branch name t) (branches_of branches)) (tree_of k)

-- how many nodes there are, open leaves included
abbrev mutual
  pub nodes : Skeleton → ℕ
  nodes (node_read step branches) = 1 + nodes_in branches

  pub nodes_in : BranchesRead → ℕ
  nodes_in none_read = 0
  nodes_in (branch_read name k branches) = nodes k + nodes_in branches

-- how many nodes aren't open leaves
abbrev pub steps_at : Step → ℕ
steps_at (known move) = step_of move
steps_at (unknown text) = 1

abbrev mutual
  pub steps : Skeleton → ℕ
  steps (node_read step branches) = steps_at step + steps_in branches

  pub steps_in : BranchesRead → ℕ
  steps_in none_read = 0
  steps_in (branch_read name k branches) = steps k + steps_in branches

-- whether some node is an open leaf
abbrev pub is_open : Step → Bool
is_open (known move) = is_unproved move
is_open (unknown text) = false

abbrev mutual
  pub has_open : Skeleton → Bool
  has_open (node_read step branches) = is_open step || some_open branches

  pub some_open : BranchesRead → Bool
  some_open none_read = false
  some_open (branch_read name k branches) = has_open k || some_open branches
