-- What a tree in memory holds: at each open leaf its system, the move that is chosen for it, if there is one, and its depth, and the log with which the search ends.
use Rattle.std.specs.Prelude.{ℕ, List, [], ◌∷◌, Option, Some, None}
use Rattle.sp_spec.specs.Log.{Log}
use Rattle.sp_spec_system.specs.System.{System}
use Rattle.sp_spec_system.specs.Move.{Move, unproved, solved}
use Rattle.sp_spec_proof.specs.Choice.{Ranked}
use Rattle.sp_spec_proof.specs.Tree.{Tree, node, Branches, no_branch, branch, first_log}

mutual
  pub data Kept : Type 0 where
    leaf : System → Option Ranked → ℕ → Kept
    ended : Log → Kept
    inner : Move → Keeps → Kept

  pub data Keeps : Type 0 where
    nothing : Keeps
    also : List ℕ → Kept → Keeps → Keeps

-- trees by the names of their cases
abbrev pub with_names : List (List ℕ) → List Kept → Keeps
with_names [] trees = nothing
with_names (name ∷ names) [] = nothing
with_names (name ∷ names) (tree ∷ trees) = also name tree (with_names names trees)

-- the proof tree, in which an open leaf is a node that is not proved, and the search ends where a log is
abbrev mutual
  pub shown : Kept → Tree
  shown (leaf s chosen depth) = node unproved no_branch
  shown (ended log) = node solved no_branch
  shown (inner move branches) = node move (shown_all branches)

  pub shown_all : Keeps → Branches
  shown_all nothing = no_branch
  shown_all (also name tree branches) = branch name (shown tree) (shown_all branches)

-- the first log in preorder
abbrev mutual
  pub log_in : Kept → Option Log
  log_in (leaf s chosen depth) = None
  log_in (ended log) = Some log
  log_in (inner move branches) = log_among branches

  pub log_among : Keeps → Option Log
  log_among nothing = None
  log_among (also name tree branches) = first_log (log_in tree) (log_among branches)
