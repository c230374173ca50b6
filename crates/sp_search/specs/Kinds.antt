-- The nodes of trees in memory, and the tree that the nodes in preorder stand for.
use Rattle.std.specs.Prelude.{ℕ, List, length, Option}
use Rattle.sp_spec.specs.Log.{Log}
use Rattle.sp_spec_system.specs.System.{System}
use Rattle.sp_spec_system.specs.Move.{Move, unproved}
use Rattle.sp_spec_proof.specs.Choice.{Ranked}
use Rattle.sp_spec_nodes.specs.Preorder.{trees, first}
use Rattle.sp_search.specs.Kept.{Kept, leaf, ended, inner, nothing, with_names}

-- an open leaf with its system, its chosen move, if there is one, and its depth; a log with which the search ends; a move with the names of its cases
pub data Kind : Type 0 where
  open_leaf : System → Option Ranked → ℕ → Kind
  end_at : Log → Kind
  choice : Move → List (List ℕ) → Kind

abbrev pub case_count : Kind → ℕ
case_count (open_leaf s chosen depth) = 0
case_count (end_at log) = 0
case_count (choice move names) = length names

abbrev pub tree_over : Kind → List Kept → Kept
tree_over (open_leaf s chosen depth) branches = leaf s chosen depth
tree_over (end_at log) branches = ended log
tree_over (choice move names) branches = inner move (with_names names branches)

abbrev pub all_kept : List Kind → List Kept
all_kept nodes = trees case_count tree_over nodes

abbrev pub kept : List Kind → Kept
kept nodes = first (inner unproved nothing) (all_kept nodes)
