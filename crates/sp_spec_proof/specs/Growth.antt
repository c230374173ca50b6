-- How a tree is grown: this project's own search. One open leaf after the other is replaced by its chosen move.
use Rattle.std.specs.Prelude.{Bool, ℕ, suc, List, [], ◌∷◌, if◌then◌else◌, Option, Some, None, min, true, false, ◌==◌, option_map, ◌||◌, zero}
use Rattle.sp_spec_system.specs.System.{System}
use Rattle.sp_spec_system.specs.Move.{Move, Context, unproved, Case}
use Rattle.sp_spec_proof.specs.Cases.{cases}
use Rattle.sp_spec_proof.specs.Choice.{Ranked, choice, class_of}
use Rattle.sp_spec_proof.specs.Tree.{Tree, node, Branches, branch, no_branch, is_solved}

abbrev pub least : Option ℕ → Option ℕ → Option ℕ
least None other = other
least (Some a) None = Some a
least (Some a) (Some b) = Some (min a b)

abbrev pub is_unproved : Move → Bool
is_unproved unproved = true
is_unproved move = false

-- the least class of the tree's open leaves
abbrev mutual
  pub least_class : Context → ℕ → System → Tree → Option ℕ
  least_class context depth s (node move branches) =
      if is_unproved move then class_of (choice context s) depth else least_class_in context (suc depth) (cases context s move) branches

  pub least_class_in : Context → ℕ → Option (List Case) → Branches → Option ℕ
  least_class_in context depth (Some (c ∷ cs)) (branch name tree branches) = least (least_class context depth c.system tree) (least_class_in context depth (Some cs) branches)
  least_class_in context depth cs branches = None

-- an open leaf for each case
abbrev pub leaves_for : List Case → Branches
leaves_for [] = no_branch
leaves_for (c ∷ cs) = branch c.name (node unproved no_branch) (leaves_for cs)

abbrev pub open_leaves : Option (List Case) → Branches
open_leaves None = no_branch
open_leaves (Some cs) = leaves_for cs

abbrev pub has_class : Option ℕ → ℕ → Bool
has_class None k = false
has_class (Some j) k = j == k

-- the leaf replaced by its chosen move, with an open leaf at each case
abbrev pub grown_leaf : Context → System → Ranked → Tree
grown_leaf context s chosen = node chosen.move (open_leaves (cases context s chosen.move))

abbrev pub first_grown : List ℕ → Tree → Branches → Option Tree → Option Branches → Option Branches
first_grown name tree branches (Some grown) later = Some (branch name grown branches)
first_grown name tree branches None later = option_map (branch name tree) later

-- the first open leaf in preorder of this class is replaced; none if there is no such leaf
abbrev mutual
  pub grown_at : Context → ℕ → ℕ → System → Tree → Option Tree
  grown_at context k depth s (node move branches) =
      if is_unproved move
      then (if has_class (class_of (choice context s) depth) k then option_map (grown_leaf context s) (choice context s) else None)
      else option_map (node move) (grown_in context k (suc depth) (cases context s move) branches)

  pub grown_in : Context → ℕ → ℕ → Option (List Case) → Branches → Option Branches
  grown_in context k depth (Some (c ∷ cs)) (branch name tree branches) =
      first_grown name tree branches (grown_at context k depth c.system tree) (grown_in context k depth (Some cs) branches)
  grown_in context k depth cs branches = None

-- whether the search ends at some leaf
abbrev mutual
  pub has_end : Tree → Bool
  has_end (node move branches) = is_solved move || some_end branches

  pub some_end : Branches → Bool
  some_end no_branch = false
  some_end (branch name tree branches) = has_end tree || some_end branches

abbrev pub grown_by : Context → System → Tree → Option ℕ → Option Tree
grown_by context s tree None = None
grown_by context s tree (Some k) = grown_at context k 0 s tree

-- one turn; none once the search has ended
abbrev pub grown_once : Context → System → Tree → Option Tree
grown_once context s tree = if has_end tree then None else grown_by context s tree (least_class context 0 s tree)

abbrev pub go_on : (Tree → Tree) → Tree → Option Tree → Tree
go_on again tree None = tree
go_on again tree (Some grown) = again grown

-- the open leaf of least class, the first in preorder, is replaced, as often as the budget says and as there is one, until the search ends
unfoldable pub grown : Context → System → ℕ → Tree → Tree
grown context s zero tree = tree
grown context s (suc budget) tree = go_on (grown context s budget) tree (grown_once context s tree)

abbrev pub grown_tree : Context → System → ℕ → Tree
grown_tree context s budget = grown context s budget (node unproved no_branch)
