-- What is so of each move that is chosen is so of each move of a tree that is grown.
use Rattle.std.proofs.Common.{ℕ, zero, suc, List, [], ◌∷◌, Option, Some, None, option_map, IfSome}
use Rattle.std.proofs.lemmas.Bool.{cond_both}
use Rattle.std.proofs.lemmas.Option.{IfSome_then}
use Rattle.sp_spec_system.specs.System.{System}
use Rattle.sp_spec_system.specs.Move.{Move, unproved, Context, Case}
use Rattle.sp_spec_proof.specs.Cases.{cases}
use Rattle.sp_spec_proof.specs.Choice.{Ranked, choice, class_of}
use Rattle.sp_spec_proof.specs.Tree.{Tree, node, Branches, no_branch, branch}
use Rattle.sp_spec_proof.specs.Growth.{has_class, is_unproved, leaves_for, open_leaves, grown_leaf, grown_at, grown_in, grown, grown_tree}
use Rattle.sp_spec_proof.proofs.Chosen.{IfSome_map}
use Rattle.sp_spec_proof.proofs.Growing.{IfSome-first_grown, IfSome_if, go_on_keeps, grown_once_keeps}

module _ (P : Move → Type 0) where
  abbrev mutual
    pub EachMove : Tree → Type 0
    EachMove (node move branches) = P move × EachMoveIn branches

    pub EachMoveIn : Branches → Type 0
    EachMoveIn no_branch = Unit {0}
    EachMoveIn (branch name tree branches) = EachMove tree × EachMoveIn branches

  module _ (leaf : P unproved) (context : Context) (chosen : (s : System) → IfSome (choice context s) (λ (r : Ranked). P r.move)) where
    leaves_have : (cs : List Case) → EachMoveIn (leaves_for cs)
    leaves_have [] = tt
    leaves_have (c ∷ cs) = ((leaf, tt), leaves_have cs)

    open_leaves_have : (o : Option (List Case)) → EachMoveIn (open_leaves o)
    open_leaves_have None = tt
    open_leaves_have (Some cs) = leaves_have cs

    leaf_has : (s : System) → IfSome (option_map (grown_leaf context s) (choice context s)) EachMove
    leaf_has s =
        IfSome_map (grown_leaf context s) EachMove (choice context s)
        (IfSome_then _ {Q = λ (r : Ranked). EachMove (grown_leaf context s r)} (chosen s) (λ r h. (h, open_leaves_have (cases context s r.move))))

    mutual
      at_have : (k depth : ℕ) (tree : Tree) (s : System) → EachMove tree → IfSome (grown_at context k depth s tree) EachMove
      at_have k depth (node move branches) s h =
          cond_both (is_unproved move) _ _ (λ (o : Option Tree). IfSome o EachMove)
          (λ _. IfSome_if EachMove (has_class (class_of (choice context s) depth) k) (option_map (grown_leaf context s) (choice context s)) (leaf_has s))
          (λ _. IfSome_map (node move) EachMove (grown_in context k (suc depth) (cases context s move) branches)
          (IfSome_then _ {Q = λ bs. EachMove (node move bs)} (in_have k (suc depth) branches (cases context s move) h.1) (λ bs g. (h.0, g))))

      in_have : (k depth : ℕ) (branches : Branches) (o : Option (List Case)) → EachMoveIn branches → IfSome (grown_in context k depth o branches) EachMoveIn
      in_have k depth branches None h = tt
      in_have k depth no_branch (Some []) h = tt
      in_have k depth no_branch (Some (c ∷ cs)) h = tt
      in_have k depth (branch name tree branches) (Some []) h = tt
      in_have k depth (branch name tree branches) (Some (c ∷ cs)) h =
          IfSome-first_grown EachMoveIn name tree branches (grown_at context k depth c.system tree) (grown_in context k depth (Some cs) branches)
          (IfSome_then _ {Q = λ t. EachMoveIn (branch name t branches)} (at_have k depth tree c.system h.0) (λ t g. (g, h.1)))
          (IfSome_then _ {Q = λ bs. EachMoveIn (branch name tree bs)} (in_have k depth branches (Some cs) h.1) (λ bs g. (h.0, g)))

    grown_have : (s : System) (budget : ℕ) (tree : Tree) → EachMove tree → EachMove (grown context s budget tree)
    unfolding grown
    grown_have s zero tree h = h
    grown_have s (suc budget) tree h =
        go_on_keeps EachMove EachMove (grown context s budget) tree _ h (grown_once_keeps EachMove context s tree (λ k. at_have k 0 tree s h)) (λ t g. grown_have s budget t g)

    pub grown_tree_has : (s : System) (budget : ℕ) → EachMove (grown_tree context s budget)
    grown_tree_has s budget = grown_have s budget (node unproved no_branch) (leaf, tt)
