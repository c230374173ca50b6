-- Growth: what is grown is accepted, and has no more steps than the budget allows.
use Rattle.std.proofs.Common.{◌≡◌, ◌≤◌, ℕ, zero, suc, ◌+◌, Bool, true, false, List, [], ◌∷◌, Option, Some, None, option_map, IfSome, is_some, if◌then◌else◌, refl, sym, true≢false, arith}
use Rattle.std.proofs.lemmas.Bool.{cond_both}
use Rattle.std.proofs.lemmas.Option.{IfSome_then}
use Rattle.sp_spec_system.specs.System.{System}
use Rattle.sp_spec_system.specs.Move.{Move, unproved, Context, Case}
use Rattle.sp_spec_proof.specs.Cases.{cases}
use Rattle.sp_spec_proof.specs.Choice.{Ranked, choice, class_of}
use Rattle.sp_spec_proof.specs.Tree.{Tree, node, Branches, no_branch, branch, IsAccepted, AreAccepted, step_of, steps, steps_in}
use Rattle.sp_spec_proof.specs.Growth.{least_class, has_class, is_unproved, leaves_for, open_leaves, grown_leaf, first_grown, grown_at, grown_in, has_end, grown_by, grown_once, go_on, grown, grown_tree}
use Rattle.sp_spec_proof.proofs.Chosen.{IfSome_map, choice_is_instance}

leaves_accepted : (context : Context) (cs : List Case) → AreAccepted context (Some cs) (leaves_for cs)
leaves_accepted context [] = tt
leaves_accepted context (c ∷ cs) = (refl, tt, leaves_accepted context cs)

open_leaves_accepted : (context : Context) (o : Option (List Case)) → is_some o ≡ true → AreAccepted context o (open_leaves o)
open_leaves_accepted context None e = true≢false (sym e)
open_leaves_accepted context (Some cs) e = leaves_accepted context cs

grown_leaf_accepted : (context : Context) (s : System) → IfSome (option_map (grown_leaf context s) (choice context s)) (IsAccepted context s)
grown_leaf_accepted context s =
    IfSome_map (grown_leaf context s) (IsAccepted context s) (choice context s)
    (IfSome_then _ {Q = λ chosen. IsAccepted context s (grown_leaf context s chosen)}
    (choice_is_instance context s) (λ chosen h. open_leaves_accepted context (cases context s chosen.move) h))

leaves_steps : (cs : List Case) → steps_in (leaves_for cs) ≡ 0
leaves_steps [] = refl
leaves_steps (c ∷ cs) = omega (arith, leaves_steps cs)

pub open_leaves_steps : (o : Option (List Case)) → steps_in (open_leaves o) ≡ 0
open_leaves_steps None = refl
open_leaves_steps (Some cs) = leaves_steps cs

step_of_one : (move : Move) → step_of move ≤ 1
step_of_one unproved = omega arith
step_of_one move = omega arith

grown_leaf_steps : (context : Context) (s : System) (chosen : Ranked) → steps (grown_leaf context s chosen) ≤ 1
grown_leaf_steps context s chosen = omega (arith, step_of_one chosen.move, open_leaves_steps (cases context s chosen.move))

-- the first tree is grown, or the branches behind it
pub IfSome-first_grown : (P : Branches → Type 0) (name : List ℕ) (tree : Tree) (branches : Branches) (o : Option Tree) (later : Option Branches)
    → IfSome o (λ t. P (branch name t branches)) → IfSome later (λ bs. P (branch name tree bs)) → IfSome (first_grown name tree branches o later) P
IfSome-first_grown P name tree branches (Some t) later h k = h
IfSome-first_grown P name tree branches None later h k = IfSome_map (branch name tree) P later k

-- a leaf that is grown, or none
pub IfSome_if : {A : Type 0} (P : A → Type 0) (b : Bool) (o : Option A) → IfSome o P → IfSome (if b then o else None) P
IfSome_if P true o h = h
IfSome_if P false o h = tt

module _ (context : Context) (k : ℕ) where
  mutual
    pub grown_at_accepted : (depth : ℕ) (tree : Tree) (s : System) → IsAccepted context s tree → IfSome (grown_at context k depth s tree) (IsAccepted context s)
    grown_at_accepted depth (node move branches) s accepted =
        cond_both (is_unproved move) _ _ (λ (o : Option Tree). IfSome o (IsAccepted context s))
        (λ _. IfSome_if (IsAccepted context s) (has_class (class_of (choice context s) depth) k) (option_map (grown_leaf context s) (choice context s)) (grown_leaf_accepted context s))
        (λ _. IfSome_map (node move) (IsAccepted context s) (grown_in context k (suc depth) (cases context s move) branches)
        (grown_in_accepted (suc depth) branches (cases context s move) accepted))

    grown_in_accepted : (depth : ℕ) (branches : Branches) (o : Option (List Case)) → AreAccepted context o branches
        → IfSome (grown_in context k depth o branches) (AreAccepted context o)
    grown_in_accepted depth branches None accepted = tt
    grown_in_accepted depth no_branch (Some []) accepted = tt
    grown_in_accepted depth no_branch (Some (c ∷ cs)) accepted = tt
    grown_in_accepted depth (branch name tree branches) (Some []) accepted = tt
    grown_in_accepted depth (branch name tree branches) (Some (c ∷ cs)) accepted =
        IfSome-first_grown (AreAccepted context (Some (c ∷ cs))) name tree branches (grown_at context k depth c.system tree) (grown_in context k depth (Some cs) branches)
        (IfSome_then _ {Q = λ t. AreAccepted context (Some (c ∷ cs)) (branch name t branches)}
        (grown_at_accepted depth tree c.system accepted.1) (λ t h. (accepted.0, h, accepted.2)))
        (IfSome_then _ {Q = λ bs. AreAccepted context (Some (c ∷ cs)) (branch name tree bs)}
        (grown_in_accepted depth branches (Some cs) accepted.2) (λ bs h. (accepted.0, accepted.1, h)))

  mutual
    -- one node more that isn't an open leaf, at most
    grown_at_steps : (depth : ℕ) (tree : Tree) (s : System) → IfSome (grown_at context k depth s tree) (λ t. steps t ≤ suc (steps tree))
    grown_at_steps depth (node move branches) s =
        cond_both (is_unproved move) _ _ (λ (o : Option Tree). IfSome o (λ t. steps t ≤ suc (steps (node move branches))))
        (λ _. IfSome_if (λ t. steps t ≤ suc (steps (node move branches))) (has_class (class_of (choice context s) depth) k)
        (option_map (grown_leaf context s) (choice context s)) (one_more (choice context s)))
        (λ _. IfSome_map (node move) (λ t. steps t ≤ suc (steps (node move branches))) (grown_in context k (suc depth) (cases context s move) branches)
        (IfSome_then _ {Q = λ bs. steps (node move bs) ≤ suc (steps (node move branches))}
        (grown_in_steps (suc depth) branches (cases context s move)) (λ bs h. omega arith)))
      where
        one_more : (o : Option Ranked) → IfSome (option_map (grown_leaf context s) o) (λ t. steps t ≤ suc (steps (node move branches)))
        one_more None = tt
        one_more (Some chosen) = omega (arith, grown_leaf_steps context s chosen)

    grown_in_steps : (depth : ℕ) (branches : Branches) (o : Option (List Case))
        → IfSome (grown_in context k depth o branches) (λ bs. steps_in bs ≤ suc (steps_in branches))
    grown_in_steps depth branches None = tt
    grown_in_steps depth no_branch (Some []) = tt
    grown_in_steps depth no_branch (Some (c ∷ cs)) = tt
    grown_in_steps depth (branch name tree branches) (Some []) = tt
    grown_in_steps depth (branch name tree branches) (Some (c ∷ cs)) =
        IfSome-first_grown (λ bs. steps_in bs ≤ suc (steps tree + steps_in branches)) name tree branches
        (grown_at context k depth c.system tree) (grown_in context k depth (Some cs) branches)
        (IfSome_then _ {Q = λ t. steps t + steps_in branches ≤ suc (steps tree + steps_in branches)} (grown_at_steps depth tree c.system) (λ t h. omega arith))
        (IfSome_then _ {Q = λ bs. steps tree + steps_in bs ≤ suc (steps tree + steps_in branches)} (grown_in_steps depth branches (Some cs)) (λ bs h. omega arith))

-- what holds of the tree that stays, and of what becomes of a grown one, holds of the result
pub go_on_keeps : (P Q : Tree → Type 0) (again : Tree → Tree) (tree : Tree) (o : Option Tree)
    → P tree → IfSome o Q → ((t : Tree) → Q t → P (again t)) → P (go_on again tree o)
go_on_keeps P Q again tree None h k continue = h
go_on_keeps P Q again tree (Some t) h k continue = continue t k

grown_by_keeps : (Q : Tree → Type 0) (context : Context) (s : System) (tree : Tree) (o : Option ℕ)
    → ((k : ℕ) → IfSome (grown_at context k 0 s tree) Q) → IfSome (grown_by context s tree o) Q
grown_by_keeps Q context s tree None each = tt
grown_by_keeps Q context s tree (Some k) each = each k

pub grown_once_keeps : (Q : Tree → Type 0) (context : Context) (s : System) (tree : Tree) → ((k : ℕ) → IfSome (grown_at context k 0 s tree) Q) → IfSome (grown_once context s tree) Q
grown_once_keeps Q context s tree each = at (has_end tree)
  where
    at : (b : Bool) → IfSome (if b then None else grown_by context s tree (least_class context 0 s tree)) Q
    at true = tt
    at false = grown_by_keeps Q context s tree (least_class context 0 s tree) each

-- what is grown from an accepted tree is accepted
pub grown_accepted : (context : Context) (s : System) (budget : ℕ) (tree : Tree) → IsAccepted context s tree → IsAccepted context s (grown context s budget tree)
unfolding grown
grown_accepted context s zero tree accepted = accepted
grown_accepted context s (suc budget) tree accepted =
    go_on_keeps (IsAccepted context s) (IsAccepted context s) (grown context s budget) tree _ accepted
    (grown_once_keeps (IsAccepted context s) context s tree
    (λ k. grown_at_accepted context k 0 tree s accepted))
    (λ t h. grown_accepted context s budget t h)

-- each unit of the budget adds one node that isn't an open leaf, at most
pub grown_steps : (context : Context) (s : System) (budget : ℕ) (tree : Tree) → steps (grown context s budget tree) ≤ steps tree + budget
unfolding grown
grown_steps context s zero tree = omega arith
grown_steps context s (suc budget) tree =
    go_on_keeps (λ t. steps t ≤ steps tree + suc budget) (λ t. steps t ≤ suc (steps tree)) (grown context s budget) tree _ (omega arith)
    (grown_once_keeps (λ t. steps t ≤ suc (steps tree)) context s tree
    (λ k. grown_at_steps context k 0 tree s))
    (λ t h. omega (arith, grown_steps context s budget t))

pub grown_tree_accepted : (context : Context) (s : System) (budget : ℕ) → IsAccepted context s (grown_tree context s budget)
grown_tree_accepted context s budget = grown_accepted context s budget (node unproved no_branch) tt

pub grown_tree_steps : (context : Context) (s : System) (budget : ℕ) → steps (grown_tree context s budget) ≤ budget
grown_tree_steps context s budget = omega (arith, grown_steps context s budget (node unproved no_branch))
