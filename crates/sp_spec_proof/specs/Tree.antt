-- Proof trees: which are accepted. Source: Tamarin manual, "Proofs".
use Rattle.std.specs.Prelude.{ℕ, List, ◌≡◌, [], ◌∷◌, Option, Some, None, Bool, true, false, if◌then◌else◌, ◌+◌}
use Rattle.sp_spec_system.specs.Move.{Move, Context, Case, unproved, solved, end_log}
use Rattle.sp_spec_system.specs.System.{System}
use Rattle.sp_spec_proof.specs.Cases.{cases}
use Rattle.sp_spec.specs.Log.{Log}

-- a move, and a tree for each of its cases, by the case's name
mutual
  pub data Tree : Type 0 where
    node : Move → Branches → Tree

  pub data Branches : Type 0 where
    no_branch : Branches
    branch : List ℕ → Tree → Branches → Branches

-- At each node the move is an instance, and the branches are its cases in their order, each with a tree that is accepted for it.
abbrev mutual
  pub IsAccepted : Context → System → Tree → Type 0
  IsAccepted context s (node move branches) = AreAccepted context (cases context s move) branches

  pub AreAccepted : Context → Option (List Case) → Branches → Type 0
  AreAccepted context None branches = ⊥
  AreAccepted context (Some []) no_branch = Unit {0}
  AreAccepted context (Some []) (branch name tree branches) = ⊥
  AreAccepted context (Some (c ∷ cs)) no_branch = ⊥
  AreAccepted context (Some (c ∷ cs)) (branch name tree branches) = (name ≡ c.name) × IsAccepted context c.system tree × AreAccepted context (Some cs) branches

-- a leaf at which a solution may be left: an open one, or one with which the search ends
abbrev pub IsLeft : Move → Type 0
IsLeft unproved = Unit {0}
IsLeft solved = Unit {0}
IsLeft move = ⊥

-- no such leaf is left
abbrev mutual
  pub IsFinished : Tree → Type 0
  IsFinished (node move branches) = (IsLeft move → ⊥) × AreFinished branches

  pub AreFinished : Branches → Type 0
  AreFinished no_branch = Unit {0}
  AreFinished (branch name tree branches) = IsFinished tree × AreFinished branches

abbrev pub is_solved : Move → Bool
is_solved solved = true
is_solved move = false

abbrev pub first_log : Option Log → Option Log → Option Log
first_log (Some log) later = Some log
first_log None later = later

-- the log of the first leaf in preorder with which the search ends
abbrev mutual
  pub found_log : Context → System → Tree → Option Log
  found_log context s (node move branches) = if is_solved move then end_log context s else found_below context (cases context s move) branches

  pub found_below : Context → Option (List Case) → Branches → Option Log
  found_below context (Some (c ∷ cs)) (branch name tree branches) = first_log (found_log context c.system tree) (found_below context (Some cs) branches)
  found_below context cs branches = None

-- how many nodes aren't open leaves
abbrev pub step_of : Move → ℕ
step_of unproved = 0
step_of move = 1

abbrev mutual
  pub steps : Tree → ℕ
  steps (node move branches) = step_of move + steps_in branches

  pub steps_in : Branches → ℕ
  steps_in no_branch = 0
  steps_in (branch name tree branches) = steps tree + steps_in branches
