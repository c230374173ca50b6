-- Which trees that were read are accepted, and where the others are rejected. Source: Tamarin manual, "Proofs" (a proof that is read is
-- checked step by step); that its first step that fails is told, and by which clause, is this project's own.
use Rattle.std.specs.Prelude.{◌≡◌, ◌⊎◌, ℕ, ◌+◌, List, [], ◌∷◌, map, Option, Some, None}
use Rattle.sp_spec_system.specs.System.{System}
use Rattle.sp_spec_system.specs.Move.{Context, Case}
use Rattle.sp_spec_proof.specs.Cases.{cases}
use Rattle.sp_spec_proof.specs.Tree.{Tree, IsAccepted}
use Rattle.sp_check.specs.Skeleton.{Step, known, unknown, Skeleton, node_read, BranchesRead, none_read, branch_read, branch_names, tree_of, nodes}
use Rattle.sp_spec_printed.specs.Verdict.{Clause, clause_move, clause_instance, clause_cases}

abbrev pub IsMove : Step → Type 0
IsMove (known move) = Unit {0}
IsMove (unknown text) = ⊥

-- the cases of what a node says; none where it is no instance
abbrev pub step_cases : Context → System → Step → Option (List Case)
step_cases context s (known move) = cases context s move
step_cases context s (unknown text) = None

abbrev pub case_names : List Case → List (List ℕ)
case_names cs = map (λ c. c.name) cs

-- the node, without what stands below it, is fine, and these are its cases
abbrev pub IsFine : Context → System → Step → BranchesRead → List Case → Type 0
IsFine context s step branches cs = (step_cases context s step ≡ Some cs) × (branch_names branches ≡ case_names cs)

-- the node, without what stands below it, fails of this clause, and of none before it
abbrev pub FailsFirst : Context → System → Step → BranchesRead → Clause → Type 0
FailsFirst context s step branches clause_move = IsMove step → ⊥
FailsFirst context s step branches clause_instance = IsMove step × (step_cases context s step ≡ None)
FailsFirst context s step branches clause_cases = (cs : List Case) × IsMove step × (step_cases context s step ≡ Some cs) × (branch_names branches ≡ case_names cs → ⊥)

-- each node says a known move, and as a tree it is accepted
abbrev pub ReadIsAccepted : Context → System → Skeleton → Type 0
ReadIsAccepted context s k = (t : Tree) × (tree_of k ≡ Some t) × IsAccepted context s t

-- The node of this number, counted from 1 in preorder, is the first that fails, and this is the first clause that it fails of: the root
-- fails; or it is fine, and below it the first branch that isn't accepted has the node, behind all nodes of the branches before it.
abbrev mutual
  pub IsRejectedAt : Context → System → Skeleton → ℕ → Clause → Type 0
  IsRejectedAt context s (node_read step branches) n clause =
      ((n ≡ 1) × FailsFirst context s step branches clause)
      ⊎ ((cs : List Case) × (m : ℕ) × IsFine context s step branches cs × (n ≡ 1 + m) × AreRejectedAt context cs branches m clause)

  pub AreRejectedAt : Context → List Case → BranchesRead → ℕ → Clause → Type 0
  AreRejectedAt context [] branches n clause = ⊥
  AreRejectedAt context (c ∷ cs) none_read n clause = ⊥
  AreRejectedAt context (c ∷ cs) (branch_read name k branches) n clause =
      IsRejectedAt context c.system k n clause
      ⊎ ((m : ℕ) × ReadIsAccepted context c.system k × (n ≡ nodes k + m) × AreRejectedAt context cs branches m clause)
