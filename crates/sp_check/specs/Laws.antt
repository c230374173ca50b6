-- What judgements owe.
use Rattle.std.specs.Prelude.{◌≡◌, ◌↔◌, ◌<◌, ◌≤◌, ℕ, Some, None}
use Rattle.sp_spec.specs.Log.{Log}
use Rattle.sp_spec_system.specs.System.{System}
use Rattle.sp_spec_system.specs.Move.{Context}
use Rattle.sp_spec_proof.specs.Tree.{Tree, IsAccepted, IsFinished, found_log}
use Rattle.sp_spec_proof.specs.Tree as tree
use Rattle.sp_check.specs.Skeleton.{Skeleton, tree_of, nodes, steps}
use Rattle.sp_check.specs.Rejected.{ReadIsAccepted, IsRejectedAt}
use Rattle.sp_spec_printed.specs.Verdict.{Clause}
use Rattle.sp_check.specs.Judging.{rejected, found, finished, incomplete, judgement}

-- Judgements of trees that were read. A tree is rejected at its first step that fails, with the first clause that this step fails of,
-- exactly where it isn't accepted. An accepted one has a log exactly where the search ends at some leaf, and it is the log of the first such
-- leaf; it is finished exactly where no leaf is left at all.
pub record JudgementsAreRight : Type 0 where
  pub rejects : (context : Context) (s : System) (k : Skeleton) (n : ℕ) (clause : Clause) → (judgement context s k ≡ rejected n clause) ↔ IsRejectedAt context s k n clause
  pub rejects_the_others : (context : Context) (s : System) (k : Skeleton) → (ReadIsAccepted context s k → ⊥) ↔ ((n : ℕ) × ((clause : Clause) × IsRejectedAt context s k n clause))
  pub finds : (context : Context) (s : System) (k : Skeleton) (log : Log)
      → (judgement context s k ≡ found log) ↔ ((t : Tree) × (tree_of k ≡ Some t) × IsAccepted context s t × (found_log context s t ≡ Some log))
  pub finishes : (context : Context) (s : System) (k : Skeleton) → (judgement context s k ≡ finished) ↔ ((t : Tree) × (tree_of k ≡ Some t) × IsAccepted context s t × IsFinished t)
  pub leaves_open : (context : Context) (s : System) (k : Skeleton)
      → (judgement context s k ≡ incomplete) ↔ ((t : Tree) × (tree_of k ≡ Some t) × IsAccepted context s t × (found_log context s t ≡ None) × (IsFinished t → ⊥))
  -- there is one such step and one such clause, and it is a node of the tree
  pub one_step : (context : Context) (s : System) (k : Skeleton) (n m : ℕ) (clause other : Clause) → IsRejectedAt context s k n clause → IsRejectedAt context s k m other → (n ≡ m) × (clause ≡ other)
  pub is_a_node : (context : Context) (s : System) (k : Skeleton) (n : ℕ) (clause : Clause) → IsRejectedAt context s k n clause → (0 < n) × (n ≤ nodes k)
  -- the steps of a tree that was read are those of the tree
  pub counts : (k : Skeleton) (t : Tree) → tree_of k ≡ Some t → steps k ≡ tree.steps t
