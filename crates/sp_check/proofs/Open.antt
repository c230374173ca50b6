-- Open leaves and steps of trees that are read are those of the trees that they are.
use Rattle.std.proofs.Common.{◌≡◌, ℕ, List, Bool, true, false, Some, refl, sym, ap}
use Rattle.std.specs.Prelude.{◌||◌}
use Rattle.std.proofs.lemmas.Bool.{false≢true}
use Rattle.sp_spec_system.specs.Move.{Move, unproved, solved}
use Rattle.sp_spec_proof.specs.Tree.{Tree, node, Branches, no_branch, branch, IsLeft, IsFinished, AreFinished, is_solved}
use Rattle.sp_spec_proof.specs.Growth.{has_end, some_end}
use Rattle.sp_spec_proof.specs.Tree as tree
use Rattle.sp_check.specs.Skeleton.{Step, known, Skeleton, node_read, BranchesRead, none_read, branch_read, tree_of, branches_of, steps, steps_in, is_open, has_open, some_open}
use Rattle.sp_check.proofs.Shape.{node_is, branch_is}

-- P holds exactly where both tests fail
abbrev Neither : Bool → Bool → Type 0 → Type 0
Neither a b P = (a ≡ false → b ≡ false → P) × (P → a ≡ false)

both : (P Q : Type 0) (a b c d : Bool) → Neither a b P → Neither c d Q → Neither (a || c) (b || d) (P × Q)
both P Q true b c d f g = (λ e _. absurd (false≢true (sym e)), λ h. f.1 h.0)
both P Q false true c d f g = (λ _ e. absurd (false≢true (sym e)), λ h. g.1 h.1)
both P Q false false c d f g = (λ e l. (f.0 refl refl, g.0 e l), λ h. g.1 h.1)

left_at : (move : Move) → Neither (is_open (known move)) (is_solved move) (IsLeft move → ⊥)
left_at unproved = (λ e _. absurd (false≢true (sym e)), λ h. absurd (h tt))
left_at solved = (λ _ e. absurd (false≢true (sym e)), λ h. absurd (h tt))
left_at move = (λ _ _ h. h, λ _. refl)

at_tree : (step : Step) (move : Move) (bs : BranchesRead) (t : Tree) (branches : Branches) → step ≡ known move → t ≡ node move branches
    → Neither (has_open (node_read (known move) bs)) (has_end (node move branches)) (IsFinished (node move branches)) → Neither (has_open (node_read step bs)) (has_end t) (IsFinished t)
at_tree step move bs t branches e f h = rw (e, f) h

at_branches : (bs : BranchesRead) (ts us : Branches) → ts ≡ us → Neither (some_open bs) (some_end us) (AreFinished us) → Neither (some_open bs) (some_end ts) (AreFinished ts)
at_branches bs ts us e h = rw e h

steps_at_tree : (step : Step) (move : Move) (bs : BranchesRead) (t : Tree) (branches : Branches) → step ≡ known move → t ≡ node move branches
    → steps_in bs ≡ tree.steps_in branches → steps (node_read step bs) ≡ tree.steps t
steps_at_tree step move bs t branches e f h = rw (e, f, h) refl

steps_at_branches : (name : List ℕ) (k : Skeleton) (bs : BranchesRead) (ts : Branches) (t : Tree) (us : Branches) → ts ≡ branch name t us → steps k ≡ tree.steps t
    → steps_in bs ≡ tree.steps_in us → steps_in (branch_read name k bs) ≡ tree.steps_in ts
steps_at_branches name k bs ts t us e f h = rw (e, f, h) refl

mutual
  pub left_tells : (k : Skeleton) (t : Tree) → tree_of k ≡ Some t → Neither (has_open k) (has_end t) (IsFinished t)
  left_tells (node_read step bs) t e =
      let i = node_is step bs t e in
      at_tree step i.move bs t i.branches i.step_is i.tree_is (both (IsLeft i.move → ⊥) (AreFinished i.branches) (is_open (known i.move)) (is_solved i.move) (some_open bs) (some_end i.branches) (left_at i.move) (some_left_tells bs i.branches i.branches_are))

  some_left_tells : (bs : BranchesRead) (ts : Branches) → branches_of bs ≡ Some ts → Neither (some_open bs) (some_end ts) (AreFinished ts)
  some_left_tells none_read ts e =
      let is : ts ≡ no_branch = cc in
      at_branches none_read ts no_branch is (λ _ _. tt, λ _. refl)
  some_left_tells (branch_read name k bs) ts e =
      let i = branch_is name k bs ts e in
      at_branches (branch_read name k bs) ts (branch name i.tree i.branches) i.all_are
      (both (IsFinished i.tree) (AreFinished i.branches) (has_open k) (has_end i.tree) (some_open bs) (some_end i.branches) (left_tells k i.tree i.read_is) (some_left_tells bs i.branches i.branches_are))

mutual
  pub steps_are : (k : Skeleton) (t : Tree) → tree_of k ≡ Some t → steps k ≡ tree.steps t
  steps_are (node_read step bs) t e =
      let i = node_is step bs t e in
      steps_at_tree step i.move bs t i.branches i.step_is i.tree_is (steps_in_are bs i.branches i.branches_are)

  steps_in_are : (bs : BranchesRead) (ts : Branches) → branches_of bs ≡ Some ts → steps_in bs ≡ tree.steps_in ts
  steps_in_are none_read ts e =
      let is : ts ≡ no_branch = cc in
      ap tree.steps_in (sym is)
  steps_in_are (branch_read name k bs) ts e =
      let i = branch_is name k bs ts e in
      steps_at_branches name k bs ts i.tree i.branches i.all_are (steps_are k i.tree i.read_is) (steps_in_are bs i.branches i.branches_are)
