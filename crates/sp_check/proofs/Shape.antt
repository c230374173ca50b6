-- Trees that are read, and the trees that they are.
use Rattle.std.proofs.Common.{◌≡◌, ℕ, false, List, [], ◌∷◌, Option, Some, None, option_map, option_and_then, refl, sym, subst}
use Rattle.sp_spec.specs.Log.{Log}
use Rattle.sp_spec_system.specs.System.{System}
use Rattle.sp_spec_system.specs.Move.{Move, Context, Case}
use Rattle.sp_spec_proof.specs.Cases.{cases}
use Rattle.sp_spec_proof.specs.Tree.{Tree, node, Branches, no_branch, branch, IsAccepted, AreAccepted, is_solved, first_log, found_log, found_below}
use Rattle.sp_check.specs.Skeleton.{Step, known, unknown, Skeleton, node_read, BranchesRead, none_read, branch_read, branch_names, tree_of, branches_of}
use Rattle.sp_check.specs.Rejected.{case_names, IsFine, ReadIsAccepted}

-- what a node is that stands for a tree
pub record NodeIs (step : Step) (bs : BranchesRead) (t : Tree) : Type 0 where
  pub move : Move
  pub branches : Branches
  pub step_is : step ≡ known move
  pub branches_are : branches_of bs ≡ Some branches
  pub tree_is : t ≡ node move branches

pub node_is : (step : Step) (bs : BranchesRead) (t : Tree) → tree_of (node_read step bs) ≡ Some t → NodeIs step bs t
node_is (unknown text) bs t e = absurd (let none : ⊥ = cc in none)
node_is (known move) bs t e = by_branches (branches_of bs) refl e
  where
    by_branches : (o : Option Branches) → branches_of bs ≡ o → option_map (node move) o ≡ Some t → NodeIs (known move) bs t
    by_branches None is e = absurd (let none : ⊥ = cc in none)
    by_branches (Some branches) is e = record { move = move; branches = branches; step_is = refl; branches_are = is; tree_is = cc }

-- what branches are that stand for branches
pub record BranchIs (name : List ℕ) (k : Skeleton) (bs : BranchesRead) (ts : Branches) : Type 0 where
  pub tree : Tree
  pub branches : Branches
  pub read_is : tree_of k ≡ Some tree
  pub branches_are : branches_of bs ≡ Some branches
  pub all_are : ts ≡ branch name tree branches

pub branch_is : (name : List ℕ) (k : Skeleton) (bs : BranchesRead) (ts : Branches) → branches_of (branch_read name k bs) ≡ Some ts → BranchIs name k bs ts
branch_is name k bs ts e = by_both (tree_of k) (branches_of bs) refl refl e
  where
    by_both : (o : Option Tree) (p : Option Branches) → tree_of k ≡ o → branches_of bs ≡ p → option_and_then (λ t. option_map (branch name t) p) o ≡ Some ts → BranchIs name k bs ts
    by_both None p is are e = absurd (let none : ⊥ = cc in none)
    by_both (Some t) None is are e = absurd (let none : ⊥ = cc in none)
    by_both (Some t) (Some us) is are e = record { tree = t; branches = us; read_is = is; branches_are = are; all_are = cc }

-- the branches stand for trees that are accepted for these cases
abbrev pub ReadAreAccepted : Context → List Case → BranchesRead → Type 0
ReadAreAccepted context cs bs = (ts : Branches) × (branches_of bs ≡ Some ts) × AreAccepted context (Some cs) ts

pub first_accepted : (context : Context) (c : Case) (cs : List Case) (name : List ℕ) (k : Skeleton) (bs : BranchesRead) → ReadAreAccepted context (c ∷ cs) (branch_read name k bs)
    → (name ≡ c.name) × ReadIsAccepted context c.system k × ReadAreAccepted context cs bs
first_accepted context c cs name k bs h =
    let i = branch_is name k bs h.0 h.1 in
    let a = subst (AreAccepted context (Some (c ∷ cs))) i.all_are h.2 in
    (a.0, (i.tree, i.read_is, a.1), (i.branches, i.branches_are, a.2))

-- accepted branches have the names of the cases
pub accepted_named : (context : Context) (cs : List Case) (bs : BranchesRead) → ReadAreAccepted context cs bs → branch_names bs ≡ case_names cs
accepted_named context [] none_read h = refl
accepted_named context [] (branch_read name k bs) h =
    let i = branch_is name k bs h.0 h.1 in
    absurd (subst (AreAccepted context (Some [])) i.all_are h.2)
accepted_named context (c ∷ cs) none_read h =
    let is : no_branch ≡ h.0 = (let e = h.1 in cc) in
    absurd (subst (AreAccepted context (Some (c ∷ cs))) (sym is) h.2)
accepted_named context (c ∷ cs) (branch_read name k bs) h =
    let a = first_accepted context c cs name k bs h in
    let first = a.0 in
    let others = accepted_named context cs bs a.2 in
    cc

-- an accepted node is fine, and its branches are accepted
pub accepted_node : (context : Context) (s : System) (step : Step) (bs : BranchesRead) → ReadIsAccepted context s (node_read step bs)
    → (cs : List Case) × IsFine context s step bs cs × ReadAreAccepted context cs bs
accepted_node context s step bs h =
    let i = node_is step bs h.0 h.1 in
    at_node i (cases context s i.move) refl (subst (IsAccepted context s) i.tree_is h.2)
  where
    at_node : (i : NodeIs step bs h.0) (o : Option (List Case)) → cases context s i.move ≡ o → AreAccepted context o i.branches
        → (cs : List Case) × IsFine context s step bs cs × ReadAreAccepted context cs bs
    at_node i None e a = absurd a
    at_node i (Some cs) e a =
        let below : ReadAreAccepted context cs bs = (i.branches, i.branches_are, a) in
        (cs, (rw i.step_is e, accepted_named context cs bs below), below)

-- the tree is accepted, with this log; the branches are for these cases, with this log
abbrev pub ReadHas : Context → System → Skeleton → Option Log → Type 0
ReadHas context s k o = (t : Tree) × (tree_of k ≡ Some t) × IsAccepted context s t × (found_log context s t ≡ o)

abbrev pub ReadHave : Context → List Case → BranchesRead → Option Log → Type 0
ReadHave context cs bs o = (ts : Branches) × (branches_of bs ≡ Some ts) × AreAccepted context (Some cs) ts × (found_below context (Some cs) ts ≡ o)

pub more_have : (context : Context) (c : Case) (cs : List Case) (name : List ℕ) (k : Skeleton) (bs : BranchesRead) (o later : Option Log) → name ≡ c.name → ReadHas context c.system k o
    → ReadHave context cs bs later → ReadHave context (c ∷ cs) (branch_read name k bs) (first_log o later)
more_have context c cs name k bs o later e h hs = (branch name h.0 hs.0, rw (h.1, hs.1) refl, (e, h.2, hs.2), rw (h.3, hs.3) refl)

-- a fine node at which the search doesn't end, with accepted branches
pub node_has : (context : Context) (s : System) (move : Move) → is_solved move ≡ false → (bs : BranchesRead) (cs : List Case) (o : Option Log) → cases context s move ≡ Some cs
    → ReadHave context cs bs o → ReadHas context s (node_read (known move) bs) o
node_has context s move goes_on bs cs o e h =
    let P : Option (List Case) → Type 0 = λ o. AreAccepted context o h.0 in
    (node move h.0, rw h.1 refl, subst P (sym e) h.2, rw (goes_on, e) h.3)
