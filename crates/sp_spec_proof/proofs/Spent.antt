-- Where some move is chosen for each system, growth stops only where the search ends, where no open leaf is left, or where the budget is spent.
use Rattle.std.proofs.Common.{◌≡◌, ◌⊎◌, ⊎_elim, inl, inr, ◌+◌, ℕ, zero, suc, min, nat_le, Bool, true, false, List, [], ◌∷◌, Option, Some, None, option_map, IfSome, is_some, if◌then◌else◌, refl, sym, ap, ◌∙◌, subst, arith}
use Rattle.std.proofs.lemmas.Bool.{eq-eqb, or_parts, leb-true, leb-false}
use Rattle.sp_spec_system.specs.System.{System}
use Rattle.sp_spec_system.specs.Move.{Move, unproved, solved, Context, Case}
use Rattle.sp_spec_proof.specs.Cases.{cases}
use Rattle.sp_spec_proof.specs.Choice.{Ranked, choice, class_of}
use Rattle.sp_spec_proof.specs.Tree.{Tree, node, Branches, no_branch, branch, IsAccepted, AreAccepted, IsFinished, AreFinished, step_of, steps, steps_in}
use Rattle.sp_spec_proof.specs.Growth.{least, least_class, least_class_in, has_class, is_unproved, grown_leaf, first_grown, grown_at, grown_in, has_end, some_end, grown_by, go_on, grown, grown_tree}
use Rattle.sp_spec_proof.proofs.Chosen.{choice_is_proper}
use Rattle.sp_spec_proof.proofs.Growing.{grown_at_accepted, open_leaves_steps}

-- ---- the least class

none_of_two : (a b : Option ℕ) → least a b ≡ None → (a ≡ None) × (b ≡ None)
none_of_two None b e = (refl, e)
none_of_two (Some i) None e = absurd cc
none_of_two (Some i) (Some j) e = absurd cc

one_of_two : (a b : Option ℕ) (k : ℕ) → least a b ≡ Some k → (a ≡ Some k) ⊎ (b ≡ Some k)
one_of_two None b k e = inr e
one_of_two (Some i) None k e = inl e
one_of_two (Some i) (Some j) k e = at (nat_le i j) refl
  where
    at : (b : Bool) → nat_le i j ≡ b → (Some i ≡ Some k) ⊎ (Some j ≡ Some k)
    at true h = let q : min i j ≡ i = omega (arith, leb-true i j h) in inl (ap Some (sym q) ∙ e)
    at false h = let q : min i j ≡ j = omega (arith, leb-false i j h) in inr (ap Some (sym q) ∙ e)

-- ---- no open leaf

module _ (context : Context) (goes_on : (s : System) → is_some (choice context s) ≡ true) where
  some_class : (o : Option Ranked) (depth : ℕ) → is_some o ≡ true → class_of o depth ≡ None → ⊥
  some_class None depth h e = cc
  some_class (Some r) depth h e = cc

  mutual
    none_open : (depth : ℕ) (tree : Tree) (s : System) → IsAccepted context s tree → least_class context depth s tree ≡ None → has_end tree ≡ false → IsFinished tree
    none_open depth (node unproved branches) s a e h = absurd (some_class (choice context s) depth (goes_on s) e)
    none_open depth (node solved branches) s a e h = absurd cc
    none_open depth (node move branches) s a e h = (λ left. left, none_open_in (suc depth) branches (cases context s move) a e h)

    none_open_in : (depth : ℕ) (branches : Branches) (o : Option (List Case)) → AreAccepted context o branches → least_class_in context depth o branches ≡ None → some_end branches ≡ false
        → AreFinished branches
    none_open_in depth no_branch o a e h = tt
    none_open_in depth (branch name tree branches) None a e h = absurd a
    none_open_in depth (branch name tree branches) (Some []) a e h = absurd a
    none_open_in depth (branch name tree branches) (Some (c ∷ cs)) a e h =
        let none = none_of_two (least_class context depth c.system tree) (least_class_in context depth (Some cs) branches) e in
        let ends = or_parts (has_end tree) (some_end branches) h in
        (none_open depth tree c.system a.1 none.0 ends.0, none_open_in depth branches (Some cs) a.2 none.1 ends.1)

-- ---- a turn

-- there is one more node that isn't an open leaf
abbrev IsGrown : Tree → Option Tree → Type 0
IsGrown t o = (u : Tree) × (o ≡ Some u) × (steps u ≡ suc (steps t))

abbrev AreGrown : Branches → Option Branches → Type 0
AreGrown bs o = (us : Branches) × (o ≡ Some us) × (steps_in us ≡ suc (steps_in bs))

proper_step : (move : Move) → is_unproved move ≡ false → step_of move ≡ 1
proper_step unproved e = absurd cc
proper_step move e = refl

-- the branch that is grown, or those behind it
first_grows : (name : List ℕ) (tree : Tree) (branches : Branches) (o : Option Tree) (later : Option Branches) → IsGrown tree o ⊎ AreGrown branches later
    → IfSome o (λ u. steps u ≡ suc (steps tree)) → AreGrown (branch name tree branches) (first_grown name tree branches o later)
first_grows name tree branches (Some u) later h one = (branch name u branches, refl, omega (arith, one))
first_grows name tree branches None later (inl g) one = absurd (let e = g.1 in cc)
first_grows name tree branches None later (inr g) one = (branch name tree g.0, ap (option_map (branch name tree)) g.1, omega (arith, g.2))

grown_one : (tree : Tree) (o : Option Tree) → IsGrown tree o → IfSome o (λ u. steps u ≡ suc (steps tree))
grown_one tree None g = tt
grown_one tree (Some u) g = let same : g.0 ≡ u = (let e = g.1 in cc) in subst (λ (t : Tree). steps t ≡ suc (steps tree)) same g.2

module _ (context : Context) (k : ℕ) where
  leaf_grows : (s : System) (depth : ℕ) (o : Option Ranked) → IfSome o (λ (r : Ranked). is_unproved r.move ≡ false) → class_of o depth ≡ Some k
      → IsGrown (node unproved no_branch) (if has_class (class_of o depth) k then option_map (grown_leaf context s) o else None)
  leaf_grows s depth None h e = absurd cc
  leaf_grows s depth (Some r) h e =
      let class : r.rank + depth ≡ k = cc in
      let one = proper_step r.move h in
      let none = open_leaves_steps (cases context s r.move) in
      (grown_leaf context s r, ap (λ (b : Bool). if b then Some (grown_leaf context s r) else None) (eq-eqb (r.rank + depth) k class), omega (arith, one, none))

  -- what is grown has one more
  leaf_one : (s : System) (b : Bool) (o : Option Ranked) → IfSome o (λ (r : Ranked). is_unproved r.move ≡ false)
      → IfSome (if b then option_map (grown_leaf context s) o else None) (λ u. steps u ≡ 1)
  leaf_one s false o h = tt
  leaf_one s true None h = tt
  leaf_one s true (Some r) h = let one = proper_step r.move h in let none = open_leaves_steps (cases context s r.move) in omega (arith, one, none)

  first_one : (name : List ℕ) (tree : Tree) (branches : Branches) (o : Option Tree) (later : Option Branches) → IfSome o (λ u. steps u ≡ suc (steps tree))
      → IfSome later (λ us. steps_in us ≡ suc (steps_in branches)) → IfSome (first_grown name tree branches o later) (λ us. steps_in us ≡ suc (steps tree + steps_in branches))
  first_one name tree branches (Some u) later h g = omega (arith, h)
  first_one name tree branches None None h g = tt
  first_one name tree branches None (Some us) h g = omega (arith, g)

  inner_one : (move : Move) (branches : Branches) (o : Option Branches) → IfSome o (λ us. steps_in us ≡ suc (steps_in branches))
      → IfSome (option_map (node move) o) (λ u. steps u ≡ suc (steps (node move branches)))
  inner_one move branches None h = tt
  inner_one move branches (Some us) h = omega (arith, h)

  mutual
    one_more : (depth : ℕ) (tree : Tree) (s : System) → IsAccepted context s tree → IfSome (grown_at context k depth s tree) (λ u. steps u ≡ suc (steps tree))
    one_more depth (node unproved no_branch) s a = leaf_one s (has_class (class_of (choice context s) depth) k) (choice context s) (choice_is_proper context s)
    one_more depth (node unproved (branch name tree branches)) s a = absurd a
    one_more depth (node move branches) s a =
        inner_one move branches (grown_in context k (suc depth) (cases context s move) branches) (one_more_in (suc depth) branches (cases context s move) a)

    one_more_in : (depth : ℕ) (branches : Branches) (o : Option (List Case)) → AreAccepted context o branches
        → IfSome (grown_in context k depth o branches) (λ us. steps_in us ≡ suc (steps_in branches))
    one_more_in depth no_branch None a = tt
    one_more_in depth no_branch (Some []) a = tt
    one_more_in depth no_branch (Some (c ∷ cs)) a = tt
    one_more_in depth (branch name tree branches) None a = absurd a
    one_more_in depth (branch name tree branches) (Some []) a = absurd a
    one_more_in depth (branch name tree branches) (Some (c ∷ cs)) a =
        first_one name tree branches (grown_at context k depth c.system tree) (grown_in context k depth (Some cs) branches) (one_more depth tree c.system a.1) (one_more_in depth branches (Some cs) a.2)

  inner_grows : (move : Move) (branches : Branches) (o : Option Branches) → AreGrown branches o → IsGrown (node move branches) (option_map (node move) o)
  inner_grows move branches o g = (node move g.0, ap (option_map (node move)) g.1, omega (arith, g.2))

  -- an open leaf of the least class is grown
  mutual
    grows : (depth : ℕ) (tree : Tree) (s : System) → IsAccepted context s tree → least_class context depth s tree ≡ Some k → IsGrown tree (grown_at context k depth s tree)
    grows depth (node unproved no_branch) s a e = leaf_grows s depth (choice context s) (choice_is_proper context s) e
    grows depth (node unproved (branch name tree branches)) s a e = absurd a
    grows depth (node move branches) s a e = inner_grows move branches (grown_in context k (suc depth) (cases context s move) branches) (grow_in (suc depth) branches (cases context s move) a e)

    grow_in : (depth : ℕ) (branches : Branches) (o : Option (List Case)) → AreAccepted context o branches → least_class_in context depth o branches ≡ Some k
        → AreGrown branches (grown_in context k depth o branches)
    grow_in depth no_branch None a e = absurd cc
    grow_in depth no_branch (Some []) a e = absurd cc
    grow_in depth no_branch (Some (c ∷ cs)) a e = absurd cc
    grow_in depth (branch name tree branches) None a e = absurd a
    grow_in depth (branch name tree branches) (Some []) a e = absurd a
    grow_in depth (branch name tree branches) (Some (c ∷ cs)) a e =
        first_grows name tree branches (grown_at context k depth c.system tree) (grown_in context k depth (Some cs) branches)
        (⊎_elim (λ h. inl (grows depth tree c.system a.1 h)) (λ h. inr (grow_in depth branches (Some cs) a.2 h))
        (one_of_two (least_class context depth c.system tree) (least_class_in context depth (Some cs) branches) k e))
        (one_more depth tree c.system a.1)

-- ---- as many turns as the budget allows

-- the search ends, or nothing is left open, or so many steps more were made
abbrev HasStopped : Tree → ℕ → Tree → Type 0
HasStopped t n u = (has_end u ≡ true) ⊎ (IsFinished u ⊎ (steps u ≡ steps t + n))

module _ (context : Context) (goes_on : (s : System) → is_some (choice context s) ≡ true) (s : System) where
  by_class : (t : Tree) → IsAccepted context s t → has_end t ≡ false → (n : ℕ) (o : Option ℕ) → least_class context 0 s t ≡ o
      → ((u : Tree) → IsAccepted context s u → HasStopped u n (grown context s n u)) → HasStopped t (suc n) (go_on (grown context s n) t (grown_by context s t o))
  by_class t a ends n None e again = inr (inl (none_open context goes_on 0 t s a e ends))
  by_class t a ends n (Some k) e again = by_grown (grown_at context k 0 s t) (grows context k 0 t s a e) (grown_at_accepted context k 0 t s a)
    where
      by_grown : (o : Option Tree) → IsGrown t o → IfSome o (IsAccepted context s) → HasStopped t (suc n) (go_on (grown context s n) t o)
      by_grown None g h = absurd (let q = g.1 in cc)
      by_grown (Some u) g h =
          let same : g.0 ≡ u = (let q = g.1 in cc) in
          let one : steps u ≡ suc (steps t) = subst (λ (x : Tree). steps x ≡ suc (steps t)) same g.2 in
          ⊎_elim (λ q. inl q) (λ r. inr (⊎_elim (λ q. inl q) (λ q. inr (omega (arith, q, one))) r)) (again u h)

  has_stopped : (n : ℕ) (t : Tree) → IsAccepted context s t → HasStopped t n (grown context s n t)
  unfolding grown
  has_stopped zero t a = inr (inr (omega arith))
  has_stopped (suc n) t a = by_end (has_end t) refl (by_class t a) (has_stopped n)
    where
      by_end : (b : Bool) → has_end t ≡ b
          → (has_end t ≡ false → (m : ℕ) (o : Option ℕ) → least_class context 0 s t ≡ o → ((u : Tree) → IsAccepted context s u → HasStopped u m (grown context s m u))
          → HasStopped t (suc m) (go_on (grown context s m) t (grown_by context s t o)))
          → ((u : Tree) → IsAccepted context s u → HasStopped u n (grown context s n u))
          → HasStopped t (suc n) (go_on (grown context s n) t (if b then None else grown_by context s t (least_class context 0 s t)))
      by_end true e turn again = inl e
      by_end false e turn again = turn e n (least_class context 0 s t) refl again

  -- Where no leaf ends the search, and something is left open, the budget is spent.
  pub unfinished_is_spent : (budget : ℕ) → has_end (grown_tree context s budget) ≡ false → (IsFinished (grown_tree context s budget) → ⊥) → steps (grown_tree context s budget) ≡ budget
  unfinished_is_spent budget ends unfinished =
      ⊎_elim (λ q. absurd (let r = ends in cc)) (λ r. ⊎_elim (λ q. absurd (unfinished q)) (λ q. omega (arith, q)) r) (has_stopped budget (node unproved no_branch) tt)
