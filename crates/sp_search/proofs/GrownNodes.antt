-- Nodes that come in place of an open leaf's are growth of the trees that the list stands for.
use Rattle.std.proofs.Common.{◌≡◌, ◌∙◌, ℕ, zero, suc, ◌+◌, Bool, true, false, List, [], ◌∷◌, ◌++◌, take, drop, length, refl, sym, ap, ap₂, arith}
use Rattle.std.proofs.lemmas.List.{take_at, drop_at}
use Rattle.sp_spec_system.specs.Move.{Move, Context}
use Rattle.sp_spec_proof.specs.Growth.{has_class}
use Rattle.sp_spec_nodes.specs.Preorder.{AreTrees}
use Rattle.sp_spec_nodes.proofs.Preorder.{count_trees, take_length}
use Rattle.sp_search.specs.Kept.{Kept, leaf, ended, inner, Keeps, with_names}
use Rattle.sp_search.specs.Kinds.{Kind, open_leaf, end_at, choice, case_count, tree_over, all_kept}
use Rattle.sp_search.specs.Growing.{opened, within, behind, grow, grow_in}
use Rattle.sp_search.specs.Turning.{class_at}
use Rattle.sp_search.proofs.Turns.{rests_at}

-- ---- trees, one after the other

abbrev pub before : Kept → List Kept × Bool → List Kept × Bool
before tree r = (tree ∷ r.0, r.1)

abbrev pub then_others : Kept × Bool → (Bool → List Kept × Bool) → List Kept × Bool
then_others r later = before r.0 (later r.1)

-- the first leaf of a class in a list of trees is replaced, unless one has been before
abbrev pub grow_all : Context → ℕ → Bool → List Kept → List Kept × Bool
grow_all context k done [] = ([], done)
grow_all context k done (t ∷ ts) = then_others (grow context k done t) (λ now. grow_all context k now ts)

module _ (context : Context) (k : ℕ) where
  pub all_rest : (ts : List Kept) → grow_all context k true ts ≡ (ts, true)
  all_rest [] = refl
  all_rest (t ∷ ts) = ap (λ (r : Kept × Bool). then_others r (λ now. grow_all context k now ts)) (rests_at context k t) ∙ ap (before t) (all_rest ts)

  abbrev both : List Kept × Bool → (Bool → List Kept × Bool) → List Kept × Bool
  both r later = (r.0 ++ (later r.1).0, (later r.1).1)

  grow_split : (n : ℕ) (done : Bool) (ts : List Kept) → grow_all context k done ts ≡ both (grow_all context k done (take n ts)) (λ now. grow_all context k now (drop n ts))
  grow_split zero done ts = refl
  grow_split (suc n) done [] = refl
  grow_split (suc n) done (t ∷ ts) =
      let r : Kept × Bool = grow context k done t in
      ap (before r.0) (grow_split n r.1 ts)

  grow_length : (done : Bool) (ts : List Kept) → length (grow_all context k done ts).0 ≡ length ts
  grow_length done [] = refl
  grow_length done (t ∷ ts) = ap suc (grow_length (grow context k done t).1 ts)

  abbrev named : List (List ℕ) → List Kept × Bool → Keeps × Bool
  named names r = (with_names names r.0, r.1)

  -- the branches of a move are grown as the trees below it
  grow_named : (done : Bool) (names : List (List ℕ)) (ts : List Kept) → length ts ≡ length names → grow_in context k done (with_names names ts) ≡ named names (grow_all context k done ts)
  grow_named done [] [] e = refl
  grow_named done [] (t ∷ ts) e = absurd (omega (arith, e))
  grow_named done (name ∷ names) [] e = absurd (omega (arith, e))
  grow_named done (name ∷ names) (t ∷ ts) e =
      let r : Kept × Bool = grow context k done t in
      ap (behind name r.0) (grow_named r.1 names ts (omega (arith, e)))

  -- ---- a node that stays

  abbrev Grows : List Kept → List Kept → Type 0
  Grows old new = ◌≡◌ {A = List Kept × Bool} (grow_all context k false old) (new, true)

  -- the trees below a move, and those behind it
  move_stays : (m : Move) (names : List (List ℕ)) (j : ℕ) (old new : List Kept) → length old ≡ length names + j → Grows old new
      → Grows (inner m (with_names names (take (length names) old)) ∷ drop (length names) old) (inner m (with_names names (take (length names) new)) ∷ drop (length names) new)
  move_stays m names j old new e g =
      let n : ℕ = length names in
      let below : List Kept × Bool = grow_all context k false (take n old) in
      let behind : List Kept × Bool = grow_all context k below.1 (drop n old) in
      let many : length (take n old) ≡ n = take_length n j old e in
      let as_many : length below.0 ≡ n = grow_length false (take n old) ∙ many in
      let all : ◌≡◌ {A = List Kept × Bool} (below.0 ++ behind.0, behind.1) (new, true) = sym (grow_split n false old) ∙ g in
      let is : below.0 ++ behind.0 ≡ new = ap (λ (r : List Kept × Bool). r.0) all in
      let done : behind.1 ≡ true = ap (λ (r : List Kept × Bool). r.1) all in
      let front : below.0 ≡ take n new = sym (take_at below.0 behind.0 n as_many) ∙ ap (take n) is in
      let back : behind.0 ≡ drop n new = sym (drop_at below.0 behind.0 n as_many) ∙ ap (drop n) is in
      let inside : ◌≡◌ {A = Keeps × Bool} (grow_in context k false (with_names names (take n old))) (with_names names below.0, below.1) = grow_named false names (take n old) many in
      ap (λ (r : Keeps × Bool). then_others (within m r) (λ now. grow_all context k now (drop n old))) inside
      ∙ ap₂ (λ (ts us : List Kept). (inner m (with_names names ts) ∷ us, behind.1)) front back
      ∙ ap (λ (b : Bool). (inner m (with_names names (take n new)) ∷ drop n new, b)) done

  -- a node that isn't an open leaf of the class, before others that are grown
  pub stays : (n : Kind) (ns ms : List Kind) (j : ℕ) → AreTrees case_count (case_count n + j) ns → has_class (class_at n) k ≡ false → Grows (all_kept ns) (all_kept ms) → Grows (all_kept (n ∷ ns)) (all_kept (n ∷ ms))
  stays (open_leaf s m depth) ns ms j are other g =
      ap (λ (b : Bool). then_others (opened context s m depth b) (λ now. grow_all context k now (all_kept ns))) other ∙ ap (before (leaf s m depth)) g
  stays (end_at log) ns ms j are other g = ap (before (ended log)) g
  stays (choice m names) ns ms j are other g = move_stays m names j (all_kept ns) (all_kept ms) (count_trees case_count tree_over (length names + j) ns are) g
