-- Nodes of so many trees stand for so many, and those of several lists for those of each.
use Rattle.std.proofs.Common.{◌≡◌, ℕ, zero, suc, ◌+◌, List, [], ◌∷◌, ◌++◌, take, drop, length, map, refl, sym, ap, ap₂, ◌∙◌, subst, arith}
use Rattle.sp_spec_nodes.specs.Preorder.{trees, AreTrees}

drop_length : {T : Type 0} (n k : ℕ) (ts : List T) → length ts ≡ n + k → length (drop n ts) ≡ k
drop_length zero k ts e = omega (arith, e)
drop_length (suc n) k [] e = absurd (omega (arith, e))
drop_length (suc n) k (t ∷ ts) e = drop_length n k ts (omega (arith, e))

pub take_length : {T : Type 0} (n k : ℕ) (ts : List T) → length ts ≡ n + k → length (take n ts) ≡ n
take_length zero k ts e = refl
take_length (suc n) k [] e = absurd (omega (arith, e))
take_length (suc n) k (t ∷ ts) e = ap suc (take_length n k ts (omega (arith, e)))

-- what is taken from the front of a list that is long enough, and what is left of it
take_within : {T : Type 0} (n k : ℕ) (ts us : List T) → length ts ≡ n + k → take n (ts ++ us) ≡ take n ts
take_within zero k ts us e = refl
take_within (suc n) k [] us e = absurd (omega (arith, e))
take_within (suc n) k (t ∷ ts) us e = ap (λ xs. t ∷ xs) (take_within n k ts us (omega (arith, e)))

drop_within : {T : Type 0} (n k : ℕ) (ts us : List T) → length ts ≡ n + k → drop n (ts ++ us) ≡ drop n ts ++ us
drop_within zero k ts us e = refl
drop_within (suc n) k [] us e = absurd (omega (arith, e))
drop_within (suc n) k (t ∷ ts) us e = drop_within n k ts us (omega (arith, e))

-- ---- how many

module _ {N : Type 0} (cases : N → ℕ) where
  -- behind the nodes of some trees stand those of others
  pub are_appended : (k j : ℕ) (ns ms : List N) → AreTrees cases k ns → AreTrees cases j ms → AreTrees cases (k + j) (ns ++ ms)
  are_appended zero j [] ms h g = let e : j ≡ 0 + j = omega arith in subst (λ (i : ℕ). AreTrees cases i ms) e g
  are_appended zero j (n ∷ ns) ms h g = absurd h
  are_appended (suc k) j [] ms h g = absurd h
  are_appended (suc k) j (n ∷ ns) ms h g =
      let e : suc (cases n + k + j) ≡ suc (cases n) + (k + j) = omega arith in
      let f : suc (k + j) ≡ suc k + j = omega arith in
      let i : AreTrees cases (cases n + k + j) (ns ++ ms) = are_appended (cases n + k) j ns ms h g in
      subst (λ (i : ℕ). AreTrees cases i (n ∷ (ns ++ ms))) f (subst (λ (i : ℕ). AreTrees cases i (ns ++ ms)) (omega arith) i)

  -- a node whose cases' trees follow is one tree
  pub are_over : (n : N) (ns : List N) → AreTrees cases (cases n) ns → AreTrees cases 1 (n ∷ ns)
  are_over n ns h = let e : cases n ≡ cases n + 0 = omega arith in subst (λ (i : ℕ). AreTrees cases i ns) e h

-- other nodes with as many cases are as many trees
pub are_mapped : {N M : Type 0} (f : N → M) (cases : N → ℕ) (others : M → ℕ) → ((n : N) → cases n ≡ others (f n)) → (k : ℕ) (ns : List N) → AreTrees cases k ns → AreTrees others k (map f ns)
are_mapped f cases others same zero [] h = h
are_mapped f cases others same zero (n ∷ ns) h = absurd h
are_mapped f cases others same (suc k) [] h = absurd h
are_mapped f cases others same (suc k) (n ∷ ns) h =
    are_mapped f cases others same (others (f n) + k) ns (subst (λ (i : ℕ). AreTrees cases (i + k) ns) (same n) h)

-- and the other way
pub are_unmapped : {N M : Type 0} (f : N → M) (cases : N → ℕ) (others : M → ℕ) → ((n : N) → cases n ≡ others (f n)) → (k : ℕ) (ns : List N) → AreTrees others k (map f ns) → AreTrees cases k ns
are_unmapped f cases others same zero [] h = h
are_unmapped f cases others same zero (n ∷ ns) h = absurd h
are_unmapped f cases others same (suc k) [] h = absurd h
are_unmapped f cases others same (suc k) (n ∷ ns) h =
    are_unmapped f cases others same (cases n + k) ns (subst (λ (i : ℕ). AreTrees others (i + k) (map f ns)) (sym (same n)) h)

-- ---- which

module _ {N T : Type 0} (cases : N → ℕ) (over : N → List T → T) where
  pub count_trees : (k : ℕ) (ns : List N) → AreTrees cases k ns → length (trees cases over ns) ≡ k
  count_trees zero [] h = refl
  count_trees zero (n ∷ ns) h = absurd h
  count_trees (suc k) [] h = absurd h
  count_trees (suc k) (n ∷ ns) h = ap suc (drop_length (cases n) k (trees cases over ns) (count_trees (cases n + k) ns h))

  -- those of nodes that stand behind others stand behind the others' trees
  pub trees_appended : (k : ℕ) (ns ms : List N) → AreTrees cases k ns → trees cases over (ns ++ ms) ≡ trees cases over ns ++ trees cases over ms
  trees_appended zero [] ms h = refl
  trees_appended zero (n ∷ ns) ms h = absurd h
  trees_appended (suc k) [] ms h = absurd h
  trees_appended (suc k) (n ∷ ns) ms h =
      let ts : List T = trees cases over ns in
      let us : List T = trees cases over ms in
      let are : length ts ≡ cases n + k = count_trees (cases n + k) ns h in
      let both : trees cases over (ns ++ ms) ≡ ts ++ us = trees_appended (cases n + k) ns ms h in
      ap (λ (xs : List T). over n (take (cases n) xs) ∷ drop (cases n) xs) both
      ∙ ap₂ (λ (xs ys : List T). over n xs ∷ ys) (take_within (cases n) k ts us are) (drop_within (cases n) k ts us are)

  -- a node whose cases' trees follow stands for the tree over these
  pub tree_over : (n : N) (ns : List N) → AreTrees cases (cases n) ns → trees cases over (n ∷ ns) ≡ over n (trees cases over ns) ∷ []
  tree_over n ns h =
      let ts : List T = trees cases over ns in
      let are : length ts ≡ cases n = count_trees (cases n) ns h in
      ap₂ (λ (xs ys : List T). over n xs ∷ ys) (take_all (cases n) ts are) (drop_all (cases n) ts are)
    where
      take_all : (k : ℕ) (ts : List T) → length ts ≡ k → take k ts ≡ ts
      take_all zero [] e = refl
      take_all zero (t ∷ ts) e = absurd (omega (arith, e))
      take_all (suc k) [] e = absurd (omega (arith, e))
      take_all (suc k) (t ∷ ts) e = ap (λ (xs : List T). t ∷ xs) (take_all k ts (omega (arith, e)))

      drop_all : (k : ℕ) (ts : List T) → length ts ≡ k → drop k ts ≡ []
      drop_all zero [] e = refl
      drop_all zero (t ∷ ts) e = absurd (omega (arith, e))
      drop_all (suc k) [] e = refl
      drop_all (suc k) (t ∷ ts) e = drop_all k ts (omega (arith, e))
