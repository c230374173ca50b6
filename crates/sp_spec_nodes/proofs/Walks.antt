-- What is told of trees is told of their nodes, one behind the other.
use Rattle.std.proofs.Common.{◌≡◌, ◌↔◌, ◌<◌, ◌≤◌, ℕ, zero, suc, ◌+◌, ◌-◌, List, [], ◌∷◌, ◌++◌, map, take, drop, length, refl, sym, ap, ◌∙◌, subst, arith}
use Rattle.std.proofs.lemmas.List.{take-map, drop-map, take-append-drop, length-take-le}
use Rattle.sp_spec_nodes.specs.Preorder.{trees, AreTrees, first}
use Rattle.sp_spec_nodes.proofs.Preorder.{count_trees}

-- Where what stands for a tree stands over what stands for the trees of its cases, so it is with trees one behind the other.
module _ {N M T U : Type 0} (cases : N → ℕ) (others : M → ℕ) (over : N → List T → T) (above : M → List U → U) (f : N → M) (g : T → U)
    (as_many : (n : N) → others (f n) ≡ cases n) (is : (n : N) (ts : List T) → above (f n) (map g ts) ≡ g (over n ts)) where
  pub trees_mapped : (ns : List N) → trees others above (map f ns) ≡ map g (trees cases over ns)
  trees_mapped [] = refl
  trees_mapped (n ∷ ns) =
      let ts : List T = trees cases over ns in
      let below : trees others above (map f ns) ≡ map g ts = trees_mapped ns in
      rw (below, as_many n, take-map g (cases n) ts, drop-map g (cases n) ts, is n (take (cases n) ts)) refl

  -- and with one tree
  pub tree_mapped : (other : T) (another : U) (ns : List N) → AreTrees cases 1 ns → first another (trees others above (map f ns)) ≡ g (first other (trees cases over ns))
  tree_mapped other another ns h = ap (first another) (trees_mapped ns) ∙ of_one (trees cases over ns) (count_trees cases over 1 ns h)
    where
      of_one : (ts : List T) → length ts ≡ 1 → first another (map g ts) ≡ g (first other ts)
      of_one [] e = absurd (omega (arith, e))
      of_one (t ∷ ts) e = refl

-- As many trees need as many nodes at least.
pub trees_fit : {N : Type 0} (cases : N → ℕ) (k : ℕ) (ns : List N) → AreTrees cases k ns → k ≤ length ns
trees_fit cases zero ns h = omega arith
trees_fit cases (suc k) [] h = absurd h
trees_fit cases (suc k) (n ∷ ns) h = let below : cases n + k ≤ length ns = trees_fit cases (cases n + k) ns h in omega arith

-- Behind a node those of its cases are awaited in its place.
pub awaited_next : {N : Type 0} (cases : N → ℕ) (k j : ℕ) (n : N) (ns : List N) → 0 < k → (k - 1) + cases n ≡ j → AreTrees cases k (n ∷ ns) ↔ AreTrees cases j ns
awaited_next cases zero j n ns some e = absurd (omega arith)
awaited_next cases (suc k) j n ns some e =
    let same : cases n + k ≡ j = omega arith in
    (λ h. subst (λ (i : ℕ). AreTrees cases i ns) same h, λ h. subst (λ (i : ℕ). AreTrees cases i ns) (sym same) h)

-- Behind the last node none are awaited.
pub awaited_last : {N : Type 0} (cases : N → ℕ) (k : ℕ) (ns : List N) → ns ≡ [] → AreTrees cases k ns ↔ (k ≡ 0)
awaited_last cases zero [] e = (λ h. refl, λ none. tt)
awaited_last cases (suc k) [] e = (λ h. absurd h, λ none. absurd (omega arith))
awaited_last cases k (n ∷ ns) e = absurd (let none : ⊥ = cc in none)

-- what is told of each, joined
abbrev pub all_told : {X A : Type 0} → A → (A → A → A) → (X → A) → List X → A
all_told none join tell [] = none
all_told none join tell (x ∷ xs) = join (tell x) (all_told none join tell xs)

-- Where a tree is told by what is told of its root, and then of the trees of its cases, trees are told by what is told of their nodes.
module _ {A : Type 0} (none : A) (join : A → A → A) (none_first : (a : A) → join none a ≡ a) (regroup : (a b c : A) → join (join a b) c ≡ join a (join b c)) where
  pub told_append : {X : Type 0} (tell : X → A) (xs ys : List X)
      → all_told none join tell (xs ++ ys) ≡ join (all_told none join tell xs) (all_told none join tell ys)
  told_append tell [] ys = sym (none_first (all_told none join tell ys))
  told_append tell (x ∷ xs) ys =
      ap (join (tell x)) (told_append tell xs ys) ∙ sym (regroup (tell x) (all_told none join tell xs) (all_told none join tell ys))

  module _ {N T : Type 0} (cases : N → ℕ) (over : N → List T → T) (tell : N → A) (tell_tree : T → A)
      (is : (n : N) (ts : List T) → length ts ≡ cases n → tell_tree (over n ts) ≡ join (tell n) (all_told none join tell_tree ts)) where
    pub trees_told : (k : ℕ) (ns : List N) → AreTrees cases k ns → all_told none join tell_tree (trees cases over ns) ≡ all_told none join tell ns
    trees_told zero [] h = refl
    trees_told zero (n ∷ ns) h = absurd h
    trees_told (suc k) [] h = absurd h
    trees_told (suc k) (n ∷ ns) h =
        let ts : List T = trees cases over ns in
        let told : List T → A = all_told none join tell_tree in
        let count : length ts ≡ cases n + k = count_trees cases over (cases n + k) ns h in
        let root_told : tell_tree (over n (take (cases n) ts)) ≡ join (tell n) (told (take (cases n) ts)) = is n (take (cases n) ts) (length-take-le (cases n) ts (omega arith)) in
        let parted : join (told (take (cases n) ts)) (told (drop (cases n) ts)) ≡ told ts =
        sym (told_append tell_tree (take (cases n) ts) (drop (cases n) ts)) ∙ ap told (take-append-drop (cases n) ts) in
        ap (λ (a : A). join a (told (drop (cases n) ts))) root_told
        ∙ regroup (tell n) (told (take (cases n) ts)) (told (drop (cases n) ts))
        ∙ ap (join (tell n)) (parted ∙ trees_told (cases n + k) ns h)

    -- of one tree
    pub tree_told : (none_last : (a : A) → join a none ≡ a) (other : T) (ns : List N) → AreTrees cases 1 ns
        → tell_tree (first other (trees cases over ns)) ≡ all_told none join tell ns
    tree_told none_last other ns h = of_one (trees cases over ns) (count_trees cases over 1 ns h) ∙ trees_told 1 ns h
      where
        of_one : (ts : List T) → length ts ≡ 1 → tell_tree (first other ts) ≡ all_told none join tell_tree ts
        of_one [] e = absurd (omega (arith, e))
        of_one (t ∷ []) e = sym (none_last (tell_tree t))
        of_one (t ∷ u ∷ ts) e = absurd (omega (arith, e))
