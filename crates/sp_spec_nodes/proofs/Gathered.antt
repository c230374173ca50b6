-- What is gathered over trees, such as a sum over all their nodes, is gathered over the list of the nodes.
use Rattle.std.proofs.Common.{◌≡◌, ℕ, zero, suc, ◌+◌, List, [], ◌∷◌, take, drop, length, refl, sym, ap, ap₂, ◌∙◌, arith}
use Rattle.sp_spec_nodes.specs.Preorder.{trees, AreTrees, first}
use Rattle.sp_spec_nodes.proofs.Preorder.{take_length, count_trees}

-- one tree is the first of its list
pub one_tree : {T : Type 0} (other : T) (ts : List T) → length ts ≡ 1 → ts ≡ first other ts ∷ []
one_tree other [] e = absurd (omega (arith, e))
one_tree other (t ∷ []) e = refl
one_tree other (t ∷ u ∷ ts) e = absurd (omega (arith, e))

module _ {A : Type 0} (join : A → A → A) (none : A) where
  -- what each gives, joined one behind the other
  abbrev pub gather : {X : Type 0} → (X → A) → List X → A
  gather f [] = none
  gather f (x ∷ xs) = join (f x) (gather f xs)

  module _ (none_first : (a : A) → join none a ≡ a) (none_last : (a : A) → join a none ≡ a) (regroup : (a b c : A) → join (join a b) c ≡ join a (join b c)) where
    gather_split : {X : Type 0} (f : X → A) (n : ℕ) (xs : List X) → join (gather f (take n xs)) (gather f (drop n xs)) ≡ gather f xs
    gather_split f zero xs = none_first (gather f xs)
    gather_split f (suc n) [] = none_first none
    gather_split f (suc n) (x ∷ xs) = regroup (f x) (gather f (take n xs)) (gather f (drop n xs)) ∙ ap (join (f x)) (gather_split f n xs)

    -- a tree gives what its root does, and what the trees of its cases do
    module _ {N T : Type 0} (cases : N → ℕ) (over : N → List T → T) (f : T → A) (g : N → A)
        (at_root : (n : N) (ts : List T) → length ts ≡ cases n → f (over n ts) ≡ join (g n) (gather f ts)) where
      pub gather_trees : (k : ℕ) (ns : List N) → AreTrees cases k ns → gather f (trees cases over ns) ≡ gather g ns
      gather_trees zero [] h = refl
      gather_trees zero (n ∷ ns) h = absurd h
      gather_trees (suc k) [] h = absurd h
      gather_trees (suc k) (n ∷ ns) h =
          let ts : List T = trees cases over ns in
          let below : List T = take (cases n) ts in
          let behind : List T = drop (cases n) ts in
          let many : length below ≡ cases n = take_length (cases n) k ts (count_trees cases over (cases n + k) ns h) in
          ap (λ (a : A). join a (gather f behind)) (at_root n below many)
          ∙ regroup (g n) (gather f below) (gather f behind)
          ∙ ap (join (g n)) (gather_split f (cases n) ts ∙ gather_trees (cases n + k) ns h)

      pub gather_tree : (other : T) (ns : List N) → AreTrees cases 1 ns → f (first other (trees cases over ns)) ≡ gather g ns
      gather_tree other ns h =
          let ts : List T = trees cases over ns in
          sym (none_last (f (first other ts)))
          ∙ sym (ap (gather f) (one_tree other ts (count_trees cases over 1 ns h)))
          ∙ gather_trees 1 ns h
