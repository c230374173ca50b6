-- Trees as lists of their nodes in preorder: each node stands before the trees of its cases, the first first. Source: Polish notation.
use Rattle.std.specs.Prelude.{ℕ, zero, suc, ◌+◌, List, [], ◌∷◌, take, drop}
use Rattle.std.specs.Coded.{Unit-prop}

-- `cases` says how many cases a node has, and `over` which tree stands for a node over the trees of its cases.
module _ {N T : Type 0} (cases : N → ℕ) (over : N → List T → T) where
  -- the trees that the nodes stand for, one behind the other: a node takes those of its cases from behind it
  abbrev pub trees : List N → List T
  trees [] = []
  trees (n ∷ ns) = over n (take (cases n) (trees ns)) ∷ drop (cases n) (trees ns)

-- the nodes are those of so many trees
abbrev pub AreTrees : {N : Type 0} → (N → ℕ) → ℕ → List N → Type 0
AreTrees cases zero [] = Unit {0}
AreTrees cases zero (n ∷ ns) = ⊥
AreTrees cases (suc k) [] = ⊥
AreTrees cases (suc k) (n ∷ ns) = AreTrees cases (cases n + k) ns

-- that fact has one proof, so that lists of nodes can carry it
pub AreTrees-prop : {N : Type 0} (cases : N → ℕ) (k : ℕ) (ns : List N) → IsProp (AreTrees cases k ns)
AreTrees-prop cases zero [] = Unit-prop
AreTrees-prop cases zero (n ∷ ns) = λ h. absurd h
AreTrees-prop cases (suc k) [] = λ h. absurd h
AreTrees-prop cases (suc k) (n ∷ ns) = AreTrees-prop cases (cases n + k) ns

-- the first of the trees, where there is one
abbrev pub first : {T : Type 0} → T → List T → T
first other [] = other
first other (t ∷ ts) = t
