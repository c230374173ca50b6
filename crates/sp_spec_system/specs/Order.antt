-- The order of times. Source: CSF 2012, "Constraint solving" (the order of timepoints and its transitive closure). From a time leads a
-- path of order pairs to another: some pair begins at the one, and ends at the other or at a time from which a path leads there.
use Rattle.std.specs.Prelude.{◌≡◌, ℕ, List, ◌==◌, ◌&&◌, ◌||◌, Bool, false, [], ◌∷◌, zero, suc, length}
use Rattle.sp_spec.specs.Lists.{Member}

pub data Path (order : List (ℕ × ℕ)) : ℕ → ℕ → Type 0 where
  last_pair : {i j : ℕ} → (p : ℕ × ℕ) → Member p order → p.0 ≡ i → p.1 ≡ j → Path order i j
  then_path : {i j : ℕ} → (p : ℕ × ℕ) → Member p order → p.0 ≡ i → Path order p.1 j → Path order i j

-- The test: paths of more pairs than there are take one of them twice, and can do without.

abbrev pub some_pair : List (ℕ × ℕ) → ℕ → (ℕ → Bool) → Bool
some_pair [] i leads = false
some_pair (p ∷ pairs) i leads = (p.0 == i) && leads p.1 || some_pair pairs i leads

abbrev pub path_within : ℕ → List (ℕ × ℕ) → ℕ → ℕ → Bool
path_within zero order i j = false
path_within (suc n) order i j = some_pair order i (λ k. (k == j) || path_within n order k j)

abbrev pub is_before : List (ℕ × ℕ) → ℕ → ℕ → Bool
is_before order i j = path_within (length order) order i j

-- the order has a cycle: a time at which one of the pairs begins is before itself
abbrev pub begins_cycle : List (ℕ × ℕ) → List (ℕ × ℕ) → Bool
begins_cycle order [] = false
begins_cycle order (p ∷ pairs) = is_before order p.0 p.0 || begins_cycle order pairs

abbrev pub is_cyclic : List (ℕ × ℕ) → Bool
is_cyclic order = begins_cycle order order

-- one of these pairs begins at the time
abbrev pub begins_at : ℕ → List (ℕ × ℕ) → Bool
begins_at i [] = false
begins_at i (p ∷ pairs) = (p.0 == i) || begins_at i pairs
