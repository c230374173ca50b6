-- The positions from which an entry takes something.
use Rattle.std.proofs.Common.{◌≡◌, ◌⊎◌, ◌+◌, ◌<◌, ℕ, zero, suc, Bool, true, false, List, [], ◌∷◌, map, inl, inr, refl, sym, subst, arith, if◌then◌else◌}
use Rattle.sp_spec.specs.Lists.{Member, Every, AtPlace}
use Rattle.sp_spec.specs.Log.{Entry}
use Rattle.sp_spec.proofs.Lists.{every_map, every_from}
use Rattle.sp_graph.specs.Edges.{takes_from, taken_from, edge_to}
use Rattle.sp_graph.specs.Laws.{Precedes, AreInOrder}

-- of entries from the position n on, one stands at p, and the entry takes from it
pub record TakenAt (e : Entry) (n : ℕ) (xs : List Entry) (p : ℕ) : Type 0 where
  pub place : ℕ
  pub taken : Entry
  pub at : AtPlace xs place taken
  pub is : p ≡ n + place
  pub takes : takes_from e p taken ≡ true

-- the first is kept where it passes the test
kept : (passes : Bool) (n : ℕ) (rest : List ℕ) (p : ℕ) → Member p (if passes then n ∷ rest else rest) → ((passes ≡ true) × (n ≡ p)) ⊎ Member p rest
kept true n rest p (inl e) = inl (refl, e)
kept true n rest p (inr m) = inr m
kept false n rest p m = inr m

keeps_first : (passes : Bool) (n : ℕ) (rest : List ℕ) (p : ℕ) → passes ≡ true → n ≡ p → Member p (if passes then n ∷ rest else rest)
keeps_first true n rest p h e = inl e
keeps_first false n rest p h e = absurd cc

keeps_rest : (passes : Bool) (n : ℕ) (rest : List ℕ) (p : ℕ) → Member p rest → Member p (if passes then n ∷ rest else rest)
keeps_rest true n rest p m = inr m
keeps_rest false n rest p m = m

either_taken : (e : Entry) (n : ℕ) (x : Entry) (xs : List Entry) (p : ℕ) (rest : List ℕ) → (Member p rest → TakenAt e (suc n) xs p)
    → ((takes_from e n x ≡ true) × (n ≡ p)) ⊎ Member p rest → TakenAt e n (x ∷ xs) p
either_taken e n x xs p rest later (inl h) = let same = h.1 in
    record { place = zero; taken = x; at = refl; is = omega arith; takes = subst (λ k. takes_from e k x ≡ true) h.1 h.0 }
either_taken e n x xs p rest later (inr m) = let t = later m in let i = t.is in
    record { place = suc t.place; taken = t.taken; at = t.at; is = omega arith; takes = t.takes }

pub is_taken : (e : Entry) (n : ℕ) (xs : List Entry) (p : ℕ) → Member p (taken_from e n xs) → TakenAt e n xs p
is_taken e n [] p m = absurd m
is_taken e n (x ∷ xs) p m =
    either_taken e n x xs p (taken_from e (suc n) xs) (λ k. is_taken e (suc n) xs p k) (kept (takes_from e n x) n (taken_from e (suc n) xs) p m)

pub takes_each : (e : Entry) (n : ℕ) (xs : List Entry) (p k : ℕ) (x : Entry) → AtPlace xs k x → n + k ≡ p → takes_from e p x ≡ true → Member p (taken_from e n xs)
takes_each e n [] p k x a i h = absurd a
takes_each e n (y ∷ xs) p zero x a i h = let same : n ≡ p = omega arith in
    let here = subst (λ z. takes_from e p z ≡ true) (sym a) h in
    keeps_first (takes_from e n y) n (taken_from e (suc n) xs) p (subst (λ q. takes_from e q y ≡ true) (sym same) here) same
takes_each e n (y ∷ xs) p (suc k) x a i h =
    keeps_rest (takes_from e n y) n (taken_from e (suc n) xs) p (takes_each e (suc n) xs p k x a (omega arith) h)

first_in_order : (e : Entry) (to n : ℕ) (rest : List ℕ) (passes : Bool) → Every (λ p. n < p) rest → AreInOrder (map (edge_to e to) rest)
    → AreInOrder (map (edge_to e to) (if passes then n ∷ rest else rest))
first_in_order e to n rest true behind h = (every_map (λ p. n < p) (Precedes (edge_to e to n)) (edge_to e to) (λ p l. inr (refl, l)) rest behind, h)
first_in_order e to n rest false behind h = h

pub taken_in_order : (e : Entry) (to n : ℕ) (xs : List Entry) → AreInOrder (map (edge_to e to) (taken_from e n xs))
taken_in_order e to n [] = tt
taken_in_order e to n (x ∷ xs) =
    let rest = taken_from e (suc n) xs in
    first_in_order e to n rest (takes_from e n x)
    (every_from (λ p. n < p) rest (λ p m. let t = is_taken e (suc n) xs p m in let i = t.is in omega arith)) (taken_in_order e to (suc n) xs)
