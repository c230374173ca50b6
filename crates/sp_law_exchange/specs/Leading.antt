-- Exchanges that lead given names to given others, each to its own. Source: CSF 2012, "Constraint solving" (a solved system has its solutions, whatever
-- names stand for its variables).
use Rattle.std.specs.Prelude.{◌≡◌, ℕ, List, [], ◌∷◌, ◌++◌}
use Rattle.sp_spec.specs.Lists.{Member}
use Rattle.sp_spec.specs.Term.{Variable, constant, name, Ground, Values}
use Rattle.sp_law_exchange.specs.Exchange.{Exchange, of_public, of_fresh, exchanges}

-- pairs with the same first have the same second, and the other way round
pub record AreOneToOne {A : Type 0} (pairs : List (A × A)) : Type 0 where
  pub there : (p q : A × A) → Member p pairs → Member q pairs → p.0 ≡ q.0 → p.1 ≡ q.1
  pub back : (p q : A × A) → Member p pairs → Member q pairs → p.1 ≡ q.1 → p.0 ≡ q.0

-- those of the later pairs, and then what the first of this one has become with its second
abbrev pub public_exchanges : List (List ℕ × List ℕ) → List Exchange
public_exchanges [] = []
public_exchanges (p ∷ pairs) = public_exchanges pairs ++ of_public ((exchanges (public_exchanges pairs)).public p.0) p.1 ∷ []

abbrev pub fresh_exchanges : List (ℕ × ℕ) → List Exchange
fresh_exchanges [] = []
fresh_exchanges (p ∷ pairs) = fresh_exchanges pairs ++ of_fresh ((exchanges (fresh_exchanges pairs)).fresh p.0) p.1 ∷ []

-- public names to public names, and fresh ones to fresh ones
abbrev pub leading : List (List ℕ × List ℕ) → List (ℕ × ℕ) → List Exchange
leading names numbers = public_exchanges names ++ fresh_exchanges numbers

-- ---- values that differ in names alone

-- both public names, or both fresh ones
abbrev pub AreOfOneKind : Ground → Ground → Type 0
AreOfOneKind (constant c) (constant d) = Unit {0}
AreOfOneKind (name m) (name n) = Unit {0}
AreOfOneKind t u = ⊥

-- the variables have different values
abbrev pub AreApart : List Variable → Values → Type 0
AreApart xs v = (x y : Variable) → Member x xs → Member y xs → v x ≡ v y → x ≡ y

-- and none of these public names
abbrev pub HaveNone : List (List ℕ) → List Variable → Values → Type 0
HaveNone constants xs v = (x : Variable) → Member x xs → (c : List ℕ) → Member c constants → v x ≡ constant c → ⊥

abbrev pub public_pair : Ground → Ground → List (List ℕ × List ℕ)
public_pair (constant c) (constant d) = (c, d) ∷ []
public_pair t u = []

abbrev pub fresh_pair : Ground → Ground → List (ℕ × ℕ)
fresh_pair (name m) (name n) = (m, n) ∷ []
fresh_pair t u = []

abbrev pub public_pairs : List Variable → Values → Values → List (List ℕ × List ℕ)
public_pairs [] v w = []
public_pairs (x ∷ xs) v w = public_pair (v x) (w x) ++ public_pairs xs v w

abbrev pub fresh_pairs : List Variable → Values → Values → List (ℕ × ℕ)
fresh_pairs [] v w = []
fresh_pairs (x ∷ xs) v w = fresh_pair (v x) (w x) ++ fresh_pairs xs v w

-- the exchanges that lead from the first values to the second
abbrev pub leading_values : List Variable → Values → Values → List Exchange
leading_values xs v w = leading (public_pairs xs v w) (fresh_pairs xs v w)
