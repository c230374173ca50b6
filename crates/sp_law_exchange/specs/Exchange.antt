-- Two names of one kind exchanged, each standing where the other stood; and a list of such exchanges, one after the other. Source: CSF 2012,
-- "Cryptographic messages" (public names and fresh names).
use Rattle.std.specs.Prelude.{◌≡◌, ◌==◌, ℕ, Bool, false, if◌then◌else◌, List, [], ◌∷◌}
use Rattle.std.specs.Str.{bytes_eq}
use Rattle.sp_spec.specs.Lists.{Every, is_listed}
use Rattle.sp_spec.specs.Term.{Name, public_name, fresh_name, Names, Ground}
use Rattle.sp_law_exchange.specs.Renaming.{Renaming, renamed}

-- two public names, or two fresh ones
pub data Exchange : Type 0 where
  of_public : List ℕ → List ℕ → Exchange
  of_fresh : ℕ → ℕ → Exchange

-- the other of the two, and of what is neither itself
abbrev pub other_of : {A : Type 0} → (A → A → Bool) → A → A → A → A
other_of same a b c = if same c a then b else if same c b then a else c

abbrev pub same_number : ℕ → ℕ → Bool
same_number m n = m == n

-- every name stays
abbrev pub unchanged : Renaming
unchanged = record { public = λ c. c; fresh = λ n. n }

abbrev pub exchange : Exchange → Renaming
exchange (of_public a b) = record { public = other_of bytes_eq a b; fresh = λ n. n }
exchange (of_fresh a b) = record { public = λ c. c; fresh = other_of same_number a b }

-- the first, and then the second
abbrev pub then_by : Renaming → Renaming → Renaming
then_by r s = record { public = λ c. s.public (r.public c); fresh = λ n. s.fresh (r.fresh n) }

-- one after the other
abbrev pub exchanges : List Exchange → Renaming
exchanges [] = unchanged
exchanges (e ∷ es) = then_by (exchange e) (exchanges es)

-- the term with the two names exchanged
abbrev pub exchanged : Exchange → Ground → Ground
exchanged e t = renamed (exchange e) t

abbrev pub exchanged_by : List Exchange → Ground → Ground
exchanged_by es t = renamed (exchanges es) t

-- the name is neither of the two
abbrev pub IsApart : Exchange → Name → Type 0
IsApart (of_public a b) (public_name c) = (c ≡ a → ⊥) × (c ≡ b → ⊥)
IsApart (of_public a b) (fresh_name n) = Unit {0}
IsApart (of_fresh a b) (public_name c) = Unit {0}
IsApart (of_fresh a b) (fresh_name n) = (n ≡ a → ⊥) × (n ≡ b → ⊥)

-- the names that stand in none of the exchanges
abbrev pub apart_from : List Exchange → Names
apart_from es a = Every (λ e. IsApart e a) es

-- an exchange of public names that are none of these, or of fresh names
abbrev pub IsUnlisted : List (List ℕ) → Exchange → Type 0
IsUnlisted listed (of_public a b) = (is_listed a listed ≡ false) × (is_listed b listed ≡ false)
IsUnlisted listed (of_fresh a b) = Unit {0}
