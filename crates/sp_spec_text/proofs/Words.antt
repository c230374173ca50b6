-- Which words are names, which are none, and with which a restriction begins.
use Rattle.std.proofs.Common.{◌≡◌, ◌⊎◌, ℕ, true, List, codes, refl, inl, inr, bytes_eq}
use Rattle.std.proofs.lemmas.Bool.{or_cases}
use Rattle.std.proofs.lemmas.Slice.Eq.{bytes_eq-Decides}
use Rattle.sp_spec_text.specs.Names.{is_reserved}
use Rattle.sp_spec_text.specs.Attributes.{is_restriction}

pub end_reserved : is_reserved (codes "end") ≡ true
unfolding is_reserved
end_reserved = refl

pub let_reserved : is_reserved (codes "let") ≡ true
unfolding is_reserved
let_reserved = refl

pub in_reserved : is_reserved (codes "in") ≡ true
unfolding is_reserved
in_reserved = refl

pub all_reserved : is_reserved (codes "All") ≡ true
unfolding is_reserved
all_reserved = refl

pub ex_reserved : is_reserved (codes "Ex") ≡ true
unfolding is_reserved
ex_reserved = refl

pub restriction_words : (k : List ℕ) → is_restriction k ≡ true → (k ≡ codes "restriction") ⊎ (k ≡ codes "axiom")
unfolding is_restriction
restriction_words k h = at (or_cases (bytes_eq k (codes "restriction")) (bytes_eq k (codes "axiom")) h)
  where
    at : (bytes_eq k (codes "restriction") ≡ true) ⊎ (bytes_eq k (codes "axiom") ≡ true) → (k ≡ codes "restriction") ⊎ (k ≡ codes "axiom")
    at (inl e) = inl ((bytes_eq-Decides k (codes "restriction")).0 e)
    at (inr e) = inr ((bytes_eq-Decides k (codes "axiom")).0 e)
