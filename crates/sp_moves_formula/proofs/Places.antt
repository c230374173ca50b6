-- Places in lists that a move names.
use Rattle.std.proofs.Common.{◌≡◌, ℕ, List, map, Option, Some, None, option_map, slice_get, refl, ap, ◌∙◌}
use Rattle.std.proofs.lemmas.Option.{slice_get-map}

-- where the number is no place of the list, nothing stands there
none_from : {X : Type 0} (k : ℕ) (o : Option X) → option_map (λ x. k) o ≡ None → o ≡ None
none_from k None e = refl
none_from k (Some x) e = absurd (let none : ⊥ = cc in none)

pub none_there : {X A : Type 0} (view : X → A) (xs : List X) (k : ℕ) → option_map (λ x. k) (slice_get xs k) ≡ None → slice_get (map view xs) k ≡ None
none_there view xs k e = slice_get-map view xs k ∙ ap (option_map view) (none_from k (slice_get xs k) e)

pub is_place : {X : Type 0} (k p : ℕ) (o : Option X) → option_map (λ x. k) o ≡ Some p → p ≡ k
is_place k p None e = absurd (let none : ⊥ = cc in none)
is_place k p (Some x) e = cc
