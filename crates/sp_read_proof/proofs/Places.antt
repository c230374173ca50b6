-- An element of a list in memory that is found at its place, and that is changed there, as the values see it that the elements stand for.
use Rattle.std.proofs.Common.{◌≡◌, ℕ, List, ◌∷◌, ◌++◌, get_or, length, map, sym, ap, ◌∙◌}
use Rattle.std.proofs.lemmas.List.{map-set}
use Rattle.std.proofs.Math.ListN.{set, get_or-map}
use Rattle.std.proofs.Math.Seq.{get_or-append_seam, set-append_seam}

module _ {A B : Type 0} (f : A → B) (xs : List A) (place : ℕ) (outer inside : List B) (b : B) (at : place ≡ length outer) (are : map f xs ≡ outer ++ b ∷ inside) where
  pub found_there : (x : A) → x ≡ get_or xs place x → f x ≡ b
  found_there x e =
      ap f e ∙ sym (get_or-map f xs place x) ∙ ap (λ (ys : List B). get_or ys place (f x)) are ∙ ap (λ (i : ℕ). get_or (outer ++ b ∷ inside) i (f x)) at
      ∙ get_or-append_seam outer b inside (f x)

  pub changed_there : (y : A) (c : B) → f y ≡ c → map f (set xs place y) ≡ outer ++ c ∷ inside
  changed_there y c e =
      map-set f xs place y ∙ ap (λ (ys : List B). set ys place (f y)) are ∙ ap (λ (i : ℕ). set (outer ++ b ∷ inside) i (f y)) at ∙ set-append_seam outer b inside (f y)
      ∙ ap (λ (d : B). outer ++ d ∷ inside) e
