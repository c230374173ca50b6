-- What the search ends with makes true: the restrictions, and what is sought.
use Rattle.std.proofs.Common.{◌≡◌, Bool, true, false, ◌&&◌, List, [], ◌∷◌, ◌++◌, sym, ap, ◌∙◌}
use Rattle.std.specs.List.{list_all}
use Rattle.std.proofs.lemmas.List.Folds.{list_all-append}
use Rattle.std.proofs.Math.Bool.{and-true}

module _ {A : Type 0} (p : A → Bool) (xs : List A) (x : A) where
  with_one : list_all p (xs ++ x ∷ []) ≡ (list_all p xs && p x)
  with_one = list_all-append p xs (x ∷ []) ∙ ap (λ (b : Bool). list_all p xs && b) (and-true (p x))

  -- one of them isn't so
  pub one_fails : list_all p xs ≡ false → false ≡ list_all p (xs ++ x ∷ [])
  one_fails e = sym (with_one ∙ ap (λ (b : Bool). b && p x) e)

  -- each is, so it rests on the last
  pub last_tells : (b : Bool) → list_all p xs ≡ true → b ≡ p x → b ≡ list_all p (xs ++ x ∷ [])
  last_tells b e is = is ∙ sym (with_one ∙ ap (λ (c : Bool). c && p x) e)
