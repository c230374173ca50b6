-- The first of the moves on each two elements of a list that is an instance is that on the first two of which something is open; and what stands nowhere
-- can be left out of the list.
use Rattle.std.proofs.Common.{◌≡◌, Bool, true, false, ◌&&◌, if◌then◌else◌, List, [], ◌∷◌, Option, Some, None, option_map, refl, sym, ap, ap₂, ◌∙◌}
use Rattle.std.specs.Prelude.{flat_map, find, filter}
use Rattle.std.specs.Option.{option_or}
use Rattle.std.proofs.lemmas.List.Folds.{find-append}
use Rattle.sp_spec_system.specs.Move.{Move}
use Rattle.sp_spec_system.specs.Picked.{first_with, first_two}
use Rattle.sp_spec_proof.specs.Deciding.{each_two}

or_map : {X Y : Type 0} (f : X → Y) (o r : Option X) → option_or (option_map f o) (option_map f r) ≡ option_map f (option_or o r)
or_map f None r = refl
or_map f (Some x) r = refl

-- ---- the moves

module _ {A : Type 0} (test : Move → Bool) (moves : A → A → List Move) (move : A × A → Move) (is_open : A → A → Bool)
    (here : (x y : A) → find test (moves x y) ≡ (if is_open x y then Some (move (x, y)) else None)) where
  with_this : (x y : A) (b : Bool) (r : Option (A × A)) → option_or (if b then Some (move (x, y)) else None) (option_map move r) ≡ option_map move (if b then Some (x, y) else r)
  with_this x y true r = refl
  with_this x y false r = refl

  with_each : (x : A) (ys : List A) → find test (flat_map (moves x) ys) ≡ option_map move (first_with is_open x ys)
  with_each x [] = refl
  with_each x (y ∷ ys) =
      find-append test (moves x y) (flat_map (moves x) ys) ∙ ap₂ option_or (here x y) (with_each x ys) ∙ with_this x y (is_open x y) (first_with is_open x ys)

  pub on_two : (xs : List A) → find test (each_two moves xs) ≡ option_map move (first_two is_open xs)
  on_two [] = refl
  on_two (x ∷ xs) =
      find-append test (flat_map (moves x) xs) (each_two moves xs) ∙ ap₂ option_or (with_each x xs) (on_two xs) ∙ or_map move (first_with is_open x xs) (first_two is_open xs)

-- ---- what stands there

module _ {A : Type 0} (stands : A → Bool) (is_open may_be : A → A → Bool) (both : (x y : A) → is_open x y ≡ (stands x && (stands y && may_be x y))) where
  never : (x : A) → stands x ≡ false → (ys : List A) → first_with is_open x ys ≡ None
  never x absent [] = refl
  never x absent (y ∷ ys) =
      let shut : is_open x y ≡ false = both x y ∙ ap (λ (b : Bool). b && (stands y && may_be x y)) absent in
      ap (λ (b : Bool). if b then Some (x, y) else first_with is_open x ys) shut ∙ never x absent ys

  with_standing : (x : A) → stands x ≡ true → (ys : List A) → first_with is_open x ys ≡ first_with may_be x (filter stands ys)
  with_standing x here [] = refl
  with_standing x here (y ∷ ys) =
      let opened : is_open x y ≡ (stands y && may_be x y) = both x y ∙ ap (λ (b : Bool). b && (stands y && may_be x y)) here in
      ap₂ (λ (b : Bool) (r : Option (A × A)). if b then Some (x, y) else r) opened (with_standing x here ys) ∙ at (stands y)
    where
      at : (b : Bool) → (if b && may_be x y then Some (x, y) else first_with may_be x (filter stands ys)) ≡ first_with may_be x (if b then y ∷ filter stands ys else filter stands ys)
      at true = refl
      at false = refl

  pub of_standing : (xs : List A) → first_two is_open xs ≡ first_two may_be (filter stands xs)
  of_standing [] = refl
  of_standing (x ∷ xs) = at (stands x) refl (of_standing xs)
    where
      at : (b : Bool) → stands x ≡ b → first_two is_open xs ≡ first_two may_be (filter stands xs)
          → option_or (first_with is_open x xs) (first_two is_open xs) ≡ first_two may_be (if b then x ∷ filter stands xs else filter stands xs)
      at true e later = ap₂ option_or (with_standing x e xs) later
      at false e later = ap₂ option_or (never x e xs) later
