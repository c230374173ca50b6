-- Lists that are built in front of what a function over the rest answers.
use Rattle.std.proofs.Common.{◌≡◌, ◌<◌, ◌≤◌, ℕ, zero, suc, take, drop, get_or, arith, List, [], ◌∷◌, ◌++◌, Option, Some, None, option_map, refl, sym, ap, ◌∙◌, append_assoc, length, map}
use Rattle.sp_law_run.proofs.Taking.{map_append}
use Rattle.sp_spec.proofs.Lists.{length_map}
use Rattle.sp_spec.proofs.Options.{behind}

pub behind_none : {A : Type 0} (o : Option (List A)) → o ≡ behind [] o
behind_none None = refl
behind_none (Some rest) = refl

pub behind_one : {A : Type 0} (front : List A) (x : A) (o : Option (List A)) → behind front (option_map (λ rest. x ∷ rest) o) ≡ behind (front ++ x ∷ []) o
behind_one front x None = refl
behind_one front x (Some rest) = ap Some (sym (append_assoc front (x ∷ []) rest))

-- a list is what stands before a place, the element there, and what stands behind it
at_place : {A : Type 0} (xs : List A) (i : ℕ) (x : A) → i < length xs → x ≡ get_or xs i x → xs ≡ take i xs ++ x ∷ drop (suc i) xs
at_place [] i x l e = absurd (omega arith)
at_place (y ∷ ys) zero x l e = ap (λ z. z ∷ ys) (sym e)
at_place (y ∷ ys) (suc i) x l e = ap (λ zs. y ∷ zs) (at_place ys i x (omega arith) e)

take_more : {A : Type 0} (xs : List A) (i : ℕ) (x : A) → i < length xs → x ≡ get_or xs i x → take (suc i) xs ≡ take i xs ++ x ∷ []
take_more [] i x l e = absurd (omega arith)
take_more (y ∷ ys) zero x l e = ap (λ z. z ∷ []) (sym e)
take_more (y ∷ ys) (suc i) x l e = ap (λ zs. y ∷ zs) (take_more ys i x (omega arith) e)

take_all : {A : Type 0} (xs : List A) (i : ℕ) → length xs ≤ i → take i xs ≡ xs
take_all [] zero l = refl
take_all [] (suc i) l = refl
take_all (y ∷ ys) zero l = absurd (omega arith)
take_all (y ∷ ys) (suc i) l = ap (λ zs. y ∷ zs) (take_all ys i (omega arith))

length_take : {A : Type 0} (xs : List A) (i : ℕ) → i < length xs → length (take i xs) ≡ i
length_take [] i l = absurd (omega arith)
length_take (y ∷ ys) zero l = refl
length_take (y ∷ ys) (suc i) l = ap suc (length_take ys i (omega arith))

-- the same of the images, under one function after another
module _ {A B C : Type 0} (f : A → B) (g : B → C) where
  abbrev pub images : List A → List C
  images xs = map g (map f xs)

  images_append : (xs ys : List A) → images (xs ++ ys) ≡ images xs ++ images ys
  images_append xs ys = ap (map g) (map_append f xs ys) ∙ map_append g (map f xs) (map f ys)

  pub images_at : (xs : List A) (i : ℕ) (x : A) → i < length xs → x ≡ get_or xs i x → images xs ≡ images (take i xs) ++ g (f x) ∷ images (drop (suc i) xs)
  images_at xs i x l e = ap images (at_place xs i x l e) ∙ images_append (take i xs) (x ∷ drop (suc i) xs)

  pub images_more : (xs : List A) (i : ℕ) (x : A) → i < length xs → x ≡ get_or xs i x → images (take (suc i) xs) ≡ images (take i xs) ++ g (f x) ∷ []
  images_more xs i x l e = ap images (take_more xs i x l e) ∙ images_append (take i xs) (x ∷ [])

  pub images_all : (xs : List A) (i : ℕ) → length xs ≤ i → images (take i xs) ≡ images xs
  images_all xs i l = ap images (take_all xs i l)

  pub images_before : (xs : List A) (i : ℕ) → i < length xs → length (images (take i xs)) ≡ i
  images_before xs i l = length_map g (map f (take i xs)) ∙ length_map f (take i xs) ∙ length_take xs i l
