-- What holds of each element, members, elements at positions, and lists without twice the same.
use Rattle.std.proofs.Common.{◌≡◌, ◌⊎◌, ◌<◌, ◌+◌, ℕ, zero, suc, List, [], ◌∷◌, ◌++◌, map, length, drop, drop-cons, get_or, add-one, append_assoc, append-nil, length-append, inl, inr, refl, sym, ap, ap₂, ◌∙◌, subst, Some, slice_get, arith}
use Rattle.sp_spec.specs.Lists.{Member, newest_first, Every, Distinct, AtPlace, AtPosition}

pub every_map : {A B : Type 0} (P : A → Type 0) (Q : B → Type 0) (f : A → B) → ((x : A) → P x → Q (f x)) → (xs : List A) → Every P xs → Every Q (map f xs)
every_map P Q f h [] e = tt
every_map P Q f h (x ∷ xs) e = (h x e.0, every_map P Q f h xs e.1)

pub every_weaken : {A : Type 0} (P Q : A → Type 0) → ((x : A) → P x → Q x) → (xs : List A) → Every P xs → Every Q xs
every_weaken P Q h [] e = tt
every_weaken P Q h (x ∷ xs) e = (h x e.0, every_weaken P Q h xs e.1)

-- of what two predicates hold
pub every_both : {A : Type 0} (P Q R : A → Type 0) → ((x : A) → P x → Q x → R x) → (xs : List A) → Every P xs → Every Q xs → Every R xs
every_both P Q R h [] e k = tt
every_both P Q R h (x ∷ xs) e k = (h x e.0 k.0, every_both P Q R h xs e.1 k.1)

-- of each element, as it holds of any
pub every_all : {A : Type 0} (P : A → Type 0) → ((x : A) → P x) → (xs : List A) → Every P xs
every_all P h [] = tt
every_all P h (x ∷ xs) = (h x, every_all P h xs)

-- of each element, as it holds of each member
pub every_from : {A : Type 0} (P : A → Type 0) (xs : List A) → ((x : A) → Member x xs → P x) → Every P xs
every_from P [] h = tt
every_from P (x ∷ xs) h = (h x (inl refl), every_from P xs (λ y m. h y (inr m)))

pub each_among : {A : Type 0} (xs ys : List A) → ((x : A) → Member x xs → Member x ys) → Every (λ x. Member x ys) xs
each_among xs ys h = every_from (λ x. Member x ys) xs h

pub every_itself : {A : Type 0} (xs : List A) → Every (λ x. Member x xs) xs
every_itself xs = each_among xs xs (λ x m. m)

pub every_append : {A : Type 0} (P : A → Type 0) (xs ys : List A) → Every P xs → Every P ys → Every P (xs ++ ys)
every_append P [] ys e k = k
every_append P (x ∷ xs) ys e k = (e.0, every_append P xs ys e.1 k)

pub every_parts : {A : Type 0} (P : A → Type 0) (xs ys : List A) → Every P (xs ++ ys) → Every P xs × Every P ys
every_parts P [] ys e = (tt, e)
every_parts P (x ∷ xs) ys e = let r = every_parts P xs ys e.1 in ((e.0, r.0), r.1)

pub every_member : {A : Type 0} (P : A → Type 0) (xs : List A) (x : A) → Member x xs → Every P xs → P x
every_member P [] x m e = absurd m
every_member P (y ∷ ys) x (inl m) e = subst P m e.0
every_member P (y ∷ ys) x (inr m) e = every_member P ys x m e.1

pub every_at : {A : Type 0} (P : A → Type 0) (xs : List A) (k : ℕ) (x : A) → slice_get xs k ≡ Some x → Every P xs → P x
every_at P [] k x h e = absurd cc
every_at P (y ∷ ys) zero x h e = subst P (let g : y ≡ x = cc in g) e.0
every_at P (y ∷ ys) (suc k) x h e = every_at P ys k x h e.1

pub member_map : {A B : Type 0} (f : A → B) (x : A) (xs : List A) → Member x xs → Member (f x) (map f xs)
member_map f x [] m = m
member_map f x (y ∷ ys) (inl m) = inl (let g : f y ≡ f x = cc in g)
member_map f x (y ∷ ys) (inr m) = inr (member_map f x ys m)

-- an element of a mapped list comes from one of the list
pub member_mapped : {A B : Type 0} (f : A → B) (y : B) (xs : List A) → Member y (map f xs) → (x : A) × Member x xs × (f x ≡ y)
member_mapped f y [] m = absurd m
member_mapped f y (x ∷ xs) (inl m) = (x, inl refl, m)
member_mapped f y (x ∷ xs) (inr m) = let r = member_mapped f y xs m in (r.0, inr r.1, r.2)

pub member_left : {A : Type 0} (x : A) (xs ys : List A) → Member x xs → Member x (xs ++ ys)
member_left x [] ys m = absurd m
member_left x (y ∷ xs) ys (inl m) = inl m
member_left x (y ∷ xs) ys (inr m) = inr (member_left x xs ys m)

pub member_right : {A : Type 0} (x : A) (xs ys : List A) → Member x ys → Member x (xs ++ ys)
member_right x [] ys m = m
member_right x (y ∷ xs) ys m = inr (member_right x xs ys m)

pub member_either : {A : Type 0} (x : A) (xs ys : List A) → Member x (xs ++ ys) → Member x xs ⊎ Member x ys
member_either x [] ys m = inr m
member_either x (y ∷ xs) ys (inl m) = inl (inl m)
member_either x (y ∷ xs) ys (inr m) = at (member_either x xs ys m)
  where
    at : Member x xs ⊎ Member x ys → Member x (y ∷ xs) ⊎ Member x ys
    at (inl k) = inl (inr k)
    at (inr k) = inr k

pub distinct_left : {A : Type 0} (xs ys : List A) → Distinct (xs ++ ys) → Distinct xs
distinct_left [] ys d = tt
distinct_left (x ∷ xs) ys d = ((λ m. d.0 (member_left x xs ys m)), distinct_left xs ys d.1)

pub distinct_right : {A : Type 0} (xs ys : List A) → Distinct (xs ++ ys) → Distinct ys
distinct_right [] ys d = d
distinct_right (x ∷ xs) ys d = distinct_right xs ys d.1

-- what stands in both parts stands twice
pub distinct_apart : {A : Type 0} (x : A) (xs ys : List A) → Distinct (xs ++ ys) → Member x xs → Member x ys → ⊥
distinct_apart x [] ys d m k = m
distinct_apart x (z ∷ xs) ys d (inl m) k = d.0 (subst (λ (w : _). Member w (xs ++ ys)) (sym m) (member_right x xs ys k))
distinct_apart x (z ∷ xs) ys d (inr m) k = distinct_apart x xs ys d.1 m k

pub position_below : {A : Type 0} (xs : List A) (p : ℕ) (x : A) → AtPosition xs p x → p < length xs
position_below [] p x a = absurd a
position_below (y ∷ xs) p x (inl a) = let e = a.0 in omega arith
position_below (y ∷ xs) p x (inr a) = let l = position_below xs p x a in omega arith

-- one position has one element
pub position_one : {A : Type 0} (xs : List A) (p : ℕ) (x y : A) → AtPosition xs p x → AtPosition xs p y → x ≡ y
position_one [] p x y a b = absurd a
position_one (z ∷ xs) p x y (inl a) (inl b) = sym a.1 ∙ b.1
position_one (z ∷ xs) p x y (inl a) (inr b) = let l = position_below xs p y b in let e = a.0 in absurd (omega arith)
position_one (z ∷ xs) p x y (inr a) (inl b) = let l = position_below xs p x a in let e = b.0 in absurd (omega arith)
position_one (z ∷ xs) p x y (inr a) (inr b) = position_one xs p x y a b

-- what a list gives at a place stands there
pub place_got : {A : Type 0} (xs : List A) (k : ℕ) (x : A) → slice_get xs k ≡ Some x → AtPlace xs k x
place_got [] k x h = absurd cc
place_got (y ∷ xs) zero x h = let g : y ≡ x = cc in g
place_got (y ∷ xs) (suc k) x h = place_got xs k x h

pub place_found : {A : Type 0} (xs : List A) (k : ℕ) (x : A) → AtPlace xs k x → slice_get xs k ≡ Some x
place_found [] k x a = absurd a
place_found (y ∷ ys) zero x a = ap Some a
place_found (y ∷ ys) (suc k) x a = place_found ys k x a

-- at a place stands one element
pub place_one : {A : Type 0} (xs : List A) (k : ℕ) (x y : A) → AtPlace xs k x → AtPlace xs k y → x ≡ y
place_one [] k x y p q = absurd p
place_one (z ∷ xs) zero x y p q = sym p ∙ q
place_one (z ∷ xs) (suc k) x y p q = place_one xs k x y p q

-- what stands at a place is a member
pub place_member : {A : Type 0} (xs : List A) (k : ℕ) (x : A) → AtPlace xs k x → Member x xs
place_member [] k x a = absurd a
place_member (y ∷ xs) zero x a = inl a
place_member (y ∷ xs) (suc k) x a = inr (place_member xs k x a)

pub place_map : {A B : Type 0} (f : A → B) (xs : List A) (k : ℕ) (x : A) → AtPlace xs k x → AtPlace (map f xs) k (f x)
place_map f [] k x a = absurd a
place_map f (y ∷ xs) zero x a = ap f a
place_map f (y ∷ xs) (suc k) x a = place_map f xs k x a

-- functions that give the same of each element
pub map_each : {A B : Type 0} (f g : A → B) (xs : List A) → Every (λ x. f x ≡ g x) xs → map f xs ≡ map g xs
map_each f g [] e = refl
map_each f g (x ∷ xs) e = ap₂ (λ y ys. y ∷ ys) e.0 (map_each f g xs e.1)

pub map-map : {A B C : Type 0} (f : A → B) (g : B → C) (xs : List A) → map g (map f xs) ≡ map (λ x. g (f x)) xs
map-map f g [] = refl
map-map f g (x ∷ xs) = ap (λ ys. g (f x) ∷ ys) (map-map f g xs)

pub length_map : {A B : Type 0} (f : A → B) (xs : List A) → length (map f xs) ≡ length xs
length_map f [] = refl
length_map f (x ∷ xs) = ap suc (length_map f xs)

-- the element at a place, and those behind it
pub next_item : {A : Type 0} (xs : List A) (i : ℕ) (x : A) → i < length xs → x ≡ get_or xs i x → drop i xs ≡ x ∷ drop (i + 1) xs
next_item {A = A} xs i x h e = rw (add-one) (drop-cons xs i x h ∙ ap (λ (y : A). y ∷ drop (suc i) xs) (sym e))

-- so it is in a list that is read as another
pub next_there : {A : Type 0} (ys xs : List A) (i : ℕ) (x : A) → ys ≡ xs → i < length ys → x ≡ get_or ys i x → drop i xs ≡ x ∷ drop (i + 1) xs
next_there {A = A} ys xs i x same h e = ap (drop i) (sym same) ∙ next_item ys i x h e ∙ ap (λ (zs : List A). x ∷ drop (i + 1) zs) same

-- ---- the newest first

pub newest_append : {A : Type 0} (xs ys : List A) → newest_first (xs ++ ys) ≡ newest_first ys ++ newest_first xs
newest_append [] ys = sym (append-nil (newest_first ys))
newest_append (x ∷ xs) ys = ap (λ zs. zs ++ x ∷ []) (newest_append xs ys) ∙ append_assoc (newest_first ys) (newest_first xs) (x ∷ [])

pub newest_count : {A : Type 0} (xs : List A) → length (newest_first xs) ≡ length xs
newest_count [] = refl
newest_count (x ∷ xs) = let a = length-append (newest_first xs) (x ∷ []) in let b = newest_count xs in omega (arith, a, b)

pub newest_last : {A : Type 0} (xs : List A) (y : A) → newest_first (xs ++ y ∷ []) ≡ y ∷ newest_first xs
newest_last [] y = refl
newest_last (x ∷ xs) y = ap (λ zs. zs ++ x ∷ []) (newest_last xs y)

pub newest_twice : {A : Type 0} (xs : List A) → newest_first (newest_first xs) ≡ xs
newest_twice [] = refl
newest_twice (x ∷ xs) = newest_last (newest_first xs) x ∙ ap (λ zs. x ∷ zs) (newest_twice xs)
