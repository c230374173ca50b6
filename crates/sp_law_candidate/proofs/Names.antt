-- The names that variables are given: all get one, of their sorts, different ones, and none of the theory's.
use Rattle.std.proofs.Common.{◌≡◌, ◌⊎◌, ⊎_elim, ◌≤◌, ◌<◌, ℕ, zero, suc, ◌+◌, Bool, true, false, ◌||◌, if◌then◌else◌, List, [], ◌∷◌, ◌++◌, length, map, Option, Some, None, unwrap_or, inl, inr, refl, sym, ap, ap₂, ◌∙◌, subst, true≢false, arith}
use Rattle.std.specs.Str.{bytes_eq}
use Rattle.std.proofs.lemmas.Bool.{or_cases}
use Rattle.std.proofs.lemmas.List.{map-append}
use Rattle.std.proofs.lemmas.Slice.Eq.{bytes_eq-Decides}
use Rattle.sp_spec.specs.Lists.{Member, Every, Distinct}
use Rattle.sp_spec.proofs.Lists.{every_member, every_append, member_left, member_right, member_either, member_map}
use Rattle.sp_spec.specs.Term.{Sort, Msg, Fresh, Pub, Variable, Ground, constant, name}
use Rattle.sp_spec.specs.Signature.{HasSort, RespectsSorts}
use Rattle.sp_spec.specs.Same.{same_variable}
use Rattle.sp_spec.specs.Written.{is_listed}
use Rattle.sp_law_equal.specs.Matching.{Bound, lookup, any_of, value_in}
use Rattle.sp_spec.proofs.Same.{same_variable_decides}
use Rattle.sp_spec_solved.specs.Numeral.{numeral}
use Rattle.sp_spec_solved.specs.Naming.{is_seen, once_after, if_fresh, fresh_among, others_among, fresh_given, public_name, public_given, given}
use Rattle.sp_spec_solved.proofs.Numeral.{numeral_injective}
use Rattle.sp_spec.proofs.Listed.{listed_member}
use Rattle.sp_law_equal.proofs.Matches.{any_has_sort}

-- ---- names by their numbers

public_names_differ : (j k : ℕ) → public_name j ≡ public_name k → j ≡ k
public_names_differ j k e = numeral_injective j k (let g : numeral j ≡ numeral k = cc in g)

-- ---- without a name

abbrev without : List ℕ → List (List ℕ) → List (List ℕ)
without n [] = []
without n (c ∷ cs) = if bytes_eq c n then without n cs else c ∷ without n cs

without_below : (n : List ℕ) (cs : List (List ℕ)) → length (without n cs) ≤ length cs
without_below n [] = omega arith
without_below n (c ∷ cs) = at (bytes_eq c n) (without_below n cs)
  where
    at : (b : Bool) → length (without n cs) ≤ length cs → length (if b then without n cs else c ∷ without n cs) ≤ suc (length cs)
    at true h = omega arith
    at false h = omega arith

without_fewer : (n : List ℕ) (cs : List (List ℕ)) → is_listed n cs ≡ true → length (without n cs) < length cs
without_fewer n [] e = absurd cc
without_fewer n (c ∷ cs) e = at (bytes_eq c n) e (λ k. without_fewer n cs k)
  where
    at : (b : Bool) → (b || is_listed n cs) ≡ true → (is_listed n cs ≡ true → length (without n cs) < length cs) → length (if b then without n cs else c ∷ without n cs) < suc (length cs)
    at true k h = let l = without_below n cs in omega arith
    at false k h = let l = h k in omega arith

-- another name is listed as before
others_stay : (n m : List ℕ) (cs : List (List ℕ)) → (n ≡ m → ⊥) → is_listed m (without n cs) ≡ is_listed m cs
others_stay n m [] h = refl
others_stay n m (c ∷ cs) h = at (bytes_eq c n) refl (others_stay n m cs h)
  where
    not_it : (b : Bool) → bytes_eq c m ≡ b → c ≡ n → is_listed m cs ≡ (b || is_listed m cs)
    not_it true e k = absurd (h (sym k ∙ (bytes_eq-Decides c m).0 e))
    not_it false e k = refl

    at : (b : Bool) → bytes_eq c n ≡ b → is_listed m (without n cs) ≡ is_listed m cs → is_listed m (if b then without n cs else c ∷ without n cs) ≡ is_listed m (c ∷ cs)
    at true e later = later ∙ not_it (bytes_eq c m) refl ((bytes_eq-Decides c n).0 e)
    at false e later = ap (λ (b : Bool). bytes_eq c m || b) later

-- the names that are tried, and nothing where they run out: of the names that `public_given` gives then, the last one, no more holds than their sort
abbrev public_tried : List (List ℕ) → ℕ → ℕ → List Variable → List Bound
public_tried constants zero k xs = []
public_tried constants (suc n) k [] = []
public_tried constants (suc n) k (x ∷ xs) =
    if is_listed (public_name k) constants
    then public_tried constants n (suc k) (x ∷ xs)
    else (x, constant (public_name k)) ∷ public_tried constants n (suc k) xs

-- the names from a number on are listed here as there
abbrev AreListedAlike : List (List ℕ) → List (List ℕ) → ℕ → Type 0
AreListedAlike cs ds k = (j : ℕ) → k ≤ j → is_listed (public_name j) cs ≡ is_listed (public_name j) ds

later_alike : (cs ds : List (List ℕ)) (k : ℕ) → AreListedAlike cs ds k → AreListedAlike cs ds (suc k)
later_alike cs ds k h = λ j p. h j (omega arith)

-- names of later numbers are given as before
given_same : (cs ds : List (List ℕ)) (n k : ℕ) (ys : List Variable) → AreListedAlike cs ds k → public_given cs n k ys ≡ public_given ds n k ys
given_same cs ds zero k [] h = refl
given_same cs ds zero k (y ∷ ys) h = ap (λ (bs : List Bound). (y, constant (public_name k)) ∷ bs) (given_same cs ds zero k ys h)
given_same cs ds (suc n) k [] h = refl
given_same cs ds (suc n) k (y ∷ ys) h =
    ap (λ (b : Bool). if b then public_given cs n (suc k) (y ∷ ys) else (y, constant (public_name k)) ∷ public_given cs n (suc k) ys) (h k (omega arith))
    ∙ ap₂ (λ (as' bs : List Bound). if is_listed (public_name k) ds then as' else (y, constant (public_name k)) ∷ bs)
    (given_same cs ds n (suc k) (y ∷ ys) (later_alike cs ds k h)) (given_same cs ds n (suc k) ys (later_alike cs ds k h))

tried_same : (cs ds : List (List ℕ)) (n k : ℕ) (ys : List Variable) → AreListedAlike cs ds k → public_tried cs n k ys ≡ public_tried ds n k ys
tried_same cs ds zero k ys h = refl
tried_same cs ds (suc n) k [] h = refl
tried_same cs ds (suc n) k (y ∷ ys) h =
    ap (λ (b : Bool). if b then public_tried cs n (suc k) (y ∷ ys) else (y, constant (public_name k)) ∷ public_tried cs n (suc k) ys) (h k (omega arith))
    ∙ ap₂ (λ (as' bs : List Bound). if is_listed (public_name k) ds then as' else (y, constant (public_name k)) ∷ bs)
    (tried_same cs ds n (suc k) (y ∷ ys) (later_alike cs ds k h)) (tried_same cs ds n (suc k) ys (later_alike cs ds k h))

-- of so many names the constants can't be all: they don't run out
enough : (cs : List (List ℕ)) (n k : ℕ) (ys : List Variable) → length ys + length cs ≤ n → public_given cs n k ys ≡ public_tried cs n k ys
enough cs zero k [] h = refl
enough cs zero k (y ∷ ys) h = absurd (omega arith)
enough cs (suc n) k [] h = refl
enough cs (suc n) k (y ∷ ys) h =
    at (is_listed (public_name k) cs) refl
    (λ e. let f = without_fewer (public_name k) cs e in enough (without (public_name k) cs) n (suc k) (y ∷ ys) (omega arith))
    (enough cs n (suc k) ys (omega arith))
  where
    apart : (j : ℕ) → suc k ≤ j → public_name k ≡ public_name j → ⊥
    apart j p e = let same = public_names_differ k j e in omega arith

    alike : AreListedAlike cs (without (public_name k) cs) (suc k)
    alike = λ j p. sym (others_stay (public_name k) (public_name j) cs (apart j p))

    at : (b : Bool) → is_listed (public_name k) cs ≡ b
        → (is_listed (public_name k) cs ≡ true → public_given (without (public_name k) cs) n (suc k) (y ∷ ys) ≡ public_tried (without (public_name k) cs) n (suc k) (y ∷ ys))
        → public_given cs n (suc k) ys ≡ public_tried cs n (suc k) ys
        → (if b then public_given cs n (suc k) (y ∷ ys) else (y, constant (public_name k)) ∷ public_given cs n (suc k) ys)
        ≡ (if b then public_tried cs n (suc k) (y ∷ ys) else (y, constant (public_name k)) ∷ public_tried cs n (suc k) ys)
    at true e passing giving =
        given_same cs (without (public_name k) cs) n (suc k) (y ∷ ys) alike ∙ passing e ∙ sym (tried_same cs (without (public_name k) cs) n (suc k) (y ∷ ys) alike)
    at false e passing giving = ap (λ (bs : List Bound). (y, constant (public_name k)) ∷ bs) giving

abbrev variables_in : List Bound → List Variable
variables_in bs = map (λ (b : Bound). b.0) bs

-- each variable is given one
all_given : (cs : List (List ℕ)) (n k : ℕ) (ys : List Variable) → variables_in (public_given cs n k ys) ≡ ys
all_given cs zero k [] = refl
all_given cs zero k (y ∷ ys) = ap (λ (xs : List Variable). y ∷ xs) (all_given cs zero k ys)
all_given cs (suc n) k [] = refl
all_given cs (suc n) k (y ∷ ys) = at (is_listed (public_name k) cs) (all_given cs n (suc k) (y ∷ ys)) (all_given cs n (suc k) ys)
  where
    at : (b : Bool) → variables_in (public_given cs n (suc k) (y ∷ ys)) ≡ y ∷ ys → variables_in (public_given cs n (suc k) ys) ≡ ys
        → variables_in (if b then public_given cs n (suc k) (y ∷ ys) else (y, constant (public_name k)) ∷ public_given cs n (suc k) ys) ≡ y ∷ ys
    at true passing giving = passing
    at false passing giving = ap (λ (xs : List Variable). y ∷ xs) giving

-- ---- what bindings give

pub found_is_there : (bs : List Bound) (x : Variable) (t : Ground) → lookup bs x ≡ Some t → Member (x, t) bs
found_is_there [] x t e = absurd cc
found_is_there (b ∷ bs) x t e = at (same_variable b.0 x) refl e (λ k. found_is_there bs x t k)
  where
    at : (c : Bool) → same_variable b.0 x ≡ c → (if c then Some b.1 else lookup bs x) ≡ Some t → (lookup bs x ≡ Some t → Member (x, t) bs) → (b ≡ (x, t)) ⊎ Member (x, t) bs
    at true s k later =
        let value : b.1 ≡ t = cc in
        inl (ap₂ (λ (y : Variable) (u : Ground). (y, u)) ((same_variable_decides b.0 x).0 s) value)
    at false s k later = inr (later k)

bound_is_found : (bs : List Bound) (x : Variable) → Member x (variables_in bs) → (t : Ground) × (lookup bs x ≡ Some t)
bound_is_found [] x m = absurd m
bound_is_found (b ∷ bs) x m = at (same_variable b.0 x) refl m (λ k. bound_is_found bs x k)
  where
    at : (c : Bool) → same_variable b.0 x ≡ c → (b.0 ≡ x) ⊎ Member x (variables_in bs) → (Member x (variables_in bs) → (t : Ground) × (lookup bs x ≡ Some t))
        → (t : Ground) × ((if c then Some b.1 else lookup bs x) ≡ Some t)
    at true s k later = (b.1, refl)
    at false s (inl k) later = absurd (true≢false (sym ((same_variable_decides b.0 x).1 k) ∙ s))
    at false s (inr k) later = later k

value_of_found : (bs : List Bound) (x : Variable) (t : Ground) → lookup bs x ≡ Some t → value_in bs x ≡ t
value_of_found bs x t e = ap (λ (o : Option Ground). unwrap_or o (any_of x.sort)) e

-- ---- the names that are given

abbrev values_in : List Bound → List Ground
values_in bs = map (λ (b : Bound). b.1) bs

fresh_from : (n : ℕ) (xs : List Variable) (t : Ground) → Member t (values_in (fresh_given n xs)) → (m : ℕ) × (t ≡ name m) × (n ≤ m)
fresh_from n [] t m = absurd m
fresh_from n (x ∷ xs) t (inl e) = (n, sym e, omega arith)
fresh_from n (x ∷ xs) t (inr m) = let r = fresh_from (suc n) xs t m in let h = r.2 in (r.0, r.1, omega arith)

fresh_differ : (n : ℕ) (xs : List Variable) → Distinct (values_in (fresh_given n xs))
fresh_differ n [] = tt
fresh_differ n (x ∷ xs) =
    (λ m. let r = fresh_from (suc n) xs (name n) m in let same : n ≡ r.0 = (let e = r.1 in cc) in let h = r.2 in omega arith, fresh_differ (suc n) xs)

-- of a public name that is tried and given: its number, and that the theory doesn't have it
pub record IsGiven (cs : List (List ℕ)) (from : ℕ) (t : Ground) : Type 0 where
  pub number : ℕ
  pub is : t ≡ constant (public_name number)
  pub from_here : from ≤ number
  pub new : is_listed (public_name number) cs ≡ false

later_given : (cs : List (List ℕ)) (k : ℕ) (t : Ground) → IsGiven cs (suc k) t → IsGiven cs k t
later_given cs k t g = let h = g.from_here in record { number = g.number; is = g.is; from_here = omega arith; new = g.new }

public_from : (cs : List (List ℕ)) (n k : ℕ) (xs : List Variable) (t : Ground) → Member t (values_in (public_tried cs n k xs)) → IsGiven cs k t
public_from cs zero k xs t m = absurd m
public_from cs (suc n) k [] t m = absurd m
public_from cs (suc n) k (x ∷ xs) t m = at (is_listed (public_name k) cs) refl m (λ ys l. later_given cs k t (public_from cs n (suc k) ys t l))
  where
    at : (b : Bool) → is_listed (public_name k) cs ≡ b
        → Member t (values_in (if b then public_tried cs n (suc k) (x ∷ xs) else (x, constant (public_name k)) ∷ public_tried cs n (suc k) xs))
        → ((ys : List Variable) → Member t (values_in (public_tried cs n (suc k) ys)) → IsGiven cs k t) → IsGiven cs k t
    at true s l later = later (x ∷ xs) l
    at false s (inl e) later = record { number = k; is = sym e; from_here = omega arith; new = s }
    at false s (inr l) later = later xs l

public_differ : (cs : List (List ℕ)) (n k : ℕ) (xs : List Variable) → Distinct (values_in (public_tried cs n k xs))
public_differ cs zero k xs = tt
public_differ cs (suc n) k [] = tt
public_differ cs (suc n) k (x ∷ xs) = at (is_listed (public_name k) cs) (λ ys. public_differ cs n (suc k) ys)
  where
    again : Member (constant (public_name k)) (values_in (public_tried cs n (suc k) xs)) → ⊥
    again m =
        let g = public_from cs n (suc k) xs (constant (public_name k)) m in
        let from_here = g.from_here in
        let names : public_name k ≡ public_name g.number = (let e = g.is in cc) in
        let same = public_names_differ k g.number names in
        omega arith

    at : (b : Bool) → ((ys : List Variable) → Distinct (values_in (public_tried cs n (suc k) ys)))
        → Distinct (values_in (if b then public_tried cs n (suc k) (x ∷ xs) else (x, constant (public_name k)) ∷ public_tried cs n (suc k) xs))
    at true later = later (x ∷ xs)
    at false later = (again, later xs)

same_value : (bs : List Bound) (x y : Variable) (t : Ground) → Distinct (values_in bs) → Member (x, t) bs → Member (y, t) bs → x ≡ y
same_value [] x y t d m k = absurd m
same_value (b ∷ bs) x y t d (inl e) (inl f) = ap (λ (c : Bound). c.0) (sym e ∙ f)
same_value (b ∷ bs) x y t d (inl e) (inr f) = absurd (d.0 (subst (λ (u : Ground). Member u (values_in bs)) (sym (ap (λ (c : Bound). c.1) e)) (member_map (λ (c : Bound). c.1) (y, t) bs f)))
same_value (b ∷ bs) x y t d (inr e) (inl f) = absurd (d.0 (subst (λ (u : Ground). Member u (values_in bs)) (sym (ap (λ (c : Bound). c.1) f)) (member_map (λ (c : Bound). c.1) (x, t) bs e)))
same_value (b ∷ bs) x y t d (inr e) (inr f) = same_value bs x y t d.1 e f

-- ---- by sorts

are_fresh : (xs : List Variable) → Every (λ (x : Variable). (n : ℕ) → HasSort x.sort (name n)) (fresh_among xs)
are_fresh [] = tt
are_fresh (x ∷ xs) = at x.sort refl (are_fresh xs)
  where
    at : (s : Sort) → x.sort ≡ s → Every (λ (y : Variable). (n : ℕ) → HasSort y.sort (name n)) (fresh_among xs)
        → Every (λ (y : Variable). (n : ℕ) → HasSort y.sort (name n)) (if_fresh s (x ∷ fresh_among xs) (fresh_among xs))
    at Fresh e h = (λ n. subst (λ (s : Sort). HasSort s (name n)) (sym e) tt, h)
    at Pub e h = h
    at Msg e h = h

are_others : (xs : List Variable) → Every (λ (x : Variable). (c : List ℕ) → HasSort x.sort (constant c)) (others_among xs)
are_others [] = tt
are_others (x ∷ xs) = at x.sort refl (are_others xs)
  where
    at : (s : Sort) → x.sort ≡ s → Every (λ (y : Variable). (c : List ℕ) → HasSort y.sort (constant c)) (others_among xs)
        → Every (λ (y : Variable). (c : List ℕ) → HasSort y.sort (constant c)) (if_fresh s (others_among xs) (x ∷ others_among xs))
    at Fresh e h = h
    at Pub e h = (λ c. subst (λ (s : Sort). HasSort s (constant c)) (sym e) tt, h)
    at Msg e h = (λ c. subst (λ (s : Sort). HasSort s (constant c)) (sym e) tt, h)

among_either : (xs : List Variable) (x : Variable) → Member x xs → Member x (fresh_among xs) ⊎ Member x (others_among xs)
among_either [] x m = absurd m
among_either (y ∷ ys) x m = at y.sort m (λ k. among_either ys x k)
  where
    at : (s : Sort) → (y ≡ x) ⊎ Member x ys → (Member x ys → Member x (fresh_among ys) ⊎ Member x (others_among ys))
        → Member x (if_fresh s (y ∷ fresh_among ys) (fresh_among ys)) ⊎ Member x (if_fresh s (others_among ys) (y ∷ others_among ys))
    at Fresh (inl e) later = inl (inl e)
    at Fresh (inr k) later = ⊎_elim (λ l. inl (inr l)) (λ l. inr l) (later k)
    at Pub (inl e) later = inr (inl e)
    at Pub (inr k) later = ⊎_elim (λ l. inl l) (λ l. inr (inr l)) (later k)
    at Msg (inl e) later = inr (inl e)
    at Msg (inr k) later = ⊎_elim (λ l. inl l) (λ l. inr (inr l)) (later k)

abbrev Sorted : Bound → Type 0
Sorted b = HasSort b.0.sort b.1

fresh_sorted : (n : ℕ) (xs : List Variable) → Every (λ (x : Variable). (n : ℕ) → HasSort x.sort (name n)) xs → Every Sorted (fresh_given n xs)
fresh_sorted n [] h = tt
fresh_sorted n (x ∷ xs) h = (h.0 n, fresh_sorted (suc n) xs h.1)

public_sorted : (cs : List (List ℕ)) (n k : ℕ) (xs : List Variable) → Every (λ (x : Variable). (c : List ℕ) → HasSort x.sort (constant c)) xs → Every Sorted (public_given cs n k xs)
public_sorted cs zero k [] h = tt
public_sorted cs zero k (x ∷ xs) h = (h.0 (public_name k), public_sorted cs zero k xs h.1)
public_sorted cs (suc n) k [] h = tt
public_sorted cs (suc n) k (x ∷ xs) h = at (is_listed (public_name k) cs) (public_sorted cs n (suc k) (x ∷ xs) h) (public_sorted cs n (suc k) xs h.1)
  where
    at : (b : Bool) → Every Sorted (public_given cs n (suc k) (x ∷ xs)) → Every Sorted (public_given cs n (suc k) xs)
        → Every Sorted (if b then public_given cs n (suc k) (x ∷ xs) else (x, constant (public_name k)) ∷ public_given cs n (suc k) xs)
    at true passing giving = passing
    at false passing giving = (h.0 (public_name k), giving)

module _ (cs : List (List ℕ)) (xs : List Variable) where
  abbrev Limit : ℕ
  Limit = length (others_among xs) + length cs

  given_sorted : Every Sorted (given cs xs)
  given_sorted =
      every_append Sorted (fresh_given 1 (fresh_among xs)) (public_given cs Limit 1 (others_among xs))
      (fresh_sorted 1 (fresh_among xs) (are_fresh xs)) (public_sorted cs Limit 1 (others_among xs) (are_others xs))

  pub respects : RespectsSorts (value_in (given cs xs))
  respects x = at (lookup (given cs xs) x) refl
    where
      at : (o : Option Ground) → lookup (given cs xs) x ≡ o → HasSort x.sort (unwrap_or o (any_of x.sort))
      at None e = any_has_sort x.sort
      at (Some t) e = every_member Sorted (given cs xs) (x, t) (found_is_there (given cs xs) x t e) given_sorted

-- ---- all variables

fresh_variables : (n : ℕ) (xs : List Variable) → variables_in (fresh_given n xs) ≡ xs
fresh_variables n [] = refl
fresh_variables n (x ∷ xs) = ap (λ (ys : List Variable). x ∷ ys) (fresh_variables (suc n) xs)

given_variables : (cs : List (List ℕ)) (xs : List Variable) → variables_in (given cs xs) ≡ fresh_among xs ++ others_among xs
given_variables cs xs =
    map-append (λ (b : Bound). b.0) (fresh_given 1 (fresh_among xs)) (public_given cs (Limit cs xs) 1 (others_among xs))
    ∙ ap₂ (λ (ys zs : List Variable). ys ++ zs) (fresh_variables 1 (fresh_among xs)) (all_given cs (Limit cs xs) 1 (others_among xs))

pub value_given : (cs : List (List ℕ)) (xs : List Variable) (x : Variable) → Member x xs → (t : Ground) × (lookup (given cs xs) x ≡ Some t)
value_given cs xs x m =
    bound_is_found (given cs xs) x
    (subst (Member x) (sym (given_variables cs xs))
    (⊎_elim (member_left x (fresh_among xs) (others_among xs)) (member_right x (fresh_among xs) (others_among xs)) (among_either xs x m)))

-- the binding is a fresh name's, or a public one's, that is tried
abbrev IsGivenAs : List (List ℕ) → List Variable → Variable → Ground → Type 0
IsGivenAs cs xs x t = Member (x, t) (fresh_given 1 (fresh_among xs)) ⊎ Member (x, t) (public_tried cs (Limit cs xs) 1 (others_among xs))

given_as : (cs : List (List ℕ)) (xs : List Variable) → (x : Variable) (t : Ground) → lookup (given cs xs) x ≡ Some t → IsGivenAs cs xs x t
given_as cs xs x t e =
    member_either (x, t) (fresh_given 1 (fresh_among xs)) (public_tried cs (Limit cs xs) 1 (others_among xs))
    (subst (λ (bs : List Bound). Member (x, t) (fresh_given 1 (fresh_among xs) ++ bs)) (enough cs (Limit cs xs) 1 (others_among xs) (omega arith))
    (found_is_there (given cs xs) x t e))

its_value : (bs : List Bound) (x : Variable) (t : Ground) → Member (x, t) bs → Member t (values_in bs)
its_value bs x t m = member_map (λ (b : Bound). b.1) (x, t) bs m

no_both : (cs : List (List ℕ)) (xs : List Variable) (x y : Variable) (t : Ground) → Member (x, t) (fresh_given 1 (fresh_among xs)) → Member (y, t) (public_tried cs (Limit cs xs) 1 (others_among xs)) → ⊥
no_both cs xs x y t m k =
    let f = fresh_from 1 (fresh_among xs) t (its_value (fresh_given 1 (fresh_among xs)) x t m) in
    let p = public_from cs (Limit cs xs) 1 (others_among xs) t (its_value (public_tried cs (Limit cs xs) 1 (others_among xs)) y t k) in
    let e : name f.0 ≡ constant (public_name p.number) = sym f.1 ∙ p.is in
    cc

differ : (cs : List (List ℕ)) (xs : List Variable) → (x y : Variable) (t : Ground) → IsGivenAs cs xs x t → IsGivenAs cs xs y t → x ≡ y
differ cs xs x y t (inl m) (inl k) = same_value (fresh_given 1 (fresh_among xs)) x y t (fresh_differ 1 (fresh_among xs)) m k
differ cs xs x y t (inl m) (inr k) = absurd (no_both cs xs x y t m k)
differ cs xs x y t (inr m) (inl k) = absurd (no_both cs xs y x t k m)
differ cs xs x y t (inr m) (inr k) =
    same_value (public_tried cs (Limit cs xs) 1 (others_among xs)) x y t (public_differ cs (Limit cs xs) 1 (others_among xs)) m k

pub apart : (cs : List (List ℕ)) (xs : List Variable) → (x y : Variable) → Member x xs → Member y xs → value_in (given cs xs) x ≡ value_in (given cs xs) y → x ≡ y
apart cs xs x y m k e =
    let a = value_given cs xs x m in
    let b = value_given cs xs y k in
    let same : b.0 ≡ a.0 = sym (value_of_found (given cs xs) y b.0 b.1) ∙ sym e ∙ value_of_found (given cs xs) x a.0 a.1 in
    differ cs xs x y a.0 (given_as cs xs x a.0 a.1) (given_as cs xs y a.0 (b.1 ∙ ap Some same))

not_taken : (cs : List (List ℕ)) (xs : List Variable) (x : Variable) (t : Ground) (c : List ℕ) → Member c cs → t ≡ constant c → IsGivenAs cs xs x t → ⊥
not_taken cs xs x t c m e (inl k) =
    let f = fresh_from 1 (fresh_among xs) t (its_value (fresh_given 1 (fresh_among xs)) x t k) in
    let g : name f.0 ≡ constant c = sym f.1 ∙ e in
    cc
not_taken cs xs x t c m e (inr k) =
    let p = public_from cs (Limit cs xs) 1 (others_among xs) t (its_value (public_tried cs (Limit cs xs) 1 (others_among xs)) x t k) in
    let g : constant (public_name p.number) ≡ constant c = sym p.is ∙ e in
    let same : public_name p.number ≡ c = cc in
    true≢false (sym (listed_member c cs m) ∙ ap (λ (d : List ℕ). is_listed d cs) (sym same) ∙ p.new)

pub others : (cs : List (List ℕ)) (xs : List Variable) → (x : Variable) → Member x xs → (c : List ℕ) → Member c cs → value_in (given cs xs) x ≡ constant c → ⊥
others cs xs x m c k e =
    let a = value_given cs xs x m in
    not_taken cs xs x a.0 c k (sym (value_of_found (given cs xs) x a.0 a.1) ∙ e) (given_as cs xs x a.0 a.1)

-- ---- each variable that stands somewhere is one of those that are named

seen_there : (x : Variable) (ys : List Variable) → is_seen x ys ≡ true → Member x ys
seen_there x [] e = absurd cc
seen_there x (y ∷ ys) e = ⊎_elim (λ s. inl ((same_variable_decides y x).0 s)) (λ k. inr (seen_there x ys k)) (or_cases (same_variable y x) (is_seen x ys) e)

kept : (x : Variable) (zs seen : List Variable) → Member x seen → Member x (once_after seen zs)
kept x [] seen m = m
kept x (z ∷ zs) seen m = kept x zs (if is_seen z seen then seen else seen ++ z ∷ []) (at (is_seen z seen))
  where
    at : (b : Bool) → Member x (if b then seen else seen ++ z ∷ [])
    at true = m
    at false = member_left x seen (z ∷ []) m

pub all_seen : (x : Variable) (zs seen : List Variable) → Member x zs → Member x (once_after seen zs)
all_seen x [] seen m = absurd m
all_seen x (z ∷ zs) seen (inl e) = kept x zs (if is_seen z seen then seen else seen ++ z ∷ []) (at (is_seen z seen) refl)
  where
    at : (b : Bool) → is_seen z seen ≡ b → Member x (if b then seen else seen ++ z ∷ [])
    at true s = subst (λ (y : Variable). Member y seen) e (seen_there z seen s)
    at false s = member_right x seen (z ∷ []) (inl e)
all_seen x (z ∷ zs) seen (inr m) = all_seen x zs (if is_seen z seen then seen else seen ++ z ∷ []) m
