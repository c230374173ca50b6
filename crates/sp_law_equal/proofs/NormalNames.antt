-- Normal forms bring in no names, public or fresh, where none stands in the equations. With two names of one kind swapped, equal terms are equal and normal
-- terms are normal; so if a normal form had a name that isn't in the term, swapped with a new one it would be another normal form of the term.
use Rattle.std.proofs.Common.{◌≡◌, ◌⊎◌, ⊎_elim, inl, inr, ◌<◌, ◌+◌, ◌==◌, ℕ, zero, suc, Bool, true, false, if◌then◌else◌, List, [], ◌∷◌, length, refl, sym, ap, ap₂, ◌∙◌, subst, true≢false, arith}
use Rattle.std.specs.Bool.{Decides}
use Rattle.std.specs.Str.{bytes_eq}
use Rattle.std.proofs.lemmas.Bool.{eqb-true, eq-eqb, false_from_ne_true}
use Rattle.std.proofs.lemmas.Slice.Eq.{bytes_eq-Decides}
use Rattle.sp_spec.specs.Term.{Sort, Msg, Fresh, Pub, Variable, Term, var, constant, name, app, Terms, none, more, Name, public_name, fresh_name, Names, Ground, Grounds, Values, valued, valued_all, MadeOf, AllMadeOf}
use Rattle.sp_spec.specs.Signature.{Equation, HasSort, RespectsSorts}
use Rattle.sp_spec.specs.Equal.{Rewriting, at_root, below, RewritingIn, here, there, Equal, end, forth, back, MatchesNone, IsNormal, AreNormal}
use Rattle.sp_law_equal.specs.Normal.{normal, normal_all}
use Rattle.sp_law_equal.specs.NormalForms.{HaveNormalForms}
use Rattle.sp_law_equal.specs.Parts.{IsPart, IsPartOfOne}
use Rattle.sp_law_equal.specs.Right.{no_names, HaveNoNames}
use Rattle.sp_law_equal.proofs.Parts.{part_itself}
use Rattle.sp_law_equal.proofs.Values.{equal_normal_form}

-- ---- names

abbrev leaf : Name → Ground
leaf (public_name c) = constant c
leaf (fresh_name n) = name n

leaf_one : (a b : Name) → leaf a ≡ leaf b → a ≡ b
leaf_one (public_name c) (public_name d) e = ap public_name cc
leaf_one (fresh_name m) (fresh_name n) e = ap fresh_name cc
leaf_one (public_name c) (fresh_name n) e = absurd cc
leaf_one (fresh_name m) (public_name d) e = absurd cc

leaf_never_app : (a : Name) (f : List ℕ) (ts : Grounds) → leaf a ≡ app f ts → ⊥
leaf_never_app (public_name c) f ts e = cc
leaf_never_app (fresh_name n) f ts e = cc

abbrev same_name : Name → Name → Bool
same_name (public_name c) (public_name d) = bytes_eq c d
same_name (fresh_name m) (fresh_name n) = m == n
same_name a b = false

same_name_decides : (a b : Name) → Decides (same_name a b) (a ≡ b)
same_name_decides (public_name c) (public_name d) = (λ e. ap public_name ((bytes_eq-Decides c d).0 e), λ e. (bytes_eq-Decides c d).1 cc)
same_name_decides (fresh_name m) (fresh_name n) = (λ e. ap fresh_name (eqb-true m n e), λ e. eq-eqb m n cc)
same_name_decides (public_name c) (fresh_name n) = (λ e. absurd cc, λ e. absurd cc)
same_name_decides (fresh_name m) (public_name d) = (λ e. absurd cc, λ e. absurd cc)

-- both public, or both fresh
abbrev AreOfOneKind : Name → Name → Type 0
AreOfOneKind (public_name c) (public_name d) = Unit {0}
AreOfOneKind (fresh_name m) (fresh_name n) = Unit {0}
AreOfOneKind a b = ⊥

same_kind_itself : (a : Name) → AreOfOneKind a a
same_kind_itself (public_name c) = tt
same_kind_itself (fresh_name n) = tt

-- ---- other names

abbrev mutual
  with_names : (Name → Name) → Ground → Ground
  with_names s (var x) = var x
  with_names s (constant c) = leaf (s (public_name c))
  with_names s (name n) = leaf (s (fresh_name n))
  with_names s (app f ts) = app f (with_names_all s ts)

  with_names_all : (Name → Name) → Grounds → Grounds
  with_names_all s none = none
  with_names_all s (more t ts) = more (with_names s t) (with_names_all s ts)

leaf_with_names : (s : Name → Name) (a : Name) → with_names s (leaf a) ≡ leaf (s a)
leaf_with_names s (public_name c) = refl
leaf_with_names s (fresh_name n) = refl

module _ (s : Name → Name) where
  mutual
    -- a term in which none of its names changes stays
    stays : (t : Ground) → ((a : Name) → IsPart (leaf a) t → s a ≡ a) → with_names s t ≡ t
    stays (var x) h = absurd x
    stays (constant c) h = ap leaf (h (public_name c) refl)
    stays (name n) h = ap leaf (h (fresh_name n) refl)
    stays (app f ts) h = ap (app f) (all_stay ts (λ a p. h a (inr p)))

    all_stay : (ts : Grounds) → ((a : Name) → IsPartOfOne (leaf a) ts → s a ≡ a) → with_names_all s ts ≡ ts
    all_stay none h = refl
    all_stay (more t ts) h = ap₂ more (stays t (λ a p. h a (inl p))) (all_stay ts (λ a p. h a (inr p)))

  itself_with_names : (a b : Name) → leaf a ≡ leaf b → IsPart (leaf (s a)) (leaf (s b))
  itself_with_names a b e = subst (λ (c : Name). IsPart (leaf (s a)) (leaf (s c))) (leaf_one a b e) (part_itself (leaf (s a)))

  mutual
    part_with_names : (a : Name) (t : Ground) → IsPart (leaf a) t → IsPart (leaf (s a)) (with_names s t)
    part_with_names a (var x) p = absurd x
    part_with_names a (constant c) p = itself_with_names a (public_name c) p
    part_with_names a (name k) p = itself_with_names a (fresh_name k) p
    part_with_names a (app f ts) (inl p) = absurd (leaf_never_app a f ts p)
    part_with_names a (app f ts) (inr p) = inr (part_of_one_with_names a ts p)

    part_of_one_with_names : (a : Name) (ts : Grounds) → IsPartOfOne (leaf a) ts → IsPartOfOne (leaf (s a)) (with_names_all s ts)
    part_of_one_with_names a none p = absurd p
    part_of_one_with_names a (more t ts) (inl p) = inl (part_with_names a t p)
    part_of_one_with_names a (more t ts) (inr p) = inr (part_of_one_with_names a ts p)

  -- an instance of a term without names is one with the values changed
  module _ (v : Values) where
    abbrev changed : Values
    changed x = with_names s (v x)

    mutual
      instance_with_names : (t : Term Variable) → MadeOf no_names (λ (x : Variable). Unit {0}) t → with_names s (valued v t) ≡ valued changed t
      instance_with_names (var x) h = refl
      instance_with_names (constant c) h = absurd h
      instance_with_names (name n) h = absurd h
      instance_with_names (app f ts) h = ap (app f) (instances_with_names ts h)

      instances_with_names : (ts : Terms Variable) → AllMadeOf no_names (λ (x : Variable). Unit {0}) ts → with_names_all s (valued_all v ts) ≡ valued_all changed ts
      instances_with_names none h = refl
      instances_with_names (more t ts) h = ap₂ more (instance_with_names t h.0) (instances_with_names ts h.1)

  -- names of the same kinds
  module _ (kinds : (a : Name) → AreOfOneKind a (s a)) where
    public_sort : (b : Name) (c : List ℕ) → AreOfOneKind (public_name c) b → HasSort Pub (leaf b)
    public_sort (public_name d) c k = tt
    public_sort (fresh_name n) c k = absurd k

    fresh_sort : (b : Name) (n : ℕ) → AreOfOneKind (fresh_name n) b → HasSort Fresh (leaf b)
    fresh_sort (public_name d) n k = absurd k
    fresh_sort (fresh_name m) n k = tt

    sort_with_names : (sort : Sort) (t : Ground) → HasSort sort t → HasSort sort (with_names s t)
    sort_with_names Msg t h = tt
    sort_with_names sort (var x) h = absurd x
    sort_with_names Fresh (constant c) h = absurd h
    sort_with_names Pub (constant c) h = public_sort (s (public_name c)) c (kinds (public_name c))
    sort_with_names Fresh (name n) h = fresh_sort (s (fresh_name n)) n (kinds (fresh_name n))
    sort_with_names Pub (name n) h = absurd h
    sort_with_names Fresh (app f ts) h = absurd h
    sort_with_names Pub (app f ts) h = absurd h

    changed_respects : (v : Values) → RespectsSorts v → RespectsSorts (changed v)
    changed_respects v r x = sort_with_names x.sort (v x) (r x)

    -- where the equations have no names, equal terms are equal with other names
    module _ (es : List Equation) (nameless : HaveNoNames es) where
      mutual
        rewriting_with_names : {t u : Ground} → Rewriting es t u → Rewriting es (with_names s t) (with_names s u)
        rewriting_with_names (at_root e m v r left right) =
            at_root e m (changed v) (changed_respects v r) (ap (with_names s) left ∙ instance_with_names v e.left (nameless.left e m)) (ap (with_names s) right ∙ instance_with_names v e.right (nameless.right e m))
        rewriting_with_names (below r) = below (rewriting_in_with_names r)

        rewriting_in_with_names : {ts us : Grounds} → RewritingIn es ts us → RewritingIn es (with_names_all s ts) (with_names_all s us)
        rewriting_in_with_names (here r) = here (rewriting_with_names r)
        rewriting_in_with_names (there r) = there (rewriting_in_with_names r)

      equal_with_names : {t u : Ground} → Equal es t u → Equal es (with_names s t) (with_names s u)
      equal_with_names end = end
      equal_with_names (forth r h) = forth (rewriting_with_names r) (equal_with_names h)
      equal_with_names (back r h) = back (rewriting_with_names r) (equal_with_names h)

      -- and where the change can be taken back, normal terms are normal
      module _ (undone : (a : Name) → s (s a) ≡ a) where
        mutual
          twice : (t : Ground) → with_names s (with_names s t) ≡ t
          twice (var x) = absurd x
          twice (constant c) = leaf_with_names s (s (public_name c)) ∙ ap leaf (undone (public_name c))
          twice (name n) = leaf_with_names s (s (fresh_name n)) ∙ ap leaf (undone (fresh_name n))
          twice (app f ts) = ap (app f) (all_twice ts)

          all_twice : (ts : Grounds) → with_names_all s (with_names_all s ts) ≡ ts
          all_twice none = refl
          all_twice (more t ts) = ap₂ more (twice t) (all_twice ts)

        none_match_with_names : (t : Ground) → MatchesNone es t → MatchesNone es (with_names s t)
        none_match_with_names t h e m v r k =
            h e m (changed v) (changed_respects v r) (sym (instance_with_names v e.left (nameless.left e m)) ∙ ap (with_names s) k ∙ twice t)

        leaf_is_normal : (a : Name) → IsNormal es (leaf a)
        leaf_is_normal (public_name c) = tt
        leaf_is_normal (fresh_name n) = tt

        mutual
          normal_with_names : (t : Ground) → IsNormal es t → IsNormal es (with_names s t)
          normal_with_names (var x) h = h
          normal_with_names (constant c) h = leaf_is_normal (s (public_name c))
          normal_with_names (name n) h = leaf_is_normal (s (fresh_name n))
          normal_with_names (app f ts) h = (normals_with_names ts h.0, none_match_with_names (app f ts) h.1)

          normals_with_names : (ts : Grounds) → AreNormal es ts → AreNormal es (with_names_all s ts)
          normals_with_names none h = tt
          normals_with_names (more t ts) h = (normal_with_names t h.0, normals_with_names ts h.1)

-- ---- two names swapped

abbrev swap : Name → Name → Name → Name
swap a b c = if same_name c a then b else if same_name c b then a else c

told_apart : (a b : Name) → (a ≡ b → ⊥) → same_name a b ≡ false
told_apart a b h = false_from_ne_true (same_name a b) (λ e. h ((same_name_decides a b).0 e))

swap_left : (a b : Name) → swap a b a ≡ b
swap_left a b = rw ((same_name_decides a a).1 refl) refl

swap_right : (a b : Name) → swap a b b ≡ a
swap_right a b = at (same_name b a) (λ e. (same_name_decides b a).0 e)
  where
    at : (t : Bool) → (t ≡ true → b ≡ a) → (if t then b else if same_name b b then a else b) ≡ a
    at true h = h refl
    at false h = rw ((same_name_decides b b).1 refl) refl

swap_other : (a b c : Name) → (c ≡ a → ⊥) → (c ≡ b → ⊥) → swap a b c ≡ c
swap_other a b c h k = rw (told_apart c a h, told_apart c b k) refl

swap_twice : (a b c : Name) → swap a b (swap a b c) ≡ c
swap_twice a b c = by_left (same_name c a) refl
  where
    other : same_name c a ≡ false → c ≡ a → ⊥
    other e k = true≢false (sym ((same_name_decides c a).1 k) ∙ e)

    by_right : (t : Bool) → same_name c b ≡ t → (c ≡ a → ⊥) → swap a b (swap a b c) ≡ c
    by_right true e h = subst (λ (x : Name). swap a b (swap a b x) ≡ x) (sym ((same_name_decides c b).0 e)) (ap (swap a b) (swap_right a b) ∙ swap_left a b)
    by_right false e h = let same = swap_other a b c h (λ k. true≢false (sym ((same_name_decides c b).1 k) ∙ e)) in ap (swap a b) same ∙ same

    by_left : (t : Bool) → same_name c a ≡ t → swap a b (swap a b c) ≡ c
    by_left true e = subst (λ (x : Name). swap a b (swap a b x) ≡ x) (sym ((same_name_decides c a).0 e)) (ap (swap a b) (swap_left a b) ∙ swap_right a b)
    by_left false e = by_right (same_name c b) refl (other e)

swap_kinds : (a b : Name) → AreOfOneKind a b → (c : Name) → AreOfOneKind c (swap a b c)
swap_kinds a b k c = by_left (same_name c a) (λ e. (same_name_decides c a).0 e)
  where
    turned : (d e : Name) → AreOfOneKind d e → AreOfOneKind e d
    turned (public_name d) (public_name e) h = tt
    turned (fresh_name m) (fresh_name n) h = tt
    turned (public_name d) (fresh_name n) h = absurd h
    turned (fresh_name m) (public_name e) h = absurd h

    by_right : (t : Bool) → (t ≡ true → c ≡ b) → AreOfOneKind c (if t then a else c)
    by_right true h = subst (λ (x : Name). AreOfOneKind x a) (sym (h refl)) (turned a b k)
    by_right false h = same_kind_itself c

    by_left : (t : Bool) → (t ≡ true → c ≡ a) → AreOfOneKind c (if t then b else if same_name c b then a else c)
    by_left true h = subst (λ (x : Name). AreOfOneKind x b) (sym (h refl)) k
    by_left false h = by_right (same_name c b) (λ e. (same_name_decides c b).0 e)

-- ---- new names

abbrev size : Name → ℕ
size (public_name c) = length c
size (fresh_name n) = n

abbrev zeros : ℕ → List ℕ
zeros zero = []
zeros (suc n) = zero ∷ zeros n

-- one of the name's kind
abbrev of_size : Name → ℕ → Name
of_size (public_name c) n = public_name (zeros n)
of_size (fresh_name m) n = fresh_name n

zeros_size : (n : ℕ) → length (zeros n) ≡ n
zeros_size zero = refl
zeros_size (suc n) = ap (λ k. suc k) (zeros_size n)

of_size_has : (a : Name) (n : ℕ) → size (of_size a n) ≡ n
of_size_has (public_name c) n = zeros_size n
of_size_has (fresh_name m) n = refl

of_size_kind : (a : Name) (n : ℕ) → AreOfOneKind a (of_size a n)
of_size_kind (public_name c) n = tt
of_size_kind (fresh_name m) n = tt

-- a number above the size of each name
abbrev mutual
  names_below : Ground → ℕ
  names_below (var x) = 0
  names_below (constant c) = suc (length c)
  names_below (name n) = suc n
  names_below (app f ts) = all_names_below ts

  all_names_below : Grounds → ℕ
  all_names_below none = 0
  all_names_below (more t ts) = names_below t + all_names_below ts

mutual
  is_below : (a : Name) (t : Ground) → IsPart (leaf a) t → size a < names_below t
  is_below a (var x) p = absurd x
  is_below a (constant c) p = let e = ap size (leaf_one a (public_name c) p) in omega (arith, e)
  is_below a (name k) p = let e = ap size (leaf_one a (fresh_name k) p) in omega (arith, e)
  is_below a (app f ts) (inl p) = absurd (leaf_never_app a f ts p)
  is_below a (app f ts) (inr p) = is_below_all a ts p

  is_below_all : (a : Name) (ts : Grounds) → IsPartOfOne (leaf a) ts → size a < all_names_below ts
  is_below_all a none p = absurd p
  is_below_all a (more t ts) (inl p) = let h = is_below a t p in omega (arith, h)
  is_below_all a (more t ts) (inr p) = let h = is_below_all a ts p in omega (arith, h)

-- ---- a name stands in the term, or it doesn't

leaf_or_not : (a b : Name) → (leaf a ≡ leaf b) ⊎ (leaf a ≡ leaf b → ⊥)
leaf_or_not a b = at (same_name a b) refl
  where
    at : (t : Bool) → same_name a b ≡ t → (leaf a ≡ leaf b) ⊎ (leaf a ≡ leaf b → ⊥)
    at true e = inl (ap leaf ((same_name_decides a b).0 e))
    at false e = inr (λ k. true≢false (sym ((same_name_decides a b).1 (leaf_one a b k)) ∙ e))

mutual
  stands_or_not : (a : Name) (t : Ground) → IsPart (leaf a) t ⊎ (IsPart (leaf a) t → ⊥)
  stands_or_not a (var x) = absurd x
  stands_or_not a (constant c) = leaf_or_not a (public_name c)
  stands_or_not a (name k) = leaf_or_not a (fresh_name k)
  stands_or_not a (app f ts) = ⊎_elim (λ p. inl (inr p)) (λ q. inr (λ p. ⊎_elim (λ e. leaf_never_app a f ts e) q p)) (stands_in_one_or_not a ts)

  stands_in_one_or_not : (a : Name) (ts : Grounds) → IsPartOfOne (leaf a) ts ⊎ (IsPartOfOne (leaf a) ts → ⊥)
  stands_in_one_or_not a none = inr (λ p. p)
  stands_in_one_or_not a (more t ts) =
      ⊎_elim (λ p. inl (inl p)) (λ q. ⊎_elim (λ p. inl (inr p)) (λ r. inr (λ p. ⊎_elim q r p)) (stands_in_one_or_not a ts)) (stands_or_not a t)

-- ---- what a term is made of

module _ (N : Names) (P : ⊥ → Type 0) where
  mutual
    each_name : (t : Ground) → MadeOf N P t → (a : Name) → IsPart (leaf a) t → N a
    each_name (var x) h a p = absurd x
    each_name (constant c) h a p = subst N (sym (leaf_one a (public_name c) p)) h
    each_name (name n) h a p = subst N (sym (leaf_one a (fresh_name n) p)) h
    each_name (app f ts) h a (inl p) = absurd (leaf_never_app a f ts p)
    each_name (app f ts) h a (inr p) = each_name_of_one ts h a p

    each_name_of_one : (ts : Grounds) → AllMadeOf N P ts → (a : Name) → IsPartOfOne (leaf a) ts → N a
    each_name_of_one none h a p = absurd p
    each_name_of_one (more t ts) h a (inl p) = each_name t h.0 a p
    each_name_of_one (more t ts) h a (inr p) = each_name_of_one ts h.1 a p

  mutual
    made_of : (t : Ground) → ((a : Name) → IsPart (leaf a) t → N a) → MadeOf N P t
    made_of (var x) h = absurd x
    made_of (constant c) h = h (public_name c) refl
    made_of (name n) h = h (fresh_name n) refl
    made_of (app f ts) h = all_made_of ts (λ a p. h a (inr p))

    all_made_of : (ts : Grounds) → ((a : Name) → IsPartOfOne (leaf a) ts → N a) → AllMadeOf N P ts
    all_made_of none h = tt
    all_made_of (more t ts) h = (made_of t (λ a p. h a (inl p)), all_made_of ts (λ a p. h a (inr p)))

-- ---- normal forms

module _ (es : List Equation) (good : HaveNormalForms es) (nameless : HaveNoNames es) where
  -- a name in the normal form stands in the term
  normal_part : (a : Name) (t : Ground) → IsPart (leaf a) (normal es t) → IsPart (leaf a) t
  normal_part a t p = ⊎_elim (λ q. q) (λ q. absurd (is_new q)) (stands_or_not a t)
    where
      is_new : (IsPart (leaf a) t → ⊥) → ⊥
      is_new q =
          let u = normal es t in
          let k = names_below t + names_below u in
          let b = of_size a k in
          let s = swap a b in
          let kinds = swap_kinds a b (of_size_kind a k) in
          let large = of_size_has a k in
          let stay : with_names s t ≡ t = stays s t (λ c r.
          let l = is_below c t r in swap_other a b c (λ e. q (subst (λ (x : Name). IsPart (leaf x) t) e r)) (λ e. let d = ap size e in omega (arith, l, d, large))) in
          let equal : Equal es t (with_names s u) = subst (λ (x : Ground). Equal es x (with_names s u)) stay (equal_with_names s kinds es nameless (good.equal t)) in
          let one : with_names s u ≡ u = equal_normal_form es good t (with_names s u) equal (normal_with_names s kinds es nameless (swap_twice a b) u (good.is_normal t)) in
          let new : IsPart (leaf b) u = subst (λ (x : Name). IsPart (leaf x) u) (swap_left a b) (subst (IsPart (leaf (s a))) one (part_with_names s a u p)) in
          let l = is_below b u new in
          omega (arith, l, large)

  normal_part_of_one : (a : Name) (ts : Grounds) → IsPartOfOne (leaf a) (normal_all es ts) → IsPartOfOne (leaf a) ts
  normal_part_of_one a none p = absurd p
  normal_part_of_one a (more t ts) (inl p) = inl (normal_part a t p)
  normal_part_of_one a (more t ts) (inr p) = inr (normal_part_of_one a ts p)

  pub normal_names_all : (n : ℕ) (ts : Grounds) → IsPartOfOne (name n) (normal_all es ts) → IsPartOfOne (name n) ts
  normal_names_all n ts p = normal_part_of_one (fresh_name n) ts p

  -- so it is made of the names that the term is made of
  pub normal_all_made : (N : Names) (P : ⊥ → Type 0) (ts : Grounds) → AllMadeOf N P ts → AllMadeOf N P (normal_all es ts)
  normal_all_made N P ts h = all_made_of N P (normal_all es ts) (λ a p. each_name_of_one N P ts h a (normal_part_of_one a ts p))
