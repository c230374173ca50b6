-- The values that a step gives to a rule's variables are those of the function, and they are one.
use Rattle.std.proofs.Common.{◌≡◌, ⊎_elim, ◌+◌, ◌≤◌, ℕ, zero, suc, List, [], ◌∷◌, ◌++◌, Option, Some, None, option_map, option_and_then, inl, inr, refl, sym, ap, ap₂, ◌∙◌, subst, map, length, arith}
use Rattle.std.proofs.lemmas.Option.{option_and_then_some}
use Rattle.std.proofs.lemmas.Slice.Eq.{bytes_eq-Decides}
use Rattle.std.specs.Str.{bytes_eq}
use Rattle.sp_spec.specs.Lists.{Member, Every, Distinct, AtPlace}
use Rattle.sp_spec.proofs.Lists.{member_left, member_right, member_either, every_weaken, every_both, every_from}
use Rattle.sp_spec.specs.Term.{Variable, Ground, Values}
use Rattle.sp_spec.specs.Same.{same_variable}
use Rattle.sp_spec.specs.Rule.{Declared, Gives}
use Rattle.sp_law_equal.specs.Matching.{Bound, value_in}
use Rattle.sp_spec.proofs.Same.{same_variable_decides}
use Rattle.sp_law_equal.proofs.Decided.{same_text_or_not}
use Rattle.sp_law_run.specs.Given.{variable_at, given_value, bound_from, AgreeWith}
use Rattle.std.proofs.lemmas.Bool.{false_from_ne_true}

abbrev Given : Type 0
Given = List ℕ × Ground

abbrev pub names : List Declared → List (List ℕ)
names ds = map (λ (d : Declared). d.name) ds

value_here : (x : List ℕ) (g : Given) (gs : List Given) → g.0 ≡ x → given_value x (g ∷ gs) ≡ Some g.1
value_here x g gs e = let t = (bytes_eq-Decides g.0 x).1 e in rw t refl

value_there : (x : List ℕ) (g : Given) (gs : List Given) → (g.0 ≡ x → ⊥) → given_value x (g ∷ gs) ≡ given_value x gs
value_there x g gs n = let t = false_from_ne_true (bytes_eq g.0 x) (λ e. n ((bytes_eq-Decides g.0 x).0 e)) in rw t refl

-- a value that is given to another name may be left out
value_other : (x y : List ℕ) (t : Ground) → (x ≡ y → ⊥) → (front back : List Given) → given_value y (front ++ (x, t) ∷ back) ≡ given_value y (front ++ back)
value_other x y t n [] back = value_there y (x, t) back n
value_other x y t n (g ∷ front) back =
    ⊎_elim
    (λ e. value_here y g (front ++ (x, t) ∷ back) e ∙ sym (value_here y g (front ++ back) e))
    (λ d. value_there y g (front ++ (x, t) ∷ back) d ∙ value_other x y t n front back ∙ sym (value_there y g (front ++ back) d))
    (same_text_or_not g.0 y)

-- the first value of the name, where none before it has the name
value_past : (x : List ℕ) (t : Ground) (front back : List Given) → Every (λ (g : Given). g.0 ≡ x → ⊥) front → given_value x (front ++ (x, t) ∷ back) ≡ Some t
value_past x t [] back h = value_here x (x, t) back refl
value_past x t (g ∷ front) back h = value_there x g (front ++ (x, t) ∷ back) h.0 ∙ value_past x t front back h.1

value_split : (x : List ℕ) (t : Ground) (given : List Given) → given_value x given ≡ Some t → (front : List Given) × (back : List Given) × (given ≡ front ++ (x, t) ∷ back)
value_split x t [] e = absurd cc
value_split x t (g ∷ gs) e =
    ⊎_elim
    (λ s. let h = sym (value_here x g gs s) ∙ e in let same : g.1 ≡ t = cc in ([], gs, ap (λ (z : Given). z ∷ gs) (pair_parts g x t s same)))
    (λ n. let r = value_split x t gs (sym (value_there x g gs n) ∙ e) in (g ∷ r.0, r.1, ap (λ (zs : List Given). g ∷ zs) r.2))
    (same_text_or_not g.0 x)
  where
    pair_parts : (g : Given) (x : List ℕ) (t : Ground) → g.0 ≡ x → g.1 ≡ t → g ≡ (x, t)
    pair_parts g x t a b = let made : List ℕ → Ground → Given = λ y u. (y, u) in ap (λ y. made y g.1) a ∙ ap (made x) b

-- a value that is given to none of these may be left out
bound_other : (x : List ℕ) (t : Ground) (front back : List Given) (k : ℕ) (ds : List Declared) → (Member x (names ds) → ⊥) →
    bound_from k ds (front ++ (x, t) ∷ back) ≡ bound_from k ds (front ++ back)
bound_other x t front back k [] n = refl
bound_other x t front back k (d ∷ ds) n =
    let first = value_other x d.name t (λ e. n (inl (sym e))) front back in
    let others = bound_other x t front back (suc k) ds (λ m. n (inr m)) in
    let made : Option Ground → Option (List Bound) → Option (List Bound) =
    λ o cs. option_and_then (λ u. option_map (λ (bs : List Bound). (variable_at k d, u) ∷ bs) cs) o in
    ap₂ made first others

map_some : (b : Bound) (bs : List Bound) (o : Option (List Bound)) → option_map (λ (cs : List Bound). b ∷ cs) o ≡ Some bs → (cs : List Bound) × (o ≡ Some cs) × (b ∷ cs ≡ bs)
map_some b bs None e = absurd cc
map_some b bs (Some cs) e = (cs, refl, cc)

-- the first value, and the others
record Split (k : ℕ) (d : Declared) (ds : List Declared) (given : List Given) (bs : List Bound) : Type 0 where
  value : Ground
  others : List Bound
  found : given_value d.name given ≡ Some value
  rest : bound_from (suc k) ds given ≡ Some others
  all : (variable_at k d, value) ∷ others ≡ bs

bound_parts : (k : ℕ) (d : Declared) (ds : List Declared) (given : List Given) (bs : List Bound) → bound_from k (d ∷ ds) given ≡ Some bs → Split k d ds given bs
bound_parts k d ds given bs e =
    option_and_then_some (λ t. option_map (λ (cs : List Bound). (variable_at k d, t) ∷ cs) (bound_from (suc k) ds given)) (given_value d.name given) bs e
    (λ t f m. let r = map_some (variable_at k d, t) bs (bound_from (suc k) ds given) m in
    record { value = t; others = r.0; found = f; rest = r.1; all = r.2 })

length_append : {A : Type 0} (xs ys : List A) → length (xs ++ ys) ≡ length xs + length ys
length_append [] ys = omega arith
length_append (x ∷ xs) ys = let h = length_append xs ys in omega (arith, h)

length_middle : (g : Given) (front back : List Given) → length (front ++ g ∷ back) ≡ suc (length (front ++ back))
length_middle g front back = let a = length_append front (g ∷ back) in let b = length_append front back in omega (arith, a, b)

no_given : (given : List Given) → zero ≡ length given → given ≡ []
no_given [] e = refl
no_given (g ∷ gs) e = absurd (omega (arith, e))

-- where the function finds values, they are given
pub bound_gives : (k : ℕ) (ds : List Declared) (given : List Given) (bs : List Bound) (v : Values) → Distinct (names ds) → length ds ≡ length given →
    bound_from k ds given ≡ Some bs → AgreeWith v bs → Gives k ds given v
bound_gives k [] given bs v distinct l e a = no_given given l
bound_gives k (d ∷ ds) given bs v distinct l e a =
    let p = bound_parts k d ds given bs e in
    let s = value_split d.name p.value given p.found in
    let agree = subst (λ (cs : List Bound). AgreeWith v cs) (sym p.all) a in
    let here : p.value ≡ v (variable_at k d) = sym agree.0 in
    let at : given ≡ s.0 ++ (d.name, v (variable_at k d)) ∷ s.1 = subst (λ (t : Ground). given ≡ s.0 ++ (d.name, t) ∷ s.1) here s.2 in
    let m = ap length s.2 in
    let m' = length_middle (d.name, p.value) s.0 s.1 in
    let shorter : length ds ≡ length (s.0 ++ s.1) = omega (arith, l, m, m') in
    let left_out = bound_other d.name p.value s.0 s.1 (suc k) ds distinct.0 in
    let rest = sym left_out ∙ ap (bound_from (suc k) ds) (sym s.2) ∙ p.rest in
    (s.0, s.1, at, bound_gives (suc k) ds (s.0 ++ s.1) p.others v distinct.1 shorter rest agree.1)

-- what is given is given to the names alone
given_names : (k : ℕ) (ds : List Declared) (given : List Given) (v : Values) → Gives k ds given v → (g : Given) → Member g given → Member g.0 (names ds)
given_names k [] given v h g m = absurd (subst (λ (gs : List Given). Member g gs) h m)
given_names k (d ∷ ds) given v h g m =
    let front = h.0 in
    let back = h.1 in
    let m' = subst (λ (gs : List Given). Member g gs) h.2 m in
    let others : Member g (front ++ back) → Member g.0 (names (d ∷ ds)) = λ n. inr (given_names (suc k) ds (front ++ back) v h.3 g n) in
    ⊎_elim
    (λ f. others (member_left g front back f))
    (λ b. ⊎_elim (λ e. inl (ap (λ (z : Given). z.0) e)) (λ n. others (member_right g front back n)) b)
    (member_either g front ((d.name, v (variable_at k d)) ∷ back) m')

-- values that the function finds
pub record Bindings (k : ℕ) (ds : List Declared) (given : List Given) (v : Values) : Type 0 where
  pub bindings : List Bound
  pub as_many : length ds ≡ length given
  pub found : bound_from k ds given ≡ Some bindings
  pub agree : AgreeWith v bindings

-- where values are given, the function finds them
pub gives_bound : (k : ℕ) (ds : List Declared) (given : List Given) (v : Values) → Distinct (names ds) → Gives k ds given v → Bindings k ds given v
gives_bound k [] given v distinct h = record { bindings = []; as_many = sym (ap length h); found = refl; agree = tt }
gives_bound k (d ∷ ds) given v distinct h =
    let front = h.0 in
    let back = h.1 in
    let x = variable_at k d in
    let r = gives_bound (suc k) ds (front ++ back) v distinct.1 h.3 in
    let apart : Every (λ (g : Given). g.0 ≡ d.name → ⊥) front = every_from (λ (g : Given). g.0 ≡ d.name → ⊥) front
    (λ g m e. distinct.0 (subst (λ (y : List ℕ). Member y (names ds)) e (given_names (suc k) ds (front ++ back) v h.3 g (member_left g front back m)))) in
    let value : given_value d.name given ≡ Some (v x) = ap (given_value d.name) h.2 ∙ value_past d.name (v x) front back apart in
    let others : bound_from (suc k) ds given ≡ Some r.bindings =
    ap (bound_from (suc k) ds) h.2 ∙ bound_other d.name (v x) front back (suc k) ds distinct.0 ∙ r.found in
    let made : Option Ground → Option (List Bound) → Option (List Bound) =
    λ o cs. option_and_then (λ u. option_map (λ (bs : List Bound). (x, u) ∷ bs) cs) o in
    let a = ap length h.2 in
    let b = length_middle (d.name, v x) front back in
    let c = r.as_many in
    record { bindings = (x, v x) ∷ r.bindings; as_many = omega (arith, a, b, c); found = ap₂ made value others; agree = (refl, r.agree) }

-- values that agree with the bindings agree on the variables that are declared
pub agree_declared : (k : ℕ) (ds : List Declared) (given : List Given) (bs : List Bound) (v w : Values) → bound_from k ds given ≡ Some bs →
    AgreeWith v bs → AgreeWith w bs → (m n : ℕ) (d : Declared) → AtPlace ds n d → m ≡ k + n → v (variable_at m d) ≡ w (variable_at m d)
agree_declared k [] given bs v w e a b m n d at is = absurd at
agree_declared k (c ∷ ds) given bs v w e a b m zero d at is =
    let p = bound_parts k c ds given bs e in
    let a' = subst (λ (cs : List Bound). AgreeWith v cs) (sym p.all) a in
    let b' = subst (λ (cs : List Bound). AgreeWith w cs) (sym p.all) b in
    let same : v (variable_at k c) ≡ w (variable_at k c) = a'.0 ∙ sym b'.0 in
    let number : k ≡ m = omega (arith, is) in
    subst (λ (z : Declared). v (variable_at m z) ≡ w (variable_at m z)) at (subst (λ (j : ℕ). v (variable_at j c) ≡ w (variable_at j c)) number same)
agree_declared k (c ∷ ds) given bs v w e a b m (suc n) d at is =
    let p = bound_parts k c ds given bs e in
    let a' = subst (λ (cs : List Bound). AgreeWith v cs) (sym p.all) a in
    let b' = subst (λ (cs : List Bound). AgreeWith w cs) (sym p.all) b in
    let number : m ≡ suc k + n = omega (arith, is) in
    agree_declared (suc k) ds given p.others v w p.rest a'.1 b'.1 m n d at number

-- the variables of the bindings have numbers from here on
above : (k : ℕ) (ds : List Declared) (given : List Given) (bs : List Bound) → bound_from k ds given ≡ Some bs → Every (λ (b : Bound). k ≤ b.0.number) bs
above k [] given bs e = let same : [] ≡ bs = cc in subst (λ (cs : List Bound). Every (λ (b : Bound). k ≤ b.0.number) cs) same tt
above k (d ∷ ds) given bs e =
    let p = bound_parts k d ds given bs e in
    let h = above (suc k) ds given p.others p.rest in
    subst (λ (cs : List Bound). Every (λ (b : Bound). k ≤ b.0.number) cs) p.all
    (let first : k ≤ k = omega arith in (first, every_weaken (λ (b : Bound). suc k ≤ b.0.number) (λ (b : Bound). k ≤ b.0.number) (λ b l. omega (arith, l)) p.others h))

value_of_other : (b : Bound) (bs : List Bound) (x : Variable) → (b.0 ≡ x → ⊥) → value_in (b ∷ bs) x ≡ value_in bs x
value_of_other b bs x n = let t = false_from_ne_true (same_variable b.0 x) (λ e. n ((same_variable_decides b.0 x).0 e)) in rw t refl

value_of_first : (x : Variable) (t : Ground) (bs : List Bound) → value_in ((x, t) ∷ bs) x ≡ t
value_of_first x t bs = let e = (same_variable_decides x x).1 refl in rw e refl

-- the bindings' own values agree with them
pub own_values : (k : ℕ) (ds : List Declared) (given : List Given) (bs : List Bound) → bound_from k ds given ≡ Some bs → AgreeWith (value_in bs) bs
own_values k [] given bs e = let same : [] ≡ bs = cc in subst (λ (cs : List Bound). AgreeWith (value_in cs) cs) same tt
own_values k (d ∷ ds) given bs e =
    let p = bound_parts k d ds given bs e in
    let x = variable_at k d in
    let apart : Every (λ (b : Bound). x ≡ b.0 → ⊥) p.others =
    every_weaken (λ (b : Bound). suc k ≤ b.0.number) (λ (b : Bound). x ≡ b.0 → ⊥)
    (λ b l s. let n : k ≡ b.0.number = ap (λ (y : Variable). y.number) s in absurd (omega (arith, l, n))) p.others (above (suc k) ds given p.others p.rest) in
    subst (λ (cs : List Bound). AgreeWith (value_in cs) cs) p.all (
      value_of_first x p.value p.others,
      every_both (λ (b : Bound). x ≡ b.0 → ⊥) (λ (b : Bound). value_in p.others b.0 ≡ b.1) (λ (b : Bound). value_in ((x, p.value) ∷ p.others) b.0 ≡ b.1)
          (λ b n s. value_of_other (x, p.value) p.others b.0 n ∙ s) p.others apart (own_values (suc k) ds given p.others p.rest),
    )
