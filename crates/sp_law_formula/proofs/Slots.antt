-- What comes of giving the variables of a universal formula values: sorts stay, values stay, and what holds of the values given holds of all.
use Rattle.std.proofs.Common.{◌≡◌, ℕ, zero, suc, true, false, List, [], ◌∷◌, map, length, Option, Some, None, refl, sym, ap, ◌∙◌, subst, nat_eq}
use Rattle.std.proofs.lemmas.Bool.{eqb-true}
use Rattle.sp_spec.specs.Term.{Sort, Variable, Term, Ground, Values, valued}
use Rattle.sp_spec.specs.Same.{alike}
use Rattle.sp_spec.specs.Slots.{slot}
use Rattle.sp_spec_formula.specs.Instances.{Message, is_of_sort, put_term, with_position, put_time}
use Rattle.sp_spec.proofs.Options.{some_same, if_some, mapped}
use Rattle.sp_spec.proofs.Slots.{AreGood, Fills, filled_so}
use Rattle.sp_spec.proofs.Same.{alike_same}

abbrev pub slot_sorts : List Message → List Sort
slot_sorts slots = map (λ (x : Message). x.kind) slots

-- values of the places that are those of the slots, where these have one
abbrev pub Agrees : Values → Option (Term Variable) → Ground → Type 0
Agrees w None g = Unit {0}
Agrees w (Some u) g = g ≡ valued w u

abbrev pub Fits : Values → List Message → (ℕ → Ground) → Type 0
Fits w [] f = Unit {0}
Fits w (x ∷ slots) f = Agrees w x.value (f zero) × Fits w slots (λ k. f (suc k))

abbrev pub TimeAgrees : (ℕ → ℕ) → Option ℕ → ℕ → Type 0
TimeAgrees w None p = Unit {0}
TimeAgrees w (Some i) p = p ≡ w i

abbrev pub TimesFit : (ℕ → ℕ) → List (Option ℕ) → (ℕ → ℕ) → Type 0
TimesFit w [] f = Unit {0}
TimesFit w (x ∷ slots) f = TimeAgrees w x (f zero) × TimesFit w slots (λ k. f (suc k))

module _ (Q : Term Variable → Type 0) where
  -- of a value of the sort
  abbrev pub IsGood : Sort → Term Variable → Type 0
  IsGood sort u = (is_of_sort sort u ≡ true) × Q u

  -- the later slots have the values of the earlier ones
  pub record Grown (s r : List Message) : Type 0 where
    pub sorts : slot_sorts r ≡ slot_sorts s
    pub good : AreGood IsGood s → AreGood IsGood r
    pub weakens : (w : Values) (f : ℕ → Ground) → Fits w r f → Fits w s f

  pub grown_none : (s : List Message) → Grown s s
  grown_none s = record { sorts = refl; good = λ h. h; weakens = λ w f h. h }

  pub grown_same : (s r : List Message) → r ≡ s → Grown s r
  grown_same s r e = subst (Grown s) (sym e) (grown_none s)

  pub grown_twice : (s r q : List Message) → Grown s r → Grown r q → Grown s q
  grown_twice s r q g h = record { sorts = h.sorts ∙ g.sorts; good = λ x. h.good (g.good x); weakens = λ w f x. g.weakens w f (h.weakens w f x) }

  -- the slots after one is given a value, which is the value at its place
  abbrev Given : List Message → List Message → ℕ → Term Variable → Type 0
  Given s r k u = Grown s r × ((w : Values) (f : ℕ → Ground) → Fits w r f → f k ≡ valued w u)

  grown_below : (x : Message) (s r : List Message) → Grown s r → Grown (x ∷ s) (x ∷ r)
  grown_below x s r g = record { sorts = ap (λ (sorts : List Sort). x.kind ∷ sorts) g.sorts; good = λ a. (a.0, g.good a.1); weakens = λ w f a. (a.0, g.weakens w (λ k. f (suc k)) a.1) }

  grown_first : (sort : Sort) (u : Term Variable) (s : List Message) → IsGood sort u → Grown (slot sort None ∷ s) (slot sort (Some u) ∷ s)
  grown_first sort u s h = record { sorts = refl; good = λ a. (h, a.1); weakens = λ w f a. (tt, a.1) }

  pub term_given : (s r : List Message) (k : ℕ) (u : Term Variable) → Q u → put_term s k u ≡ Some r → Given s r k u
  term_given s r k u q e = filled_so alike is_of_sort false u (λ k s r. Given s r k u) fills k s r e
    where
      fills : Fills alike is_of_sort false u (λ k s r. Given s r k u)
      fills = record {
        past = λ k h. absurd cc;
        new = λ sort s h. (grown_first sort u s (h, q), λ w f a. a.0);
        old = λ sort t s h. (grown_none (slot sort (Some t) ∷ s), λ w f a. a.0 ∙ ap (valued w) (alike_same t u h));
        further = λ x k s r g. (grown_below x s r g.0, λ w f a. g.1 w (λ j. f (suc j)) a.1);
      }

-- The same of times.
module _ (B : ℕ → Type 0) where
  abbrev pub IsGoodTime : Option ℕ → Type 0
  IsGoodTime None = Unit {0}
  IsGoodTime (Some i) = B i

  abbrev pub AreGoodTimes : List (Option ℕ) → Type 0
  AreGoodTimes [] = Unit {0}
  AreGoodTimes (x ∷ slots) = IsGoodTime x × AreGoodTimes slots

  pub record TimesGrown (s r : List (Option ℕ)) : Type 0 where
    pub count : length r ≡ length s
    pub good : AreGoodTimes s → AreGoodTimes r
    pub weakens : (w : ℕ → ℕ) (f : ℕ → ℕ) → TimesFit w r f → TimesFit w s f

  pub times_grown_none : (s : List (Option ℕ)) → TimesGrown s s
  times_grown_none s = record { count = refl; good = λ h. h; weakens = λ w f h. h }

  pub times_grown_same : (s r : List (Option ℕ)) → r ≡ s → TimesGrown s r
  times_grown_same s r e = subst (TimesGrown s) (sym e) (times_grown_none s)

  pub times_grown_twice : (s r q : List (Option ℕ)) → TimesGrown s r → TimesGrown r q → TimesGrown s q
  times_grown_twice s r q g h = record { count = h.count ∙ g.count; good = λ x. h.good (g.good x); weakens = λ w f x. g.weakens w f (h.weakens w f x) }

  abbrev TimeGiven : List (Option ℕ) → List (Option ℕ) → ℕ → ℕ → Type 0
  TimeGiven s r k i = TimesGrown s r × ((w : ℕ → ℕ) (f : ℕ → ℕ) → TimesFit w r f → f k ≡ w i)

  position_given : (x : Option ℕ) (slots : List (Option ℕ)) (i : ℕ) → B i → (y : Option ℕ) → with_position x i ≡ Some y → TimeGiven (x ∷ slots) (y ∷ slots) zero i
  position_given None slots i b y e =
      let new : Option ℕ = Some i in
      let g : TimesGrown (None ∷ slots) (new ∷ slots) = record { count = refl; good = λ a. (b, a.1); weakens = λ w f a. (tt, a.1) } in
      subst (λ (z : Option ℕ). TimeGiven (None ∷ slots) (z ∷ slots) zero i) (sym (some_same new y e)) (g, λ w f a. a.0)
  position_given (Some j) slots i b y e =
      let here : Option ℕ = Some j in
      let h = if_some (nat_eq j i) (Some here) y e in
      subst (λ (z : Option ℕ). TimeGiven (here ∷ slots) (z ∷ slots) zero i) (sym (some_same here y h.1))
      (times_grown_none (here ∷ slots), λ w f a. a.0 ∙ ap w (eqb-true j i h.0))

  times_below : (x : Option ℕ) (s r : List (Option ℕ)) → TimesGrown s r → TimesGrown (x ∷ s) (x ∷ r)
  times_below x s r g = record { count = ap suc g.count; good = λ a. (a.0, g.good a.1); weakens = λ w f a. (a.0, g.weakens w (λ k. f (suc k)) a.1) }

  pub time_given : (s r : List (Option ℕ)) (k i : ℕ) → B i → put_time s k i ≡ Some r → TimeGiven s r k i
  time_given [] r k i b e = absurd cc
  time_given (x ∷ s) r zero i b e =
      let h = mapped (λ (y : Option ℕ). y ∷ s) (with_position x i) r e in
      subst (λ (z : List (Option ℕ)). TimeGiven (x ∷ s) z zero i) (sym h.2) (position_given x s i b h.0 h.1)
  time_given (x ∷ s) r (suc k) i b e =
      let h = mapped (λ (ys : List (Option ℕ)). x ∷ ys) (put_time s k i) r e in
      let g = time_given s h.0 k i b h.1 in
      subst (λ (z : List (Option ℕ)). TimeGiven (x ∷ s) z (suc k) i) (sym h.2) (times_below x s h.0 g.0, λ w f a. g.1 w (λ j. f (suc j)) a.1)
