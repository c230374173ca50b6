-- What the search through a guard found: each of its actions is one of an event, and each of its equalities is one of terms that are the same.
use Rattle.std.proofs.Common.{◌≡◌, ℕ, zero, suc, true, List, [], ◌∷◌, Option, Some, None, option_and_then, refl, sym, ap, ◌∙◌, subst}
use Rattle.std.proofs.lemmas.Bool.{and_parts}
use Rattle.sp_spec.specs.Lists.{Member, Every}
use Rattle.sp_spec.specs.Term.{Sort, Variable, Term, var, Terms, Ground, Values, valued}
use Rattle.sp_spec.specs.Rule.{Action, action_at}
use Rattle.sp_spec.specs.Guarded.{Place, free, bound, Atom, acts, same, same_time, before, last, Guarded, Assignment, place_in, term_in, time_in, action_in}
use Rattle.sp_spec_system.specs.System.{Event, happening_actions}
use Rattle.sp_spec.proofs.Lists.{every_member}
use Rattle.sp_spec_system.specs.Picked.{first_some}
use Rattle.sp_spec_formula.specs.Instantiate.{first_match}
use Rattle.sp_spec_formula.specs.Instances.{Message, Slots, matched_action, place_value, value_in, place_of_bound, given, by_equalities, are_alike, are_settled}
use Rattle.sp_spec.specs.Slots.{value_at}
use Rattle.sp_spec.proofs.Options.{some_same, then_some}
use Rattle.sp_spec.proofs.Slots.{AreGood}
use Rattle.sp_spec.proofs.Variables.{where_value}
use Rattle.sp_spec.proofs.Same.{alike_same}
use Rattle.sp_law_formula.proofs.Slots.{slot_sorts, Agrees, Fits, IsGood, Grown, grown_same, grown_none, grown_twice, times_grown_none, term_given, times_grown_twice}
use Rattle.sp_law_formula.proofs.Matches.{Inherited, SlotsGrown, Reads, reads_before, action_matched, some_picked}

-- a term with the slots' values put in, under values that are those of the slots
value_here : (w : Values) (s : List Message) (f : ℕ → Ground) (k : ℕ) (u : Term Variable) → Fits w s f → value_at s k ≡ Some u → f k ≡ valued w u
value_here w [] f k u h e = absurd cc
value_here w (x ∷ s) f zero u h e = subst (λ (o : Option (Term Variable)). Agrees w o (f zero)) e h.0
value_here w (x ∷ s) f (suc k) u h e = value_here w s (λ j. f (suc j)) k u h.1 e

-- in a settled equality both sides have one value
abbrev pub SidesAreSame : Assignment → Atom → Type 0
SidesAreSame m (same t u) = term_in m t ≡ term_in m u
SidesAreSame m (acts a i) = Unit {0}
SidesAreSame m a = ⊥

module _ (m : Assignment) (s : List Message) (h : Fits m.terms s m.bound_terms) where
  place_same : (p : Place) (u : Term Variable) → place_value s p ≡ Some u → place_in m p ≡ valued m.terms u
  place_same (free x) u e = ap (valued m.terms) (sym (some_same (var x) u e))
  place_same (bound k) u e = value_here m.terms s m.bound_terms k u h e

  pub value_same : (t : Term Place) (u : Term Variable) → value_in s t ≡ Some u → term_in m t ≡ valued m.terms u
  value_same t u e = where_value (place_value s) (place_in m) m.terms place_same t u e

  both_alike : (x y : Option (Term Variable)) → are_alike x y ≡ true → (u : Term Variable) × (x ≡ Some u) × (y ≡ Some u)
  both_alike None y e = absurd cc
  both_alike (Some t) None e = absurd cc
  both_alike (Some t) (Some u) e = (t, refl, ap (λ (z : Term Variable). let o : Option (Term Variable) = Some z in o) (sym (alike_same t u e)))

  pub sides_same : (atoms : List Atom) → are_settled s atoms ≡ true → Every (SidesAreSame m) atoms
  sides_same [] e = tt
  sides_same (acts a i ∷ atoms) e = (tt, sides_same atoms e)
  sides_same (same t u ∷ atoms) e =
      let p = and_parts (are_alike (value_in s t) (value_in s u)) (are_settled s atoms) e in
      let r = both_alike (value_in s t) (value_in s u) p.0 in
      (value_same t r.0 r.1 ∙ sym (value_same u r.0 r.2), sides_same atoms p.1)
  sides_same (same_time i j ∷ atoms) e = absurd cc
  sides_same (before i j ∷ atoms) e = absurd cc
  sides_same (last i ∷ atoms) e = absurd cc

-- Equalities give values.
module _ (Q : Term Variable → Type 0) (sorts : List Sort) where
  -- the value of a side of an equality is good where the values of slots of these sorts are
  abbrev pub IsGoodSide : Term Place → Type 0
  IsGoodSide t = (s : List Message) → slot_sorts s ≡ sorts → AreGood (IsGood Q) s → (u : Term Variable) → value_in s t ≡ Some u → Q u

  abbrev pub HasGoodSides : Atom → Type 0
  HasGoodSides (same t u) = IsGoodSide t × IsGoodSide u
  HasGoodSides a = Unit {0}

  side_given : (s r : List Message) (k : Option ℕ) (x : Option (Term Variable)) (l : Option ℕ) (y : Option (Term Variable))
      → ((t : Term Variable) → x ≡ Some t → Q t) → ((u : Term Variable) → y ≡ Some u → Q u) → given s k x l y ≡ Some r → Grown Q s r
  side_given s r (Some k) None l (Some u) p q e = (term_given Q s r k u (q u refl) e).0
  side_given s r (Some k) (Some t) (Some l) None p q e = (term_given Q s r l t (p t refl) e).0
  side_given s r None (Some t) (Some l) None p q e = (term_given Q s r l t (p t refl) e).0
  side_given s r None None l y p q e = grown_same Q s r (some_same s r e)
  side_given s r None (Some t) None y p q e = grown_same Q s r (some_same s r e)
  side_given s r None (Some t) (Some l) (Some u) p q e = grown_same Q s r (some_same s r e)
  side_given s r (Some k) None l None p q e = grown_same Q s r (some_same s r e)
  side_given s r (Some k) (Some t) None y p q e = grown_same Q s r (some_same s r e)
  side_given s r (Some k) (Some t) (Some l) (Some u) p q e = grown_same Q s r (some_same s r e)

  pub equalities_given : (atoms : List Atom) → Every HasGoodSides atoms → (s r : List Message) → slot_sorts s ≡ sorts → AreGood (IsGood Q) s → by_equalities s atoms ≡ Some r → Grown Q s r
  equalities_given [] sides s r are good e = grown_same Q s r (some_same s r e)
  equalities_given (same t u ∷ atoms) sides s r are good e =
      let h = then_some (λ (p : List Message). by_equalities p atoms) (given s (place_of_bound t) (value_in s t) (place_of_bound u) (value_in s u)) r e in
      let g = side_given s h.0 (place_of_bound t) (value_in s t) (place_of_bound u) (value_in s u) (sides.0.0 s are good) (sides.0.1 s are good) h.1 in
      grown_twice Q s h.0 r g (equalities_given atoms sides.1 h.0 r (g.sorts ∙ are) (g.good good) h.2)
  equalities_given (acts a i ∷ atoms) sides s r are good e = equalities_given atoms sides.1 s r are good e
  equalities_given (same_time i j ∷ atoms) sides s r are good e = equalities_given atoms sides.1 s r are good e
  equalities_given (before i j ∷ atoms) sides s r are good e = equalities_given atoms sides.1 s r are good e
  equalities_given (last i ∷ atoms) sides s r are good e = equalities_given atoms sides.1 s r are good e

-- an action of the guard is one of an event
abbrev pub StandsIn : List Event → Assignment → Atom → Type 0
StandsIn events m (acts a i) =
    (e : Event) × Member e events × (b : Action Variable) × Member b (happening_actions e.happening) × (action_in m a ≡ action_at m.terms b) × (time_in m i ≡ m.times e.time)
StandsIn events m a = Unit {0}

module _ (Q : Term Variable → Type 0) (Qs : Terms Variable → Type 0) (inherited : Inherited Q Qs) (B : ℕ → Type 0) where
  abbrev Steps : Slots → Slots → Type 0
  Steps s r = SlotsGrown Q Qs inherited B s r

  steps_none : (s : Slots) → Steps s s
  steps_none s = record { terms = grown_none Q s.terms; times = times_grown_none B s.times }

  steps_twice : (s r q : Slots) → Steps s r → Steps r q → Steps s q
  steps_twice s r q g h = record { terms = grown_twice Q s.terms r.terms q.terms g.terms h.terms; times = times_grown_twice B s.times r.times q.times g.times h.times }

  -- what the events' actions and times are made of
  abbrev pub IsGoodEvent : Event → Type 0
  IsGoodEvent e = B e.time × Every (λ (b : Action Variable). Qs b.args) (happening_actions e.happening)

  abbrev Found : List Event → (Slots → Option Guarded) → List Atom → Slots → Guarded → Type 0
  Found events finish atoms s g =
      (r : Slots) × (finish r ≡ Some g) × Steps s r × ((m : Assignment) → Reads Q Qs inherited B r m → Every (StandsIn events m) atoms)

  pub is_found : (events : List Event) → Every IsGoodEvent events → (finish : Slots → Option Guarded) (atoms : List Atom) (s : Slots) (g : Guarded)
      → first_match events finish atoms s ≡ Some g → Found events finish atoms s g
  is_found events good finish [] s g e = (s, e, steps_none s, λ m h. tt)
  is_found events good finish (acts a i ∷ atoms) s g e =
      let go = first_match events finish atoms in
      let p = some_picked (λ (d : Event). first_some (λ b. option_and_then go (matched_action s a i b d.time)) (happening_actions d.happening)) events g e in
      let q = some_picked (λ b. option_and_then go (matched_action s a i b p.0.time)) (happening_actions p.0.happening) g p.2 in
      let t = then_some go (matched_action s a i q.0 p.0.time) g q.2 in
      let ge = every_member IsGoodEvent events p.0 p.1 good in
      let gb = every_member (λ (b : Action Variable). Qs b.args) (happening_actions p.0.happening) q.0 q.1 ge.1 in
      let x = action_matched Q Qs inherited B s t.0 a i q.0 p.0.time gb ge.0 t.1 in
      let y = is_found events good finish atoms t.0 g t.2 in (
        y.0,
        y.1,
        steps_twice s t.0 y.0 x.0 y.2,
        λ m h. let z = x.1 m (reads_before Q Qs inherited B t.0 y.0 y.2 m h) in ((p.0, p.1, q.0, q.1, z.0, z.1), y.3 m h),
      )
  is_found events good finish (same t u ∷ atoms) s g e = let y = is_found events good finish atoms s g e in (y.0, y.1, y.2, λ m h. (tt, y.3 m h))
  is_found events good finish (same_time i j ∷ atoms) s g e = let y = is_found events good finish atoms s g e in (y.0, y.1, y.2, λ m h. (tt, y.3 m h))
  is_found events good finish (before i j ∷ atoms) s g e = let y = is_found events good finish atoms s g e in (y.0, y.1, y.2, λ m h. (tt, y.3 m h))
  is_found events good finish (last i ∷ atoms) s g e = let y = is_found events good finish atoms s g e in (y.0, y.1, y.2, λ m h. (tt, y.3 m h))
