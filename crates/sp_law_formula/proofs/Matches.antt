-- What a match says: under values that are those of the slots after it, the guard's term is what it was matched with.
use Rattle.std.proofs.Common.{◌≡◌, ℕ, List, [], ◌∷◌, Option, Some, None, refl, sym, ap, ap₂, ◌∙◌, inl, inr, bytes_eq, nat_eq}
use Rattle.std.proofs.lemmas.Bool.{eqb-true}
use Rattle.std.proofs.lemmas.Slice.Eq.{bytes_eq-Decides}
use Rattle.sp_spec.specs.Lists.{Member}
use Rattle.sp_spec.specs.Term.{Variable, Term, var, app, Terms, more, Grounds, valued, valued_all}
use Rattle.sp_spec.specs.Rule.{Action, action_at}
use Rattle.sp_spec.specs.Guarded.{Place, free, bound, Time, free_time, bound_time, Assignment, place_in, term_in, time_in, action_in}
use Rattle.sp_spec.specs.Same.{alike}
use Rattle.sp_spec_system.specs.Picked.{first_some}
use Rattle.std.specs.Option.{option_or}
use Rattle.sp_spec_formula.specs.Instances.{Message, Slots, matched_place, matched_all, matched_time, both_slots, matched_action}
use Rattle.sp_spec.proofs.Options.{some_same, if_some}
use Rattle.sp_spec.proofs.Matching.{Matches, matched_all_so}
use Rattle.sp_spec.proofs.Same.{alike_same}
use Rattle.sp_law_formula.proofs.Slots.{Fits, TimesFit, Grown, grown_none, grown_same, grown_twice, term_given, TimesGrown, times_grown_same, time_given}

-- what holds of an application holds of its arguments
pub record Inherited (Q : Term Variable → Type 0) (Qs : Terms Variable → Type 0) : Type 0 where
  pub under : (f : List ℕ) (ts : Terms Variable) → Q (app f ts) → Qs ts
  pub first : (t : Term Variable) (ts : Terms Variable) → Qs (more t ts) → Q t
  pub rest : (t : Term Variable) (ts : Terms Variable) → Qs (more t ts) → Qs ts

module _ (Q : Term Variable → Type 0) (Qs : Terms Variable → Type 0) (inherited : Inherited Q Qs) where
  abbrev Matched : Term Place → Term Variable → List Message → List Message → Type 0
  Matched t u s r = Q u → Grown Q s r × ((m : Assignment) → Fits m.terms r m.bound_terms → term_in m t ≡ valued m.terms u)

  abbrev AllMatched : Terms Place → Terms Variable → List Message → List Message → Type 0
  AllMatched ts us s r = Qs us → Grown Q s r × ((m : Assignment) → Fits m.terms r m.bound_terms → valued_all (place_in m) ts ≡ valued_all m.terms us)

  place_is_matched : (p : Place) (u : Term Variable) (s r : List Message) → matched_place p u s ≡ Some r → Matched (var p) u s r
  place_is_matched (bound k) u s r e q = let g = term_given Q s r k u q e in (g.0, λ m h. g.1 m.terms m.bound_terms h)
  place_is_matched (free x) u s r e q =
      let h = if_some (alike (var x) u) (Some s) r e in
      (grown_same Q s r (some_same s r h.1), λ m f. ap (valued m.terms) (alike_same (var x) u h.0))

  terms_match : Matches matched_place Matched AllMatched
  terms_match = record {
    leaf = place_is_matched;
    constants = λ c s q. (grown_none Q s, λ m f. refl);
    names = λ n s q. (grown_none Q s, λ m f. refl);
    under = λ f ts us s r h q. let a = h (inherited.under f us q) in (a.0, λ m k. ap (app f) (a.1 m k));
    end = λ s q. (grown_none Q s, λ m f. refl);
    beside = λ t u ts us s p r first rest q.
        let a = first (inherited.first u us q) in
        let b = rest (inherited.rest u us q) in
        (grown_twice Q s p r a.0 b.0, λ m f. ap₂ more (a.1 m (b.0.weakens m.terms m.bound_terms f)) (b.1 m f));
  }

  all_are_matched : (s r : List Message) (ts : Terms Place) (us : Terms Variable) → matched_all s ts us ≡ Some r → AllMatched ts us s r
  all_are_matched s r ts us e = matched_all_so matched_place Matched AllMatched terms_match ts us s r e

  module _ (B : ℕ → Type 0) where
    time_matched : (s r : List (Option ℕ)) (t : Time) (i : ℕ) → B i → matched_time s t i ≡ Some r
        → TimesGrown B s r × ((m : Assignment) → TimesFit m.times r m.bound_times → time_in m t ≡ m.times i)
    time_matched s r (free_time j) i b e =
        let h = if_some (nat_eq j i) (Some s) r e in
        (times_grown_same B s r (some_same s r h.1), λ m f. ap m.times (eqb-true j i h.0))
    time_matched s r (bound_time k) i b e = let g = time_given B s r k i b e in (g.0, λ m h. g.1 m.times m.bound_times h)

    pub record SlotsGrown (s r : Slots) : Type 0 where
      pub terms : Grown Q s.terms r.terms
      pub times : TimesGrown B s.times r.times

    -- values that are those of the slots
    pub record Reads (r : Slots) (m : Assignment) : Type 0 where
      pub terms : Fits m.terms r.terms m.bound_terms
      pub times : TimesFit m.times r.times m.bound_times

    pub reads_before : (s r : Slots) → SlotsGrown s r → (m : Assignment) → Reads r m → Reads s m
    reads_before s r g m h = record { terms = g.terms.weakens m.terms m.bound_terms h.terms; times = g.times.weakens m.times m.bound_times h.times }

    both : (x : Option (List Message)) (y : Option (List (Option ℕ))) (r : Slots) → both_slots x y ≡ Some r → (x ≡ Some r.terms) × (y ≡ Some r.times)
    both None y r e = absurd cc
    both (Some terms) None r e = absurd cc
    both (Some terms) (Some times) r e =
        let new : Slots = record { terms = terms; times = times } in
        let g : r ≡ new = some_same new r e in
        (ap (λ (z : Slots). let o : Option (List Message) = Some z.terms in o) (sym g), ap (λ (z : Slots). let o : Option (List (Option ℕ)) = Some z.times in o) (sym g))

    -- the guard's action is that one, at that time
    pub action_matched : (s r : Slots) (a : Action Place) (t : Time) (b : Action Variable) (i : ℕ) → Qs b.args → B i → matched_action s a t b i ≡ Some r
        → SlotsGrown s r × ((m : Assignment) → Reads r m → (action_in m a ≡ action_at m.terms b) × (time_in m t ≡ m.times i))
    action_matched s r a t b i q bi e =
        let h = if_some (bytes_eq a.symbol b.symbol) (both_slots (matched_all s.terms a.args b.args) (matched_time s.times t i)) r e in
        let o = both (matched_all s.terms a.args b.args) (matched_time s.times t i) r h.1 in
        let x = all_are_matched s.terms r.terms a.args b.args o.0 q in
        let y = time_matched s.times r.times t i bi o.1 in
        let made : List ℕ → Grounds → Action ⊥ = λ f ts. record { symbol = f; args = ts } in
        (record { terms = x.0; times = y.0 }, λ m k. (ap₂ made ((bytes_eq-Decides a.symbol b.symbol).0 h.0) (x.1 m k.terms), y.1 m k.times))

-- the first one of which something is picked
pub some_picked : {A B : Type 0} (pick : A → Option B) (xs : List A) (y : B) → first_some pick xs ≡ Some y → (x : A) × Member x xs × (pick x ≡ Some y)
some_picked pick [] y e = absurd cc
some_picked {A} {B} pick (x ∷ xs) y e = at (pick x) refl e (λ k. some_picked pick xs y k)
  where
    at : (o : Option B) → pick x ≡ o → option_or o (first_some pick xs) ≡ Some y → (first_some pick xs ≡ Some y → (z : A) × Member z xs × (pick z ≡ Some y))
        → (z : A) × Member z (x ∷ xs) × (pick z ≡ Some y)
    at (Some b) h k later = (x, inl refl, h ∙ k)
    at None h k later = let r = later k in (r.0, inr r.1, r.2)
