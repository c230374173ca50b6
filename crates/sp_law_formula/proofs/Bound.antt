-- Values for all that a universal formula binds: what holds for each value of the binders holds for these.
use Rattle.std.proofs.Common.{◌≡◌, ◌<◌, ℕ, zero, suc, true, List, [], ◌∷◌, map, length, Option, Some, None, option_map, refl, sym, ap, ap₂, ◌∙◌, subst}
use Rattle.sp_spec.specs.Lists.{Every}
use Rattle.sp_spec.specs.Term.{Sort, Msg, Fresh, Pub, Variable, Term, var, constant, Ground, Values, valued}
use Rattle.sp_spec.specs.Signature.{Signature, IsValue}
use Rattle.sp_spec.specs.Equal.{IsNormal}
use Rattle.sp_spec.specs.Guarded.{free, bound, bound_time, Binder, message, time, Assignment, place_in, term_in, time_in, EachValues}
use Rattle.sp_spec_system.specs.Solutions.{Valuation, assignment, EachNormal}
use Rattle.sp_law_equal.specs.Matching.{any_of}
use Rattle.sp_spec.proofs.Values.{valued-valued}
use Rattle.sp_law_system.proofs.Changing.{Reads}
use Rattle.sp_spec_formula.specs.Instances.{Message, Slots, empty_slots, is_of_sort, all_terms, all_times, filled, placed_each, free_each, instance}
use Rattle.sp_spec.specs.Slots.{slot}
use Rattle.sp_spec.proofs.Options.{some_same, mapped, then_some}
use Rattle.sp_spec.proofs.Slots.{IsGoodValue, AreGood}
use Rattle.sp_law_formula.proofs.Slots.{slot_sorts, Agrees, Fits, TimeAgrees, TimesFit, IsGood, IsGoodTime, AreGoodTimes}

-- the values of the terms and times, the innermost first
abbrev pub grounds : Values → List (Term Variable) → List Ground
grounds w ts = map (valued w) ts

abbrev pub assigned : Valuation → List Ground → List ℕ → Assignment
assigned v gs ps = record { terms = v.terms; times = v.times; bound_terms = filled gs (λ k. constant []); bound_times = filled ps (λ k. k) }

abbrev pub no_slots : Slots
no_slots = record { terms = []; times = [] }

module _ (signature : Signature) (n : ℕ) (v : Valuation) where
  -- a normal value of each sort, and positions
  abbrev pub AreValues : List Sort → List Ground → Type 0
  AreValues [] [] = Unit {0}
  AreValues (sort ∷ sorts) (g ∷ gs) = (IsValue signature sort g × IsNormal signature.equations g) × AreValues sorts gs
  AreValues sorts gs = ⊥

  abbrev pub ArePositions : ℕ → List ℕ → Type 0
  ArePositions zero [] = Unit {0}
  ArePositions (suc k) (p ∷ ps) = (p < n) × ArePositions k ps
  ArePositions k ps = ⊥

  abbrev Reaches : List Binder → List Ground → List ℕ → List Ground → List ℕ → Type 1
  Reaches bs gs ps hs qs =
      ((P : Assignment → Type 0) → EachValues signature n bs P (assigned v gs ps) → P (assigned v hs qs))
      × ((P : Assignment → Type 0) → EachNormal signature n bs P (assigned v gs ps) → P (assigned v hs qs))

  abbrev Outside : List Binder → Slots → List Ground → List ℕ → Type 1
  Outside bs s hs qs = (gs : List Ground) × (ps : List ℕ) × AreValues (slot_sorts s.terms) gs × ArePositions (length s.times) ps × Reaches bs gs ps hs qs

  -- values for the binders and for what is bound outside, from those for what is bound outside
  reached : (bs : List Binder) (s : Slots) (hs : List Ground) (qs : List ℕ) → AreValues (slot_sorts (empty_slots bs s).terms) hs → ArePositions (length (empty_slots bs s).times) qs → Outside bs s hs qs
  reached [] s hs qs h k = (hs, qs, h, k, ((λ P x. x), (λ P x. x)))
  reached (message sort ∷ bs) s hs qs h k =
      let inner : Slots = record { terms = slot sort None ∷ s.terms; times = s.times } in
      at (reached bs inner hs qs h k)
    where
      at : Outside bs (record { terms = slot sort None ∷ s.terms; times = s.times }) hs qs → Outside (message sort ∷ bs) s hs qs
      at ([], ps, a, b, r) = absurd a
      at (g ∷ gs, ps, a, b, r) = (gs, ps, a.1, b, ((λ P x. r.0 P (x g a.0.0)), (λ P x. r.1 P (x g a.0.0 a.0.1))))
  reached (time ∷ bs) s hs qs h k =
      let inner : Slots = record { terms = s.terms; times = None ∷ s.times } in
      at (reached bs inner hs qs h k)
    where
      at : Outside bs (record { terms = s.terms; times = None ∷ s.times }) hs qs → Outside (time ∷ bs) s hs qs
      at (gs, [], a, b, r) = absurd b
      at (gs, p ∷ ps, a, b, r) = (gs, ps, a, b.1, ((λ P x. r.0 P (x p b.0)), (λ P x. r.1 P (x p b.0))))

  pub all_reached : (bs : List Binder) (hs : List Ground) (qs : List ℕ) → AreValues (slot_sorts (empty_slots bs no_slots).terms) hs → ArePositions (length (empty_slots bs no_slots).times) qs → Reaches bs [] [] hs qs
  all_reached bs hs qs h k = at (reached bs no_slots hs qs h k)
    where
      at : Outside bs no_slots hs qs → Reaches bs [] [] hs qs
      at ([], [], a, b, r) = r
      at (g ∷ gs, ps, a, b, r) = absurd a
      at ([], p ∷ ps, a, b, r) = absurd b

any_is_value : (signature : Signature) (sort : Sort) → IsValue signature sort (any_of sort) × IsNormal signature.equations (any_of sort)
any_is_value signature Msg = ((tt, tt), tt)
any_is_value signature Fresh = ((tt, tt), tt)
any_is_value signature Pub = ((tt, tt), tt)

-- slots that all have values
first_term : (x : Message) (s : List Message) (ts : List (Term Variable)) → all_terms (x ∷ s) ≡ Some ts → (u : Term Variable) × (us : List (Term Variable)) × (x.value ≡ Some u) × (all_terms s ≡ Some us) × (ts ≡ u ∷ us)
first_term x s ts e =
    let r = then_some (λ t. option_map (λ (us : List (Term Variable)). t ∷ us) (all_terms s)) x.value ts e in
    let q = mapped (λ (us : List (Term Variable)). r.0 ∷ us) (all_terms s) ts r.2 in
    (r.0, q.0, r.1, q.1, q.2)

first_time : (x : Option ℕ) (s : List (Option ℕ)) (js : List ℕ) → all_times (x ∷ s) ≡ Some js → (i : ℕ) × (is : List ℕ) × (x ≡ Some i) × (all_times s ≡ Some is) × (js ≡ i ∷ is)
first_time x s js e =
    let r = then_some (λ i. option_map (λ (is : List ℕ). i ∷ is) (all_times s)) x js e in
    let q = mapped (λ (is : List ℕ). r.0 ∷ is) (all_times s) js r.2 in
    (r.0, q.0, r.1, q.1, q.2)

-- the values of the slots, and any of its sort where one is missing
abbrev value_or_any : Values → Sort → Option (Term Variable) → Ground
value_or_any w sort None = any_of sort
value_or_any w sort (Some u) = valued w u

abbrev pub completed : Values → List Message → List Ground
completed w slots = map (λ (x : Message). value_or_any w x.kind x.value) slots

completed_all : (w : Values) (s : List Message) (ts : List (Term Variable)) → all_terms s ≡ Some ts → completed w s ≡ grounds w ts
completed_all w [] ts e = sym (ap (grounds w) (some_same [] ts e))
completed_all w (x ∷ s) ts e =
    let r = first_term x s ts e in
    ap₂ (λ (g : Ground) (gs : List Ground). g ∷ gs) (ap (value_or_any w x.kind) r.2) (completed_all w s r.1 r.3) ∙ sym (ap (grounds w) r.4)

pub completed_fits : (w : Values) (s : List Message) (f : ℕ → Ground) → Fits w s (filled (completed w s) f)
completed_fits w [] f = tt
completed_fits w (x ∷ s) f = (at x.value, completed_fits w s f)
  where
    at : (o : Option (Term Variable)) → Agrees w o (value_or_any w x.kind o)
    at None = tt
    at (Some u) = refl

pub terms_fit : (w : Values) (s : List Message) (ts : List (Term Variable)) (f : ℕ → Ground) → all_terms s ≡ Some ts → Fits w s (filled (grounds w ts) f)
terms_fit w s ts f e = subst (λ (gs : List Ground). Fits w s (filled gs f)) (completed_all w s ts e) (completed_fits w s f)

pub times_fit : (w : ℕ → ℕ) (s : List (Option ℕ)) (js : List ℕ) (f : ℕ → ℕ) → all_times s ≡ Some js → TimesFit w s (filled (map w js) f)
times_fit w [] js f e = tt
times_fit w (x ∷ s) js f e =
    let r = first_time x s js e in
    subst (λ (is : List ℕ). TimesFit w (x ∷ s) (filled (map w is) f)) (sym r.4)
    (subst (λ (o : Option ℕ). TimeAgrees w o (w r.0)) (sym r.2) refl, times_fit w s r.1 f r.3)

module _ (Q : Term Variable → Type 0) where
  pub terms_good : (s : List Message) (ts : List (Term Variable)) → all_terms s ≡ Some ts → AreGood (IsGood Q) s → Every Q ts
  terms_good [] ts e h = subst (Every Q) (sym (some_same [] ts e)) tt
  terms_good (x ∷ s) ts e h =
      let r = first_term x s ts e in
      subst (Every Q) (sym r.4) ((subst (IsGoodValue (IsGood Q) x.kind) r.2 h.0).1, terms_good s r.1 r.3 h.1)

  module _ (signature : Signature) (n : ℕ) (v : Valuation)
      (value : (sort : Sort) (u : Term Variable) → is_of_sort sort u ≡ true → Q u → IsValue signature sort (valued v.terms u) × IsNormal signature.equations (valued v.terms u)) where
    pub completed_values : (s : List Message) → AreGood (IsGood Q) s → AreValues signature n v (slot_sorts s) (completed v.terms s)
    completed_values [] h = tt
    completed_values (x ∷ s) h = (at x.value h.0, completed_values s h.1)
      where
        at : (o : Option (Term Variable)) → IsGoodValue (IsGood Q) x.kind o → IsValue signature x.kind (value_or_any v.terms x.kind o) × IsNormal signature.equations (value_or_any v.terms x.kind o)
        at None g = any_is_value signature x.kind
        at (Some u) g = value x.kind u g.0 g.1

    pub are_values : (s : List Message) (ts : List (Term Variable)) → all_terms s ≡ Some ts → AreGood (IsGood Q) s → AreValues signature n v (slot_sorts s) (grounds v.terms ts)
    are_values s ts e h = subst (AreValues signature n v (slot_sorts s)) (completed_all v.terms s ts e) (completed_values s h)

module _ (B : ℕ → Type 0) where
  pub times_good : (s : List (Option ℕ)) (js : List ℕ) → all_times s ≡ Some js → AreGoodTimes B s → Every B js
  times_good [] js e h = subst (Every B) (sym (some_same [] js e)) tt
  times_good (x ∷ s) js e h =
      let r = first_time x s js e in
      subst (Every B) (sym r.4) (subst (IsGoodTime B) r.2 h.0, times_good s r.1 r.3 h.1)

  pub are_positions : (signature : Signature) (n : ℕ) (v : Valuation) (s : List (Option ℕ)) (js : List ℕ) → all_times s ≡ Some js → AreGoodTimes B s
      → ((i : ℕ) → B i → v.times i < n) → ArePositions signature n v (length s) (map v.times js)
  are_positions signature n v [] js e h below = subst (λ (is : List ℕ). ArePositions signature n v zero (map v.times is)) (sym (some_same [] js e)) tt
  are_positions signature n v (x ∷ s) js e h below =
      let r = first_time x s js e in
      subst (λ (is : List ℕ). ArePositions signature n v (suc (length s)) (map v.times is)) (sym r.4)
      (below r.0 (subst (IsGoodTime B) r.2 h.0), are_positions signature n v s r.1 r.3 h.1 below)

-- the assignment reads what the instance puts in
module _ (A : Variable → Type 0) (B : ℕ → Type 0) (v : Valuation) where
  terms_read : (ts : List (Term Variable)) (k : ℕ) → filled (grounds v.terms ts) (λ j. constant []) k ≡ term_in (assignment v) (filled (placed_each ts) (λ j. var (bound j)) k)
  terms_read [] k = refl
  terms_read (t ∷ ts) zero = sym (valued-valued (λ x. var (free x)) (place_in (assignment v)) t)
  terms_read (t ∷ ts) (suc k) = terms_read ts k

  times_read : (js : List ℕ) (k : ℕ) → filled (map v.times js) (λ i. i) k ≡ time_in (assignment v) (filled (free_each js) bound_time k)
  times_read [] k = refl
  times_read (j ∷ js) zero = refl
  times_read (j ∷ js) (suc k) = times_read js k

  pub instance_reads : (ts : List (Term Variable)) (js : List ℕ) → Reads A B (instance ts js) (assignment v) (assigned v (grounds v.terms ts) (map v.times js))
  instance_reads ts js = record { variables = λ x a. refl; moments = λ i b. refl; terms = terms_read ts; times = times_read js }
