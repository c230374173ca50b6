-- What the row on universal formulas took: slots with values, and the body's instance at these. It takes no new numbers.
use Rattle.std.proofs.Common.{◌≡◌, ◌≤◌, ℕ, zero, suc, Bool, true, false, if◌then◌else◌, ◌||◌, List, [], ◌∷◌, length, Option, Some, None, refl, sym, ◌∙◌, subst, le_refl, ◌++◌}
use Rattle.sp_spec.specs.Lists.{Member, Every}
use Rattle.sp_spec.specs.Term.{Names, Sort, Variable, Term, var, Terms, MadeOf, AllMadeOf}
use Rattle.sp_spec.specs.Guarded.{Place, free, bound, bound_time, Binder, message, time, Atom, acts, same, same_time, before, last, Guarded, truth, falsity, holds, fails, all_of, one_of, some, every, Assignment}
use Rattle.sp_spec.specs.Change.{changed}
use Rattle.sp_spec_system.specs.System.{Event, System}
use Rattle.sp_spec_system.specs.Numbered.{AtFree, AtFreeTime, InAtom, InFormula, InEvent, IsNumbered}
use Rattle.sp_spec.proofs.Lists.{every_append, every_member, every_weaken}
use Rattle.sp_law_equal.proofs.Made.{each_valued}
use Rattle.sp_law_system.proofs.Numbers.{happening_made, PutsIn, changed_in}
use Rattle.sp_law_system.proofs.Solutions.{Under, TimeUnder}
use Rattle.sp_spec_system.specs.Picked.{first_some}
use Rattle.sp_spec_formula.specs.Disjunction.{is_a_formula}
use Rattle.sp_spec_formula.specs.Instantiate.{if_new, new_instance, with_formula, instantiate}
use Rattle.sp_spec_formula.specs.Instances.{Message, Slots, empty_slots, place_value, value_in, by_equalities, are_settled, all_terms, all_times, filled, placed_each, free_each, instance, body_with, instance_by}
use Rattle.sp_spec.specs.Slots.{slot}
use Rattle.sp_spec.proofs.Options.{some_same, if_some, mapped, then_some}
use Rattle.sp_spec.proofs.Slots.{AreGood, value_at_good}
use Rattle.sp_spec.proofs.Variables.{where_made}
use Rattle.sp_law_formula.proofs.Slots.{slot_sorts, Fits, TimesFit, IsGood, AreGoodTimes}
use Rattle.sp_law_formula.proofs.Matches.{Inherited, some_picked}
use Rattle.sp_law_formula.proofs.Guards.{HasGoodSides, equalities_given, StandsIn, IsGoodEvent, is_found}
use Rattle.sp_law_formula.proofs.Bound.{no_slots, terms_good, times_good}
use Rattle.sp_law_system.proofs.With.{formulas_numbered}

-- the sorts of the messages that it binds, the innermost first
abbrev pub binder_sorts : List Binder → List Sort
binder_sorts bs = slot_sorts (empty_slots bs no_slots).terms

-- each time that the formula binds has a position, of which B holds
pub record ArePlaced (B : ℕ → Type 0) (bs : List Binder) (times : List (Option ℕ)) (positions : List ℕ) : Type 0 where
  pub count : length times ≡ length (empty_slots bs no_slots).times
  pub all : all_times times ≡ Some positions
  pub good : AreGoodTimes B times

-- the body, with what was put in and why
pub record Taken (Q : Term Variable → Type 0) (B : ℕ → Type 0) (events : List Event) (bs : List Binder) (guard : List Atom) (f g : Guarded) : Type 0 where
  pub terms : List Message
  pub times : List (Option ℕ)
  pub values : List (Term Variable)
  pub positions : List ℕ
  pub sorts : slot_sorts terms ≡ binder_sorts bs
  pub good : AreGood (IsGood Q) terms
  pub all_values : all_terms terms ≡ Some values
  pub placed : ArePlaced B bs times positions
  pub settled : are_settled terms guard ≡ true
  pub stands : (m : Assignment) → Fits m.terms terms m.bound_terms → TimesFit m.times times m.bound_times → Every (StandsIn events m) guard
  pub result : g ≡ changed (instance values positions) f

empty_good : (Q : Term Variable → Type 0) (B : ℕ → Type 0) (bs : List Binder) (s : Slots) → AreGood (IsGood Q) s.terms → AreGoodTimes B s.times → AreGood (IsGood Q) (empty_slots bs s).terms × AreGoodTimes B (empty_slots bs s).times
empty_good Q B [] s h k = (h, k)
empty_good Q B (message sort ∷ bs) s h k = empty_good Q B bs (record { terms = slot sort None ∷ s.terms; times = s.times }) (tt, h) k
empty_good Q B (time ∷ bs) s h k = empty_good Q B bs (record { terms = s.terms; times = None ∷ s.times }) h (tt, k)

pub is_new : (s : System) (o : Option Guarded) (g : Guarded) → if_new s o ≡ Some g → o ≡ Some g
is_new s None g e = absurd cc
is_new s (Some f) g e = at (is_a_formula s.formulas f || is_a_formula s.spent f) e
  where
    at : (b : Bool) → (if b then None else Some f) ≡ Some g → Some f ≡ Some g
    at true k = absurd cc
    at false k = k

body_put : (f : Guarded) (ts : Option (List (Term Variable))) (js : Option (List ℕ)) (g : Guarded) → body_with f ts js ≡ Some g
    → (values : List (Term Variable)) × (positions : List ℕ) × (ts ≡ Some values) × (js ≡ Some positions) × (g ≡ changed (instance values positions) f)
body_put f None js g e = absurd cc
body_put f (Some ts) None g e = absurd cc
body_put f (Some ts) (Some js) g e = (ts, js, refl, refl, some_same (changed (instance ts js) f) g e)

module _ (Q : Term Variable → Type 0) (Qs : Terms Variable → Type 0) (inherited : Inherited Q Qs) (B : ℕ → Type 0) where
  pub is_taken : (s : System) (bs : List Binder) (guard : List Atom) (f g : Guarded) → Every (IsGoodEvent Q Qs inherited B) s.events
      → ((times : List (Option ℕ)) (positions : List ℕ) → ArePlaced B bs times positions → Every (HasGoodSides Q (binder_sorts bs)) guard)
      → new_instance s (every bs guard f) ≡ Some g → Taken Q B s.events bs guard f g
  is_taken s bs guard f g events sides e =
      let start = empty_slots bs no_slots in
      let x = is_found Q Qs inherited B s.events events (λ slots. if_new s (instance_by guard f slots)) guard start g e in
      let empty = empty_good Q B bs no_slots tt tt in
      let r = x.0 in
      let i = is_new s (instance_by guard f r) g x.1 in
      let y = then_some (λ (terms : List Message). if are_settled terms guard then body_with f (all_terms terms) (all_times r.times) else None) (by_equalities r.terms guard) g i in
      let z = if_some (are_settled y.0 guard) (body_with f (all_terms y.0) (all_times r.times)) g y.2 in
      let b = body_put f (all_terms y.0) (all_times r.times) g z.1 in
      let placed : ArePlaced B bs r.times b.1 = record { count = x.2.times.count; all = b.3; good = x.2.times.good empty.1 } in
      let grown = equalities_given Q (binder_sorts bs) guard (sides r.times b.1 placed) r.terms y.0 x.2.terms.sorts (x.2.terms.good empty.0) y.1 in
      record {
        terms = y.0;
        times = r.times;
        values = b.0;
        positions = b.1;
        sorts = grown.sorts ∙ x.2.terms.sorts;
        good = grown.good (x.2.terms.good empty.0);
        all_values = b.2;
        placed = placed;
        settled = z.0;
        stands = λ m h k. x.3 m (record { terms = grown.weakens m.terms m.bound_terms h; times = k });
        result = b.4;
      }

-- the formula whose instance it is
pub record Universal (s : System) (g : Guarded) : Type 0 where
  pub binders : List Binder
  pub guard : List Atom
  pub body : Guarded
  pub member : Member (every binders guard body) s.formulas
  pub instantiated : new_instance s (every binders guard body) ≡ Some g

universal_of : (s : System) (f g : Guarded) → Member f s.formulas → new_instance s f ≡ Some g → Universal s g
universal_of s (every bs guard f) g m e = record { binders = bs; guard = guard; body = f; member = m; instantiated = e }
universal_of s truth g m e = absurd cc
universal_of s falsity g m e = absurd cc
universal_of s (holds a) g m e = absurd cc
universal_of s (fails a) g m e = absurd cc
universal_of s (all_of fs) g m e = absurd cc
universal_of s (one_of fs) g m e = absurd cc
universal_of s (some bs guard f) g m e = absurd cc

pub is_universal : (s t : System) → instantiate s ≡ Some t → (g : Guarded) × Universal s g × (t ≡ with_formula s g)
is_universal s t e =
    let r = mapped (with_formula s) (first_some (new_instance s) s.formulas) t e in
    let p = some_picked (new_instance s) s.formulas r.0 r.1 in
    (r.0, universal_of s p.0 r.0 p.1 p.2, r.2)

-- Numbers.
place_in : (N : Names) → (P : Variable → Type 0) (s : List Message) → AreGood (IsGood (MadeOf N P)) s → (p : Place) (u : Term Variable) → place_value s p ≡ Some u → AtFree P p → MadeOf N P u
place_in N P s good (free x) u e h = subst (MadeOf N P) (sym (some_same (var x) u e)) h
place_in N P s good (bound k) u e h = (value_at_good (IsGood (MadeOf N P)) s good k u e).1.1

side_in : (N : Names) → (P : Variable → Type 0) (s : List Message) → AreGood (IsGood (MadeOf N P)) s → (t : Term Place) (u : Term Variable) → value_in s t ≡ Some u → MadeOf N (AtFree P) t → MadeOf N P u
side_in N P s good = where_made (place_value s) N (AtFree P) P (place_in N P s good)

module _ (N : Names) (P : Variable → Type 0) (B : ℕ → Type 0) where
  variables_inherited : Inherited (MadeOf N P) (AllMadeOf N P)
  variables_inherited = record { under = λ f ts h. h; first = λ t ts h. h.0; rest = λ t ts h. h.1 }

  sides_in : (sorts : List Sort) (a : Atom) → InAtom N P B a → HasGoodSides (MadeOf N P) sorts a
  sides_in sorts (same t u) h = (λ s are good x e. side_in N P s good t x e h.0, λ s are good x e. side_in N P s good u x e h.1)
  sides_in sorts (acts a i) h = tt
  sides_in sorts (same_time i j) h = tt
  sides_in sorts (before i j) h = tt
  sides_in sorts (last i) h = tt

  event_in : (e : Event) → InEvent N P B e → IsGoodEvent (MadeOf N P) (AllMadeOf N P) variables_inherited B e
  event_in e h = (h.0, (happening_made N P B e.happening h.1).actions)

  instance_puts : (ts : List (Term Variable)) (js : List ℕ) → Every (MadeOf N P) ts → Every B js → PutsIn N P P B B (instance ts js)
  instance_puts ts js h k = record { terms = λ x l. l; times = λ i l. l; bound_terms = terms ts h; bound_times = times js k }
    where
      terms : (ts : List (Term Variable)) → Every (MadeOf N P) ts → (k : ℕ) → MadeOf N (AtFree P) (filled (placed_each ts) (λ j. var (bound j)) k)
      terms [] h k = tt
      terms (t ∷ ts) h zero = each_valued N P (AtFree P) (λ x. var (free x)) (λ x l. l) t h.0
      terms (t ∷ ts) h (suc k) = terms ts h.1 k

      times : (js : List ℕ) → Every B js → (k : ℕ) → AtFreeTime B (filled (free_each js) bound_time k)
      times [] h k = tt
      times (j ∷ js) h zero = h.0
      times (j ∷ js) h (suc k) = times js h.1 k

  universal_in : (s : System) (g : Guarded) → Universal s g → Every (InEvent N P B) s.events → Every (InFormula N P B) s.formulas → InFormula N P B g
  universal_in s g u events formulas =
      let h = every_member (InFormula N P B) s.formulas (every u.binders u.guard u.body) u.member formulas in
      let t = is_taken (MadeOf N P) (AllMadeOf N P) variables_inherited B s u.binders u.guard u.body g (every_weaken _ _ event_in s.events events)
      (λ times positions placed. every_weaken (InAtom N P B) (HasGoodSides (MadeOf N P) (binder_sorts u.binders)) (sides_in (binder_sorts u.binders)) u.guard h.0) u.instantiated in
      let puts = instance_puts t.values t.positions (terms_good (MadeOf N P) t.terms t.values t.all_values t.good) (times_good B t.times t.positions t.placed.all t.placed.good) in
      subst (InFormula N P B) (sym t.result) (changed_in N P P B B (instance t.values t.positions) puts u.body h.1)

pub instantiate_numbered : {N : Names} → (s t : System) → instantiate s ≡ Some t → IsNumbered N s → IsNumbered N t × (s.next ≤ t.next)
instantiate_numbered {N} s t e n =
    let r = is_universal s t e in
    let new = universal_in N (Under s.next) (TimeUnder s.next) s r.0 r.1 n.events n.formulas in
    let P : System → Type 0 = λ u. IsNumbered N u × (s.next ≤ u.next) in
    subst P (sym r.2) (
      formulas_numbered s n (s.formulas ++ r.0 ∷ []) (every_append (InFormula N (Under s.next) (TimeUnder s.next)) s.formulas (r.0 ∷ []) n.formulas (new, tt)),
      le_refl s.next,
    )
