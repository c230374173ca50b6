-- The row on universal formulas covers: the values that it found are values of the binders, so the body holds at them.
use Rattle.std.proofs.Common.{◌≡◌, ◌<◌, ℕ, true, List, [], ◌∷◌, map, length, Option, Some, refl, sym, ap, ◌∙◌, subst, inl, inr, ◌++◌}
use Rattle.sp_spec.specs.Lists.{Member, Every, AtPosition}
use Rattle.sp_spec.specs.Term.{Names, Sort, Msg, Fresh, Pub, Variable, Term, var, constant, name, app, Terms, Ground, Values, valued, valued_all}
use Rattle.sp_spec.specs.Signature.{HasSort, IsValue, IsValuation}
use Rattle.sp_spec.specs.Equal.{Equal, end, IsNormal}
use Rattle.sp_spec.specs.Rule.{Action, action_at}
use Rattle.sp_spec.specs.Truth.{Acts}
use Rattle.sp_spec.specs.Same.{same_sort}
use Rattle.sp_spec.specs.Theory.{Theory, signature_of}
use Rattle.sp_spec.specs.Guarded.{Place, Binder, Atom, acts, same, same_time, before, last, Guarded, every, Assignment, action_in, term_in, time_in, AtomHolds, AtomsHold, EachValues, GuardedHolds}
use Rattle.sp_spec.specs.Log.{Log, Entry, entry_actions, log_trace, IsLog}
use Rattle.sp_law_equal.specs.RightTheory.{HasNormalInstances}
use Rattle.sp_law_equal.proofs.Chains.{same_action_refl}
use Rattle.sp_spec_system.specs.System.{Event, System, happening_actions}
use Rattle.sp_spec_system.specs.Solutions.{Valuation, assignment, HappensIn, IsSettled, AreSettled, AtomSettled, Settled, FormulaHolds, Solves}
use Rattle.sp_spec_system.specs.Numbered.{InFormula, IsNumbered}
use Rattle.sp_spec_system.specs.Covering.{Covers}
use Rattle.sp_spec.proofs.Lists.{every_append, every_member, every_weaken, position_below, member_map, every_from}
use Rattle.sp_law_system.proofs.Changing.{changed_same, settled_same}
use Rattle.sp_law_system.proofs.Solutions.{Under, TimeUnder}
use Rattle.sp_spec_formula.specs.Instantiate.{instantiate}
use Rattle.sp_spec_formula.specs.Instances.{Message, is_of_sort, value_in, instance}
use Rattle.sp_law_formula.proofs.OneCase.{covers_by_itself}
use Rattle.sp_law_formula.proofs.Entries.{length_trace, happened}
use Rattle.sp_law_formula.proofs.Learnt.{entry_normal, entry_over}
use Rattle.sp_spec.proofs.Slots.{AreGood}
use Rattle.sp_law_formula.proofs.Slots.{slot_sorts, IsGood}
use Rattle.sp_law_formula.proofs.Matches.{Inherited}
use Rattle.sp_law_formula.proofs.Guards.{value_same, HasGoodSides, StandsIn, SidesAreSame, sides_same, IsGoodEvent}
use Rattle.sp_law_formula.proofs.Bound.{grounds, completed, completed_fits, completed_values, assigned, AreValues, ArePositions, all_reached, terms_fit, times_fit, are_values, are_positions, instance_reads}
use Rattle.sp_law_formula.proofs.Taken.{binder_sorts, ArePlaced, Taken, is_taken, is_universal}
use Rattle.sp_law_system.proofs.With.{formulas_solve}

-- the value is over the signature, and normal
module _ (theory : Theory) (v : Valuation) where
  abbrev pub IsFine : Term Variable → Type 0
  IsFine t = IsSettled (signature_of theory) (valued v.terms t)

  abbrev pub AreFine : Terms Variable → Type 0
  AreFine ts = AreSettled (signature_of theory) (valued_all v.terms ts)

  pub fine_inherited : Inherited IsFine AreFine
  fine_inherited = record { under = λ f ts h. (h.0.0, h.1.1); first = λ t ts h. (h.0.0, h.1.0); rest = λ t ts h. (h.0.1, h.1.1) }

  -- a value of a variable's sort
  value_of_sort : IsValuation (signature_of theory) v.terms → (sort : Sort) (u : Term Variable) → is_of_sort sort u ≡ true → HasSort sort (valued v.terms u)
  value_of_sort sorts Msg u e = tt
  value_of_sort sorts Fresh (var x) e = at x.sort e (sorts x).0
    where
      at : (s : Sort) → same_sort Fresh s ≡ true → HasSort s (v.terms x) → HasSort Fresh (v.terms x)
      at Msg k h = absurd cc
      at Fresh k h = h
      at Pub k h = absurd cc
  value_of_sort sorts Fresh (constant c) e = absurd cc
  value_of_sort sorts Fresh (name n) e = tt
  value_of_sort sorts Fresh (app f ts) e = absurd cc
  value_of_sort sorts Pub (var x) e = at x.sort e (sorts x).0
    where
      at : (s : Sort) → same_sort Pub s ≡ true → HasSort s (v.terms x) → HasSort Pub (v.terms x)
      at Msg k h = absurd cc
      at Fresh k h = absurd cc
      at Pub k h = h
  value_of_sort sorts Pub (constant c) e = tt
  value_of_sort sorts Pub (name n) e = absurd cc
  value_of_sort sorts Pub (app f ts) e = absurd cc

  good_value : IsValuation (signature_of theory) v.terms → (sort : Sort) (u : Term Variable) → is_of_sort sort u ≡ true → IsFine u
      → IsValue (signature_of theory) sort (valued v.terms u) × IsNormal (signature_of theory).equations (valued v.terms u)
  good_value sorts sort u e q = ((value_of_sort sorts sort u e, q.1), q.0)

-- A settled formula's guard has terms with fine values for all values of what is bound. Where a side of an equality has a value, no
-- variable of it is missing one, so those that are missing elsewhere may have any values.
module _ (theory : Theory) (n : ℕ) (v : Valuation) (sorts : IsValuation (signature_of theory) v.terms) where
  abbrev Completed : List ℕ → List Message → Assignment
  Completed ps s = assigned v (completed v.terms s) ps

  side_fine : (ps : List ℕ) (s : List Message) (t : Term Place) (u : Term Variable) → value_in s t ≡ Some u → IsSettled (signature_of theory) (term_in (Completed ps s) t) → IsFine theory v u
  side_fine ps s t u e h = subst (IsSettled (signature_of theory)) (value_same (Completed ps s) s (completed_fits v.terms s (λ k. constant [])) t u e) h

  sides_fine : (ps : List ℕ) (kinds : List Sort) (atoms : List Atom)
      → ((s : List Message) → slot_sorts s ≡ kinds → AreGood (IsGood (IsFine theory v)) s → Every (AtomSettled (signature_of theory) n (Completed ps s)) atoms)
      → Every (HasGoodSides (IsFine theory v) kinds) atoms
  sides_fine ps kinds [] h = tt
  sides_fine ps kinds (same t u ∷ atoms) h = (
    (λ s are good x e. side_fine ps s t x e (h s are good).0.0, λ s are good x e. side_fine ps s u x e (h s are good).0.1),
    sides_fine ps kinds atoms (λ s are good. (h s are good).1),
  )
  sides_fine ps kinds (acts a i ∷ atoms) h = (tt, sides_fine ps kinds atoms (λ s are good. (h s are good).1))
  sides_fine ps kinds (same_time i j ∷ atoms) h = (tt, sides_fine ps kinds atoms (λ s are good. (h s are good).1))
  sides_fine ps kinds (before i j ∷ atoms) h = (tt, sides_fine ps kinds atoms (λ s are good. (h s are good).1))
  sides_fine ps kinds (last i ∷ atoms) h = (tt, sides_fine ps kinds atoms (λ s are good. (h s are good).1))

  guard_fine : (bs : List Binder) (guard : List Atom) (f : Guarded) → Settled (signature_of theory) n (assignment v) (every bs guard f)
      → (times : List (Option ℕ)) (positions : List ℕ) → ArePlaced (λ i. v.times i < n) bs times positions → Every (HasGoodSides (IsFine theory v) (binder_sorts bs)) guard
  guard_fine bs guard f k times positions placed =
      let sig = signature_of theory in
      let ps = map v.times positions in
      let below = subst (λ (c : ℕ). ArePositions sig n v c ps) placed.count (are_positions (λ j. v.times j < n) sig n v times positions placed.all placed.good (λ j l. l)) in
      sides_fine ps (binder_sorts bs) guard (λ s are good.
      let values = subst (λ (kinds : List Sort). AreValues sig n v kinds (completed v.terms s)) are (completed_values (IsFine theory v) sig n v (good_value theory v sorts) s good) in
      ((all_reached sig n v bs (completed v.terms s) ps values below).1 (λ w. Every (AtomSettled sig n w) guard × Settled sig n w f) k).0)

-- an entry of the log shows its actions at its position
shown_at : (log : Log) (p : ℕ) (e : Entry) → AtPosition log p e → AtPosition (log_trace log) p (entry_actions e)
shown_at [] p e a = absurd a
shown_at (d ∷ log) p e (inl a) = inl (a.0 ∙ sym (length_trace log), ap entry_actions a.1)
shown_at (d ∷ log) p e (inr a) = inr (shown_at log p e a)

module _ (N : Names) (theory : Theory) (good : HasNormalInstances theory) (log : Log) (is : IsLog theory log) (v : Valuation) where
  -- the actions of an event are fine, and its time is a position
  event_fine : (e : Event) → HappensIn log v e → IsGoodEvent (IsFine theory v) (AreFine theory v) (fine_inherited theory v) (λ i. v.times i < length log) e
  event_fine e h =
      let p = v.times e.time in
      let d = happened log p v e.happening h in (
        position_below log p d.0 d.1,
        every_from (λ (b : Action Variable). AreFine theory v b.args) (happening_actions e.happening) (λ b k.
            let shows = subst (Member (action_at v.terms b)) (sym d.2) (member_map (action_at v.terms) b (happening_actions e.happening) k) in (
              entry_normal theory log is p d.0 d.1 (action_at v.terms b) shows,
              entry_over theory good log is p d.0 d.1 (action_at v.terms b) shows,
            )),
      )

  -- what a guard's atom says holds: an action is one of an event, which the log has
  atom_holds : (m : Assignment) → m.terms ≡ v.terms → m.times ≡ v.times → (events : List Event) → Every (HappensIn log v) events → (a : Atom) → StandsIn events m a → SidesAreSame m a
      → AtomHolds (signature_of theory) (log_trace log) m a
  atom_holds m e k events h (acts a i) s d =
      let es = (signature_of theory).equations in
      let x = s.0 in
      let d = happened log (v.times x.time) v x.happening (every_member (HappensIn log v) events x s.1 h) in
      let found : Acts es (log_trace log) (v.times x.time) (action_at v.terms s.2) = (
        entry_actions d.0,
        shown_at log (v.times x.time) d.0 d.1,
        action_at v.terms s.2,
        subst (Member (action_at v.terms s.2)) (sym d.2) (member_map (action_at v.terms) s.2 (happening_actions x.happening) s.3),
        same_action_refl es (action_at v.terms s.2),
      ) in
      let time : time_in m i ≡ v.times x.time = s.5 ∙ ap (λ (w : ℕ → ℕ). w x.time) k in
      let action : action_in m a ≡ action_at v.terms s.2 = s.4 ∙ ap (λ (w : Values). action_at w s.2) e in
      λ none. none (subst (λ (p : ℕ). Acts es (log_trace log) p (action_in m a)) (sym time) (subst (λ (b : Action ⊥). Acts es (log_trace log) (v.times x.time) b) (sym action) found))
  atom_holds m e k events h (same t u) s d = λ none. none (subst (λ (g : Ground). Equal (signature_of theory).equations (term_in m t) g) d end)
  atom_holds m e k events h (same_time i j) s d = absurd d
  atom_holds m e k events h (before i j) s d = absurd d
  atom_holds m e k events h (last i) s d = absurd d

  guard_holds : (m : Assignment) → m.terms ≡ v.terms → m.times ≡ v.times → (events : List Event) → Every (HappensIn log v) events → (atoms : List Atom)
      → Every (StandsIn events m) atoms → Every (SidesAreSame m) atoms → AtomsHold (signature_of theory) (log_trace log) m atoms
  guard_holds m e k events h [] s d = tt
  guard_holds m e k events h (a ∷ atoms) s d = (atom_holds m e k events h a s.0 d.0, guard_holds m e k events h atoms s.1 d.1)

  -- the body's instance holds and is settled
  taken_holds : (s : System) (bs : List Binder) (guard : List Atom) (f g : Guarded) → Solves theory log v s → Taken (IsFine theory v) (λ i. v.times i < length log) s.events bs guard f g
      → (A : Variable → Type 0) (B : ℕ → Type 0) → InFormula N A B f → FormulaHolds theory log v (every bs guard f) → FormulaHolds theory log v g
  taken_holds s bs guard f g h t A B i k =
      let sig = signature_of theory in
      let n = length log in
      let gs = grounds v.terms t.values in
      let ps = map v.times t.positions in
      let m = assigned v gs ps in
      let values : AreValues sig n v (slot_sorts t.terms) gs = are_values (IsFine theory v) sig n v (good_value theory v h.sorts) t.terms t.values t.all_values t.good in
      let positions : ArePositions sig n v (length t.times) ps = are_positions (λ j. v.times j < length log) sig n v t.times t.positions t.placed.all t.placed.good (λ j l. l) in
      let reach = all_reached sig n v bs gs ps (subst (λ (sorts : List Sort). AreValues sig n v sorts gs) t.sorts values) (subst (λ (c : ℕ). ArePositions sig n v c ps) t.placed.count positions) in
      let terms_same = terms_fit v.terms t.terms t.values (λ j. constant []) t.all_values in
      let times_same = times_fit v.times t.times t.positions (λ j. j) t.placed.all in
      let guard_true = guard_holds m refl refl s.events h.events guard (t.stands m terms_same times_same) (sides_same m t.terms terms_same guard t.settled) in
      let Body : Assignment → Type 0 = λ w. AtomsHold sig (log_trace log) w guard → GuardedHolds sig (log_trace log) w f in
      let holds = reach.0 Body (subst (λ (c : ℕ). EachValues sig c bs Body (assignment v)) (length_trace log) k.0) guard_true in
      let settled = reach.1 (λ w. Every (AtomSettled sig n w) guard × Settled sig n w f) k.1 in
      let c = instance t.values t.positions in
      let reads = instance_reads A B v t.values t.positions in
      subst (FormulaHolds theory log v) (sym t.result) (
        subst (λ (X : Type 0). X) (sym (changed_same N A B sig (log_trace log) c (assignment v) m reads f i)) holds,
        subst (λ (X : Type 0). X) (sym (settled_same N A B sig n c (assignment v) m reads f i)) settled.1,
      )

pub instantiate_covers : {N : Names} → (theory : Theory) → HasNormalInstances theory → (s t : System) → instantiate s ≡ Some t → IsNumbered N s → Covers theory s (t ∷ [])
instantiate_covers {N} theory good s t e n =
    let r = is_universal s t e in
    let g = r.0 in
    let u = r.1 in
    let f = every u.binders u.guard u.body in
    let A = Under s.next in
    let B = TimeUnder s.next in
    covers_by_itself theory s t (λ log is v h.
    let events = every_weaken _ _ (event_fine N theory good log is v) s.events h.events in
    let holds = every_member (FormulaHolds theory log v) s.formulas f u.member h.formulas in
    let taken = is_taken (IsFine theory v) (AreFine theory v) (fine_inherited theory v) (λ i. v.times i < length log) s u.binders u.guard u.body g events
    (guard_fine theory (length log) v h.sorts u.binders u.guard u.body holds.1) u.instantiated in
    let new = taken_holds N theory good log is v s u.binders u.guard u.body g h taken A B (every_member (InFormula N A B) s.formulas f u.member n.formulas).1 holds in
    subst (Solves theory log v) (sym r.2)
    (formulas_solve theory log v s h (s.formulas ++ g ∷ []) (every_append (FormulaHolds theory log v) s.formulas (g ∷ []) h.formulas (new, tt))))
