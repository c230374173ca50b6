-- A system suggests a log exactly where it is listable.
use Rattle.std.proofs.Common.{◌≡◌, ⊎_elim, ℕ, zero, suc, Bool, true, false, not, ◌&&◌, ◌||◌, ◌==◌, if◌then◌else◌, List, [], ◌∷◌, length, Option, Some, None, option_and_then, inl, inr, refl, sym, ap, ◌∙◌, subst}
use Rattle.std.proofs.lemmas.Bool.{or_cases, and_parts, and_from, eqb-true, eq-eqb, or_right, or_left, not-true}
use Rattle.sp_spec.specs.Lists.{Member, Every, AtPlace}
use Rattle.sp_spec.proofs.Lists.{every_member, every_from}
use Rattle.sp_spec.specs.Term.{Variable}
use Rattle.sp_spec.specs.Rule.{Fact, Action}
use Rattle.sp_spec.specs.Guarded.{Place, Atom, free_time, bound_time, acts, same, same_time, before, last, Guarded, truth, falsity, holds, fails, all_of, one_of, some, every}
use Rattle.sp_spec.specs.Log.{Entry, is_fr}
use Rattle.sp_spec_system.specs.System.{Event, Link, System, happening_premises}
use Rattle.sp_spec_system.specs.Order.{is_cyclic}
use Rattle.sp_spec_solved.specs.Listing.{in_order}
use Rattle.sp_spec_solved.specs.Candidate.{are_settled, has_event, has_place, have_places, first_link, is_from_event, is_sourced, are_sourced, all_sourced, is_ready, place_of, logged, candidate}
use Rattle.sp_spec_solved.specs.Naming.{values_of}
use Rattle.sp_law_candidate.proofs.Listed.{every_listed, every_left}
use Rattle.sp_law_candidate.specs.Laws.{HasSourceEvent, IsListable}
use Rattle.sp_law_candidate.proofs.Least.{all_are_listed}
use Rattle.sp_law_candidate.proofs.Settled.{IsSettled, all_are_settled, each_is_settled}
use Rattle.sp_law_candidate.proofs.Sources.{place_there, past, past-first, IsLinked, HasSources, event_sourced, entries_there}

-- ---- actions

event_there : (es : List Event) (i : ℕ) → has_event es i ≡ true → (e : Event) × Member e es × (e.time ≡ i)
event_there [] i h = absurd cc
event_there (d ∷ es) i h =
    ⊎_elim (λ k. (d, inl refl, eqb-true d.time i k)) (λ k. let r = event_there es i k in (r.0, inr r.1, r.2)) (or_cases (d.time == i) (has_event es i) h)

there_event : (es : List Event) (i : ℕ) (e : Event) → Member e es → e.time ≡ i → has_event es i ≡ true
there_event [] i e m t = absurd m
there_event (d ∷ es) i e (inl s) t = or_left (d.time == i) (has_event es i) (eq-eqb d.time i (ap (λ (a : Event). a.time) s ∙ t))
there_event (d ∷ es) i e (inr m) t = or_right (d.time == i) (has_event es i) (there_event es i e m t)

each_has_place : (es : List Event) (fs : List Guarded) → have_places es fs ≡ true → (f : Guarded) → Member f fs → has_place es f ≡ true
each_has_place es [] h f m = absurd m
each_has_place es (g ∷ fs) h f (inl s) = ap (has_place es) (sym s) ∙ (and_parts (has_place es g) (have_places es fs) h).0
each_has_place es (g ∷ fs) h f (inr m) = each_has_place es fs (and_parts (has_place es g) (have_places es fs) h).1 f m

all_have_places : (es : List Event) (fs : List Guarded) → ((f : Guarded) → Member f fs → has_place es f ≡ true) → have_places es fs ≡ true
all_have_places es [] h = refl
all_have_places es (g ∷ fs) h = and_from (has_place es g) (have_places es fs) (h g (inl refl)) (all_have_places es fs (λ f m. h f (inr m)))

placed_atom : (es : List Event) (a : Atom) → ((b : Action Place) (i : ℕ) → a ≡ acts b (free_time i) → (e : Event) × Member e es × (e.time ≡ i)) → has_place es (holds a) ≡ true
placed_atom es (acts b (free_time i)) h = let r = h b i refl in there_event es i r.0 r.1 r.2
placed_atom es (acts b (bound_time k)) h = refl
placed_atom es (same t u) h = refl
placed_atom es (same_time i j) h = refl
placed_atom es (before i j) h = refl
placed_atom es (last i) h = refl

placed : (es : List Event) (f : Guarded) → ((b : Action Place) (i : ℕ) → f ≡ holds (acts b (free_time i)) → (e : Event) × Member e es × (e.time ≡ i)) → has_place es f ≡ true
placed es truth h = refl
placed es falsity h = refl
placed es (holds a) h = placed_atom es a (λ b i s. h b i (ap holds s))
placed es (fails a) h = refl
placed es (all_of fs) h = refl
placed es (one_of fs) h = refl
placed es (some bs guard f) h = refl
placed es (every bs guard f) h = refl

-- ---- premises

module _ (s : System) where
  source_event_there : (i p : ℕ) → HasSourceEvent s i p → is_from_event s.events (first_link s.links i p) ≡ true
  source_event_there i p h = ap (is_from_event s.events) h.1 ∙ there_event s.events h.0.from h.2 h.3 h.4

  there_source_event : (i p : ℕ) → is_from_event s.events (first_link s.links i p) ≡ true → HasSourceEvent s i p
  there_source_event i p e = at (first_link s.links i p) refl e
    where
      at : (o : Option Link) → first_link s.links i p ≡ o → is_from_event s.events o ≡ true → HasSourceEvent s i p
      at None h k = absurd cc
      at (Some l) h k = let r = event_there s.events l.from k in (l, h, r.0, r.1, r.2)

  premises_sourced : (i p : ℕ) (fs : List (Fact Variable)) → ((k : ℕ) (f : Fact Variable) → AtPlace fs k f → is_fr f ≡ false → HasSourceEvent s i (past p k)) → are_sourced s.events s.links i p fs ≡ true
  premises_sourced i p [] h = refl
  premises_sourced i p (f ∷ fs) h =
      and_from (is_sourced s.events s.links i p f) (are_sourced s.events s.links i (suc p) fs) (one (is_fr f) refl) (premises_sourced i (suc p) fs (λ k g m e. h (suc k) g m e))
    where
      one : (b : Bool) → is_fr f ≡ b → (b || is_from_event s.events (first_link s.links i p)) ≡ true
      one true e = refl
      one false e = source_event_there i p (h zero f refl e)

  sourced_premises : (i p : ℕ) (fs : List (Fact Variable)) → are_sourced s.events s.links i p fs ≡ true → (k : ℕ) (f : Fact Variable) → AtPlace fs k f → is_fr f ≡ false → HasSourceEvent s i (past p k)
  sourced_premises i p [] e k f m n = absurd m
  sourced_premises i p (g ∷ fs) e zero f m n =
      let none : is_fr g ≡ false = subst (λ (x : Fact Variable). is_fr x ≡ false) (sym m) n in
      there_source_event i p (sym (ap (λ (b : Bool). b || is_from_event s.events (first_link s.links i p)) none) ∙ (and_parts (is_sourced s.events s.links i p g) (are_sourced s.events s.links i (suc p) fs) e).0)
  sourced_premises i p (g ∷ fs) e (suc k) f m n = sourced_premises i (suc p) fs (and_parts (is_sourced s.events s.links i p g) (are_sourced s.events s.links i (suc p) fs) e).1 k f m n

  abbrev IsSourced : Event → Type 0
  IsSourced d = are_sourced s.events s.links d.time 0 (happening_premises d.happening) ≡ true

  events_sourced : (es : List Event) → Every IsSourced es → all_sourced s.events s.links es ≡ true
  events_sourced [] h = refl
  events_sourced (d ∷ es) h = and_from (are_sourced s.events s.links d.time 0 (happening_premises d.happening)) (all_sourced s.events s.links es) h.0 (events_sourced es h.1)

  sourced_events : (es : List Event) → all_sourced s.events s.links es ≡ true → Every IsSourced es
  sourced_events [] e = tt
  sourced_events (d ∷ es) e =
      let both = and_parts (are_sourced s.events s.links d.time 0 (happening_premises d.happening)) (all_sourced s.events s.links es) e in (both.0, sourced_events es both.1)

-- ---- systems

listable_ready : (s : System) → IsListable s → is_ready s ≡ true
listable_ready s h =
    and_from (are_settled s.events) (have_places s.events s.formulas && (all_sourced s.events s.links s.events && not (is_cyclic s.order)))
    (all_are_settled s.events (every_from IsSettled s.events h.settled))
    (and_from (have_places s.events s.formulas) (all_sourced s.events s.links s.events && not (is_cyclic s.order))
    (all_have_places s.events s.formulas (λ f m. placed s.events f (λ b i is. h.placed b i (subst (λ (g : Guarded). Member g s.formulas) is m))))
    (and_from (all_sourced s.events s.links s.events) (not (is_cyclic s.order))
    (events_sourced s s.events (every_from (IsSourced s) s.events (λ d m.
    premises_sourced s d.time 0 (happening_premises d.happening) (λ k f at n. subst (HasSourceEvent s d.time) (sym (past-first k)) (h.given d m k f at n)))))
    (ap not h.acyclic)))

ready_listable : (s : System) → is_ready s ≡ true → IsListable s
ready_listable s e =
    let begins = and_parts (are_settled s.events) (have_places s.events s.formulas && (all_sourced s.events s.links s.events && not (is_cyclic s.order))) e in
    let both = and_parts (have_places s.events s.formulas) (all_sourced s.events s.links s.events && not (is_cyclic s.order)) begins.1 in
    let rest = and_parts (all_sourced s.events s.links s.events) (not (is_cyclic s.order)) both.1 in
    let each = sourced_events s s.events rest.0 in
    record {
      settled = λ d m. every_member IsSettled s.events d m (each_is_settled s.events begins.0);
      given = λ d m p f at n. subst (HasSourceEvent s d.time) (past-first p) (sourced_premises s d.time 0 (happening_premises d.happening) (every_member (IsSourced s) s.events d m each) p f at n);
      placed = λ a i m. event_there s.events i (each_has_place s.events s.formulas both.0 (holds (acts a (free_time i))) m);
      acyclic = not-true (is_cyclic s.order) rest.1;
    }

module _ (s : System) (listed : List Event) (is_order : in_order s.order s.events ≡ Some listed) where
  abbrev IsPlaced : Event → Type 0
  IsPlaced d = (q : ℕ) × (place_of d.time listed ≡ Some q)

  -- each event is listed
  each_placed : (d : Event) → Member d s.events → IsPlaced d
  each_placed d m =
      every_member IsPlaced s.events d m (every_left IsPlaced s.order (length s.events) s.events listed refl is_order (every_from IsPlaced listed (λ e k. place_there e.time listed e k refl)))

  source_event_linked : (i p : ℕ) → HasSourceEvent s i p → IsLinked listed s.links i p
  source_event_linked i p h = let r = each_placed h.2 h.3 in (h.0, h.1, r.0, ap (λ (t : ℕ). place_of t listed) (sym h.4) ∙ r.1)

  listable_sources : IsListable s → Every (HasSources listed s.links) listed
  listable_sources h =
      every_listed (HasSources listed s.links) s.order (length s.events) s.events listed is_order
      (every_from (HasSources listed s.links) s.events (λ e m. event_sourced listed s.links e (λ p f at k. source_event_linked e.time p (h.given e m p f at k))))

pub suggests : (constants : List (List ℕ)) (s : System) → IsListable s → (entries : List Entry) × (candidate constants s ≡ Some entries)
suggests constants s h =
    let r = all_are_listed s.order h.acyclic (length s.events) s.events refl in
    let listed = r.0 in
    let made = entries_there listed s.links (values_of constants listed) listed (listable_sources s listed r.1 h) in (
      made.0,
      ap (λ (b : Bool). if b then option_and_then (logged constants s.links) (in_order s.order s.events) else None) (listable_ready s h)
          ∙ ap (option_and_then (logged constants s.links)) r.1 ∙ made.1,
    )

pub suggests_alone : (constants : List (List ℕ)) (s : System) (entries : List Entry) → candidate constants s ≡ Some entries → IsListable s
suggests_alone constants s entries e = at (is_ready s) refl e
  where
    at : (b : Bool) → is_ready s ≡ b → (if b then option_and_then (logged constants s.links) (in_order s.order s.events) else None) ≡ Some entries → IsListable s
    at true k m = ready_listable s k
    at false k m = absurd cc
