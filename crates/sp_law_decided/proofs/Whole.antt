-- The events of a decided system in a solution: the place at which an event is listed is its position in the log.
use Rattle.std.proofs.Common.{◌≡◌, ◌≤◌, ◌<◌, ℕ, zero, suc, ◌+◌, ◌==◌, Bool, true, false, if◌then◌else◌, List, [], ◌∷◌, length, Option, Some, option_map, unwrap_or, refl, sym, ap, ◌∙◌, subst, arith}
use Rattle.std.proofs.lemmas.Bool.{eqb-true}
use Rattle.sp_spec.specs.Lists.{Member, AtPlace}
use Rattle.sp_spec.proofs.Lists.{every_member, every_from, every_itself, position_below}
use Rattle.sp_spec.proofs.Options.{mapped}
use Rattle.sp_spec.specs.Theory.{Theory}
use Rattle.sp_spec.specs.Log.{Log}
use Rattle.sp_spec_system.specs.System.{Happening, rule_step, sending, learning, Event, System}
use Rattle.sp_spec_system.specs.Solutions.{Valuation, Solves, HappensAt, HappensIn}
use Rattle.sp_spec_solved.specs.Listing.{in_order}
use Rattle.sp_spec_solved.specs.Candidate.{place_of, position_of}
use Rattle.sp_law_candidate.proofs.Listed.{all_listed, every_listed, every_left, stand_behind}
use Rattle.sp_law_candidate.proofs.Sources.{place_there}
use Rattle.sp_law_decided.specs.Decided.{told_times, IsDecided}
use Rattle.sp_law_decided.proofs.Places.{Counts, counted, counts_first}
use Rattle.sp_law_decided.proofs.Permuted.{distinct_permuted}
use Rattle.sp_law_decided.proofs.Times.{event_time, one_time, listed_rise}

happens_below : (log : Log) (p : ℕ) (v : Valuation) (h : Happening) → HappensAt log p v h → p < length log
happens_below log p v (rule_step r facts) h = position_below log p _ h.1
happens_below log p v (sending m) h = position_below log p _ h
happens_below log p v (learning m way) h = position_below log p _ h.1

-- the place of a time is that of an event at this time
pub place_at : (i : ℕ) (es : List Event) (q : ℕ) → place_of i es ≡ Some q → (e : Event) × AtPlace es q e × (e.time ≡ i)
place_at i [] q k = absurd cc
place_at i (d ∷ es) q k = at (d.time == i) refl k (λ j l. place_at i es j l)
  where
    at : (b : Bool) → (d.time == i) ≡ b → (if b then Some 0 else option_map suc (place_of i es)) ≡ Some q
        → ((j : ℕ) → place_of i es ≡ Some j → (e : Event) × AtPlace es j e × (e.time ≡ i)) → (e : Event) × AtPlace (d ∷ es) q e × (e.time ≡ i)
    at true f l later = let z : zero ≡ q = cc in subst (λ (j : ℕ). (e : Event) × AtPlace (d ∷ es) j e × (e.time ≡ i)) z (d, refl, eqb-true d.time i f)
    at false f l later =
        let r = mapped suc (place_of i es) q l in
        let w = later r.0 r.1 in subst (λ (j : ℕ). (e : Event) × AtPlace (d ∷ es) j e × (e.time ≡ i)) (sym r.2) (w.0, w.1, w.2)

module _ (theory : Theory) (constants : List (List ℕ)) (s : System) (decided : IsDecided constants s) (log : Log) (v : Valuation) (solves : Solves theory log v s)
    (listed : List Event) (is_order : in_order s.order s.events ≡ Some listed) where
  pub is_listed_too : (e : Event) → Member e s.events → Member e listed
  is_listed_too e m =
      every_member (λ (d : Event). Member d listed) s.events e m (every_left (λ (d : Event). Member d listed) s.order (length s.events) s.events listed refl is_order (every_itself listed))

  pub of_system : (e : Event) → Member e listed → Member e s.events
  of_system e m =
      every_member (λ (d : Event). Member d s.events) listed e m (every_listed (λ (d : Event). Member d s.events) s.order (length s.events) s.events listed is_order (every_itself s.events))

  pub happens : (e : Event) → Member e listed → HappensIn log v e
  happens e m = every_member (HappensIn log v) s.events e (of_system e m) solves.events

  all_counted : Counts (λ (e : Event). v.times e.time) zero listed × (zero + length listed ≡ length log)
  all_counted =
      counted (λ (e : Event). v.times e.time) listed zero (length log) (omega arith)
      (listed_rise constants s decided log v solves.order listed (every_from (λ e. Member e s.events) listed of_system)
      (distinct_permuted (λ (e : Event). e.time) s.events listed (all_listed s.order (length s.events) s.events listed refl is_order) decided.once)
      (stand_behind s.order (length s.events) s.events listed is_order))
      (every_from (λ (e : Event). zero ≤ v.times e.time) listed (λ e m. omega arith))
      (every_from (λ (e : Event). v.times e.time < length log) listed (λ e m. happens_below log (v.times e.time) v e.happening (happens e m)))
      (λ p above below. let r = solves.closed decided.closed p below in (r.0, is_listed_too r.0 r.1, r.2))

  pub as_many : length listed ≡ length log
  as_many = let e = all_counted.1 in omega arith

  -- the event that is listed at a place is at that position
  pub position_is : (k : ℕ) (e : Event) → AtPlace listed k e → v.times e.time ≡ k
  position_is k e a = counts_first (λ (d : Event). v.times d.time) listed all_counted.0 k e a

  -- a time of the system at a position of the log is an event's
  pub event_at : (i : ℕ) → Member i (told_times s) → v.times i < length log → (e : Event) × Member e s.events × (e.time ≡ i)
  event_at i m below =
      let r = solves.closed decided.closed (v.times i) below in
      (r.0, r.1, one_time constants s decided log v solves.order r.0.time i (event_time s r.0 r.1) m r.2)

  pub place_is : (i q : ℕ) → place_of i listed ≡ Some q → v.times i ≡ q
  place_is i q e = let r = place_at i listed q e in ap v.times (sym r.2) ∙ position_is q r.0 r.1

  -- and its place is that position
  placed_at : (i : ℕ) → Member i (told_times s) → v.times i < length log → place_of i listed ≡ Some (v.times i)
  placed_at i m below =
      let r = event_at i m below in
      let w = place_there i listed r.0 (is_listed_too r.0 r.1) r.2 in w.1 ∙ ap Some (sym (place_is i w.0 w.1))

  pub same_position : (i : ℕ) → Member i (told_times s) → v.times i < length log → position_of listed i ≡ v.times i
  same_position i m below = ap (λ (o : Option ℕ). unwrap_or o 0) (placed_at i m below)
