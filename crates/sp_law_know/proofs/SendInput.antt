-- Send for an In premise: what the premise takes is sent before, by an entry at an earlier position, which is its source.
use Rattle.std.proofs.Common.{◌≡◌, ◌≤◌, ◌<◌, ◌+◌, ◌&&◌, ℕ, zero, suc, Bool, true, false, not, if◌then◌else◌, List, [], ◌∷◌, ◌++◌, Option, Some, None, option_map, refl, sym, ap, ◌∙◌, subst, arith}
use Rattle.std.proofs.lemmas.Bool.{and_parts}
use Rattle.std.specs.Option.{option_or}
use Rattle.sp_spec.specs.Lists.{Member, Every, AtPlace, AtPosition}
use Rattle.sp_spec.specs.Term.{Names, Variable, Term, Terms, none, more, Ground, MadeOf, AllMadeOf, Values, valued, valued_all}
use Rattle.sp_spec.specs.Rule.{Fact, Facts, fact_at}
use Rattle.sp_spec.specs.Theory.{Theory}
use Rattle.sp_spec.specs.Log.{Log, step, send, Source, IsLog, is_in}
use Rattle.sp_spec.proofs.Lists.{every_append, every_member}
use Rattle.sp_spec.proofs.Options.{mapped, some_same}
use Rattle.sp_law_equal.specs.RightTheory.{LeavesReserved}
use Rattle.sp_spec_system.specs.System.{sending, happening_premises, Event, Link, System, with_events}
use Rattle.sp_spec_system.specs.Solutions.{Valuation, HappensIn, Solves}
use Rattle.sp_spec_system.specs.Numbered.{InEvent, IsNumbered}
use Rattle.sp_spec_system.specs.Covering.{Covers}
use Rattle.sp_spec_system.specs.Picked.{first_some, only_term}
use Rattle.sp_law_equal.proofs.Made.{each_weaken}
use Rattle.sp_law_system.proofs.Numbers.{happening_made}
use Rattle.sp_law_system.proofs.Solutions.{Under, TimeUnder}
use Rattle.sp_law_system.proofs.With.{events_solve, found_behind, events_numbered}
use Rattle.sp_law_formula.proofs.Matches.{some_picked}
use Rattle.sp_spec_graph.specs.Premise.{is_linked, awaiting}
use Rattle.sp_spec_know.specs.SendInput.{Input, input_at, input_from, open_input, with_sending, send_input}
use Rattle.sp_law_log.proofs.Places.{every_place}
use Rattle.sp_law_graph.proofs.Sources.{premise_event}
use Rattle.sp_law_know.proofs.Learnt.{Sent, input_sent}
use Rattle.sp_law_graph.proofs.Waiting.{timed, timed_terms, timed_agrees, timed_new, awaiting_numbered, awaiting_solved}

-- the premise that was found, so far from the place where the search began
record IsInput (i k : ℕ) (fs : List (Fact Variable)) (x : Input) : Type 0 where
  place : ℕ
  fact : Fact Variable
  there : AtPlace fs place fact
  premise : x.premise ≡ k + place
  time : x.time ≡ i
  is_input : is_in fact ≡ true
  args : fact.args ≡ more x.message none

one_term : (ts : Terms Variable) (m : Term Variable) → only_term ts ≡ Some m → ts ≡ more m none
one_term none m e = absurd cc
one_term (more t none) m e = ap (λ (u : Term Variable). let us : Terms Variable = more u none in us) (sym (some_same t m e))
one_term (more t (more u us)) m e = absurd cc

input_here : (links : List Link) (i k : ℕ) (f : Fact Variable) (fs : List (Fact Variable)) (x : Input) → input_at links i k f ≡ Some x → IsInput i k (f ∷ fs) x
input_here links i k f fs x e = at (is_in f && not (is_linked links i k)) refl e
  where
    at : (b : Bool) → (is_in f && not (is_linked links i k)) ≡ b
        → (if b then option_map (λ (m : Term Variable). let y : Input = record { time = i; premise = k; message = m } in y) (only_term f.args) else None) ≡ Some x
        → IsInput i k (f ∷ fs) x
    at false c d = absurd cc
    at true c d =
        let r = mapped (λ (m : Term Variable). let y : Input = record { time = i; premise = k; message = m } in y) (only_term f.args) x d in
        let message : x.message ≡ r.0 = ap (λ (y : Input). y.message) r.2 in
        record {
          place = zero;
          fact = f;
          there = refl;
          premise = (let p : x.premise ≡ k = ap (λ (y : Input). y.premise) r.2 in omega (arith, p));
          time = ap (λ (y : Input). y.time) r.2;
          is_input = (and_parts (is_in f) (not (is_linked links i k)) c).0;
          args = subst (λ (m : Term Variable). f.args ≡ more m none) (sym message) (one_term f.args r.0 r.1);
        }

input_found : (links : List Link) (i k : ℕ) (fs : List (Fact Variable)) (x : Input) → input_from links i k fs ≡ Some x → IsInput i k fs x
input_found links i k [] x e = absurd cc
input_found links i k (f ∷ fs) x e = at (input_at links i k f) refl e (λ d. input_found links i (suc k) fs x d)
  where
    at : (o : Option Input) → input_at links i k f ≡ o → option_or o (input_from links i (suc k) fs) ≡ Some x
        → (input_from links i (suc k) fs ≡ Some x → IsInput i (suc k) fs x) → IsInput i k (f ∷ fs) x
    at (Some y) c d later = input_here links i k f fs x (c ∙ d)
    at None c d later =
        let r = later d in
        let p = r.premise in
        record { place = suc r.place; fact = r.fact; there = r.there; premise = omega (arith, p); time = r.time; is_input = r.is_input; args = r.args }

-- What the row adds: an event that has the premise, for whose message it sends.
record Adds (s t : System) : Type 0 where
  input : Input
  event : Event
  stands : Member event s.events
  found : IsInput event.time zero (happening_premises event.happening) input
  is : t ≡ with_sending s input

adds : (s t : System) → send_input s ≡ Some t → Adds s t
adds s t e =
    let r = mapped (with_sending s) (first_some (open_input s.links) s.events) t e in
    let d = some_picked (open_input s.links) s.events r.0 r.1 in
    record { input = r.0; event = d.0; stands = d.1; found = input_found s.links d.0.time zero (happening_premises d.0.happening) r.0 d.2; is = r.2 }

module _ {N : Names} (s t : System) (e : send_input s ≡ Some t) (n : IsNumbered N s) where
  abbrev a : Adds s t
  a = adds s t e

  abbrev i : ℕ
  i = a.input.time

  abbrev place : ℕ
  place = a.input.premise

  abbrev m : Term Variable
  m = a.input.message

  abbrev new : Event
  new = record { time = s.next; happening = sending m }

  event_in : InEvent N (Under s.next) (TimeUnder s.next) a.event
  event_in = every_member (InEvent N (Under s.next) (TimeUnder s.next)) s.events a.event a.stands n.events

  time_in : i < s.next
  time_in = subst (λ (j : ℕ). j < s.next) (sym a.found.time) event_in.0

  message_in : MadeOf N (Under s.next) m
  message_in =
      let facts = happening_made N (Under s.next) (TimeUnder s.next) a.event.happening event_in.1 in
      let args = every_place (λ (f : Fact Variable). AllMadeOf N (Under s.next) f.args)
      (happening_premises a.event.happening) a.found.place a.found.fact a.found.there facts.premises in
      (subst (AllMadeOf N (Under s.next)) a.found.args args).0

  -- the system that waits for the source, with the event that it is
  with_source : with_sending s a.input ≡ with_events (awaiting s i place zero) (s.events ++ new ∷ [])
  with_source = refl

  pub send_input_numbered : IsNumbered N t × (s.next ≤ t.next)
  send_input_numbered =
      let P : System → Type 0 = λ w. IsNumbered N w × (s.next ≤ w.next) in
      let next = suc s.next in
      let waits = awaiting_numbered s n i time_in place zero in
      let wide : (x : Variable) → Under s.next x → Under next x = λ x k. omega (arith, k) in
      let sends : InEvent N (Under next) (TimeUnder next) new = (omega arith, each_weaken N (Under s.next) (Under next) wide m message_in) in
      let events = every_append (InEvent N (Under next) (TimeUnder next)) s.events (new ∷ []) waits.events (sends, tt) in
      subst P (sym a.is) (events_numbered (awaiting s i place zero) waits (s.events ++ new ∷ []) events, omega arith)

  module _ (theory : Theory) (reserved : Every LeavesReserved theory.rules) (log : Log) (is : IsLog theory log) (v : Valuation)
      (h : Solves theory log v s) where
    record Takes : Type 0 where
      rule : List ℕ
      facts : Facts ⊥
      sources : List Source
      there : AtPosition log (v.times i) (step rule facts sources)
      sent : Sent log (v.times i) sources place (fact_at v.terms a.found.fact)

    takes : Takes
    takes =
        let f = a.found.fact in
        let p = v.times a.event.time in
        let r = premise_event log p v a.event.happening (every_member (HappensIn log v) s.events a.event a.stands h.events) a.found.place f a.found.there in
        let there = subst (λ (j : ℕ). AtPosition log (v.times j) (step r.0 r.1 r.2)) (sym a.found.time) r.3 in
        let from_zero = a.found.premise in
        let same : a.found.place ≡ place = omega (arith, from_zero) in
        let here : AtPlace r.1.premises place (fact_at v.terms f) = subst (λ (k : ℕ). AtPlace r.1.premises k (fact_at v.terms f)) same r.4 in
        record {
          rule = r.0;
          facts = r.1;
          sources = r.2;
          there = there;
          sent = input_sent theory reserved log is (v.times i) r.0 r.1 r.2 there place (fact_at v.terms f) here a.found.is_input;
        }

    same_message : (w : Takes) → w.sent.message ≡ valued v.terms m
    same_message w =
        let is_sent = w.sent.is in
        let args = a.found.args in
        let one : more (valued v.terms m) none ≡ more w.sent.message none = ap (valued_all v.terms) (sym args) ∙ ap (λ (x : Fact ⊥). x.args) is_sent in
        cc

    solved : (w : Takes) → Solves theory log (timed s.next w.sent.position v) (with_sending s a.input)
    solved w =
        let q = w.sent.position in
        let u = timed s.next q v in
        let waits = awaiting_solved s n i time_in place zero theory log v h q w.sent.earlier w.rule w.facts w.sources w.there w.sent.named in
        let here : AtPosition log q (send (valued v.terms m)) = subst (λ (x : Ground). AtPosition log q (send x)) (same_message w) w.sent.there in
        let here_too = subst (λ (x : ℕ). AtPosition log x (send (valued v.terms m))) (sym (timed_new s.next q v)) here in
        let sends : HappensIn log u new = subst (λ (terms : Values). AtPosition log (u.times s.next) (send (valued terms m)))
        (sym (timed_terms s.next q v)) here_too in
        events_solve theory log u (awaiting s i place zero) waits (s.events ++ new ∷ []) (found_behind u s.events (new ∷ []))
        (every_append (HappensIn log u) s.events (new ∷ []) waits.events (sends, tt))

  pub send_input_covers : (theory : Theory) → Every LeavesReserved theory.rules → Covers theory s (t ∷ [])
  send_input_covers theory reserved = record {
    covers = λ log is v h none.
        let w = takes theory reserved log is v h in
        let q = w.sent.position in
        none.0 (timed s.next q v) (timed_agrees s.next q v) (subst (Solves theory log (timed s.next q v)) (sym a.is) (solved theory reserved log is v h w));
  }
