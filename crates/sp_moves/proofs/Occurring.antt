-- A time occurs in a system where it occurs in one of its parts.
use Rattle.std.proofs.Common.{◌≡◌, ℕ, ◌==◌, Bool, ◌||◌, List, [], ◌∷◌, ◌++◌, Option, Some, None, refl, ap, ap₂, ◌∙◌}
use Rattle.std.specs.Prelude.{flat_map}
use Rattle.std.specs.List.{list_any}
use Rattle.std.proofs.Math.Bool.{or-false}
use Rattle.std.proofs.lemmas.List.Folds.{list_any-append}
use Rattle.sp_spec.specs.Term.{Terms, none, more}
use Rattle.sp_spec.specs.Guarded.{Place, Time, free_time, bound_time, Atom, acts, same, same_time, before, last, Guarded, truth, falsity, holds, fails, all_of, one_of, some, every, Guardeds, no_more, and_then, guardeds_of}
use Rattle.sp_spec_system.specs.System.{Way, anyhow, public_name, own_name, constructed, chain_begun, chain_done, Happening, rule_step, sending, learning, Event, Link, System}
use Rattle.sp_spec_system.specs.Occurring.{each_term, in_atom, in_formula, in_each, time_of, times_read, way_times, happening_times, event_times, last_times, has_time}
use Rattle.sp_moves.specs.Times.{is_time, atom_has, guard_has, formula_has, one_has, formulas_have, way_has, happening_has, event_has, events_have, links_have, order_has, is_last, some_part_has}

module _ (i : ℕ) where
  abbrev has : List ℕ → Bool
  has times = list_any (λ j. j == i) times

  both : (front back : List ℕ) (a b : Bool) → has front ≡ a → has back ≡ b → has (front ++ back) ≡ (a || b)
  both front back a b is later = list_any-append (λ j. j == i) front back ∙ ap₂ (λ (c d : Bool). c || d) is later

  pair : (j k : ℕ) → has (j ∷ k ∷ []) ≡ ((j == i) || (k == i))
  pair j k = ap (λ (b : Bool). (j == i) || b) (or-false (k == i))

  at_time : (t : Time) → has (time_of t) ≡ is_time i t
  at_time (free_time j) = or-false (j == i)
  at_time (bound_time k) = refl

  no_term : (ts : Terms Place) → each_term times_read ts ≡ []
  no_term none = refl
  no_term (more t ts) = no_term ts

  at_atom : (a : Atom) → has (in_atom times_read a) ≡ atom_has i a
  at_atom (acts a j) = ap (λ (ts : List ℕ). has (ts ++ time_of j)) (no_term a.args) ∙ at_time j
  at_atom (same t u) = refl
  at_atom (same_time j k) = both (time_of j) (time_of k) (is_time i j) (is_time i k) (at_time j) (at_time k)
  at_atom (before j k) = both (time_of j) (time_of k) (is_time i j) (is_time i k) (at_time j) (at_time k)
  at_atom (last j) = at_time j

  at_guard : (guard : List Atom) → has (flat_map (in_atom times_read) guard) ≡ guard_has i guard
  at_guard [] = refl
  at_guard (a ∷ guard) = both (in_atom times_read a) (flat_map (in_atom times_read) guard) (atom_has i a) (guard_has i guard) (at_atom a) (at_guard guard)

  mutual
    at_formula : (f : Guarded) → has (in_formula times_read f) ≡ formula_has i f
    at_formula truth = refl
    at_formula falsity = refl
    at_formula (holds a) = at_atom a
    at_formula (fails a) = at_atom a
    at_formula (all_of fs) = at_each fs
    at_formula (one_of fs) = at_each fs
    at_formula (some bs guard f) =
        both (flat_map (in_atom times_read) guard) (in_formula times_read f) (guard_has i guard) (formula_has i f) (at_guard guard) (at_formula f)
    at_formula (every bs guard f) =
        both (flat_map (in_atom times_read) guard) (in_formula times_read f) (guard_has i guard) (formula_has i f) (at_guard guard) (at_formula f)

    at_each : (fs : Guardeds) → has (in_each times_read fs) ≡ one_has i fs
    at_each no_more = refl
    at_each (and_then f fs) = both (in_formula times_read f) (in_each times_read fs) (formula_has i f) (one_has i fs) (at_formula f) (at_each fs)

  at_formulas : (fs : List Guarded) → has (flat_map (in_formula times_read) fs) ≡ formulas_have i fs
  at_formulas [] = refl
  at_formulas (f ∷ fs) = both (in_formula times_read f) (flat_map (in_formula times_read) fs) (formula_has i f) (formulas_have i fs) (at_formula f) (at_formulas fs)

  at_way : (way : Way) → has (way_times way) ≡ way_has i way
  at_way anyhow = refl
  at_way public_name = refl
  at_way own_name = refl
  at_way constructed = refl
  at_way (chain_begun j k ts) = or-false (j == i)
  at_way (chain_done j k ts) = or-false (j == i)

  at_happening : (h : Happening) → has (happening_times h) ≡ happening_has i h
  at_happening (rule_step r facts) = refl
  at_happening (sending m) = refl
  at_happening (learning m way) = at_way way

  at_event : (e : Event) → has (event_times e) ≡ event_has i e
  at_event e = ap (λ (b : Bool). (e.time == i) || b) (at_happening e.happening)

  at_events : (es : List Event) → has (flat_map event_times es) ≡ events_have i es
  at_events [] = refl
  at_events (e ∷ es) = both (event_times e) (flat_map event_times es) (event_has i e) (events_have i es) (at_event e) (at_events es)

  at_links : (ls : List Link) → has (flat_map (λ (l : Link). l.from ∷ l.to ∷ []) ls) ≡ links_have i ls
  at_links [] = refl
  at_links (l ∷ ls) =
      both (l.from ∷ l.to ∷ []) (flat_map (λ (m : Link). m.from ∷ m.to ∷ []) ls) ((l.from == i) || (l.to == i)) (links_have i ls) (pair l.from l.to) (at_links ls)

  at_order : (ps : List (ℕ × ℕ)) → has (flat_map (λ (p : ℕ × ℕ). p.0 ∷ p.1 ∷ []) ps) ≡ order_has i ps
  at_order [] = refl
  at_order (p ∷ ps) =
      both (p.0 ∷ p.1 ∷ []) (flat_map (λ (q : ℕ × ℕ). q.0 ∷ q.1 ∷ []) ps) ((p.0 == i) || (p.1 == i)) (order_has i ps) (pair p.0 p.1) (at_order ps)

  at_last : (o : Option ℕ) → has (last_times o) ≡ is_last i o
  at_last None = refl
  at_last (Some j) = or-false (j == i)

  pub each_part : (s : System) → has_time i s ≡ some_part_has i s
  each_part s =
      both _ _ (events_have i s.events) _ (at_events s.events)
      (both _ _ (formulas_have i s.formulas) _ (at_formulas s.formulas)
      (both _ _ (formulas_have i s.spent) _ (at_formulas s.spent)
      (both _ _ (links_have i s.links) _ (at_links s.links)
      (both _ _ (order_has i s.order) _ (at_order s.order) (at_last s.last)))))

-- it occurs in one of the listed formulas
pub one_of_listed : (i : ℕ) (fs : List Guarded) → one_has i (guardeds_of fs) ≡ formulas_have i fs
one_of_listed i [] = refl
one_of_listed i (f ∷ fs) = ap (λ (b : Bool). formula_has i f || b) (one_of_listed i fs)
