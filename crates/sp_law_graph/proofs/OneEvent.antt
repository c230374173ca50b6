-- Two events that are one entry of each log: the row that makes the first such two one covers, and where it can't there is no solution.
use Rattle.std.proofs.Common.{◌≡◌, ◌≤◌, ◌&&◌, ℕ, Bool, true, List, [], ◌∷◌, Option, Some, None, option_map, option_and_then, is_none, refl, sym, ap, ◌∙◌, subst}
use Rattle.std.proofs.lemmas.Bool.{and_parts}
use Rattle.sp_spec.specs.Lists.{Every}
use Rattle.sp_spec.specs.Term.{Names}
use Rattle.sp_spec.specs.Theory.{Theory}
use Rattle.sp_spec.specs.Log.{Log, IsLog}
use Rattle.sp_spec.proofs.Lists.{every_both}
use Rattle.sp_spec.proofs.Options.{mapped, then_some}
use Rattle.sp_spec_system.specs.System.{Event, System}
use Rattle.sp_spec_system.specs.Solutions.{Valuation, HappensIn, Solves}
use Rattle.sp_spec_system.specs.Numbered.{InEvent, IsNumbered}
use Rattle.sp_spec_system.specs.Covering.{Covers}
use Rattle.sp_spec_system.specs.Picked.{first_two, some_two}
use Rattle.sp_spec_system.specs.MakingOne.{made_one}
use Rattle.sp_law_system.specs.Laws.{UnifierIsRight}
use Rattle.sp_law_system.proofs.Solutions.{Under, TimeUnder}
use Rattle.sp_law_system.proofs.With.{BothUnder}
use Rattle.sp_law_formula.proofs.OneCase.{covers_by_itself}
use Rattle.sp_law_formula.proofs.Merged.{SolvedBy, NumberedFrom}
use Rattle.sp_law_formula.proofs.MadeOne.{made_one_holds, made_one_numbered}
use Rattle.sp_law_formula.proofs.Equate.{not_none}
use Rattle.sp_law_graph.proofs.Two.{two_found, two_contradict}

abbrev pub times_of : Event × Event → ℕ × ℕ
times_of p = (p.0.time, p.1.time)

module _ (test : Event → Event → Bool) where
  -- the system in which the first two are one
  abbrev pub first_made_one : System → Option System
  first_made_one s = option_and_then (made_one s) (option_map times_of (first_two test s.events))

  -- the test holds of two that can't be made one
  abbrev pub stay_apart : System → Event → Event → Bool
  stay_apart s d e = test d e && is_none (made_one s (d.time, e.time))

  -- what holds of the times of the first two
  first_times : (P : Event → Type 0) (X : ℕ × ℕ → Type 0) (events : List Event) (p : ℕ × ℕ) → option_map times_of (first_two test events) ≡ Some p
      → Every P events
      → ((d e : Event) → test d e ≡ true → P d → P e → X (d.time, e.time)) → X p
  first_times P X events p e h gives =
      let r = mapped times_of (first_two test events) p e in
      let two = two_found test P events r.0 r.1 h in
      subst X (sym r.2) (gives r.0.0 r.0.1 two.0 two.1 two.2)

  module _ (N : Names) (right : UnifierIsRight) (theory : Theory)
      (one : (log : Log) → IsLog theory log → (v : Valuation) (d e : Event)
      → HappensIn log v d → HappensIn log v e → test d e ≡ true → v.times d.time ≡ v.times e.time) where
    times_in : (s : System) → IsNumbered N s → (p : ℕ × ℕ) → option_map times_of (first_two test s.events) ≡ Some p → BothUnder s.next p
    times_in s n p e = first_times (InEvent N (Under s.next) (TimeUnder s.next)) (BothUnder s.next) s.events p e n.events (λ d x k a b. (a.0, b.0))

    first_solved : (s : System) → IsNumbered N s → (log : Log) → IsLog theory log → (v : Valuation) → Solves theory log v s
        → (p : ℕ × ℕ) → option_map times_of (first_two test s.events) ≡ Some p → SolvedBy theory log v (made_one s p)
    first_solved s n log is v h p e =
        made_one_holds right s n theory log v h p (times_in s n p e)
        (first_times (HappensIn log v) (λ (q : ℕ × ℕ). v.times q.0 ≡ v.times q.1) s.events p e h.events (λ d x k a b. one log is v d x a b k))

    pub one_event_covers : (s t : System) → first_made_one s ≡ Some t → IsNumbered N s → Covers theory s (t ∷ [])
    one_event_covers s t e n =
        let q = then_some (made_one s) (option_map times_of (first_two test s.events)) t e in
        covers_by_itself theory s t (λ log is v h. subst (SolvedBy theory log v) q.2 (first_solved s n log is v h q.0 q.1))

    pub one_event_numbered : (s t : System) → first_made_one s ≡ Some t → IsNumbered N s → IsNumbered N t × (s.next ≤ t.next)
    one_event_numbered s t e n =
        let q = then_some (made_one s) (option_map times_of (first_two test s.events)) t e in
        subst (NumberedFrom N s.next) q.2 (made_one_numbered right s n q.0 (times_in s n q.0 q.1))

    -- Failing merge: any two can be made one.
    module _ (s : System) (n : IsNumbered N s) (log : Log) (is : IsLog theory log) (v : Valuation) (h : Solves theory log v s) where
      abbrev Stands : Event → Type 0
      Stands d = InEvent N (Under s.next) (TimeUnder s.next) d × HappensIn log v d

      two_stay : (d x : Event) → stay_apart s d x ≡ true → Stands d → Stands x → ⊥
      two_stay d x c a b =
          let both = and_parts (test d x) (is_none (made_one s (d.time, x.time))) c in
          let under : BothUnder s.next (d.time, x.time) = (a.0.0, b.0.0) in
          not_none theory log v (made_one s (d.time, x.time)) both.1
          (made_one_holds right s n theory log v h (d.time, x.time) under (one log is v d x a.1 b.1 both.0))

      pub apart_contradicts : some_two (stay_apart s) s.events ≡ true → ⊥
      apart_contradicts e =
          two_contradict (stay_apart s) Stands two_stay s.events e
          (every_both (InEvent N (Under s.next) (TimeUnder s.next)) (HappensIn log v) Stands (λ d i k. (i, k)) s.events n.events h.events)

    -- where the row gives nothing and there is a solution, no two are to be made one
    pub none_to_make : (s : System) → first_made_one s ≡ None → IsNumbered N s → (log : Log) → IsLog theory log → (v : Valuation) → Solves theory log v s
        → first_two test s.events ≡ None
    none_to_make s e n log is v h = at (first_two test s.events) refl
      where
        at : (o : Option (Event × Event)) → first_two test s.events ≡ o → o ≡ None
        at None k = refl
        at (Some q) k =
            let found : option_map times_of (first_two test s.events) ≡ Some (times_of q) = ap (option_map times_of) k in
            let nothing : made_one s (times_of q) ≡ None = sym (ap (option_and_then (made_one s)) found) ∙ e in
            absurd (subst (SolvedBy theory log v) nothing (first_solved s n log is v h (times_of q) found))
