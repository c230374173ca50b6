-- Two times at one position can be made one, with the events at them, and the system in which they are has the same solution.
use Rattle.std.proofs.Common.{◌≡◌, ◌≤◌, ◌+◌, ℕ, zero, suc, true, ◌&&◌, nat_eq, List, [], ◌∷◌, ◌++◌, map, length, Option, Some, None, option_map, option_and_then, refl, sym, ap, ◌∙◌, subst, ⊎_elim, arith, le_refl}
use Rattle.std.proofs.lemmas.Bool.{or_cases, and_parts, eqb-true}
use Rattle.std.proofs.lemmas.List.{length-append}
use Rattle.sp_spec.specs.Lists.{Every}
use Rattle.sp_spec.specs.Term.{Names}
use Rattle.sp_spec.specs.Theory.{Theory}
use Rattle.sp_spec.specs.Log.{Log}
use Rattle.sp_spec.specs.Substitution.{Binding, bound_to}
use Rattle.sp_spec.specs.Unifier.{Pair, MakesSame, mgu}
use Rattle.sp_spec_system.specs.System.{Event, System, with_events}
use Rattle.sp_spec_system.specs.Solutions.{Valuation, HappensIn, Solves}
use Rattle.sp_spec_system.specs.Numbered.{InEvent, IsNumbered}
use Rattle.sp_spec_system.specs.Equating.{Merging, merging, event_changed, order_changed, system_changed}
use Rattle.sp_spec_system.specs.MakingOne.{MergingEvents, merging_events, at_times, learnt_by_at, one_time, with_one_time, Joining, joined, with_times, turn, all_joined, unified, made_one}
use Rattle.sp_spec.proofs.Lists.{every_append, every_map, length_map}
use Rattle.sp_law_system.specs.Laws.{UnifierIsRight, PairsUnder}
use Rattle.sp_law_system.proofs.Bindings.{Fixes-none}
use Rattle.sp_law_system.proofs.Unifying.{mgu_within}
use Rattle.sp_law_system.proofs.Merging.{same_append}
use Rattle.sp_law_system.proofs.WaysMerging.{MakesOne, MergingUnder}
use Rattle.sp_law_system.proofs.LearntBy.{learnt_by_at_happens, learnt_by_at_numbered, learnt_by_at_length}
use Rattle.sp_law_system.proofs.OneHappening.{AreMerged, one_happening, merging_under}
use Rattle.sp_law_system.proofs.Solutions.{Under, TimeUnder, change_solves, change_numbered}
use Rattle.sp_law_system.proofs.With.{BothUnder, events_solve, events_numbered}
use Rattle.sp_law_formula.proofs.MergedKept.{merging_found}
use Rattle.sp_law_formula.proofs.Merged.{AreMerging, merging_are, merging_fewer, respects, replaced_same, replaced_under, ThereIs, IfThere, then_there, then_if_there, SolvedBy, Later, NumberedFrom}

-- events at the two times are at one position where the times are
at_one : (v : Valuation) (i j : ℕ) → v.times i ≡ v.times j → (e d : Event) → at_times i j e d ≡ true → v.times e.time ≡ v.times d.time
at_one v i j one e d k =
    ⊎_elim
    (λ l. let both = and_parts (nat_eq e.time i) (nat_eq d.time j) l in ap v.times (eqb-true e.time i both.0) ∙ one ∙ ap v.times (sym (eqb-true d.time j both.1)))
    (λ l. let both = and_parts (nat_eq e.time j) (nat_eq d.time i) l in ap v.times (eqb-true e.time j both.0) ∙ sym one ∙ ap v.times (sym (eqb-true d.time i both.1)))
    (or_cases (nat_eq e.time i && nat_eq d.time j) (nat_eq e.time j && nat_eq d.time i) k)

-- the system in which all pairs are the same
module _ {N : Names} (right : UnifierIsRight) (s : System) (n : IsNumbered N s) (pairs : List Pair) where
  pub pairs_solved : (theory : Theory) (log : Log) (v : Valuation) → Solves theory log v s → MakesSame v.terms pairs
      → SolvedBy theory log v (option_map (λ bs. system_changed (bound_to bs) (λ i. i) s) (mgu pairs))
  pairs_solved theory log v h same = at (mgu pairs) refl
    where
      at : (o : Option (List Binding)) → mgu pairs ≡ o → SolvedBy theory log v (option_map (λ bs. system_changed (bound_to bs) (λ i. i) s) o)
      at None k = right.none pairs k v.terms (respects theory log v s h) same
      at (Some bs) k = change_solves N theory log v bs (right.fixes pairs bs k v.terms (respects theory log v s h) same) (λ i. i) (λ i. refl) s n h

  pub pairs_numbered : PairsUnder N s.next pairs → NumberedFrom N s.next (option_map (λ bs. system_changed (bound_to bs) (λ i. i) s) (mgu pairs))
  pairs_numbered u = at (mgu pairs) refl
    where
      at : (o : Option (List Binding)) → mgu pairs ≡ o → NumberedFrom N s.next (option_map (λ bs. system_changed (bound_to bs) (λ i. i) s) o)
      at None k = tt
      at (Some bs) k = (change_numbered N s.next bs (mgu_within N (Under s.next) pairs bs u k) (λ i. i) (λ i l. l) s refl n, le_refl s.next)

-- The numbers of what is joined stay below the same next one.
record IsJoined (N : Names) (limit : ℕ) (j : Joining) : Type 0 where
  numbered : IsNumbered N j.system
  next : j.system.next ≡ limit
  pairs : PairsUnder N j.system.next j.pairs
  times : Every (BothUnder j.system.next) j.times

-- It has the solution; and then so many turns are enough.
record IsSolved (theory : Theory) (log : Log) (v : Valuation) (j : Joining) : Type 0 where
  solves : Solves theory log v j.system
  same : MakesSame v.terms j.pairs
  one : MakesOne v j.times

abbrev SolvedIn : Theory → Log → Valuation → ℕ → Joining → Type 0
SolvedIn theory log v turns j = IsSolved theory log v j × (length j.times + length j.system.events ≤ turns)

abbrev pub joined_by : ℕ × ℕ → Joining → MergingEvents → Merging → Joining
joined_by p j r m = record {
  system = with_one_time p (with_events j.system (learnt_by_at r.first.time m.way r.others));
  pairs = j.pairs ++ m.pairs;
  times = map (order_changed (one_time p)) (j.times ++ m.times);
}

-- one turn
module _ {N : Names} (next : ℕ) (p : ℕ × ℕ) (j : Joining) (n : IsJoined N next j) (under : BothUnder j.system.next p) where
  one_time_numbered : (s : System) → s.next ≡ j.system.next → IsNumbered N s → IsNumbered N (with_one_time p s)
  one_time_numbered s e k = change_numbered N j.system.next [] (λ x l. l) (one_time p) (replaced_under j.system.next p.0 p.1 under.0 under.1) s e k

  times_under : (times : List (ℕ × ℕ)) → Every (BothUnder j.system.next) times → Every (BothUnder j.system.next) (map (order_changed (one_time p)) times)
  times_under times h =
      every_map (BothUnder j.system.next) (BothUnder j.system.next) (order_changed (one_time p))
      (λ q b. (replaced_under j.system.next p.0 p.1 under.0 under.1 q.0 b.0, replaced_under j.system.next p.0 p.1 under.0 under.1 q.1 b.1)) times h

  module _ (r : MergingEvents) (found : merging_events (at_times p.0 p.1) j.system.events ≡ Some r) where
    are_numbered : AreMerging (at_times p.0 p.1) (InEvent N (Under j.system.next) (TimeUnder j.system.next)) r
    are_numbered = merging_are (at_times p.0 p.1) (InEvent N (Under j.system.next) (TimeUnder j.system.next)) j.system.events r found n.numbered.events

    both_numbered : IfThere (IsJoined N next) (joined p j (Some r))
    both_numbered =
        at (merging r.first.happening r.second.happening)
        (merging_under N j.system.next r.first.happening r.second.happening are_numbered.first.1 are_numbered.second.1)
      where
        at : (o : Option Merging) → MergingUnder N j.system.next o → IfThere (IsJoined N next) (option_map (joined_by p j r) o)
        at None u = tt
        at (Some m) u =
            let events = learnt_by_at r.first.time m.way r.others in
            let inside = learnt_by_at_numbered N (Under j.system.next) (TimeUnder j.system.next) r.first.time m.way u.way r.others are_numbered.others in
            record {
              numbered = one_time_numbered (with_events j.system events) refl (events_numbered j.system n.numbered events inside);
              next = n.next;
              pairs = every_append _ j.pairs m.pairs n.pairs u.pairs;
              times = times_under (j.times ++ m.times) (every_append _ j.times m.times n.times u.times);
            }

  joined_numbered : (o : Option MergingEvents) → merging_events (at_times p.0 p.1) j.system.events ≡ o → IfThere (IsJoined N next) (joined p j o)
  joined_numbered None e = record { numbered = one_time_numbered j.system refl n.numbered; next = n.next; pairs = n.pairs; times = times_under j.times n.times }
  joined_numbered (Some r) e = both_numbered r e

  module _ (theory : Theory) (log : Log) (v : Valuation) (turns : ℕ) (h : SolvedIn theory log v turns j) (one : v.times p.0 ≡ v.times p.1) where
    one_time_solves : (s : System) → IsNumbered N s → Solves theory log v s → Solves theory log v (with_one_time p s)
    one_time_solves s m k = change_solves N theory log v [] (Fixes-none v.terms) (one_time p) (replaced_same v.times p.0 p.1 one) s m k

    times_one : (times : List (ℕ × ℕ)) → MakesOne v times → MakesOne v (map (order_changed (one_time p)) times)
    times_one times k =
        every_map _ _ (order_changed (one_time p)) (λ q b. replaced_same v.times p.0 p.1 one q.0 ∙ b ∙ sym (replaced_same v.times p.0 p.1 one q.1)) times k

    both_solved : (r : MergingEvents) → merging_events (at_times p.0 p.1) j.system.events ≡ Some r → ThereIs (SolvedIn theory log v turns) (joined p j (Some r))
    both_solved r found =
        let numbers = are_numbered r found in
        let events = merging_are (at_times p.0 p.1) (HappensIn log v) j.system.events r found h.0.solves.events in
        let m = one_happening N log v j.system.next (v.times r.first.time) (v.times r.second.time) r.first.happening r.second.happening
        (at_one v p.0 p.1 one r.first r.second events.one) events.first events.second numbers.first.1 numbers.second.1 in
        subst (λ (o : Option Merging). ThereIs (SolvedIn theory log v turns) (option_map (joined_by p j r) o)) (sym m.there) (at m events numbers)
      where
        at : (m : AreMerged log (v.times r.first.time) v (merging r.first.happening r.second.happening)) → AreMerging (at_times p.0 p.1) (HappensIn log v) r
            → AreMerging (at_times p.0 p.1) (InEvent N (Under j.system.next) (TimeUnder j.system.next)) r → SolvedIn theory log v turns (joined_by p j r m.by)
        at m events numbers =
            let left = learnt_by_at r.first.time m.by.way r.others in
            let under_all = merging_under N j.system.next r.first.happening r.second.happening numbers.first.1 numbers.second.1 in
            let u = subst (MergingUnder N j.system.next) m.there under_all in
            let inside = learnt_by_at_numbered N (Under j.system.next) (TimeUnder j.system.next) r.first.time m.by.way u.way r.others numbers.others in
            let here = learnt_by_at_happens log v r.first.time m.by.way m.way r.others events.others in
            let a = length_map (order_changed (one_time p)) (j.times ++ m.by.times) in
            let b = length-append j.times m.by.times in
            let c = length_map (event_changed (bound_to []) (one_time p)) left in
            let d = learnt_by_at_length r.first.time m.by.way r.others in
            let e = merging_fewer (at_times p.0 p.1) j.system.events r found in
            let f = m.short in
            let g = h.1 in
            let solved : IsSolved theory log v (joined_by p j r m.by) = record {
              solves = one_time_solves (with_events j.system left) (events_numbered j.system n.numbered left inside)
                  (events_solve theory log v j.system h.0.solves left
                  (merging_found v (at_times p.0 p.1) j.system.events r found (at_one v p.0 p.1 one r.first r.second events.one) r.first.time m.by.way) here);
              same = same_append v.terms j.pairs m.by.pairs h.0.same m.same;
              one = times_one (j.times ++ m.by.times) (every_append _ j.times m.by.times h.0.one m.times);
            } in
            (solved, omega (arith, a, b, c, d, e, f, g))

    joined_solved : (o : Option MergingEvents) → merging_events (at_times p.0 p.1) j.system.events ≡ o → ThereIs (SolvedIn theory log v turns) (joined p j o)
    joined_solved None e =
        let a = length_map (order_changed (one_time p)) j.times in
        let b = length_map (event_changed (bound_to []) (one_time p)) j.system.events in
        let g = h.1 in
        (record { solves = one_time_solves j.system n.numbered h.0.solves; same = h.0.same; one = times_one j.times h.0.one }, omega (arith, a, b, g))
    joined_solved (Some r) e = both_solved r e

-- all turns
module _ {N : Names} (next : ℕ) where
  all_numbered : (turns : ℕ) (j : Joining) → IsJoined N next j → IfThere (IsJoined N next) (all_joined turns j)
  all_numbered zero j n = at j.times refl
    where
      at : (times : List (ℕ × ℕ)) → j.times ≡ times → IfThere (IsJoined N next) (turn (λ k. None) j times)
      at [] e = n
      at (p ∷ times) e = none (joined p (with_times j times) (merging_events (at_times p.0 p.1) j.system.events))
        where
          none : (o : Option Joining) → IfThere (IsJoined N next) (option_and_then (λ k. None) o)
          none None = tt
          none (Some k) = tt
  all_numbered (suc turns) j n = at j.times refl (all_numbered turns)
    where
      at : (times : List (ℕ × ℕ)) → j.times ≡ times → ((k : Joining) → IsJoined N next k → IfThere (IsJoined N next) (all_joined turns k))
          → IfThere (IsJoined N next) (turn (all_joined turns) j times)
      at [] e later = n
      at (p ∷ times) e later =
          let under = subst (Every (BothUnder j.system.next)) e n.times in
          let rest : IsJoined N next (with_times j times) = record { numbered = n.numbered; next = n.next; pairs = n.pairs; times = under.1 } in
          then_if_there (IsJoined N next) (IsJoined N next) (all_joined turns)
          (joined p (with_times j times) (merging_events (at_times p.0 p.1) j.system.events))
          (joined_numbered next p (with_times j times) rest under.0 (merging_events (at_times p.0 p.1) j.system.events) refl) later

  module _ (theory : Theory) (log : Log) (v : Valuation) where
    all_solved : (turns : ℕ) (j : Joining) → IsJoined N next j → SolvedIn theory log v turns j → ThereIs (IsSolved theory log v) (all_joined turns j)
    all_solved zero j n h = at j.times refl
      where
        at : (times : List (ℕ × ℕ)) → j.times ≡ times → ThereIs (IsSolved theory log v) (turn (λ k. None) j times)
        at [] e = h.0
        at (p ∷ times) e = let a = ap (λ (xs : List (ℕ × ℕ)). length xs) e in let b = h.1 in absurd (omega (arith, a, b))
    all_solved (suc turns) j n h = at j.times refl (all_solved turns)
      where
        at : (times : List (ℕ × ℕ)) → j.times ≡ times
            → ((k : Joining) → IsJoined N next k → SolvedIn theory log v turns k → ThereIs (IsSolved theory log v) (all_joined turns k))
            → ThereIs (IsSolved theory log v) (turn (all_joined turns) j times)
        at [] e later = h.0
        at (p ∷ times) e later =
            let under = subst (Every (BothUnder j.system.next)) e n.times in
            let one = subst (MakesOne v) e h.0.one in
            let rest : IsJoined N next (with_times j times) = record { numbered = n.numbered; next = n.next; pairs = n.pairs; times = under.1 } in
            let solved : IsSolved theory log v (with_times j times) = record { solves = h.0.solves; same = h.0.same; one = one.1 } in
            let a = ap (λ (xs : List (ℕ × ℕ)). length xs) e in
            let b = h.1 in
            let fewer : length times + length j.system.events ≤ turns = omega (arith, a, b) in
            then_there (SolvedIn theory log v turns) (IsJoined N next) (IsSolved theory log v) (all_joined turns)
            (joined p (with_times j times) (merging_events (at_times p.0 p.1) j.system.events))
            (joined_solved next p (with_times j times) rest under.0 theory log v turns (solved, fewer) one.0 (merging_events (at_times p.0 p.1) j.system.events) refl)
            (joined_numbered next p (with_times j times) rest under.0 (merging_events (at_times p.0 p.1) j.system.events) refl)
            (λ k l m. later k m l)

module _ {N : Names} (right : UnifierIsRight) (s : System) (n : IsNumbered N s) where
  abbrev begun : ℕ × ℕ → Joining
  begun p = record { system = s; pairs = []; times = p ∷ [] }

  begun_numbered : (p : ℕ × ℕ) → BothUnder s.next p → IsJoined N s.next (begun p)
  begun_numbered p under = record { numbered = n; next = refl; pairs = tt; times = (under, tt) }

  -- where two times have one position, the system in which they are one has the same solution
  pub made_one_holds : (theory : Theory) (log : Log) (v : Valuation) → Solves theory log v s → (p : ℕ × ℕ) → BothUnder s.next p → v.times p.0 ≡ v.times p.1
      → SolvedBy theory log v (made_one s p)
  made_one_holds theory log v h p under one =
      then_there (IsSolved theory log v) (IsJoined N s.next) (Solves theory log v) unified (all_joined (suc (length s.events)) (begun p))
      (all_solved s.next theory log v (suc (length s.events)) (begun p) (begun_numbered p under)
      (record { solves = h; same = tt; one = (one, tt) }, omega arith))
      (all_numbered s.next (suc (length s.events)) (begun p) (begun_numbered p under))
      (λ j k m. pairs_solved right j.system m.numbered j.pairs theory log v k.solves k.same)

  pub made_one_numbered : (p : ℕ × ℕ) → BothUnder s.next p → NumberedFrom N s.next (made_one s p)
  made_one_numbered p under =
      then_if_there (IsJoined N s.next) (Later N s.next) unified (all_joined (suc (length s.events)) (begun p))
      (all_numbered s.next (suc (length s.events)) (begun p) (begun_numbered p under))
      (λ j m. subst (λ (k : ℕ). NumberedFrom N k (unified j)) m.next (pairs_numbered right j.system m.numbered j.pairs m.pairs))
