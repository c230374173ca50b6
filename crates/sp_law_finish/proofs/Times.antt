-- Of two times of a decided system one is before the other, and where an action is to happen it has an event.
use Rattle.std.proofs.Common.{◌≡◌, ◌⊎◌, ⊎_elim, ◌<◌, ℕ, ◌==◌, nat_lt, true, false, not, ◌&&◌, ◌||◌, List, [], ◌∷◌, length, map, flat_map, inl, inr, refl, ap, subst, arith}
use Rattle.std.proofs.lemmas.Bool.{eqb-true, eq-eqb, lt-ltb, or_cases, cases_order, false_from_ne_true}
use Rattle.sp_spec.specs.Lists.{Member}
use Rattle.sp_spec.specs.Rule.{Action}
use Rattle.sp_spec.specs.Theory.{Theory}
use Rattle.sp_spec.specs.Guarded.{Place, Guarded, holds, acts, free_time}
use Rattle.sp_spec.specs.Log.{Log, step}
use Rattle.sp_spec.proofs.Lists.{every_member, member_left, member_right, member_either, member_mapped, position_below}
use Rattle.sp_spec_system.specs.System.{Event, Link, System}
use Rattle.sp_spec_system.specs.Order.{is_before}
use Rattle.sp_spec_system.specs.Occurring.{each_term, in_formula, times_read, event_times, times_in, has_time}
use Rattle.sp_spec_system.specs.Solutions.{Valuation, LinkHolds, FormulaHolds, Solves}
use Rattle.sp_spec_system.specs.Move.{compare, Context}
use Rattle.sp_spec_formula.specs.Induction.{is_empty}
use Rattle.sp_spec_graph.specs.Compare.{are_comparable}
use Rattle.sp_spec_proof.specs.Deciding.{counted, comparisons}
use Rattle.sp_spec_proof.specs.Finish.{is_decided}
use Rattle.sp_spec_proof.specs.Kinds.{of_rank}
use Rattle.sp_law_system.specs.Proofs.{IsWellMade}
use Rattle.sp_law_system.proofs.Solutions.{TimeUnder}
use Rattle.sp_law_forms.proofs.Lists.{member_flat_map, any_passes}
use Rattle.sp_law_formula.proofs.InOrder.{before_later}
use Rattle.sp_law_decided.specs.Decided.{told_times}
use Rattle.sp_law_progress.proofs.Occurring.{times_under}
use Rattle.sp_law_finish.proofs.Moves.{is_closed, none_decides, never, rest_fails, not_fails}
use Rattle.sp_law_finish.proofs.Pairs.{two_there, counted_front}

-- ---- the times that stand in a system

module _ (s : System) where
  event_time : (i : ℕ) → Member i (flat_map event_times s.events) → Member i (times_in s)
  event_time i m = member_left i (flat_map event_times s.events) _ m

  formula_time : (f : Guarded) (i : ℕ) → Member f s.formulas → Member i (in_formula times_read f) → Member i (times_in s)
  formula_time f i m k =
      member_right i (flat_map event_times s.events) _
      (member_left i (flat_map (in_formula times_read) s.formulas) _ (member_flat_map (in_formula times_read) f i s.formulas m k))

  link_time : (l : Link) → Member l s.links → Member l.from (times_in s)
  link_time l m =
      let ends : Link → List ℕ = λ (k : Link). k.from ∷ k.to ∷ [] in
      member_right l.from (flat_map event_times s.events) _
      (member_right l.from (flat_map (in_formula times_read) s.formulas) _
      (member_right l.from (flat_map (in_formula times_read) s.spent) _
      (member_left l.from (flat_map ends s.links) _ (member_flat_map ends l l.from s.links m (inl refl)))))

  -- those of which a log tells are among them
  told_stand : (i : ℕ) → Member i (told_times s) → Member i (times_in s)
  told_stand i m =
      ⊎_elim (event_time i)
      (λ k. let r = member_mapped (λ (l : Link). l.from) i s.links k in subst (λ (j : ℕ). Member j (times_in s)) r.2 (link_time r.0 r.1))
      (member_either i (flat_map event_times s.events) (map (λ (l : Link). l.from) s.links) m)

  stands : (i : ℕ) → Member i (times_in s) → has_time i s ≡ true
  stands i m = any_passes (λ (j : ℕ). j == i) i (times_in s) m (eq-eqb i i refl)

not_empty : (d : Event) (events : List Event) → not (is_empty (d ∷ events)) ≡ true
not_empty d events = ap not (false_from_ne_true (is_empty (d ∷ events)) (λ h. let none = eqb-true (length (d ∷ events)) 0 h in omega (arith, none)))

some_event : (events : List Event) (d : Event) → Member d events → not (is_empty events) ≡ true
some_event [] d m = absurd m
some_event (x ∷ events) d m = not_empty x events

-- ---- those of a decided system

module _ (context : Context) (s : System) (e : is_decided context s ≡ true) (made : IsWellMade context s) where
  -- of two times, the lower number first
  ordered : not (is_empty s.events) ≡ true → (i j : ℕ) → Member i (times_in s) → Member j (times_in s) → i < j → (is_before s.order i j ≡ true) ⊎ (is_before s.order j i ≡ true)
  ordered peopled i j m k less =
      let is_under = every_member (TimeUnder s.next) (times_in s) j k (times_under s made.numbered) in
      let before_or = is_before s.order i j || is_before s.order j i in
      let among = two_there (λ a b. compare a b ∷ []) i j (counted 0 s.next) (counted_front 0 s.next i j (omega arith) less (omega (arith, is_under))) (compare i j) (inl refl) in
      let none : are_comparable s i j ≡ false = never (are_comparable s i j) _ (none_decides context s e (of_rank 12 comparisons) (inr (inl refl)) (compare i j) among) in
      let with_times = rest_fails (not (is_empty s.events)) (nat_lt i j && (has_time i s && (has_time j s && not before_or))) peopled none in
      let first = rest_fails (nat_lt i j) (has_time i s && (has_time j s && not before_or)) (lt-ltb i j less) with_times in
      let second = rest_fails (has_time i s) (has_time j s && not before_or) (stands s i m) first in
      or_cases (is_before s.order i j) (is_before s.order j i) (not_fails before_or (rest_fails (has_time j s) (not before_or) (stands s j k) second))

  both_ordered : not (is_empty s.events) ≡ true → (i j : ℕ) → Member i (times_in s) → Member j (times_in s)
      → (i ≡ j) ⊎ ((is_before s.order i j ≡ true) ⊎ (is_before s.order j i ≡ true))
  both_ordered peopled i j m k =
      ⊎_elim (λ one. inl one)
      (λ apart. inr (⊎_elim (ordered peopled i j m k) (λ l. ⊎_elim (λ b. inr b) (λ b. inl b) (ordered peopled j i k m l)) apart))
      (cases_order i j)

  module _ (theory : Theory) (log : Log) (v : Valuation) (solves : Solves theory log v s) where
    -- each position is that of an event
    event_there : (p : ℕ) → p < length log → (d : Event) × Member d s.events × (v.times d.time ≡ p)
    event_there p below = solves.closed (is_closed context s e) p below

    peopled_below : (p : ℕ) → p < length log → not (is_empty s.events) ≡ true
    peopled_below p below = let d = event_there p below in some_event s.events d.0 d.1

    of_events : (events : List Event) (i : ℕ) → Member i (flat_map event_times events) → not (is_empty events) ≡ true
    of_events [] i m = absurd m
    of_events (x ∷ events) i m = not_empty x events

    -- where a log tells of a time there is an event
    peopled_by : (i : ℕ) → Member i (told_times s) → not (is_empty s.events) ≡ true
    peopled_by i m =
        ⊎_elim (of_events s.events i)
        (λ k.
        let r = member_mapped (λ (l : Link). l.from) i s.links k in
        let h = every_member (LinkHolds log v) s.links r.0 r.1 solves.links in
        peopled_below (v.times r.0.to) (position_below log (v.times r.0.to) (step h.0 h.1 h.2) h.3))
        (member_either i (flat_map event_times s.events) (map (λ (l : Link). l.from) s.links) m)

    pub compared : (i j : ℕ) → Member i (told_times s) → Member j (told_times s) → (i ≡ j → ⊥) → (is_before s.order i j ≡ true) ⊎ (is_before s.order j i ≡ true)
    compared i j m k apart =
        ⊎_elim (λ one. absurd (apart one)) (λ b. b) (both_ordered (peopled_by i m) i j (told_stand s i m) (told_stand s j k))

    -- An event at the position of an action's time is at this time.
    pub placed : (a : Action Place) (i : ℕ) → Member (holds (acts a (free_time i))) s.formulas → (d : Event) × Member d s.events × (d.time ≡ i)
    placed a i m =
        let f = holds (acts a (free_time i)) in
        let h = every_member (FormulaHolds theory log v) s.formulas f m solves.formulas in
        let d = event_there (v.times i) h.1.1 in
        let less = before_later log v s.order solves.order in
        let one = d.2 in
        let stands_too = formula_time s f i m (member_right i (each_term times_read a.args) (i ∷ []) (inl refl)) in
        let own = event_time s d.0.time (member_flat_map event_times d.0 d.0.time s.events d.1 (inl refl)) in (
          d.0,
          d.1,
          ⊎_elim (λ same. same)
              (λ apart. absurd (⊎_elim (λ b. let l = less d.0.time i b in omega (arith, l, one)) (λ b. let l = less i d.0.time b in omega (arith, l, one)) apart))
              (both_ordered (peopled_below (v.times i) h.1.1) d.0.time i own stands_too),
        )
