-- The move on two times: they are positions of the log, of which one is the smaller, or they are one. The system has an event, so that the empty log is no solution.
use Rattle.std.proofs.Common.{◌≡◌, ◌⊎◌, ◌<◌, ◌&&◌, ◌||◌, ◌==◌, not, nat_lt, ℕ, true, List, [], ◌∷◌, ◌++◌, length, Some, codes, refl, sym, subst, inl, inr, le_refl, arith}
use Rattle.std.proofs.lemmas.Bool.{and_parts, eqb-true, cases_order}
use Rattle.sp_spec.specs.Lists.{Every, Member}
use Rattle.sp_spec.specs.Term.{Names}
use Rattle.sp_spec.specs.Theory.{Theory}
use Rattle.sp_spec.specs.Guarded.{free_time, same_time, holds}
use Rattle.sp_spec.specs.Log.{Log, IsLog}
use Rattle.sp_spec.proofs.Lists.{every_append, every_member}
use Rattle.sp_spec.proofs.Options.{if_some, some_same}
use Rattle.sp_spec_system.specs.System.{Event, System, with_pairs}
use Rattle.sp_spec_system.specs.Order.{is_before}
use Rattle.sp_spec_system.specs.Occurring.{times_in, has_time}
use Rattle.sp_spec_system.specs.Solutions.{Valuation, HappensIn, IsBefore, Solves}
use Rattle.sp_spec_system.specs.Numbered.{HappenOnce, IsNumbered}
use Rattle.sp_spec_system.specs.Covering.{NoneSolved, Covers}
use Rattle.sp_spec_system.specs.Move.{Case, Context, systems_in}
use Rattle.sp_spec_formula.specs.Induction.{is_empty}
use Rattle.sp_spec_formula.specs.Instantiate.{with_formula}
use Rattle.sp_spec_graph.specs.Compare.{are_comparable, compare_cases}
use Rattle.sp_law_system.specs.Proofs.{IsWellMade, IsKept}
use Rattle.sp_law_system.proofs.Solutions.{TimeUnder, agrees_itself}
use Rattle.sp_law_system.proofs.With.{BothUnder, order_solves, order_numbered}
use Rattle.sp_law_formula.proofs.Entries.{happened}
use Rattle.sp_law_formula.proofs.Merged.{Later}
use Rattle.sp_law_graph.proofs.Once.{IsOnce}
use Rattle.sp_law_progress.proofs.Kept.{formula_solves, formula_numbered, each_kept}
use Rattle.sp_law_progress.proofs.Occurring.{some_passes, times_under}
use Rattle.sp_law_progress.proofs.Positions.{times_placed}

-- the empty log solves it by no values
abbrev pub NeedsEntries : Theory → System → Type 0
NeedsEntries theory s = (v : Valuation) → Solves theory [] v s → ⊥

-- so it is where it has an event
event_needs : (theory : Theory) (s : System) (e : Event) → Member e s.events → NeedsEntries theory s
event_needs theory s e m v h = let there = happened [] (v.times e.time) v e.happening (every_member (HappensIn [] v) s.events e m h.events) in there.1

some_needs : (theory : Theory) (s : System) (events : List Event) → s.events ≡ events → not (is_empty events) ≡ true → NeedsEntries theory s
some_needs theory s [] e h = absurd cc
some_needs theory s (event ∷ events) e h = event_needs theory s event (subst (λ (x : List Event). Member event x) (sym e) (inl refl))

-- what holds of each time of the system holds of one that stands there
time_has : (P : ℕ → Type 0) (s : System) (i : ℕ) → has_time i s ≡ true → Every P (times_in s) → P i
time_has P s i e h = let r = some_passes (λ j. j == i) P (times_in s) e h in subst P (eqb-true r.0 i r.1) r.2

-- its cases
abbrev pub compared : System → ℕ → ℕ → List Case
compared s i j =
    record { name = codes "before"; system = with_pairs s ((i, j) ∷ []) }
    ∷ record { name = codes "same"; system = with_formula s (holds (same_time (free_time i) (free_time j))) }
    ∷ record { name = codes "after"; system = with_pairs s ((j, i) ∷ []) } ∷ []

-- What the move asks.
record IsAsked (s : System) (i j : ℕ) (cs : List Case) : Type 0 where
  pub peopled : not (is_empty s.events) ≡ true
  pub first : has_time i s ≡ true
  pub second : has_time j s ≡ true
  pub cases : cs ≡ compared s i j

is_asked : (s : System) (i j : ℕ) (cs : List Case) → compare_cases s i j ≡ Some cs → IsAsked s i j cs
is_asked s i j cs e =
    let r = if_some (are_comparable s i j) (Some (compared s i j)) cs e in
    let apart = not (is_before s.order i j || is_before s.order j i) in
    let p = and_parts (not (is_empty s.events)) (nat_lt i j && (has_time i s && (has_time j s && apart))) r.0 in
    let a = and_parts (nat_lt i j) (has_time i s && (has_time j s && apart)) p.1 in
    let b = and_parts (has_time i s) (has_time j s && apart) a.1 in
    let c = and_parts (has_time j s) apart b.1 in
    record { peopled = p.0; first = b.0; second = c.0; cases = some_same (compared s i j) cs r.1 }

module _ (s : System) (i j : ℕ) (cs : List Case) (e : compare_cases s i j ≡ Some cs) where
  -- its cases keep the numbers
  pub compare_numbered : {N : Names} → IsNumbered N s → Every (Later N s.next) (systems_in cs)
  compare_numbered {N} n =
      let a = is_asked s i j cs e in
      let iu = time_has (TimeUnder s.next) s i a.first (times_under s n) in
      let ju = time_has (TimeUnder s.next) s j a.second (times_under s n) in
      let pair_numbered : (p : ℕ × ℕ) → BothUnder s.next p → Later N s.next (with_pairs s (p ∷ [])) =
      λ p u. (order_numbered s n (s.order ++ p ∷ []) (every_append (BothUnder s.next) s.order (p ∷ []) n.order (u, tt)), le_refl s.next) in
      subst (λ (x : List Case). Every (Later N s.next) (systems_in x)) (sym a.cases)
      (pair_numbered (i, j) (iu, ju), (formula_numbered s n (holds (same_time (free_time i) (free_time j))) (iu, ju), (pair_numbered (j, i) (ju, iu), tt)))

  module _ (theory : Theory) where
    -- the positions are in order, or one
    in_order : (log : Log) (v : Valuation) → Solves theory log v s → v.times i < length log → v.times j < length log → NoneSolved theory log v s.next (systems_in (compared s i j))
        → (v.times i ≡ v.times j) ⊎ ((v.times i < v.times j) ⊎ (v.times j < v.times i)) → ⊥
    in_order log v h ip jp none (inl one) = none.1.0 v (agrees_itself s.next v) (formula_solves theory log v s h (holds (same_time (free_time i) (free_time j))) ((λ differ. differ one), (ip, jp)))
    in_order log v h ip jp none (inr (inl less)) =
        none.0 v (agrees_itself s.next v) (order_solves theory log v s h (s.order ++ (i, j) ∷ []) (every_append (IsBefore log v) s.order ((i, j) ∷ []) h.order ((less, jp), tt)))
    in_order log v h ip jp none (inr (inr greater)) =
        none.1.1.0 v (agrees_itself s.next v) (order_solves theory log v s h (s.order ++ (j, i) ∷ []) (every_append (IsBefore log v) s.order ((j, i) ∷ []) h.order ((greater, ip), tt)))

    -- It covers.
    pub compare_covers : Covers theory s (systems_in cs)
    compare_covers = record { covers = λ log is v h none. by_log log is v h (subst (λ (x : List Case). NoneSolved theory log v s.next (systems_in x)) (is_asked s i j cs e).cases none) }
      where
        by_log : (log : Log) → IsLog theory log → (v : Valuation) → Solves theory log v s → NoneSolved theory log v s.next (systems_in (compared s i j)) → ⊥
        by_log [] is v h none = some_needs theory s s.events refl (is_asked s i j cs e).peopled v h
        by_log (entry ∷ past) is v h none =
            let log : Log = entry ∷ past in
            let placed = times_placed theory log is v (omega arith) s h in
            let a = is_asked s i j cs e in
            in_order log v h (time_has (λ (k : ℕ). v.times k < length log) s i a.first placed) (time_has (λ (k : ℕ). v.times k < length log) s j a.second placed) none
            (cases_order (v.times i) (v.times j))

-- No two events of a case have one time.
pub compare_once : (s : System) (i j : ℕ) (cs : List Case) → compare_cases s i j ≡ Some cs → HappenOnce s.events → Every IsOnce (systems_in cs)
compare_once s i j cs e once = subst (λ (x : List Case). Every IsOnce (systems_in x)) (sym (is_asked s i j cs e).cases) (once, (once, (once, tt)))

-- It keeps what systems of a proof fulfil.
pub compare_kept : (context : Context) (s : System) (i j : ℕ) (cs : List Case) → compare_cases s i j ≡ Some cs → IsWellMade context s → Every (IsKept context s) (systems_in cs)
compare_kept context s i j cs e made = each_kept context s (systems_in cs) (compare_numbered s i j cs e made.numbered) (compare_once s i j cs e made.once)
