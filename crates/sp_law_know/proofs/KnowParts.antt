-- A learning in some way, and parts that are learnt before it: each of them by a new event.
use Rattle.std.proofs.Common.{◌<◌, ℕ, [], ◌∷◌, length, sym, subst, le_refl, arith, suc, ◌≡◌}
use Rattle.sp_spec.specs.Lists.{AtPosition}
use Rattle.sp_spec.specs.Term.{Names, Variable, Term, Terms, none, more, Ground, Grounds, AllMadeOf, valued_all}
use Rattle.sp_spec.specs.Theory.{Theory}
use Rattle.sp_spec.specs.Log.{Log, How, learn, IsLog}
use Rattle.sp_spec.proofs.Lists.{position_one}
use Rattle.sp_spec_system.specs.System.{Way, anyhow, learning, System, with_pairs}
use Rattle.sp_spec_system.specs.Solutions.{Valuation, IsWayOf, Solves}
use Rattle.sp_spec_system.specs.Numbered.{InWay, IsNumbered}
use Rattle.sp_spec_system.specs.Covering.{Agrees}
use Rattle.sp_spec_system.specs.MakingOne.{learnt_by_at}
use Rattle.sp_law_system.proofs.Facts.{valued_all_same}
use Rattle.sp_law_system.proofs.LearntBy.{IsWayAt, learnt_by_at_happens, learnt_by_at_numbered}
use Rattle.sp_law_equal.proofs.Made.{each_weaken_all}
use Rattle.sp_law_system.proofs.Solutions.{Under, TimeUnder, agrees_itself, agrees_then}
use Rattle.sp_law_formula.proofs.MergedKept.{learnt_found}
use Rattle.sp_law_system.proofs.With.{events_solve, events_numbered}
use Rattle.sp_law_formula.proofs.Merged.{Later}
use Rattle.sp_spec_know.specs.Know.{with_way, with_learnings}
use Rattle.sp_spec_know.specs.Learning.{with_event}
use Rattle.sp_law_know.proofs.Learnt.{AreLearntBefore}
use Rattle.sp_law_know.proofs.Learning.{SolvedLater, newly_numbered, newly_solved}
use Rattle.sp_law_graph.proofs.Waiting.{timed, timed_agrees}

-- ---- the way of a learning

-- an entry that learns in that way does so however it is looked at
pub way_at : (log : Log) (p : ℕ) (v : Valuation) (way : Way) (m : Ground) (how : How) → AtPosition log p (learn m how) → IsWayOf v way how → IsWayAt log p v way
way_at log p v way m how there is n other found =
    let one : learn m how ≡ learn n other = position_one log p (learn m how) (learn n other) there found in
    let same : how ≡ other = cc in
    subst (IsWayOf v way) same is

module _ (s : System) (i : ℕ) (way : Way) where
  pub way_numbered : {N : Names} → IsNumbered N s → InWay N (Under s.next) (TimeUnder s.next) way → IsNumbered N (with_way s i way)
  way_numbered {N} n w = events_numbered s n (learnt_by_at i way s.events) (learnt_by_at_numbered N (Under s.next) (TimeUnder s.next) i way w s.events n.events)

  pub way_solved : (theory : Theory) (log : Log) (v : Valuation) → IsWayAt log (v.times i) v way → Solves theory log v s
      → Solves theory log v (with_way s i way)
  way_solved theory log v is h = events_solve theory log v s h (learnt_by_at i way s.events) (learnt_found v i way s.events) (learnt_by_at_happens log v i way is s.events h.events)

-- ---- the parts

-- what was learnt before a time was so under values that agree with these
pub still_learnt : (N : Names) (log : Log) (n i : ℕ) (v w : Valuation) → Agrees n v w → i < n → (ts : Terms Variable) → AllMadeOf N (Under n) ts
    → AreLearntBefore log (v.times i) (valued_all v.terms ts) → AreLearntBefore log (w.times i) (valued_all w.terms ts)
still_learnt N log n i v w agrees i_under ts under known =
    let same = valued_all_same N w.terms v.terms ts (each_weaken_all N (Under n) _ agrees.terms ts under) in
    subst (λ (us : Grounds). AreLearntBefore log (w.times i) us) (sym same)
    (subst (λ (p : ℕ). AreLearntBefore log p (valued_all v.terms ts)) (sym (agrees.times i i_under)) known)

-- one of them is learnt
abbrev with_part : ℕ → System → Term Variable → System
with_part i s t = with_event (with_pairs s ((s.next, i) ∷ [])) (learning t anyhow)

module _ {N : Names} (i : ℕ) where
  pub learnings_numbered : (ts : Terms Variable) (s : System) → IsNumbered N s → AllMadeOf N (Under s.next) ts → i < s.next
      → Later N s.next (with_learnings i ts s)
  learnings_numbered none s n under i_under = (n, le_refl s.next)
  learnings_numbered (more t ts) s n under i_under =
      let next = suc s.next in
      let wide = each_weaken_all N (Under s.next) (Under next) (λ x k. omega (arith, k)) ts under.1 in
      let rest = learnings_numbered ts (with_part i s t) (newly_numbered s n t under.0 i i_under) wide (omega (arith, i_under)) in
      let le = rest.1 in
      (rest.0, omega (arith, le))

  pub learnings_solved : (theory : Theory) (log : Log) → IsLog theory log → (ts : Terms Variable) (s : System) → IsNumbered N s → AllMadeOf N (Under s.next) ts
      → i < s.next
      → (v : Valuation) → Solves theory log v s → AreLearntBefore log (v.times i) (valued_all v.terms ts) → v.times i < length log
      → SolvedLater theory log s.next v (with_learnings i ts s)
  learnings_solved theory log is none s n under i_under v h known below = (v, agrees_itself s.next v, h)
  learnings_solved theory log is (more t ts) s n under i_under v h known below =
      let first = known.0 in
      let next = suc s.next in
      let w = timed s.next first.0 v in
      let agrees : Agrees s.next v w = timed_agrees s.next first.0 v in
      let new : Solves theory log w (with_part i s t) =
      newly_solved s n t under.0 i i_under theory log is v h first.0 first.1 first.2 first.3 below in
      let wide = each_weaken_all N (Under s.next) (Under next) (λ x k. omega (arith, k)) ts under.1 in
      let rest = learnings_solved theory log is ts (with_part i s t) (newly_numbered s n t under.0 i i_under) wide (omega (arith, i_under)) w new
      (still_learnt N log s.next i v w agrees i_under ts under.1 known.1) (subst (λ (p : ℕ). p < length log) (sym (agrees.times i i_under)) below) in
      (rest.0, agrees_then s.next next v w rest.0 (omega arith) agrees rest.1, rest.2)
