-- Learn once: two events that learn one message are one entry of the log.
use Rattle.std.proofs.Common.{◌≡◌, ◌≤◌, ℕ, true, [], ◌∷◌, Some, None}
use Rattle.sp_spec.specs.Term.{Names, valued}
use Rattle.sp_spec.specs.Theory.{Theory}
use Rattle.sp_spec.specs.Log.{Log, IsLog}
use Rattle.sp_spec_system.specs.System.{Happening, rule_step, sending, learning, Event, System}
use Rattle.sp_spec_system.specs.Solutions.{Valuation, HappensAt, HappensIn, Solves}
use Rattle.sp_spec_system.specs.Numbered.{IsNumbered}
use Rattle.sp_spec_system.specs.Covering.{Covers}
use Rattle.sp_spec_system.specs.Picked.{first_two}
use Rattle.sp_law_system.specs.Laws.{UnifierIsRight}
use Rattle.sp_spec_know.specs.LearnOnce.{learn_one, learn_same, learn_once, fails_to_learn}
use Rattle.sp_law_know.proofs.Learnt.{learnt_at_one}
use Rattle.sp_law_know.proofs.Learning.{learning_learns}
use Rattle.sp_law_graph.proofs.OneEvent.{one_event_covers, one_event_numbered, apart_contradicts, none_to_make}

module _ (theory : Theory) (log : Log) (is : IsLog theory log) (v : Valuation) where
  one_learning : (p q : ℕ) (a b : Happening) → HappensAt log p v a → HappensAt log q v b → learn_one a b ≡ true → p ≡ q
  one_learning p q (learning m way) b h k e =
      let other = learning_learns log v q m b e k in learnt_at_one theory log is p q (valued v.terms m) h.0 other.0 h.1 other.1
  one_learning p q (sending m) b h k e = absurd cc
  one_learning p q (rule_step r facts) b h k e = absurd cc

  one_event : (d e : Event) → HappensIn log v d → HappensIn log v e → learn_same d e ≡ true → v.times d.time ≡ v.times e.time
  one_event d e h k s = one_learning (v.times d.time) (v.times e.time) d.happening e.happening h k s

module _ (N : Names) (right : UnifierIsRight) (theory : Theory) where
  pub learn_once_covers : (s t : System) → learn_once s ≡ Some t → IsNumbered N s → Covers theory s (t ∷ [])
  learn_once_covers = one_event_covers learn_same N right theory (one_event theory)

  pub learn_once_numbered : (s t : System) → learn_once s ≡ Some t → IsNumbered N s → IsNumbered N t × (s.next ≤ t.next)
  learn_once_numbered = one_event_numbered learn_same N right theory (one_event theory)

  -- Failing merge: any two events that learn one message are one.
  pub learning_contradicts : (s : System) → fails_to_learn s ≡ true → IsNumbered N s → (log : Log) → IsLog theory log → (v : Valuation) → Solves theory log v s
      → ⊥
  learning_contradicts s e n log is v h = apart_contradicts learn_same N right theory (one_event theory) s n log is v h e

  -- where the row gives nothing, no two learn one message
  pub each_learns_another : (s : System) → learn_once s ≡ None → IsNumbered N s → (log : Log) → IsLog theory log → (v : Valuation) → Solves theory log v s
      → first_two learn_same s.events ≡ None
  each_learns_another = none_to_make learn_same N right theory (one_event theory)
