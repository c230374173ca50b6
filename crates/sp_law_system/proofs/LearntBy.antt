-- Another way in which something is learnt at a time: the events stay those of the log where the entry at that time learns in that way.
use Rattle.std.proofs.Common.{◌≡◌, ℕ, Bool, true, false, if◌then◌else◌, nat_eq, List, length, refl, sym, subst}
use Rattle.std.proofs.lemmas.Bool.{eqb-true}
use Rattle.sp_spec.specs.Lists.{Every, AtPosition}
use Rattle.sp_spec.specs.Term.{Names, Variable, Ground, valued}
use Rattle.sp_spec.specs.Log.{Log, How, learn}
use Rattle.sp_spec_system.specs.System.{Way, Happening, rule_step, sending, learning, Event}
use Rattle.sp_spec_system.specs.Solutions.{Valuation, IsWayOf, HappensAt, HappensIn}
use Rattle.sp_spec_system.specs.Numbered.{InWay, InHappening, InEvent}
use Rattle.sp_spec_system.specs.MakingOne.{happening_by, learnt_by_at}
use Rattle.sp_spec.proofs.Lists.{every_map, length_map}

-- what the entry learns, if it does, it learns in that way
abbrev pub IsWayAt : Log → ℕ → Valuation → Way → Type 0
IsWayAt log p v way = (m : Ground) (how : How) → AtPosition log p (learn m how) → IsWayOf v way how

happens_by : (log : Log) (p : ℕ) (v : Valuation) (way : Way) → IsWayAt log p v way → (h : Happening) → HappensAt log p v h
    → HappensAt log p v (happening_by way h)
happens_by log p v way is (rule_step r facts) k = k
happens_by log p v way is (sending m) k = k
happens_by log p v way is (learning m other) k = (k.0, k.1, is (valued v.terms m) k.0 k.1)

in_by : (N : Names) (P : Variable → Type 0) (Q : ℕ → Type 0) (way : Way) → InWay N P Q way → (h : Happening) → InHappening N P Q h
    → InHappening N P Q (happening_by way h)
in_by N P Q way w (rule_step r facts) k = k
in_by N P Q way w (sending m) k = k
in_by N P Q way w (learning m other) k = (k.0, w)

pub learnt_by_at_happens : (log : Log) (v : Valuation) (i : ℕ) (way : Way) → IsWayAt log (v.times i) v way → (es : List Event) → Every (HappensIn log v) es
    → Every (HappensIn log v) (learnt_by_at i way es)
learnt_by_at_happens log v i way is es h = every_map (HappensIn log v) (HappensIn log v) _ (λ e k. at e k (nat_eq e.time i) refl) es h
  where
    at : (e : Event) → HappensIn log v e → (b : Bool) → nat_eq e.time i ≡ b
        → HappensIn log v (if b then record { time = e.time; happening = happening_by way e.happening } else e)
    at e k true c = happens_by log (v.times e.time) v way (subst (λ (j : ℕ). IsWayAt log (v.times j) v way) (sym (eqb-true e.time i c)) is) e.happening k
    at e k false c = k

pub learnt_by_at_numbered : (N : Names) (P : Variable → Type 0) (Q : ℕ → Type 0) (i : ℕ) (way : Way) → InWay N P Q way → (es : List Event)
    → Every (InEvent N P Q) es → Every (InEvent N P Q) (learnt_by_at i way es)
learnt_by_at_numbered N P Q i way w es h = every_map (InEvent N P Q) (InEvent N P Q) _ (λ e k. at e k (nat_eq e.time i)) es h
  where
    at : (e : Event) → InEvent N P Q e → (b : Bool) → InEvent N P Q (if b then record { time = e.time; happening = happening_by way e.happening } else e)
    at e k true = (k.0, in_by N P Q way w e.happening k.1)
    at e k false = k

pub learnt_by_at_length : (i : ℕ) (way : Way) (es : List Event) → length (learnt_by_at i way es) ≡ length es
learnt_by_at_length i way es = length_map _ es
