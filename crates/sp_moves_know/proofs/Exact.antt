-- A move on what is learnt has cases exactly where no clause of its condition fails.
use Rattle.std.proofs.Common.{◌≡◌, ℕ, Bool, true, false, not, ◌||◌, if◌then◌else◌, List, Option, Some, None, option_map, option_and_then, is_none, is_some, refl, sym, ap}
use Rattle.sp_spec.specs.Term.{Variable, Term}
use Rattle.sp_spec.specs.Signature.{Symbol}
use Rattle.sp_spec_system.specs.System.{Event, System}
use Rattle.sp_spec_system.specs.MakingOne.{event_at}
use Rattle.sp_spec_system.specs.Rules.{Rules}
use Rattle.sp_spec_system.specs.Move.{Move, know, chain, Case}
use Rattle.sp_spec_know.specs.SettleLearn.{settling}
use Rattle.sp_spec_know.specs.Know.{learnt_anyhow, is_message_variable, if_wanted, wanted_at}
use Rattle.sp_spec_know.specs.Chain.{Begun, begun, begun_at}
use Rattle.sp_moves.specs.Clause.{Clause, another_crate, absent, condition, HasCases}
use Rattle.sp_spec_system.specs.Occurring.{has_time}
use Rattle.sp_moves.proofs.NoEvent.{no_time}
use Rattle.sp_moves_know.specs.WhyNot.{why_not_wanted, why_not_known, why_not_begun, why_not_chained, why_not_learning, learning_cases}

-- ---- how a message is learnt

by_test : (f : Term Variable → List Case) (m : Term Variable) (b : Bool)
    → is_none (let r : Option Clause = if b then Some condition else None in r) ≡ is_some (option_map f (let r : Option (Term Variable) = if b then None else Some m in r))
by_test f m true = refl
by_test f m false = refl

by_message : (symbols : List Symbol) (f : Term Variable → List Case) (o : Option (Term Variable))
    → is_none (why_not_wanted symbols o) ≡ is_some (option_map f (option_and_then (if_wanted symbols) o))
by_message symbols f None = refl
by_message symbols f (Some m) = by_test f m (is_message_variable m || not (is_none (settling symbols 0 m)))

-- what is asked for at the event that is found
abbrev wanted_by : List Symbol → Option Event → Option (Term Variable)
wanted_by symbols o = option_and_then (λ (e : Event). option_and_then (if_wanted symbols) (learnt_anyhow e.happening)) o

by_event : (symbols : List Symbol) (f : Term Variable → List Case) (o : Option Event)
    → is_none (why_not_known symbols o) ≡ is_some (option_map f (wanted_by symbols o))
by_event symbols f None = refl
by_event symbols f (Some e) = by_message symbols f (learnt_anyhow e.happening)

by_time : (symbols : List Symbol) (f : Term Variable → List Case) (s : System) (i : ℕ) (b : Bool) → has_time i s ≡ b
    → is_none (let r : Option Clause = if b then why_not_known symbols (event_at i s.events) else Some absent in r) ≡ is_some (option_map f (wanted_at symbols s i))
by_time symbols f s i true e = by_event symbols f (event_at i s.events)
by_time symbols f s i false e = sym (ap (λ (o : Option Event). is_some (option_map f (wanted_by symbols o))) (no_time i s e))

-- ---- how a chain goes on

by_begun : (f : Begun → List Case) (o : Option Begun) → is_none (why_not_begun o) ≡ is_some (option_map f o)
by_begun f None = refl
by_begun f (Some b) = refl

-- the chain that has begun at the event that is found
abbrev begun_by : Option Event → Option Begun
begun_by o = option_and_then (λ (e : Event). begun e.happening) o

by_chained : (f : Begun → List Case) (o : Option Event) → is_none (why_not_chained o) ≡ is_some (option_map f (begun_by o))
by_chained f None = refl
by_chained f (Some e) = by_begun f (begun e.happening)

by_chain_time : (f : Begun → List Case) (s : System) (i : ℕ) (b : Bool) → has_time i s ≡ b
    → is_none (let r : Option Clause = if b then why_not_chained (event_at i s.events) else Some absent in r) ≡ is_some (option_map f (begun_at s i))
by_chain_time f s i true e = by_chained f (event_at i s.events)
by_chain_time f s i false e = sym (ap (λ (o : Option Event). is_some (option_map f (begun_by o))) (no_time i s e))

pub exactly : (rules : Rules) (s : System) (m : Move) → HasCases (why_not_learning rules.signature.symbols s m) (learning_cases rules s m)
exactly rules s (know i) = record { exact = by_time rules.signature.symbols _ s i (has_time i s) refl }
exactly rules s (chain i) = record { exact = by_chain_time _ s i (has_time i s) refl }
exactly rules s move = record { exact = refl }

-- ---- these moves are asked about

wanted_asked : (b : Bool) → (let r : Option Clause = if b then Some condition else None in r) ≡ Some another_crate → ⊥
wanted_asked true e = absurd cc
wanted_asked false e = absurd cc

message_asked : (symbols : List Symbol) (o : Option (Term Variable)) → why_not_wanted symbols o ≡ Some another_crate → ⊥
message_asked symbols None e = absurd cc
message_asked symbols (Some m) e = wanted_asked (is_message_variable m || not (is_none (settling symbols 0 m))) e

pub known_asked : (symbols : List Symbol) (o : Option Event) → why_not_known symbols o ≡ Some another_crate → ⊥
known_asked symbols None e = absurd cc
known_asked symbols (Some event) e = message_asked symbols (learnt_anyhow event.happening) e

begun_asked : (o : Option Begun) → why_not_begun o ≡ Some another_crate → ⊥
begun_asked None e = absurd cc
begun_asked (Some b) e = absurd cc

pub chained_asked : (o : Option Event) → why_not_chained o ≡ Some another_crate → ⊥
chained_asked None e = absurd cc
chained_asked (Some event) e = begun_asked (begun event.happening) e

time_asked : (b : Bool) (o : Option Clause) → (o ≡ Some another_crate → ⊥) → (let r : Option Clause = if b then o else Some absent in r) ≡ Some another_crate → ⊥
time_asked true o asked e = asked e
time_asked false o asked e = absurd cc

pub know_asked : (symbols : List Symbol) (s : System) (i : ℕ) → why_not_learning symbols s (know i) ≡ Some another_crate → ⊥
know_asked symbols s i e = time_asked (has_time i s) (why_not_known symbols (event_at i s.events)) (known_asked symbols (event_at i s.events)) e

pub chain_asked : (symbols : List Symbol) (s : System) (i : ℕ) → why_not_learning symbols s (chain i) ≡ Some another_crate → ⊥
chain_asked symbols s i e = time_asked (has_time i s) (why_not_chained (event_at i s.events)) (chained_asked (event_at i s.events)) e
