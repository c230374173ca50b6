-- Why a move on what is learnt is no instance, and the cases of these moves.
use Rattle.std.specs.Prelude.{ℕ, ◌||◌, not, if◌then◌else◌, List, Option, Some, None, is_none}
use Rattle.sp_spec.specs.Term.{Variable, Term}
use Rattle.sp_spec.specs.Signature.{Symbol}
use Rattle.sp_spec.specs.Destruction.{destructions}
use Rattle.sp_spec_system.specs.System.{Event, System}
use Rattle.sp_spec_system.specs.MakingOne.{event_at}
use Rattle.sp_spec_system.specs.Rules.{Rules}
use Rattle.sp_spec_system.specs.Move.{Move, know, chain, Case}
use Rattle.sp_spec_know.specs.SettleLearn.{settling}
use Rattle.sp_spec_know.specs.Know.{learnt_anyhow, is_message_variable, know_cases}
use Rattle.sp_spec_know.specs.Chain.{Begun, begun, chain_cases}
use Rattle.sp_moves.specs.Clause.{Clause, another_crate, absent, other_kind, condition}
use Rattle.sp_spec_system.specs.Occurring.{has_time}

-- the move asks for a message that is learnt anyhow, no message variable, and not settled
abbrev pub why_not_wanted : List Symbol → Option (Term Variable) → Option Clause
why_not_wanted symbols None = Some other_kind
why_not_wanted symbols (Some m) = if is_message_variable m || not (is_none (settling symbols 0 m)) then Some condition else None

abbrev pub why_not_known : List Symbol → Option Event → Option Clause
why_not_known symbols None = Some other_kind
why_not_known symbols (Some e) = why_not_wanted symbols (learnt_anyhow e.happening)

abbrev pub why_not_know : List Symbol → System → ℕ → Option Clause
why_not_know symbols s i = if has_time i s then why_not_known symbols (event_at i s.events) else Some absent

-- the move asks for a chain that has begun
abbrev pub why_not_begun : Option Begun → Option Clause
why_not_begun None = Some other_kind
why_not_begun (Some b) = None

abbrev pub why_not_chained : Option Event → Option Clause
why_not_chained None = Some other_kind
why_not_chained (Some e) = why_not_begun (begun e.happening)

abbrev pub why_not_chain : System → ℕ → Option Clause
why_not_chain s i = if has_time i s then why_not_chained (event_at i s.events) else Some absent

abbrev pub why_not_learning : List Symbol → System → Move → Option Clause
why_not_learning symbols s (know i) = why_not_know symbols s i
why_not_learning symbols s (chain i) = why_not_chain s i
why_not_learning symbols s move = Some another_crate

-- the cases of such a move before they are simplified; none where it is no instance
abbrev pub learning_cases : Rules → System → Move → Option (List Case)
learning_cases rules s (know i) = know_cases rules s i
learning_cases rules s (chain i) = chain_cases (destructions rules.signature) s i
learning_cases rules s move = None
