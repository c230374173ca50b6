-- The kinds of moves on messages that are learnt, and their moves at an event.
use Rattle.std.specs.Prelude.{List, [], ◌∷◌, Option, None, Some}
use Rattle.sp_spec_system.specs.System.{Event}
use Rattle.sp_spec_system.specs.Move as spec
use Rattle.sp_spec_know.specs.Know.{learnt_anyhow, is_message_variable}
use Rattle.sp_spec_proof.specs.Kinds.{at_message, passed_last, no_message_variable, is_fresh_variable, is_application}
use Rattle.sp_step.specs.declared.learning.LearningKind.{LearningKind}
use Rattle.sp_step.specs.declared.learning.LearningKind.TheVariants.{Chain, Fresh, Application, VariableChain}

abbrev pub moves_at : LearningKind → Event → List spec.Move
moves_at Chain e = at_message spec.chain passed_last no_message_variable e
moves_at Fresh e = at_message spec.know learnt_anyhow is_fresh_variable e
moves_at Application e = at_message spec.know learnt_anyhow is_application e
moves_at VariableChain e = at_message spec.chain passed_last is_message_variable e

-- the move, if there is one
abbrev pub listed : Option spec.Move → List spec.Move
listed None = []
listed (Some move) = move ∷ []
