-- What is asked of each kind of moves in memory: its first instance, where the kinds before it have none. So simplification is asked for a
-- row that applies, since a place at which one fails is a contradiction.
use Rattle.std.specs.Prelude.{ℕ, Bool, not, if◌then◌else◌, Option, Some, None, is_some, option_map}
use Rattle.sp_spec_system.specs.System.{System}
use Rattle.sp_spec_system.specs.Move as spec
use Rattle.sp_spec_system.specs.Move.{Context, end_log}
use Rattle.sp_spec_system.specs.Picked.{first_some}
use Rattle.sp_spec_proof.specs.Rows.{rows, by_rows, is_contradictory}
use Rattle.sp_spec_proof.specs.Choice as choice
use Rattle.sp_spec_proof.specs.Choice.{first_instance, with_rank, picked}
use Rattle.sp_spec_proof.specs.Deciding.{told_comparisons, comparisons, sames, tops}
use Rattle.sp_spec_proof.specs.Kinds.{at_each_formula, at_each_event, all_at, event_kinds, are_consecutive, pickers_by}
use Rattle.sp_step.specs.View.{move_of}
use Rattle.sp_step.specs.declared.choose.Ranked.{Ranked}
use Rattle.sp_step.specs.declared.choose.MoveKind.{MoveKind}
use Rattle.sp_step.specs.declared.choose.MoveKind.TheVariants.{Contradiction, Simplify, Solved, Or, Action, AtEvent, AtAnyEvent, ToldComparison, Comparison, Same, MoreEvents, Top}
use Rattle.sp_step.specs.Events.{moves_of}

abbrev pub ranked_of : Ranked → choice.Ranked
ranked_of r = with_rank r.rank (move_of r.chosen)

abbrev pub if_so : Bool → spec.Move → Option spec.Move
if_so holds move = if holds then Some move else None

abbrev pub asked : Context → System → MoveKind → Option spec.Move
asked context s Contradiction = if_so (is_contradictory context.rules s) spec.contradiction
asked context s Simplify = if_so (is_some (by_rows context.rules rows s)) spec.simplify
asked context s Solved = if_so (is_some (end_log context s)) spec.solved
asked context s Or = first_instance context s (at_each_formula spec.or context s)
asked context s Action = first_instance context s (at_each_formula spec.action context s)
asked context s (AtEvent kind) = first_instance context s (at_each_event (moves_of kind) context s)
asked context s AtAnyEvent = first_instance context s (at_each_event (all_at event_kinds) context s)
asked context s ToldComparison = first_instance context s (told_comparisons context s)
asked context s Comparison = first_instance context s (comparisons context s)
asked context s Same = first_instance context s (sames context s)
asked context s MoreEvents = if_so (not s.closed) spec.more_events
asked context s Top = first_instance context s (tops context s)

-- with the kind's rank
abbrev pub answer : Context → System → ℕ × MoveKind → Option choice.Ranked
answer context s kind = option_map (with_rank kind.0) (asked context s kind.1)

-- the first instance of the first kind but `finish` that has one
unfoldable pub by_kinds : Context → System → Option choice.Ranked
by_kinds context s = first_some (picked context s) (pickers_by (are_consecutive context.root))

-- the end of the search, where none has
abbrev pub last_of_all : System → Option choice.Ranked
last_of_all s = option_map (with_rank 16) (if_so s.closed spec.finish)
