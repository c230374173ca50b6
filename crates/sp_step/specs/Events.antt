-- The kinds of moves at events, as they stand in memory, and their moves at an event.
use Rattle.std.specs.Prelude.{List, flat_map, Option}
use Rattle.sp_spec_system.specs.System.{System, Event}
use Rattle.sp_spec_system.specs.Move as spec
use Rattle.sp_spec_proof.specs.Choice.{first_instance}
use Rattle.sp_spec_proof.specs.Kinds.{premises_of}
use Rattle.sp_step.specs.declared.events.EventKind.{EventKind}
use Rattle.sp_step.specs.declared.events.EventKind.TheVariants.{Premise, Learning}
use Rattle.sp_step.specs.Learning.{moves_at}

abbrev pub moves_of : EventKind → Event → List spec.Move
moves_of Premise e = premises_of e
moves_of (Learning kind) e = moves_at kind e

-- the first instance of the kind's moves at the event
abbrev pub first_of : spec.Context → System → Event → EventKind → Option spec.Move
first_of context s e kind = first_instance context s (moves_of kind e)

-- those of each of these kinds, one kind after the other
abbrev pub kinds_at : List EventKind → Event → List spec.Move
kinds_at kinds e = flat_map (λ (kind : EventKind). moves_of kind e) kinds

-- the same at each event, from the oldest on
abbrev pub at_events : List EventKind → List Event → List spec.Move
at_events kinds events = flat_map (kinds_at kinds) events
