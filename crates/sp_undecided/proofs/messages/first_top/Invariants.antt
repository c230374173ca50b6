use Rattle.std.proofs.Common.{◌≡◌, map}
use Rattle.sp_system.specs.SystemView.{system_of}
use Rattle.sp_spec_system.specs.Move.{Context, top}
use Rattle.sp_spec_proof.specs.Choice.{first_instance}
use Rattle.sp_spec_proof.specs.Deciding.{tops}
use Rattle.sp_undecided.proofs.Counted.{from}
use Rattle.sp_undecided.proofs.messages.first_top.Given as goal

abbrev pub invariant-loop-number : goal.invariant-loop-number
invariant-loop-number l = (context : Context) →
    first_instance context (system_of l.system) (map top (from l.number l.system.next)) ≡ first_instance context (system_of l.system) (tops context (system_of l.system))
