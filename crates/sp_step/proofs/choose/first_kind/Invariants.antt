use Rattle.std.proofs.Common.{◌≡◌, drop}
use Rattle.sp_spec_system.specs.Picked.{first_some}
use Rattle.sp_system.specs.SystemView.{system_of}
use Rattle.sp_step.specs.View.{context_of}
use Rattle.sp_step.specs.Choosing.{answer}
use Rattle.sp_step.proofs.choose.first_kind.Given as goal

abbrev pub invariant-loop-rank : goal.invariant-loop-rank
invariant-loop-rank l =
    first_some (answer (context_of l.context) (system_of l.system)) (drop l.rank-index l.kinds)
    ≡ first_some (answer (context_of l.context) (system_of l.system)) l.kinds
