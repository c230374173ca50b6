use Rattle.sp_system.specs.SystemView.{system_of}
use Rattle.sp_step.specs.View.{context_of}
use Rattle.sp_step.specs.Choosing.{ranked_of}
use Rattle.sp_step.proofs.Choosing.{none_has_instance}
use Rattle.sp_step.proofs.decided.none_left.Goals as goal

pub returns : goal.returns
returns c =
    none_has_instance (context_of c.args.context.now) (system_of c.args.system.now) ranked_of c.in_ok-chosen.chosen c.is_none.result c.is_none.ensures c.in_ok-chosen.ensures
