use Rattle.std.proofs.Common.{refl}
use Rattle.sp_step.specs.View.{context_of}
use Rattle.sp_step.proofs.choose.undecided_names.Goals as goal

pub returns : goal.returns
returns c = c.in_ok-chosen.ensures (context_of c.args.context.now) refl
