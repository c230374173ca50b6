use Rattle.std.proofs.Common.{◌≡◌, take, map}
use Rattle.sp_written.specs.Views.{step_at}
use Rattle.sp_check.specs.View.{nodes_of}
use Rattle.sp_skel.specs.Steps.{node_said}
use Rattle.sp_skel.proofs.trees.skeleton.Given as goal

abbrev pub invariant-loop-step : goal.invariant-loop-step
invariant-loop-step l = nodes_of l.nodes.items ≡ map node_said (map step_at (take l.step-index l.step-items))
