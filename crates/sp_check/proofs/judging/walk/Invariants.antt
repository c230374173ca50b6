use Rattle.std.proofs.Common.{◌≡◌, None, drop, option_map}
use Rattle.sp_system.specs.SystemView.{system_of}
use Rattle.sp_learn.specs.View.{log_of}
use Rattle.sp_step.specs.View.{context_of}
use Rattle.sp_check.specs.Judging as spec
use Rattle.sp_check.specs.Nodes.{walk_all}
use Rattle.sp_check.specs.View.{nodes_of, skeleton_of, systems_of}
use Rattle.sp_check.proofs.judging.walk.Given as goal

abbrev pub invariant-loop-node : goal.invariant-loop-node
invariant-loop-node l =
    spec.walk (context_of l.context) 0 None (system_of l.fn.root) (skeleton_of l.skeleton)
    ≡ walk_all (context_of l.context) l.met.nodes (option_map log_of l.met.log) (systems_of l.awaited.items) (nodes_of (drop l.node-index l.node-items))
