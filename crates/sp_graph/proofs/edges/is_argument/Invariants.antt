use Rattle.std.proofs.Common.{◌≡◌, drop}
use Rattle.sp_fact.specs.GroundView.{ground_of, grounds_of}
use Rattle.sp_graph.specs.Edges.{is_argument}
use Rattle.sp_graph.proofs.edges.is_argument.Given as goal

abbrev pub invariant-loop-argument : goal.invariant-loop-argument
invariant-loop-argument l =
    is_argument (ground_of l.message) (grounds_of l.arguments.items) ≡ is_argument (ground_of l.message) (grounds_of (drop l.argument-index l.argument-items))
