use Rattle.std.proofs.Common.{◌≡◌, map, drop}
use Rattle.sp_system.specs.SystemView.{link_of, system_of}
use Rattle.sp_spec_graph.specs.LinearOnce.{cannot_link, fails_to_link}
use Rattle.sp_spec_system.specs.Picked.{some_two}
use Rattle.sp_rows_graph.proofs.linear_once.fails_to_link.Given as goal

abbrev pub invariant-loop-position : goal.invariant-loop-position
invariant-loop-position l =
    fails_to_link (system_of l.system) ≡ some_two (cannot_link (system_of l.system)) (map link_of (drop l.position l.system.links.items))
