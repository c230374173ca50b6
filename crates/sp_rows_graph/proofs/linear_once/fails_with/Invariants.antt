use Rattle.std.proofs.Common.{◌≡◌, map, drop}
use Rattle.sp_system.specs.SystemView.{link_of, system_of}
use Rattle.sp_spec_graph.specs.LinearOnce.{cannot_link}
use Rattle.sp_spec_system.specs.Picked.{some_with}
use Rattle.sp_rows_graph.proofs.linear_once.fails_with.Given as goal

abbrev pub invariant-loop-position : goal.invariant-loop-position
invariant-loop-position l =
    let test = cannot_link (system_of l.system) in
    some_with test (link_of l.link) (map link_of (drop l.start l.system.links.items)) ≡ some_with test (link_of l.link) (map link_of (drop l.position l.system.links.items))
