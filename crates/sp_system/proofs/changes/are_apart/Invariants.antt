use Rattle.std.proofs.Common.{◌≡◌, [], map, take, drop}
use Rattle.sp_spec_system.specs.Equating.{joined_links}
use Rattle.sp_system.specs.SystemView.{link_of}
use Rattle.sp_system.proofs.changes.are_apart.Given as goal

abbrev pub invariant-loop-position : goal.invariant-loop-position
invariant-loop-position l = joined_links (map link_of (take l.position l.links)) (map link_of (drop l.position l.links)) ≡ joined_links [] (map link_of l.links)
