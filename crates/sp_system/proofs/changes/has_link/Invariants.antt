use Rattle.std.proofs.Common.{◌≡◌, drop, map}
use Rattle.sp_spec_system.specs.Equating.{has_link}
use Rattle.sp_system.specs.SystemView.{link_of}
use Rattle.sp_system.proofs.changes.has_link.Given as goal

abbrev pub invariant-loop-other : goal.invariant-loop-other
invariant-loop-other l = has_link (map link_of l.links) (link_of l.link) ≡ has_link (map link_of (drop l.other-index l.links)) (link_of l.link)
