use Rattle.std.proofs.Common.{◌≡◌, map, drop}
use Rattle.sp_system.specs.SystemView.{link_of}
use Rattle.sp_moves.specs.Times.{links_have}
use Rattle.sp_moves.proofs.times.links_have.Given as goal

abbrev pub invariant-loop-link : goal.invariant-loop-link
invariant-loop-link l = links_have l.time (map link_of l.links.items) ≡ links_have l.time (map link_of (drop l.link-index l.link-items))
