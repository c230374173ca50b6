use Rattle.std.proofs.Common.{◌≡◌, map, drop}
use Rattle.sp_system.specs.SystemView.{link_of}
use Rattle.sp_spec_graph.specs.Premise.{is_linked}
use Rattle.sp_learnings.proofs.premise.is_linked.Given as goal

abbrev pub invariant-loop-link : goal.invariant-loop-link
invariant-loop-link l = is_linked (map link_of l.links.items) l.time l.place ≡ is_linked (map link_of (drop l.link-index l.link-items)) l.time l.place
