use Rattle.std.proofs.Common.{◌≡◌, drop, map}
use Rattle.sp_system.specs.SystemView.{link_of}
use Rattle.sp_system.specs.Stays.{link_stays}
use Rattle.sp_formula.specs.Staying.{all_so}
use Rattle.sp_system.proofs.staying.links_stay.Given as goal

abbrev pub invariant-loop-link : goal.invariant-loop-link
invariant-loop-link l = all_so (link_stays l.small l.large) (map link_of l.links.items) ≡ all_so (link_stays l.small l.large) (map link_of (drop l.link-index l.link-items))
