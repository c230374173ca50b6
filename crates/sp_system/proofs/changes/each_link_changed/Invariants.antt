use Rattle.std.proofs.Common.{◌≡◌, [], drop, map}
use Rattle.sp_spec_system.specs.Equating.{link_changed, joined_links}
use Rattle.sp_spec.specs.Change.{time_replaced}
use Rattle.sp_system.specs.SystemView.{link_of}
use Rattle.sp_system.proofs.changes.each_link_changed.Given as goal

abbrev pub invariant-loop-link : goal.invariant-loop-link
invariant-loop-link l =
    let changed = link_changed (time_replaced l.small l.large) in
    joined_links (map link_of l.made.items) (map changed (map link_of (drop l.link-index l.link-items))) ≡ joined_links [] (map changed (map link_of l.link-items))
