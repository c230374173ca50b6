use Rattle.std.proofs.Common.{◌≡◌, zero, drop, map}
use Rattle.sp_spec.specs.Destruction.{Destruction}
use Rattle.sp_fact.specs.GroundView.{ground_of}
use Rattle.sp_destruct.specs.View.{destruction_of}
use Rattle.sp_destruct.specs.Links.{first_from, link_by}
use Rattle.sp_destruct.proofs.search.link.Given as goal

abbrev pub invariant-loop-number : goal.invariant-loop-number
invariant-loop-number l =
    let by_this = λ (d : Destruction). link_by d (map ground_of l.learnt.items) (ground_of l.from) (ground_of l.to) in
    first_from by_this zero (map destruction_of l.destructions.items) ≡ first_from by_this l.number (map destruction_of (drop l.number l.destructions.items))
