use Rattle.std.proofs.Common.{◌≡◌, drop, map}
use Rattle.sp_fact.specs.GroundView.{ground_of}
use Rattle.sp_destruct.specs.View.{destruction_of}
use Rattle.sp_destruct.specs.Links.{is_link}
use Rattle.sp_learn.specs.Learning as spec
use Rattle.sp_learn.proofs.learning.lead.Given as goal

abbrev pub invariant-loop-next : goal.invariant-loop-next
invariant-loop-next l =
    let linked = is_link (map destruction_of l.destructions.items) (map ground_of l.learnt.items) in
    spec.leads linked (ground_of l.fn.first) (map ground_of l.messages) (ground_of l.last)
    ≡ spec.leads linked (ground_of l.from) (map ground_of (drop l.next-index l.messages)) (ground_of l.last)
