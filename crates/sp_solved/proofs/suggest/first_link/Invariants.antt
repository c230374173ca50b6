use Rattle.std.proofs.Common.{◌≡◌, map, drop}
use Rattle.sp_system.specs.SystemView.{link_of}
use Rattle.sp_spec_solved.specs.Candidate.{first_link}
use Rattle.sp_solved.proofs.suggest.first_link.Given as goal

abbrev pub invariant-loop-link : goal.invariant-loop-link
invariant-loop-link l =
    first_link (map link_of l.links.items) l.time l.premise ≡ first_link (map link_of (drop l.link-index l.links.items)) l.time l.premise
