use Rattle.std.proofs.Common.{ℕ, ◌+◌, List, ◌++◌, map, drop, sym, ap, ◌∙◌, append_assoc}
use Rattle.sp_spec.proofs.Lists.{next_item}
use Rattle.sp_fact.specs.GroundView.{trace_of}
use Rattle.sp_pose.specs.declared.problem.GuardedRestriction.{GuardedRestriction}
use Rattle.sp_pose.specs.Required.{required_of}
use Rattle.sp_replay.specs.Held.{required_line, required_lines}
use Rattle.sp_replay.proofs.written.write_restrictions.Goals as goal

pub loop-restriction-preserved : goal.loop-restriction-preserved
loop-restriction-preserved c =
    let trace = trace_of c.args.trace.now in
    let out = c.loop-restriction.out.items in
    let all = c.deref-restriction-items.result.now in
    let place = c.loop-restriction.restriction-index in
    let first = c.restriction-item.result in
    let behind = required_lines trace (map required_of (drop (place + 1) all)) in
    ap (λ (words : List ℕ). words ++ behind) c.in_ok-write_restriction.ensures
    ∙ append_assoc out (required_line trace (required_of first)) behind
    ∙ ap (λ (rs : List GuardedRestriction). out ++ required_lines trace (map required_of rs)) (sym (next_item all place first c.loop-restriction-test.true c.restriction-item.is))
    ∙ c.loop-restriction.invariant
