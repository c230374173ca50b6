use Rattle.std.proofs.Common.{map, ◌∙◌, arith}
use Rattle.sp_fact.specs.GroundView.{ground_action, entries_of}
use Rattle.sp_spec.proofs.Lists.{length_map, newest_count}
use Rattle.sp_eval.proofs.Traces.{at_newest}
use Rattle.sp_eval.proofs.atom.is_last.Goals as goal

pub returns-then-count-gt0 : goal.returns-then-count-gt0
returns-then-count-gt0 c =
    let entries = c.args.trace.now.entries in
    let k = length_map (λ entry. map ground_action entry.items) entries.items in
    at_newest c.args.position c.len-count.result _ (omega (arith, c.if-count-gt0.true)) (newest_count (entries_of c.args.trace.now) ∙ omega (arith, k, c.len-count.ensures, entries.ok.0))
