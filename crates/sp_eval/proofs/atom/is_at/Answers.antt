use Rattle.std.proofs.Common.{map, sym, ◌∙◌, arith}
use Rattle.sp_fact.specs.GroundView.{ground_action, entries_of}
use Rattle.sp_spec.proofs.Lists.{length_map}
use Rattle.sp_eval.proofs.Traces.{at_entry, at_end, mapped_there}
use Rattle.sp_eval.proofs.atom.is_at.Goals as goal

pub returns-then-index-len : goal.returns-then-index-len
returns-then-index-len c =
    let entries = c.args.trace.now.entries in
    let k = length_map (λ entry. map ground_action entry.items) entries.items in
    sym (at_end (ground_action c.args.action.now) (entries_of c.args.trace.now) c.args.position (omega (arith, k, c.if-index-len.true, c.len.ensures, entries.ok.0)))

pub returns : goal.returns
returns c =
    let entries = c.args.trace.now.entries in
    let k = length_map (λ entry. map ground_action entry.items) entries.items in
    let entry = c.index.result.now in
    c.is_among.ensures
    ∙ sym
    (at_entry (ground_action c.args.action.now) (entries_of c.args.trace.now) c.args.position (map ground_action entry.items)
    (omega (arith, k, c.if-index-len.false, c.len.ensures, entries.ok.0))
    (mapped_there (λ entry. map ground_action entry.items) entries.items c.args.position entry (omega (arith, c.if-index-len.false, c.len.ensures, entries.ok.0)) c.index.ensures))
