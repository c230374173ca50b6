use Rattle.std.proofs.Common.{◌++◌, List, map, sym, ap, ◌∙◌}
use Rattle.std.proofs.lemmas.List.{append-nil, at_drop_all}
use Rattle.sp_learn.specs.declared.log.Entry.{Entry}
use Rattle.sp_fact.specs.GroundView.{ground_action}
use Rattle.sp_spec.specs.Lists.{newest_first}
use Rattle.sp_learn.specs.View.{entries_of, entry_of}
use Rattle.sp_learn.proofs.Orders.{shown_in, visible_newest}
use Rattle.sp_learn.proofs.trace.visible_trace.Goals as goal

pub returns : goal.returns
returns c =
    let made = map (λ entry. map ground_action entry.items) c.loop-entry.entries.items in
    let all =
    sym (append-nil made)
    ∙ sym (at_drop_all (λ (xs : List Entry). made ++ shown_in (map entry_of xs)) c.deref-entry-items.result.now c.loop-entry.entry-index c.loop-entry-test.false)
    ∙ c.loop-entry.invariant in
    ap newest_first all ∙ visible_newest (entries_of c.args.log.now)
