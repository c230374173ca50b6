use Rattle.std.proofs.Common.{◌+◌, drop, map, ap, ◌∙◌}
use Rattle.sp_written.specs.Views as view
use Rattle.sp_finding.specs.Finding.{lines_after}
use Rattle.sp_lines.specs.TextsView.{texts_of}
use Rattle.sp_wf_rules.specs.BindingView.{names_of}
use Rattle.sp_wf.specs.ItemFindings.{with_bound}
use Rattle.sp_wf.specs.Told.{on_bound}
use Rattle.sp_wf.proofs.ItemSteps.{next_bound, none_bound, bound_past}
use Rattle.sp_wf.proofs.told.tell_bound.Goals as goal
use Rattle.sp_wf.proofs.told.tell_bound.Goals.{in-Some+in_ok-tell_if_bound, in_default}

pub loop-place-preserved : goal.loop-place-preserved
loop-place-preserved c =
    let on = on_bound c.args.fault in
    let items = c.args.items.now.items in
    let bound = c.args.bound.now.items in
    let read = c.deref.result.now in
    let i = c.loop-place.place in
    let before = texts_of c.loop-place.lines in
    let target = lines_after (texts_of c.args.lines.now) (with_bound on (map names_of bound) (view.items items)) in
    elim c.match-get.branch [
      | in-Some+in_ok-tell_if_bound w ↦
          (let n = w.in-Some.names.now in
          next_bound on view.item names_of c.deref-item-items.result.now items read bound i c.item-item.result n before (texts_of c.match-get.lines) target
          c.deref-item-items.ensures.value c.loop-place-test.true c.item-item.is c.deref.ensures.value w.in-Some.ensures.lookup.3.0 (w.in-Some.ensures.lookup.3.1 n)
          (ap (λ v. texts_of v) w.lines-is ∙ w.in_ok-tell_if_bound.ensures) c.loop-place.invariant)
      | in_default w ↦
          (ap (λ v. lines_after (texts_of v) (with_bound on (map names_of (drop (i + 1) bound)) (view.items (drop (i + 1) items)))) w.lines-is
          ∙ none_bound on names_of read bound i (view.items (drop i items)) (view.items (drop (i + 1) items)) before target c.deref.ensures.value w.in_default.ensures.lookup.3 c.loop-place.invariant)
    ]

pub returns : goal.returns
returns c =
    let on = on_bound c.args.fault in
    let items = c.args.items.now.items in
    let bound = c.args.bound.now.items in
    let target = lines_after (texts_of c.args.lines.now) (with_bound on (map names_of bound) (view.items items)) in
    bound_past on view.item c.deref-item-items.result.now items (map names_of (drop c.loop-place.place bound)) c.loop-place.place (texts_of c.loop-place.lines) target c.deref-item-items.ensures.value c.loop-place-test.false c.loop-place.invariant
