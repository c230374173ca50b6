use Rattle.std.proofs.Common.{ℕ, List, [], ap}
use denote.Ref.{Bor}
use Rattle.sp_declared.specs.View as declared
use Rattle.sp_finding.specs.Finding.{bound_twice, lines_after}
use Rattle.sp_lines.specs.TextsView.{texts_of}
use Rattle.sp_wf.specs.Told.{is_one_of}
use Rattle.sp_wf.specs.ItemFindings.{told_again}
use Rattle.sp_wf.proofs.NamesBefore.{none_seen, no_names, next_seen}
use Rattle.sp_wf.proofs.names.tell_twice.Goals as goal

pub loop-name-init : goal.loop-name-init
loop-name-init c =
    ap (lines_after (texts_of c.args.lines.now))
    (none_seen (bound_twice c.args.rule.now) (is_one_of c.new-seen.result) (declared.texts_of c.args.bound.now.bound.items) (no_names (texts_of c.new-seen.result) c.new-seen.ensures))

pub loop-name-preserved : goal.loop-name-preserved
loop-name-preserved c =
    next_seen (bound_twice c.args.rule.now) (λ (n : Bor (List ℕ)). n.now) c.deref-name-items.result.now c.args.bound.now.bound.items c.loop-name.name-index _
    (texts_of c.loop-name.lines) (texts_of c.tell_name.new.lines) (lines_after (texts_of c.args.lines.now) (told_again (bound_twice c.args.rule.now) [] (declared.texts_of c.args.bound.now.bound.items)))
    (is_one_of c.loop-name.seen) (is_one_of c.tell_name.new.names)
    c.deref-name-items.ensures.value c.loop-name-test.true c.in_ok-tell_name.ensures.is_told c.in_ok-tell_name.ensures.is_put c.loop-name.invariant
