use Rattle.std.proofs.Common.{◌≡◌, drop}
use Rattle.std.specs.List.{flat_map}
use Rattle.sp_declared.specs.WrittenRules.{rules_written}
use Rattle.sp_written.specs.Views as view
use Rattle.sp_warn.specs.FormView.{made_of}
use Rattle.sp_lines.specs.TextsView.{texts_of}
use Rattle.sp_warn.specs.Told.{lines_after}
use Rattle.sp_warn.specs.Warnings.{sources_of_rule}
use Rattle.sp_warn.proofs.sources.tell_sources.Given as goal

abbrev pub invariant-loop-item : goal.invariant-loop-item
invariant-loop-item l =
    lines_after (texts_of l.lines) (flat_map (sources_of_rule (made_of l.made)) (rules_written (view.items (drop l.item-index l.items.items))))
    ≡ lines_after (texts_of l.fn.lines) (flat_map (sources_of_rule (made_of l.made)) (rules_written (view.items l.items.items)))
