use Rattle.std.proofs.Common.{◌≡◌, map}
use Rattle.sp_fact.specs.GroundView.{symbol_of}
use Rattle.sp_spec_text.specs.Declared.{resolved_item}
use Rattle.sp_written.specs.Views as view
use Rattle.sp_resolved.proofs.text.items.Given as goal

abbrev pub invariant-loop-next : goal.invariant-loop-next
invariant-loop-next l =
    record {
      value : view.items l.made.items ≡ map (resolved_item (map symbol_of l.symbols.items)) (view.items l.yielded);
      places : view.spans l.made.items ≡ view.spans l.yielded;
    }
