use Rattle.std.proofs.Common.{◌≡◌, map, drop}
use Rattle.sp_term.specs.View.{variable_of, view}
use Rattle.sp_formula.specs.SlotsView.{slots_by}
use Rattle.sp_spec_formula.specs.Instances as spec
use Rattle.sp_rows_formula.specs.SlotsView.{messages_of}
use Rattle.sp_rows_formula.proofs.SlotValues.{after}
use Rattle.sp_rows_formula.proofs.slots.all_terms.Given as goal

abbrev pub invariant-loop-slot : goal.invariant-loop-slot
invariant-loop-slot l = spec.all_terms (messages_of l.messages) ≡ after (map view l.made.items) (spec.all_terms (slots_by variable_of (drop l.slot-index l.slot-items)))
