use Rattle.std.proofs.Common.{length, ◌≤◌, ◌-◌}
use Rattle.sp_spec_text.specs.Signs as s
use Rattle.sp_read_parts.proofs.Loops.{Going}
use Rattle.sp_read_lemmas.specs.Lemmas.{IsLemmaAttribute}
use Rattle.sp_read_lemmas.specs.Views as view
use Rattle.sp_read_lemmas.specs.Views.{seen_from}
use Rattle.sp_read_lemmas.proofs.attributes.attributes.Given as goal

abbrev pub invariant-loop-next : goal.invariant-loop-next
invariant-loop-next l = record { reads : Going IsLemmaAttribute s.Comma s.CloseList (seen_from l.tokens l.at) (view.attributes l.found.items) (seen_from l.tokens l.rest); further : l.at ≤ l.rest }

abbrev pub decreases-loop-next : goal.decreases-loop-next
decreases-loop-next l = length l.tokens - l.rest
