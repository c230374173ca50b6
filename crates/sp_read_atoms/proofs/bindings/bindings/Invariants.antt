use Rattle.std.proofs.Common.{length, codes, ◌≤◌, ◌-◌}
use Rattle.sp_spec_text.specs.Token.{word}
use Rattle.sp_read_atoms.specs.Lets.{IsBinding}
use Rattle.sp_read_parts.specs.Views as view
use Rattle.sp_read_parts.specs.Views.{seen_from}
use Rattle.sp_read_parts.proofs.Until.{Until}
use Rattle.sp_read_atoms.proofs.bindings.bindings.Given as goal

abbrev pub invariant-loop-found : goal.invariant-loop-found
invariant-loop-found l = record { reads : Until IsBinding (word (codes "in")) (seen_from l.tokens l.at) (view.bindings l.found.items) (seen_from l.tokens l.rest); further : l.at ≤ l.rest }

abbrev pub decreases-loop-found : goal.decreases-loop-found
decreases-loop-found l = length l.tokens - l.rest
