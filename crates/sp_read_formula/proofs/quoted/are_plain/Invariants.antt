use Rattle.std.proofs.Common.{length, ◌≤◌, ◌-◌}
use Rattle.sp_read_parts.specs.Views.{seen_from}
use Rattle.sp_read_formula.proofs.Plain.{StandsSo}
use Rattle.sp_read_formula.proofs.quoted.are_plain.Given as goal

abbrev pub invariant-loop-lexeme : goal.invariant-loop-lexeme
invariant-loop-lexeme l = record { plain : StandsSo (seen_from l.tokens l.at) (seen_from l.tokens l.rest); within : l.at ≤ l.rest }

abbrev pub decreases-loop-lexeme : goal.decreases-loop-lexeme
decreases-loop-lexeme l = length l.tokens - l.rest
