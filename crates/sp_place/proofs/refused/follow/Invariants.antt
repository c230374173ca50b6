use Rattle.std.proofs.Common.{drop, length, ◌-◌}
use Rattle.sp_lex.specs.Views.{tokens_of}
use Rattle.sp_place.specs.Remaining.{remaining_of}
use Rattle.sp_place.specs.Runs.{Reached}
use Rattle.sp_place.proofs.refused.follow.Given as goal

abbrev pub invariant-loop-token : goal.invariant-loop-token
invariant-loop-token l = record { reached : Reached (tokens_of l.tokens) (tokens_of (drop l.at l.tokens)) (remaining_of l.parts.items l.in_formula) }

abbrev pub decreases-loop-token : goal.decreases-loop-token
decreases-loop-token l = length l.tokens - l.at
