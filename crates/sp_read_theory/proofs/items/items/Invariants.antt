use Rattle.std.proofs.Common.{length, drop, ◌-◌}
use Rattle.sp_lex.specs.Views.{tokens_of}
use Rattle.sp_read_theory.specs.Views as view
use Rattle.sp_read_theory.proofs.Gone.{Gone}
use Rattle.sp_read_theory.proofs.items.items.Given as goal

abbrev pub invariant-loop-last : goal.invariant-loop-last
invariant-loop-last l = Gone (tokens_of (drop l.at l.tokens)) (view.items l.found.items) (view.spans l.found.items) (tokens_of (drop l.rest l.tokens))

abbrev pub decreases-loop-last : goal.decreases-loop-last
decreases-loop-last l = length l.tokens - l.rest
