use Rattle.std.proofs.Common.{length}
use Rattle.sp_lex.specs.Views.{tokens_of}
use Rattle.sp_lex.proofs.Runs.{Cut}
use Rattle.sp_lex.proofs.cut.scan.Given as goal

abbrev pub invariant-loop-here : goal.invariant-loop-here
invariant-loop-here l = Cut l.text (tokens_of l.found.items) l.rest

abbrev pub decreases-loop-here : goal.decreases-loop-here
decreases-loop-here l = length l.rest
