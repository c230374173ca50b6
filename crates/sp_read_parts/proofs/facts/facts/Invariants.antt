use Rattle.std.proofs.Common.{length, ◌≤◌, ◌-◌}
use Rattle.sp_spec_text.specs.Signs as s
use Rattle.sp_lex.specs.Views.{sign_of}
use Rattle.sp_read_parts.specs.Parts.{IsFact}
use Rattle.sp_read_parts.specs.Views as view
use Rattle.sp_read_parts.specs.Views.{seen_from}
use Rattle.sp_read_parts.proofs.Loops.{Going}
use Rattle.sp_read_parts.proofs.facts.facts.Given as goal

abbrev pub invariant-loop-found : goal.invariant-loop-found
invariant-loop-found l = record { reads : Going (IsFact 0) s.Comma (sign_of l.close) (seen_from l.tokens l.at) (view.facts_of l.found.items) (seen_from l.tokens l.rest); further : l.at ≤ l.rest }

abbrev pub decreases-loop-found : goal.decreases-loop-found
decreases-loop-found l = length l.tokens - l.rest
