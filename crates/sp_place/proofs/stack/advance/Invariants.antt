use Rattle.sp_lex.specs.Views.{lexeme_of}
use Rattle.sp_await.specs.Views.{parts_of}
use Rattle.sp_place.specs.Remaining.{remaining_of}
use Rattle.sp_law_await.proofs.Keeps.{weights}
use Rattle.sp_place.proofs.Taking.{Same}
use Rattle.sp_place.proofs.stack.advance.Given as goal

abbrev pub invariant-loop-part : goal.invariant-loop-part
invariant-loop-part l = record { same : Same (remaining_of l.initial.parts.items l.in_formula) (lexeme_of l.x) l.open (parts_of l.parts.items) }

abbrev pub decreases-loop-part : goal.decreases-loop-part
decreases-loop-part l = weights (parts_of l.parts.items)
