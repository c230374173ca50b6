use Rattle.std.proofs.Common.{◌≡◌, drop}
use Rattle.sp_formula.specs.PlaceView.{placed_terms}
use Rattle.sp_formula.specs.Fingerprint.{mixed_terms}
use Rattle.sp_formula.proofs.fingerprint.+term_print.Given as goal

abbrev pub invariant-mixed_terms-loop-term : goal.invariant-mixed_terms-loop-term
invariant-mixed_terms-loop-term l = mixed_terms l.made (placed_terms (drop l.term-index l.term-items)) ≡ mixed_terms l.fn.print (placed_terms l.term-items)
