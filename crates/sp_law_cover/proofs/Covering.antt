-- No solution is lost, with the laws of truth and of the unifier put in.
use Rattle.sp_spec.specs.Theory.{Theory}
use Rattle.sp_law_truth.proofs.EqualTraces.{equal_same}
use Rattle.sp_law_system.proofs.Unifier.{unifier_is_right}
use Rattle.sp_law_cover.specs.Laws.{MovesCover, NothingIsLost}
use Rattle.sp_law_system.specs.Rules.{SuitsProofs}
use Rattle.sp_law_formula.proofs.Open.{EqualTruth}
use Rattle.sp_law_cover.proofs.Simplifying.{rows_cover, contradictions_hold}
use Rattle.sp_law_cover.proofs.MovesCover.{moves_cover}
use Rattle.sp_law_truth.proofs.Itself.{trace_itself}

equal_truth : EqualTruth
equal_truth signature trace f m w terms times bound_terms bound_times h =
    (equal_same signature trace trace (trace_itself signature.equations trace) m w (record { terms = terms; times = times; bound_terms = bound_terms; bound_times = bound_times }) f).0 h

pub moves_are_covered : (theory : Theory) → SuitsProofs theory → MovesCover theory
moves_are_covered theory p = moves_cover unifier_is_right theory p equal_truth

pub nothing_is_lost_lem : NothingIsLost
nothing_is_lost_lem = record {
  rows = λ theory p. rows_cover unifier_is_right theory p equal_truth;
  contradictions = λ theory p. contradictions_hold unifier_is_right theory p equal_truth;
  moves = moves_are_covered;
}
