use Rattle.std.proofs.Common.{◌≡◌, map, drop}
use Rattle.sp_formula.specs.FormulaView.{formula_of}
use Rattle.sp_system.specs.SystemView.{event_of}
use Rattle.sp_spec_solved.specs.Candidate.{have_places}
use Rattle.sp_solved.proofs.suggest.have_places.Given as goal

abbrev pub invariant-loop-formula : goal.invariant-loop-formula
invariant-loop-formula l =
    have_places (map event_of l.events.items) (map formula_of l.formulas.items)
    ≡ have_places (map event_of l.events.items) (map formula_of (drop l.formula-index l.formulas.items))
