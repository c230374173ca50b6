use Rattle.std.proofs.Common.{◌≡◌, map, drop}
use Rattle.sp_fact.specs.GroundView.{equation_of}
use Rattle.sp_spec_text.specs.Declared as spec
use Rattle.sp_declared.specs.NumberedView.{numbered_of}
use Rattle.sp_declared.proofs.equations.stands_among.Given as goal

abbrev pub invariant-loop-other : goal.invariant-loop-other
invariant-loop-other l =
    spec.stands_among (equation_of l.equation) (spec.their_equations (map numbered_of l.equations.items))
    ≡ spec.stands_among (equation_of l.equation) (spec.their_equations (map numbered_of (drop l.other-index l.equations.items)))
