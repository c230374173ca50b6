use Rattle.std.proofs.Common.{◌≡◌, drop, map}
use Rattle.sp_law_run.specs.Given as spec
use Rattle.sp_term.specs.View.{name_of}
use Rattle.sp_fact.specs.GroundView.{given_of}
use Rattle.sp_exec.proofs.given.given_value.Given as goal

abbrev pub invariant-loop-one : goal.invariant-loop-one
invariant-loop-one l = spec.given_value (name_of l.name) (map given_of l.given.items) ≡ spec.given_value (name_of l.name) (map given_of (drop l.one-index l.one-items))
