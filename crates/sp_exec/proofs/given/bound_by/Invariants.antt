use Rattle.std.proofs.Common.{◌≡◌, zero, drop, map}
use Rattle.sp_law_run.specs.Given.{bound_from}
use Rattle.sp_fact.specs.GroundView.{given_of}
use Rattle.sp_norm.specs.Bounds.{bounds}
use Rattle.sp_fact.specs.View.{declared_of}
use Rattle.sp_spec.proofs.Options.{behind}
use Rattle.sp_exec.proofs.given.bound_by.Given as goal

abbrev pub invariant-loop-number : goal.invariant-loop-number
invariant-loop-number l =
    bound_from zero (map declared_of l.variables.items) (map given_of l.given.items)
    ≡ behind (bounds l.values) (bound_from l.number (map declared_of (drop l.number l.variables.items)) (map given_of l.given.items))
