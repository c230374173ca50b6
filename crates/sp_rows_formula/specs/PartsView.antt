-- The first part of a disjunction that is false.
use Rattle.std.specs.Prelude.{Option, Some, None, if◌then◌else◌}
use Rattle.sp_spec.specs.Guarded.{Guarded}
use Rattle.sp_spec_formula.specs.Split.{is_falsity}

abbrev pub false_of : Guarded → Option Guarded
false_of f = if is_falsity f then Some f else None
