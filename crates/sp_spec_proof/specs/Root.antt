-- The system in which a proof begins: a formula that is to be true, and nothing else. Source: CSF 2012, "Constraint solving".
use Rattle.std.specs.Prelude.{[], ◌∷◌}
use Rattle.sp_spec.specs.Guarded.{Guarded}
use Rattle.sp_spec_system.specs.System.{System, formulas_alone}

abbrev pub root : Guarded → System
root f = formulas_alone (f ∷ [])
