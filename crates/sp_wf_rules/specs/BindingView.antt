-- What bound names in memory stand for.
use Rattle.std.specs.Prelude.{List, map}
use Rattle.sp_read_parts.specs.Views.{variable}
use Rattle.sp_declared.specs.View.{texts_of}
use Rattle.sp_wf_rules.specs.BindingFindings as spec
use Rattle.sp_wf_rules.specs.declared.bindings.Bound.{Bound}
use Rattle.sp_wf_rules.specs.declared.bindings.BoundNames.{BoundNames}

abbrev pub bound_of : Bound → spec.Bound
bound_of b = record { variable = variable b.variable; misused = texts_of b.misused.items }

abbrev pub all_bound : List Bound → List spec.Bound
all_bound bs = map bound_of bs

abbrev pub names_of : BoundNames → spec.BoundNames
names_of b = record { bound = texts_of b.bound.items; misused = texts_of b.misused.items }
