use Rattle.std.proofs.Common.{◌≡◌, ◌++◌, map, drop}
use Rattle.sp_term.specs.View.{view}
use Rattle.sp_fact.specs.View.{declared_of}
use Rattle.sp_variant.specs.View.{list_by}
use Rattle.sp_variant.proofs.Starts.{variables_from}
use Rattle.sp_variant.proofs.forms.rule_variables.Given as goal

abbrev pub invariant-loop-place : goal.invariant-loop-place
invariant-loop-place l = list_by view l.made ++ variables_from l.place (map declared_of (drop l.place l.variable-items)) ≡ variables_from 0 (map declared_of l.declared.items)
