use Rattle.std.proofs.Common.{◌≡◌, ◌++◌, map, drop}
use Rattle.std.specs.List.{flat_map}
use Rattle.sp_term.specs.View.{view}
use Rattle.sp_fact.specs.GroundView.{equation_of}
use Rattle.sp_spec_forms.specs.Narrowing.{by_equation, choices}
use Rattle.sp_variant.specs.View.{chosen_of, way_by}
use Rattle.sp_variant.proofs.narrowing.choices.Given as goal

abbrev pub invariant-loop-equation : goal.invariant-loop-equation
invariant-loop-equation l =
    map (way_by view) l.ways.items ++ flat_map (by_equation (view l.term) (chosen_of l.chosen)) (map equation_of (drop l.equation-index l.equation-items))
    ≡ choices (map equation_of l.equations.items) (view l.term) (chosen_of l.chosen)
