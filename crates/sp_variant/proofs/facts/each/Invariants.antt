use Rattle.std.proofs.Common.{◌≡◌, map, drop}
use Rattle.sp_fact.specs.GroundView.{equation_of}
use Rattle.sp_spec_forms.specs.Narrowing.{each}
use Rattle.sp_variant.specs.View.{chosen_of, list_by, way_by}
use Rattle.sp_variant.specs.Rows.{narrow_arguments}
use Rattle.sp_variant.proofs.Rows.{made_longer}
use Rattle.sp_variant.proofs.facts.each.Given as goal

abbrev pub invariant-loop-one : goal.invariant-loop-one
invariant-loop-one g l =
    let t = g.T.HasArguments in
    let m = narrow_arguments t.args_of t.with_args (map equation_of l.equations.items) in
    made_longer m (map (way_by (list_by t.kind_of)) l.rows.items) (map t.kind_of (drop l.one-index l.one-items)) ≡ each m (list_by t.kind_of l.all) (chosen_of l.chosen)
