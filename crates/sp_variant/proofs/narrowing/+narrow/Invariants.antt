use Rattle.std.proofs.Common.{◌≡◌, map, take, drop}
use Rattle.sp_term.specs.View.{view}
use Rattle.sp_fact.specs.GroundView.{equation_of}
use Rattle.sp_spec_forms.specs.Narrowing.{each, narrow}
use Rattle.sp_variant.specs.View.{chosen_of, list_by, way_by}
use Rattle.sp_variant.specs.Rows.{longer}
use Rattle.sp_variant.proofs.Rows.{made_longer}
use Rattle.sp_variant.proofs.narrowing.+narrow.Given as goal

abbrev pub invariant-longer-loop-row : goal.invariant-longer-loop-row
invariant-longer-loop-row l =
    map (way_by (list_by view)) l.made.items ≡ longer (narrow (map equation_of l.equations.items) (view l.term)) (map (way_by (list_by view)) (take l.row-index l.row-items))

abbrev pub invariant-narrow_all-loop-term : goal.invariant-narrow_all-loop-term
invariant-narrow_all-loop-term l =
    let m = narrow (map equation_of l.equations.items) in
    made_longer m (map (way_by (list_by view)) l.rows.items) (map view (drop l.term-index l.term-items)) ≡ each m (map view l.terms.items) (chosen_of l.chosen)
