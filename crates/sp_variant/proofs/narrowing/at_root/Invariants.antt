use Rattle.std.proofs.Common.{◌≡◌, map}
use Rattle.std.specs.List.{flat_map}
use Rattle.sp_spec.specs.Term.{app}
use Rattle.sp_term.specs.View.{name_of, view}
use Rattle.sp_fact.specs.GroundView.{equation_of}
use Rattle.sp_spec_forms.specs.Narrowing.{choices}
use Rattle.sp_variant.specs.View.{terms_in, way_by}
use Rattle.sp_variant.proofs.narrowing.at_root.Given as goal

abbrev pub invariant-loop-row : goal.invariant-loop-row
invariant-loop-row l =
    map (way_by view) l.ways.items ≡ flat_map (λ r. choices (map equation_of l.equations.items) (app (name_of l.symbol) r.0) r.1) (map (way_by terms_in) l.yielded)
