use Rattle.std.proofs.Common.{◌≡◌, map}
use Rattle.sp_variant.specs.View.{terms_in, way_by}
use Rattle.sp_variant.proofs.facts.narrow_one.Given as goal

abbrev pub invariant-loop-row : goal.invariant-loop-row
invariant-loop-row g l =
    let t = g.T.HasArguments in
    map (way_by t.kind_of) l.ways.items ≡ map (λ r. (t.with_args (t.kind_of l.one) r.0, r.1)) (map (way_by terms_in) l.yielded)
