use Rattle.std.proofs.Common.{◌≡◌, map}
use Rattle.sp_spec.specs.Term.{valued_all_where}
use Rattle.sp_term.specs.View.{view_by, view_all_by}
use Rattle.sp_term.proofs.Resolved.{after, rest_from}
use Rattle.sp_term.proofs.apply.+resolve.Given as goal

abbrev pub invariant-resolve_all-loop-term : goal.invariant-resolve_all-loop-term
invariant-resolve_all-loop-term g l =
    let f = g.F.Resolves in
    valued_all_where (f.value_of l.values) (view_all_by f.from_of l.terms.items)
    ≡ after (map (view_by f.to_of) l.made.items) (rest_from f.from_of f.to_of (f.value_of l.values) l.term-index l.term-items)
