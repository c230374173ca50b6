use Rattle.std.proofs.Common.{◌≡◌, map, drop}
use Rattle.sp_term.specs.View.{view_all}
use Rattle.sp_fact.specs.GroundView.{equation_of}
use Rattle.sp_spec_forms.specs.Reducible.{irreducible_all}
use Rattle.sp_book.proofs.reducible.+irreducible.Given as goal

abbrev pub invariant-irreducible_all-loop-term : goal.invariant-irreducible_all-loop-term
invariant-irreducible_all-loop-term l =
    let es = map equation_of l.equations.items in
    irreducible_all es (view_all l.terms.items) ≡ irreducible_all es (view_all (drop l.term-index l.term-items))
