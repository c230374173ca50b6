use Rattle.std.proofs.Common.{ℕ, [], Option, Some, option_map, refl, sym, ap, ◌∙◌}
use Rattle.sp_spec.specs.Unifier.{Pair}
use Rattle.sp_spec_system.specs.System as spec
use Rattle.sp_term.specs.declared.term.Term.{Term}
use Rattle.sp_term.specs.declared.term.Variable.{Variable}
use Rattle.sp_unify.specs.View.{pair_view}
use Rattle.sp_system.specs.SystemView.{system_of}
use Rattle.sp_system.specs.SpendView.{spending_at}
use Rattle.sp_spec_formula.specs.Unequal as rows
use Rattle.sp_rows_formula.specs.RowsView.{keeping}
use Rattle.sp_rows_formula.proofs.Positions.{unequal-there}
use Rattle.sp_rows_formula.proofs.Searches.{below}
use Rattle.sp_rows_formula.proofs.unequal.unequal.Goals as goal

abbrev there : Option (ℕ × (Term Variable × Term Variable)) → Option (ℕ × Pair)
there = option_map (λ p. (p.0, pair_view p.1))

abbrev row : spec.System → Option (ℕ × Pair) → Option spec.System
row s = option_map (λ p. keeping (spending_at s p.0 []) p.1)

abbrev found : spec.System → Option (ℕ × (Term Variable × Term Variable)) → Option spec.System
found s o = row s (there o)

pub returns-in_default : goal.returns-in_default
returns-in_default c =
    let s = system_of c.args.system.now in
    (unequal-there s ∙ ap (row s) (sym c.in_ok-position.ensures) ∙ ap (found s) c.in_default.is, refl)

pub spend-requires : goal.spend-requires
spend-requires c =
    below rows.inequality_of c.args.system.now.formulas.items c.in-Some.position (pair_view c.in-Some.pair)
    (sym c.in_ok-position.ensures ∙ ap there c.in-Some.is)

pub returns : goal.returns
returns c =
    let s = system_of c.args.system.now in
    unequal-there s ∙ ap (row s) (sym c.in_ok-position.ensures) ∙ ap (found s) c.in-Some.is
    ∙ ap Some (sym (c.in_ok-keep.ensures ∙ ap (λ (t : spec.System). keeping t (pair_view c.in-Some.pair)) c.in_ok-spend.ensures))
