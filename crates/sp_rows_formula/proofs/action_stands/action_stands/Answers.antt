use Rattle.std.proofs.Common.{◌≡◌, ℕ, [], Option, Some, option_map, map, refl, sym, ap, ◌∙◌, ◌<◌, subst}
use Rattle.std.proofs.lemmas.List.{length-map}
use Rattle.sp_spec_system.specs.System as spec
use Rattle.sp_formula.specs.FormulaView.{formula_of}
use Rattle.sp_system.specs.SystemView.{system_of, event_of}
use Rattle.sp_spec_formula.specs.ActionStands as rows
use Rattle.sp_system.specs.SpendView.{spending_at}
use Rattle.sp_rows_formula.specs.RowsView.{position_of}
use Rattle.sp_rows_formula.proofs.Positions.{action_stands-there, place_counts}
use Rattle.sp_rows_formula.proofs.Searches.{place_within}
use Rattle.sp_rows_formula.proofs.action_stands.action_stands.Goals as goal

abbrev row : spec.System → Option ℕ → Option spec.System
row s = option_map (λ k. spending_at s k [])

whole : (s : spec.System) → rows.action_stands s ≡ row s (option_map (λ p. p.0) (position_of (rows.standing_of s.events) s.formulas))
whole s = action_stands-there s ∙ place_counts s (position_of (rows.standing_of s.events) s.formulas)

pub returns-in_default : goal.returns-in_default
returns-in_default c =
    let s = system_of c.args.system.now in
    (whole s ∙ ap (row s) (sym c.in_ok-position.ensures ∙ c.in_default.is), refl)

pub spend-requires : goal.spend-requires
spend-requires c =
    let fs = c.args.system.now.formulas.items in
    subst (λ (n : ℕ). c.in-Some.position < n) (length-map fs formula_of)
    (place_within (rows.standing_of (map event_of c.args.system.now.events.items)) (map formula_of fs) c.in-Some.position (sym c.in_ok-position.ensures ∙ c.in-Some.is))

pub returns : goal.returns
returns c =
    let s = system_of c.args.system.now in
    whole s ∙ ap (row s) (sym c.in_ok-position.ensures ∙ c.in-Some.is) ∙ ap Some (sym c.in_ok-spend.ensures)
