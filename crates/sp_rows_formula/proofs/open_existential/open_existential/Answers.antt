use Rattle.std.proofs.Common.{◌≡◌, ◌<◌, ℕ, List, Option, Some, None, option_map, map, refl, sym, ap, ◌∙◌, length, subst}
use Rattle.sp_spec.specs.Guarded.{Guarded}
use Rattle.sp_spec_system.specs.System as spec
use Rattle.sp_formula.specs.declared.formula.Formula.{Formula}
use Rattle.sp_formula.specs.FormulaView.{formula_of}
use Rattle.sp_system.specs.SystemView.{system_of}
use Rattle.sp_spec_formula.specs.Open as rows
use Rattle.sp_rows_formula.specs.declared.open_existential.Opened.{Opened}
use Rattle.sp_rows_formula.specs.OpeningView.{opened_by, opened_of, opened_there, opening_at, opening_there}
use Rattle.sp_rows_formula.specs.RowsView.{position_of}
use Rattle.sp_rows_formula.proofs.Positions.{open_existential-there}
use Rattle.sp_rows_formula.proofs.Searches.{below}
use Rattle.sp_rows_formula.proofs.open_existential.open_existential.Goals as goal

abbrev row : spec.System → Option (ℕ × (List Guarded × ℕ)) → Option spec.System
row s o = option_map (λ p. opening_at s p.0 p.1) o

abbrev there : Option (ℕ × Opened) → Option (ℕ × (List Guarded × ℕ))
there o = option_map opened_there o

abbrev opened_each : ℕ → Option (ℕ × rows.Existential) → Option (ℕ × (List Guarded × ℕ))
opened_each n o = option_map (opening_there n) o

in_two : (s : spec.System) (o : Option (ℕ × rows.Existential)) → option_map (λ p. opening_at s p.0 (opened_by s.next p.1)) o ≡ row s (opened_each s.next o)
in_two s None = refl
in_two s (Some p) = refl

whole : (s : spec.System) (o : Option (ℕ × Opened)) → there o ≡ opened_each s.next (position_of rows.existential_of s.formulas) → rows.open_existential s ≡ row s (there o)
whole s o e = open_existential-there s ∙ in_two s (position_of rows.existential_of s.formulas) ∙ ap (row s) (sym e)

abbrev place : Option (ℕ × (List Guarded × ℕ)) → ℕ
place None = 0
place (Some p) = p.0

stands : (n : ℕ) (fs : List Formula) (o : Option (ℕ × rows.Existential)) (k : ℕ) (x : List Guarded × ℕ) → position_of rows.existential_of (map formula_of fs) ≡ o → Some (k, x) ≡ opened_each n o → k < length fs
stands n fs None k x e h = absurd cc
stands n fs (Some p) k x e h =
    let q : k ≡ p.0 = ap (λ (r : Option (ℕ × (List Guarded × ℕ))). place r) h in
    subst (λ (j : ℕ). j < length fs) (sym q) (below rows.existential_of fs p.0 p.1 e)

pub returns-in_default : goal.returns-in_default
returns-in_default c =
    let s = system_of c.args.system.now in
    (whole s _ c.in_ok-position.ensures ∙ ap (λ (o : Option (ℕ × Opened)). row s (there o)) c.in_default.is, refl)

pub spend_for-requires : goal.spend_for-requires
spend_for-requires c =
    stands c.args.system.now.next c.args.system.now.formulas.items (position_of rows.existential_of (map formula_of c.args.system.now.formulas.items)) c.in-Some.position (opened_of c.in-Some.found) refl
    (sym (ap there c.in-Some.is) ∙ c.in_ok-position.ensures)

pub returns : goal.returns
returns c =
    let s = system_of c.args.system.now in
    whole s _ c.in_ok-position.ensures ∙ ap (λ (o : Option (ℕ × Opened)). row s (there o)) c.in-Some.is
    ∙ ap Some (sym (ap (λ (t : spec.System). spec.with_next t c.in-Some.found.next) c.in_ok-spend_for.ensures))
