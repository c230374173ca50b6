use Rattle.std.proofs.Common.{◌≡◌, ◌<◌, ℕ, [], Option, Some, option_and_then, option_map, refl, sym, ap, ◌∙◌, length, subst}
use Rattle.std.proofs.lemmas.List.{length-map}
use Rattle.sp_spec_system.specs.System as spec
use Rattle.sp_formula.specs.FormulaView.{formula_of}
use Rattle.sp_system.specs.SystemView.{system_of}
use Rattle.sp_system.specs.SpendView.{spending_at}
use Rattle.sp_spec_formula.specs.Equate as rows
use Rattle.sp_rows_formula.specs.declared.equate.Equation as memory
use Rattle.sp_rows_formula.specs.EquateView.{equation}
use Rattle.sp_rows_formula.proofs.Positions.{equate-there}
use Rattle.sp_rows_formula.proofs.Searches.{below}
use Rattle.sp_rows_formula.proofs.Spent.{as_many, equated_spent}
use Rattle.sp_rows_formula.proofs.equate.equate.Goals as goal

abbrev there : Option (ℕ × memory.Equation) → Option (ℕ × rows.Equation)
there o = option_map (λ p. (p.0, equation p.1)) o

abbrev row : spec.System → Option (ℕ × rows.Equation) → Option spec.System
row s = option_and_then (λ p. rows.equated (spending_at s p.0 []) p.1)

abbrev found : spec.System → Option (ℕ × memory.Equation) → Option spec.System
found s o = row s (there o)

abbrev spent : ℕ → Option spec.System → Option spec.System
spent k o = option_map (λ t. spending_at t k []) o

pub returns-in_default : goal.returns-in_default
returns-in_default c =
    let s = system_of c.args.system.now in
    (equate-there s ∙ ap (row s) (sym c.in_ok-position.ensures) ∙ ap (found s) c.in_default.is, refl)

pub returns-then-not-branch : goal.returns-then-not-branch
returns-then-not-branch c =
    let s = system_of c.args.system.now in
    let k = c.in-Some.position in
    let e = equation c.in-Some.equation in
    let h = rw c.if-not-branch.true at c.in_ok-equated.ensures in
    (equate-there s ∙ ap (row s) (sym c.in_ok-position.ensures) ∙ ap (found s) c.in-Some.is ∙ equated_spent s k e ∙ ap (spent k) h.0, h.1)

pub spend-requires : goal.spend-requires
spend-requires c =
    let s = system_of c.args.system.now in
    let k = c.in-Some.position in
    let e = equation c.in-Some.equation in
    let h = rw c.if-not-branch.false at c.in_ok-equated.ensures in
    let old = c.args.system.now.formulas.items in
    let new = c.equated.new.system.formulas.items in
    let many : length new ≡ length old = sym (length-map new formula_of) ∙ as_many s e (system_of c.equated.new.system) h ∙ length-map old formula_of in
    subst (λ (n : ℕ). k < n) (sym many) (below rows.equation_of old k e (sym c.in_ok-position.ensures ∙ ap there c.in-Some.is))

pub returns : goal.returns
returns c =
    let s = system_of c.args.system.now in
    let k = c.in-Some.position in
    let e = equation c.in-Some.equation in
    let h = rw c.if-not-branch.false at c.in_ok-equated.ensures in
    equate-there s ∙ ap (row s) (sym c.in_ok-position.ensures) ∙ ap (found s) c.in-Some.is ∙ equated_spent s k e ∙ ap (spent k) h ∙ ap Some (sym c.in_ok-spend.ensures)
