use Rattle.std.proofs.Common.{sym, ap, ◌∙◌, map}
use Rattle.sp_spec.specs.Guarded.{all_of, one_of, some, every}
use Rattle.sp_formula.specs.FormulaView.{atom_of, binder_of, formula_of}
use Rattle.sp_formula.specs.declared.formula.Formula.{Formula}
use Rattle.sp_formula.proofs.Formulas.{all_shown, one_shown, some_shown, every_shown}
use Rattle.sp_law_guard.specs.GuardedForm.{negate}
use Rattle.sp_guard.proofs.Negating.{each_negated, taken_back, turned}
use Rattle.sp_guard.proofs.negate.+negate.Goals as goal

pub negate-returns-in_ok-made-in-AllOf : goal.negate-returns-in_ok-made-in-AllOf
negate-returns-in_ok-made-in-AllOf t c =
    let given = c.in-AllOf.parts in
    let made = c.in_ok-made-in-AllOf.made in
    one_shown made ∙ ap one_of (each_negated (map formula_of given.items) (map formula_of made.items) c.in_ok-made-in-AllOf.ensures)
    ∙ sym (ap (λ (f : Formula). negate (formula_of f)) c.in-AllOf.is ∙ ap negate (all_shown given))

pub negate-returns-in_ok-made-in-OneOf : goal.negate-returns-in_ok-made-in-OneOf
negate-returns-in_ok-made-in-OneOf t c =
    let given = c.in-OneOf.parts in
    let made = c.in_ok-made-in-OneOf.made in
    all_shown made ∙ ap all_of (each_negated (map formula_of given.items) (map formula_of made.items) c.in_ok-made-in-OneOf.ensures)
    ∙ sym (ap (λ (f : Formula). negate (formula_of f)) c.in-OneOf.is ∙ ap negate (one_shown given))

pub negate-returns-then-is_negated_action : goal.negate-returns-then-is_negated_action
negate-returns-then-is_negated_action t c =
    let bs = c.in-ForAll.binders in
    let guard = c.in-ForAll.guard in
    c.held.ensures
    ∙ taken_back (map binder_of bs.items) (map atom_of guard.items) (formula_of c.deref.result.now) (sym c.is_negated_action.ensures ∙ c.if-is_negated_action.true)
    ∙ ap (λ (f : Formula). negate (every (map binder_of bs.items) (map atom_of guard.items) (formula_of f))) c.deref.ensures
    ∙ sym (ap (λ (f : Formula). negate (formula_of f)) c.in-ForAll.is ∙ ap negate (every_shown bs guard c.in-ForAll.body))

pub negate-returns-in_ok-made-in-ForAll : goal.negate-returns-in_ok-made-in-ForAll
negate-returns-in_ok-made-in-ForAll t c =
    let bs = c.in-ForAll.binders in
    let guard = c.in-ForAll.guard in
    let made = c.in_ok-made-in-ForAll.made in
    some_shown bs guard made ∙ ap (some (map binder_of bs.items) (map atom_of guard.items)) (c.in_ok-made-in-ForAll.ensures ∙ ap (λ (f : Formula). negate (formula_of f)) (sym c.deref.ensures))
    ∙ turned (map binder_of bs.items) (map atom_of guard.items) (formula_of c.deref.result.now) (sym c.is_negated_action.ensures ∙ c.if-is_negated_action.false)
    ∙ ap (λ (f : Formula). negate (every (map binder_of bs.items) (map atom_of guard.items) (formula_of f))) c.deref.ensures
    ∙ sym (ap (λ (f : Formula). negate (formula_of f)) c.in-ForAll.is ∙ ap negate (every_shown bs guard c.in-ForAll.body))
