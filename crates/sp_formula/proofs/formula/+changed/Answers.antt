use Rattle.std.proofs.Common.{sym, ap, ◌∙◌, map}
use Rattle.sp_spec.specs.Guarded.{all_of, one_of}
use Rattle.sp_spec.specs.Substitution.{bound_to}
use Rattle.sp_term.specs.Bindings.{bindings}
use Rattle.sp_spec.specs.Change.{Change, changed, free_change}
use Rattle.sp_spec.specs.Change.{time_replaced}
use Rattle.sp_formula.specs.FormulaView.{atom_of, binder_of, formula_of}
use Rattle.sp_formula.specs.declared.formula.Formula.{Formula}
use Rattle.sp_formula.proofs.FreeChanges.{under-free_change}
use Rattle.sp_formula.proofs.Formulas.{all_shown, one_shown, some_shown, every_shown, each_changed, some_changed, every_changed}
use Rattle.sp_formula.proofs.formula.+changed.Goals as goal

pub Formula::changed-returns-in_ok-formulas-in-AllOf : goal.Formula::changed-returns-in_ok-formulas-in-AllOf
Formula::changed-returns-in_ok-formulas-in-AllOf t c =
    let d : Change = free_change (bound_to (bindings c.args.subst.now)) (time_replaced c.args.small c.args.large) in
    let given = c.in-AllOf.formulas in
    let made = c.in_ok-formulas-in-AllOf.formulas in
    all_shown made ∙ ap all_of (each_changed d (map formula_of given.items) (map formula_of made.items) c.in_ok-formulas-in-AllOf.ensures)
    ∙ sym (ap (λ (f : Formula). changed d (formula_of f)) c.in-AllOf.is ∙ ap (changed d) (all_shown given))

pub Formula::changed-returns-in_ok-formulas-in-OneOf : goal.Formula::changed-returns-in_ok-formulas-in-OneOf
Formula::changed-returns-in_ok-formulas-in-OneOf t c =
    let d : Change = free_change (bound_to (bindings c.args.subst.now)) (time_replaced c.args.small c.args.large) in
    let given = c.in-OneOf.formulas in
    let made = c.in_ok-formulas-in-OneOf.formulas in
    one_shown made ∙ ap one_of (each_changed d (map formula_of given.items) (map formula_of made.items) c.in_ok-formulas-in-OneOf.ensures)
    ∙ sym (ap (λ (f : Formula). changed d (formula_of f)) c.in-OneOf.is ∙ ap (changed d) (one_shown given))

pub Formula::changed-returns-in_ok-body-in-Exists : goal.Formula::changed-returns-in_ok-body-in-Exists
Formula::changed-returns-in_ok-body-in-Exists t c =
    let d : Change = free_change (bound_to (bindings c.args.subst.now)) (time_replaced c.args.small c.args.large) in
    let bs = c.in-Exists.binders in
    let guard = c.in-Exists.guard in
    let body = c.in-Exists.body in
    let cs = c.in_ok-binders-in-Exists.binders in
    let atoms = c.in_ok-guard-in-Exists.guard in
    let made = c.in_ok-body-in-Exists.body in
    some_shown cs atoms made
    ∙ some_changed d (map binder_of bs.items) (map binder_of cs.items) (map atom_of guard.items) (map atom_of atoms.items) (formula_of body.value) (formula_of made.value) d
    (sym (under-free_change (bound_to (bindings c.args.subst.now)) (time_replaced c.args.small c.args.large) (map binder_of bs.items)))
    (ap (map binder_of) (c.in_ok-binders-in-Exists.ensures.items ∙ c.as_slice.ensures.value)) c.in_ok-guard-in-Exists.ensures (c.in_ok-body-in-Exists.ensures ∙ ap (λ (f : Formula). changed d (formula_of f)) c.deref.ensures)
    ∙ sym (ap (λ (f : Formula). changed d (formula_of f)) c.in-Exists.is ∙ ap (changed d) (some_shown bs guard body))

pub Formula::changed-returns-in_ok-body-in-ForAll : goal.Formula::changed-returns-in_ok-body-in-ForAll
Formula::changed-returns-in_ok-body-in-ForAll t c =
    let d : Change = free_change (bound_to (bindings c.args.subst.now)) (time_replaced c.args.small c.args.large) in
    let bs = c.in-ForAll.binders in
    let guard = c.in-ForAll.guard in
    let body = c.in-ForAll.body in
    let cs = c.in_ok-binders-in-ForAll.binders in
    let atoms = c.in_ok-guard-in-ForAll.guard in
    let made = c.in_ok-body-in-ForAll.body in
    every_shown cs atoms made
    ∙ every_changed d (map binder_of bs.items) (map binder_of cs.items) (map atom_of guard.items) (map atom_of atoms.items) (formula_of body.value) (formula_of made.value) d
    (sym (under-free_change (bound_to (bindings c.args.subst.now)) (time_replaced c.args.small c.args.large) (map binder_of bs.items)))
    (ap (map binder_of) (c.in_ok-binders-in-ForAll.ensures.items ∙ c.as_slice-in-ForAll.ensures.value)) c.in_ok-guard-in-ForAll.ensures (c.in_ok-body-in-ForAll.ensures ∙ ap (λ (f : Formula). changed d (formula_of f)) c.deref-in-ForAll.ensures)
    ∙ sym (ap (λ (f : Formula). changed d (formula_of f)) c.in-ForAll.is ∙ ap (changed d) (every_shown bs guard body))
