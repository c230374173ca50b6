use Rattle.std.proofs.Common.{ℕ, List, Option, Some, option_map, sym, ap, ◌∙◌, ◌<◌, ◌≤◌, length, subst, slice_index_or}
use Rattle.std.specs.Global.{Vec}
use Rattle.sp_spec.specs.Guarded.{Guarded}
use Rattle.sp_formula.specs.declared.formula.Formula.{Formula}
use Rattle.sp_formula.specs.FormulaView.{formula_of}
use Rattle.sp_formula.proofs.Formulas.{some_shown}
use Rattle.sp_spec_formula.specs.Open as rows
use Rattle.sp_rows_formula.specs.OpeningView.{opened_by, opening_there, parts_of}
use Rattle.sp_rows_formula.proofs.Searches.{left_found, left_none}
use Rattle.sp_rows_formula.proofs.open_existential.first_existential.Goals as goal

abbrev opened_each : ℕ → Option (ℕ × rows.Existential) → Option (ℕ × (List Guarded × ℕ))
opened_each n = option_map (opening_there n)

pub returns-in-Exists : goal.returns-in-Exists
returns-in-Exists c =
    let i = c.loop-position.position in
    let f = c.formula-item.result in
    let all = c.deref-formula-items.ensures.value ∙ ap (λ (v : Vec Formula). v.items) c.deref.ensures in
    let within = subst (λ (fs : List Formula). i < length fs) all c.loop-position-test.true in
    let is = c.formula-item.is ∙ ap (λ (fs : List Formula). slice_index_or fs i f) all in
    let found = left_found rows.existential_of c.args.system.now.formulas.items i f (parts_of c.in-Exists.binders.items c.in-Exists.guard.items c.in-Exists.body.value) within is
    (ap (λ (g : Formula). rows.existential_of (formula_of g)) (sym c.formula.ensures ∙ c.in-Exists.is) ∙ ap rows.existential_of (some_shown c.in-Exists.binders c.in-Exists.guard c.in-Exists.body)) c.loop-position.invariant in
    let one : List Guarded × ℕ → Option (ℕ × (List Guarded × ℕ)) = λ x. Some (i, x) in
    let opened = λ (g : Formula). opened_by c.args.system.now.next (parts_of c.in-Exists.binders.items c.in-Exists.guard.items g) in
    ap one (c.in_ok-found.ensures ∙ ap opened c.deref-in-Exists.ensures) ∙ ap (opened_each c.args.system.now.next) (sym found)

pub returns : goal.returns
returns c =
    let past = subst (λ (fs : List Formula). length fs ≤ c.loop-position.position) (c.deref-formula-items.ensures.value ∙ ap (λ (v : Vec Formula). v.items) c.deref.ensures) c.loop-position-test.false in
    ap (opened_each c.args.system.now.next) (sym (left_none rows.existential_of c.args.system.now.formulas.items c.loop-position.position past c.loop-position.invariant))
