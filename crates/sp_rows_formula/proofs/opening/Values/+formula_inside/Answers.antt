use Rattle.std.proofs.Common.{◌≡◌, refl, sym, ap, ◌∙◌, map}
use Rattle.sp_spec.proofs.Options.{ok_so}
use Rattle.sp_spec.specs.Guarded.{all_of, one_of, some, every}
use Rattle.sp_spec.specs.Change.{atom_changed, changed}
use Rattle.sp_formula.specs.FormulaView.{atom_of, binder_of, formula_of}
use Rattle.sp_formula.specs.declared.formula.Formula.{Formula}
use Rattle.sp_formula.proofs.Formulas.{all_shown, one_shown, some_shown, every_shown, each_changed, some_changed, every_changed}
use Rattle.sp_rows_formula.specs.InsideView.{inside_of}
use Rattle.sp_rows_formula.specs.OpeningView.{change_of}
use Rattle.sp_rows_formula.proofs.opening.Values.+formula_inside.Goals as goal

pub formula_inside-returns-in_ok-formulas-in-AllOf : goal.formula_inside-returns-in_ok-formulas-in-AllOf
formula_inside-returns-in_ok-formulas-in-AllOf t c =
    let d = inside_of c.args.inside (change_of c.args.self.now) in
    let given = c.in-AllOf.formulas in
    let made = c.in_ok-formulas-in-AllOf.formulas in
    all_shown made ∙ ap all_of (each_changed d (map formula_of given.items) (map formula_of made.items) c.in_ok-formulas-in-AllOf.ensures)
    ∙ sym (ap (λ (f : Formula). changed d (formula_of f)) c.in-AllOf.is ∙ ap (changed d) (all_shown given))

pub formula_inside-returns-in_ok-formulas-in-OneOf : goal.formula_inside-returns-in_ok-formulas-in-OneOf
formula_inside-returns-in_ok-formulas-in-OneOf t c =
    let d = inside_of c.args.inside (change_of c.args.self.now) in
    let given = c.in-OneOf.formulas in
    let made = c.in_ok-formulas-in-OneOf.formulas in
    one_shown made ∙ ap one_of (each_changed d (map formula_of given.items) (map formula_of made.items) c.in_ok-formulas-in-OneOf.ensures)
    ∙ sym (ap (λ (f : Formula). changed d (formula_of f)) c.in-OneOf.is ∙ ap (changed d) (one_shown given))

pub formula_inside-returns-in_ok-body-in-Exists : goal.formula_inside-returns-in_ok-body-in-Exists
formula_inside-returns-in_ok-body-in-Exists t c =
    let d = inside_of c.args.inside (change_of c.args.self.now) in
    let e = inside_of c.in_ok-within-in-Exists.within (change_of c.args.self.now) in
    let bs = c.in-Exists.binders in
    let guard = c.in-Exists.guard in
    let body = c.in-Exists.body in
    let made = c.in_ok-body-in-Exists.body in
    let atoms = map (atom_changed e) (map atom_of guard.items) in
    let shown : some (map binder_of bs.items) atoms (formula_of made.value) ≡ changed d (formula_of c.args.formula.now) =
    some_changed d (map binder_of bs.items) (map binder_of bs.items) (map atom_of guard.items) atoms (formula_of body.value) (formula_of made.value) e
    (c.in_ok-within-in-Exists.ensures (change_of c.args.self.now))
    refl refl (c.in_ok-body-in-Exists.ensures ∙ ap (λ (f : Formula). changed e (formula_of f)) c.deref.ensures)
    ∙ sym (ap (λ (f : Formula). changed d (formula_of f)) c.in-Exists.is ∙ ap (changed d) (some_shown bs guard body)) in
    ok_so c.existential.result (λ f. formula_of f ≡ some (map binder_of bs.items) atoms (formula_of made.value)) (λ f. formula_of f ≡ changed d (formula_of c.args.formula.now))
    (λ f told. told ∙ shown) c.existential.ensures

pub formula_inside-returns-in_ok-body-in-ForAll : goal.formula_inside-returns-in_ok-body-in-ForAll
formula_inside-returns-in_ok-body-in-ForAll t c =
    let d = inside_of c.args.inside (change_of c.args.self.now) in
    let e = inside_of c.in_ok-within-in-ForAll.within (change_of c.args.self.now) in
    let bs = c.in-ForAll.binders in
    let guard = c.in-ForAll.guard in
    let body = c.in-ForAll.body in
    let made = c.in_ok-body-in-ForAll.body in
    let atoms = map (atom_changed e) (map atom_of guard.items) in
    let shown : every (map binder_of bs.items) atoms (formula_of made.value) ≡ changed d (formula_of c.args.formula.now) =
    every_changed d (map binder_of bs.items) (map binder_of bs.items) (map atom_of guard.items) atoms (formula_of body.value) (formula_of made.value) e
    (c.in_ok-within-in-ForAll.ensures (change_of c.args.self.now))
    refl refl (c.in_ok-body-in-ForAll.ensures ∙ ap (λ (f : Formula). changed e (formula_of f)) c.deref-in-ForAll.ensures)
    ∙ sym (ap (λ (f : Formula). changed d (formula_of f)) c.in-ForAll.is ∙ ap (changed d) (every_shown bs guard body)) in
    ok_so c.universal.result (λ f. formula_of f ≡ every (map binder_of bs.items) atoms (formula_of made.value)) (λ f. formula_of f ≡ changed d (formula_of c.args.formula.now))
    (λ f told. told ∙ shown) c.universal.ensures
