use Rattle.std.proofs.Common.{◌<◌, ◌≡◌, List, length, get_or, refl, sym, ap, ◌∙◌, subst}
use Rattle.std.specs.Global.{Vec}
use Rattle.sp_spec_system.specs.Move.{or}
use Rattle.sp_formula.specs.declared.formula.Formula.{Formula}
use Rattle.sp_formula.specs.FormulaView.{formula_of}
use Rattle.sp_system.specs.SystemView.{system_of}
use Rattle.sp_step.proofs.Choosing.{next_place, part_here}
use Rattle.sp_step.proofs.choose.first_disjunction.Goals as goal

pub returns-then-is_disjunction : goal.returns-then-is_disjunction
returns-then-is_disjunction c context =
    let s = system_of c.args.system.now in
    let all = c.args.system.now.formulas.items in
    let item = c.formula-item.result in
    let f = c.formula.result.now in
    let k = c.loop-place.place in
    let items = c.deref-formula-items.ensures.value ∙ ap (λ (v : Vec Formula). v.items) c.deref.ensures in
    let is : f ≡ get_or all k f = c.formula.ensures ∙ c.formula-item.is ∙ ap (λ (fs : List Formula). get_or fs k item) items ∙ ap (get_or all k) (sym c.formula.ensures) in
    let below : k < length all = subst (λ (fs : List Formula). k < length fs) items c.loop-place-test.true in
    let here = part_here context s all k f c.is_disjunction.result refl below is c.is_disjunction.ensures in
    let step = next_place context s or formula_of all k f c.is_disjunction.result below is here in
    sym (rw c.if-is_disjunction.true at step) ∙ c.loop-place.invariant context

pub loop-place-preserved : goal.loop-place-preserved
loop-place-preserved c context =
    let s = system_of c.args.system.now in
    let all = c.args.system.now.formulas.items in
    let item = c.formula-item.result in
    let f = c.formula.result.now in
    let k = c.loop-place.place in
    let items = c.deref-formula-items.ensures.value ∙ ap (λ (v : Vec Formula). v.items) c.deref.ensures in
    let is : f ≡ get_or all k f = c.formula.ensures ∙ c.formula-item.is ∙ ap (λ (fs : List Formula). get_or fs k item) items ∙ ap (get_or all k) (sym c.formula.ensures) in
    let below : k < length all = subst (λ (fs : List Formula). k < length fs) items c.loop-place-test.true in
    let here = part_here context s all k f c.is_disjunction.result refl below is c.is_disjunction.ensures in
    let step = next_place context s or formula_of all k f c.is_disjunction.result below is here in
    sym (rw c.if-is_disjunction.false at step) ∙ c.loop-place.invariant context
