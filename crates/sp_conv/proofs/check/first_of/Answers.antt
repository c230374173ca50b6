use Rattle.std.proofs.Common.{rules, map, sym, subst}
use denote.Enum.Bare.{same_true, same_false}
use Rattle.sp_fact.specs.GroundView.{equation_of, symbol_of}
use Rattle.sp_conv.specs.contracts.form.Form.{the_type}
use Rattle.sp_conv.specs.declared.form.Form.{Form}
use Rattle.sp_conv.specs.Forms.{IsForm}
use Rattle.sp_conv.proofs.Forms.{one_form}
use Rattle.sp_conv.proofs.Searches.{item_at, all_passed, none_more, none_at_all, first_found}
use Rattle.sp_conv.proofs.check.first_of.Goals as goal

pub returns-then-eq : goal.returns-then-eq
returns-then-eq c =
    let symbols = map symbol_of c.args.symbols.now.items in
    let es = map equation_of c.args.equations.now.items in
    let e = equation_of c.equation-item.result in
    let item = item_at equation_of c.deref-equation-items.result.now c.args.equations.now.items c.loop-place.place c.equation-item.result
    c.deref-equation-items.ensures.value c.loop-place-test.true c.equation-item.is in
    let same = same_true the_type (search rules) c.form_of.result c.args.form (sym c.if-eq.ensures) in
    first_found (λ d. IsForm symbols es d c.args.form) es c.loop-place.place e item (subst (λ (f : Form). IsForm symbols es e f) same c.form_of.ensures) c.loop-place.invariant

pub loop-place-preserved : goal.loop-place-preserved
loop-place-preserved c =
    let symbols = map symbol_of c.args.symbols.now.items in
    let es = map equation_of c.args.equations.now.items in
    let e = equation_of c.equation-item.result in
    let item = item_at equation_of c.deref-equation-items.result.now c.args.equations.now.items c.loop-place.place c.equation-item.result
    c.deref-equation-items.ensures.value c.loop-place-test.true c.equation-item.is in
    none_more (λ d. IsForm symbols es d c.args.form) es c.loop-place.place e item
    (λ so. same_false the_type c.form_of.result c.args.form (sym c.if-eq.ensures) (one_form symbols es e c.form_of.result c.args.form c.form_of.ensures so)) c.loop-place.invariant

pub returns : goal.returns
returns c =
    let symbols = map symbol_of c.args.symbols.now.items in
    let es = map equation_of c.args.equations.now.items in
    none_at_all (λ d. IsForm symbols es d c.args.form) es c.loop-place.place
    (all_passed equation_of c.deref-equation-items.result.now c.args.equations.now.items c.loop-place.place c.deref-equation-items.ensures.value c.loop-place-test.false)
    c.loop-place.invariant
