use Rattle.std.proofs.Common.{◌≡◌, IfOk, map, sym, ap, ◌∙◌, subst}
use Rattle.std.specs.Global.{Box}
use Rattle.sp_spec.specs.Formula.{Formula}
use Rattle.sp_fact.specs.GroundView.{symbol_of}
use Rattle.sp_read_parts.specs.Formulas.{formula}
use Rattle.sp_read_parts.specs.declared.written.ReadFormula.{ReadFormula}
use Rattle.sp_read_parts.proofs.Shown.{happens_shown, equals_shown}
use Rattle.sp_spec_text.specs.Declared.{resolved_formula}
use Rattle.sp_declared.specs.View.{texts_of}
use Rattle.sp_resolved.specs.Names.{innermost_first}
use Rattle.sp_resolved.proofs.Resolving.{not_made, implies_made, equivalent_made, both_made, either_made, for_all_made, for_some_made}
use Rattle.sp_resolved.proofs.formulas.+resolving.Goals as goal

pub boxed-returns-in-Happens : goal.boxed-returns-in-Happens
boxed-returns-in-Happens t c =
    subst (λ (g : Formula). IfOk c.happening.result (λ (f : Box ReadFormula). formula f.value ≡ resolved_formula (map symbol_of c.args.symbols.now.items) (innermost_first c.args.bound.now.items) g))
    (sym (ap formula c.in-Happens.is ∙ happens_shown c.in-Happens.action c.in-Happens.at))
    c.happening.ensures

pub boxed-returns-in-Equals : goal.boxed-returns-in-Equals
boxed-returns-in-Equals t c =
    subst (λ (g : Formula). IfOk c.equality.result (λ (f : Box ReadFormula). formula f.value ≡ resolved_formula (map symbol_of c.args.symbols.now.items) (innermost_first c.args.bound.now.items) g))
    (sym (ap formula c.in-Equals.is ∙ equals_shown c.in-Equals.left c.in-Equals.right))
    c.equality.ensures

pub boxed-returns-in-Not : goal.boxed-returns-in-Not
boxed-returns-in-Not t c =
    let ss = map symbol_of c.args.symbols.now.items in
    let at = c.in-Not in
    let one = rw c.deref.ensures at c.boxed-made.ensures in
    rw at.is (not_made ss (innermost_first c.args.bound.now.items) c.negation.result c.boxed-made.result at.denied c.negation.ensures one)

pub boxed-returns-in-Both : goal.boxed-returns-in-Both
boxed-returns-in-Both t c =
    let ss = map symbol_of c.args.symbols.now.items in
    let at = c.in-Both in
    let one = rw c.deref-in-Both.ensures at c.boxed-first.ensures in
    let two = rw c.deref-in-Both-2.ensures at c.boxed-second.ensures in
    rw at.is (both_made ss (innermost_first c.args.bound.now.items) c.conjunction.result c.boxed-first.result c.boxed-second.result c.formulas-others.result at.left at.right at.more c.conjunction.ensures one two c.formulas-others.ensures)

pub boxed-returns-in-Either : goal.boxed-returns-in-Either
boxed-returns-in-Either t c =
    let ss = map symbol_of c.args.symbols.now.items in
    let at = c.in-Either in
    let one = rw c.deref-in-Either.ensures at c.boxed-first-in-Either.ensures in
    let two = rw c.deref-in-Either-2.ensures at c.boxed-second-in-Either.ensures in
    rw at.is (either_made ss (innermost_first c.args.bound.now.items) c.disjunction.result c.boxed-first-in-Either.result c.boxed-second-in-Either.result c.formulas-others-in-Either.result at.left at.right at.more c.disjunction.ensures one two c.formulas-others-in-Either.ensures)

pub boxed-returns-in-Implies : goal.boxed-returns-in-Implies
boxed-returns-in-Implies t c =
    let ss = map symbol_of c.args.symbols.now.items in
    let at = c.in-Implies in
    let one = rw c.deref-in-Implies.ensures at c.boxed-first-in-Implies.ensures in
    let two = rw c.deref-in-Implies-2.ensures at c.boxed-second-in-Implies.ensures in
    rw at.is (implies_made ss (innermost_first c.args.bound.now.items) c.implication.result c.boxed-first-in-Implies.result c.boxed-second-in-Implies.result at.left at.right c.implication.ensures one two)

pub boxed-returns-in-Equivalent : goal.boxed-returns-in-Equivalent
boxed-returns-in-Equivalent t c =
    let ss = map symbol_of c.args.symbols.now.items in
    let at = c.in-Equivalent in
    let one = rw c.deref-in-Equivalent.ensures at c.boxed-first-in-Equivalent.ensures in
    let two = rw c.deref-in-Equivalent-2.ensures at c.boxed-second-in-Equivalent.ensures in
    rw at.is (equivalent_made ss (innermost_first c.args.bound.now.items) c.equivalence.result c.boxed-first-in-Equivalent.result c.boxed-second-in-Equivalent.result at.left at.right c.equivalence.ensures one two)

pub boxed-returns-in-ForAll : goal.boxed-returns-in-ForAll
boxed-returns-in-ForAll t c =
    let ss = map symbol_of c.args.symbols.now.items in
    let at = c.in-ForAll in
    let one = rw c.deref-in-ForAll.ensures at c.inside-made.ensures in
    rw at.is (for_all_made ss c.for_all.result c.inside-made.result (texts_of c.args.bound.now.items) at.variables at.body c.for_all.ensures one)

pub boxed-returns-in-ForSome : goal.boxed-returns-in-ForSome
boxed-returns-in-ForSome t c =
    let ss = map symbol_of c.args.symbols.now.items in
    let at = c.in-ForSome in
    let one = rw c.deref-in-ForSome.ensures at c.inside-made-in-ForSome.ensures in
    rw at.is (for_some_made ss c.for_some.result c.inside-made-in-ForSome.result (texts_of c.args.bound.now.items) at.variables at.body c.for_some.ensures one)
