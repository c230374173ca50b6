use Rattle.std.proofs.Common.{◌-◌, ◌++◌, List, ap, ◌∙◌, map, arith}
use Rattle.sp_spec.specs.Guarded.{fails}
use Rattle.sp_formula.specs.FormulaView.{binder_of, formula_of}
use Rattle.sp_formula.specs.declared.formula.Atom.TheVariants.{Last}
use Rattle.sp_formula.specs.declared.formula.Formula.{Formula}
use Rattle.sp_formula.specs.declared.formula.Formula.TheVariants.{Fails}
use Rattle.sp_formula.specs.declared.formula.Moment.TheVariants.{Bound}
use Rattle.sp_law_induction.specs.Hypothesis.{not_lasts}
use Rattle.sp_hypothesis.specs.Descending.{descending}
use Rattle.sp_hypothesis.proofs.Descending.{not_lasts_descend, fails_shown, next_stands}
use Rattle.sp_hypothesis.proofs.lasts.not_lasts.Goals as goal

pub loop-place-init : goal.loop-place-init
loop-place-init c =
    ap (λ (fs : List Formula). map formula_of fs ++ descending fails c.times_in-place.result) c.new-made.ensures.items
    ∙ ap (descending fails) c.times_in-place.ensures
    ∙ not_lasts_descend (map binder_of c.args.binders.now.items)

pub loop-place-preserved : goal.loop-place-preserved
loop-place-preserved c =
    let l = c.loop-place in
    let next = l.place - 1 in
    next_stands fails l.place next (omega (arith, c.loop-place-test.true)) l.made.items (Fails (Last (Bound next))) c.push.new.self.items (not_lasts (map binder_of c.args.binders.now.items))
    c.in_ok-push.ensures.items (fails_shown (Last (Bound next))) l.invariant
