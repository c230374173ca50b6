use Rattle.std.proofs.Common.{refl, ◌∙◌}
use Rattle.std.specs.Prelude.{option_map}
use Rattle.sp_read_parts.specs.Formulas.{conjoint, disjoint}
use Rattle.sp_read_parts.proofs.Chains.{chain_seen}
use Rattle.sp_formula.specs.FormulaView.{formula_of}
use Rattle.sp_law_guard.specs.GuardedForm.{guarded_form, both_forms, conjunction, disjunction}
use Rattle.sp_guard.specs.View.{innermost_first}
use Rattle.sp_guard.proofs.form.+form.Goals as goal

pub and_all-loop-part-preserved : goal.and_all-loop-part-preserved
and_all-loop-part-preserved t c f so =
    let bs = innermost_first c.args.binders.now.items in
    chain_seen conjoint (guarded_form bs) (both_forms conjunction) (λ g h. refl) f c.deref-part-items.result.now c.loop-part.part-index c.part-item.result
    (option_map formula_of c.loop-part.made) (option_map formula_of c.in_ok-next.next) (option_map formula_of c.in_ok-made.made)
    c.loop-part-test.true c.part-item.is (c.loop-part.invariant f so) c.in_ok-next.ensures (c.in_ok-made.ensures ∙ c.paired.ensures conjunction)

pub or_any-loop-part-preserved : goal.or_any-loop-part-preserved
or_any-loop-part-preserved t c f so =
    let bs = innermost_first c.args.binders.now.items in
    chain_seen disjoint (guarded_form bs) (both_forms disjunction) (λ g h. refl) f c.deref-part-items.result.now c.loop-part.part-index c.part-item.result
    (option_map formula_of c.loop-part.made) (option_map formula_of c.in_ok-next.next) (option_map formula_of c.in_ok-made.made)
    c.loop-part-test.true c.part-item.is (c.loop-part.invariant f so) c.in_ok-next.ensures (c.in_ok-made.ensures ∙ c.paired.ensures disjunction)
