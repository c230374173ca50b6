use Rattle.std.proofs.Common.{[], ◌∷◌, ◌++◌, map, sym, ap, ◌∙◌, subst}
use Rattle.sp_spec.specs.Unifier.{no_difference, clash}
use Rattle.sp_term.specs.View.{variable_of, view}
use Rattle.sp_unify.specs.View.{pair_view, step_of}
use Rattle.sp_law_unify.proofs.Finding.{Answers, answers}
use Rattle.sp_law_unify.proofs.Way.{OnTheWay, starts, reaches, goes_on}
use Rattle.sp_unify.proofs.unify.mgu.Goals as goal

pub loop-subst-init : goal.loop-subst-init
loop-subst-init c =
    let ps = map pair_view c.args.pairs.now in
    subst (λ bs. OnTheWay ps bs) (sym c.new-subst.ensures) (starts ps)

pub returns-in-Done : goal.returns-in-Done
returns-in-Done c =
    let found = reaches _ _ c.loop-subst.invariant no_difference (sym c.in_ok-next_step.ensures ∙ ap step_of c.in-Done.is) in
    record { found = found; means = subst (Answers (map pair_view c.args.pairs.now)) (sym found) (answers (map pair_view c.args.pairs.now)) }

pub returns-in-Fails : goal.returns-in-Fails
returns-in-Fails c =
    let found = reaches _ _ c.loop-subst.invariant clash (sym c.in_ok-next_step.ensures ∙ ap step_of c.in-Fails.is) in
    record { found = found; means = subst (Answers (map pair_view c.args.pairs.now)) (sym found) (answers (map pair_view c.args.pairs.now)) }

pub loop-subst-smaller : goal.loop-subst-smaller
loop-subst-smaller c =
    let step = sym c.in_ok-next_step.ensures ∙ ap step_of c.in-Binds.is in
    let one = c.in_ok-push-in-Binds.ensures ∙ ap (λ bs. bs ++ (variable_of c.in-Binds.variable, view c.in-Binds.term) ∷ []) c.new-next.ensures in
    (goes_on _ _ c.loop-subst.invariant _ _ _ _ step one c.in_ok-subst-in-Binds.ensures).1

pub loop-subst-preserved : goal.loop-subst-preserved
loop-subst-preserved c =
    let step = sym c.in_ok-next_step.ensures ∙ ap step_of c.in-Binds.is in
    let one = c.in_ok-push-in-Binds.ensures ∙ ap (λ bs. bs ++ (variable_of c.in-Binds.variable, view c.in-Binds.term) ∷ []) c.new-next.ensures in
    (goes_on _ _ c.loop-subst.invariant _ _ _ _ step one c.in_ok-subst-in-Binds.ensures).0
