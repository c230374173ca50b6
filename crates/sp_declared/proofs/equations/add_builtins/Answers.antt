use Rattle.std.proofs.Common.{[], ◌∷◌, map, sym, ap, ◌∙◌}
use Rattle.std.proofs.lemmas.List.{map-append}
use Rattle.sp_fact.specs.GroundView.{equation_of}
use Rattle.sp_spec_text.specs.Declared.{without_number}
use Rattle.sp_declared.specs.NumberedView.{numbered_of}
use Rattle.sp_declared.specs.Equations.{added_after}
use Rattle.sp_declared.proofs.Adding.{added_then}
use Rattle.sp_declared.proofs.equations.add_builtins.Goals as goal

pub loop-equation-preserved : goal.loop-equation-preserved
loop-equation-preserved c =
    let gone = c.loop-equation.yielded in
    let e = c.in-Some.equation in
    let before = map numbered_of c.args.equations.now.items in
    added_then before (map without_number (map equation_of gone)) (map numbered_of c.loop-equation.equations.items) (map numbered_of c.add.new.equations.items) (without_number (equation_of e))
    c.loop-equation.invariant c.in_ok-add.ensures
    ∙ sym (ap (added_after before) (ap (map without_number) (map-append equation_of gone (e ∷ [])) ∙ map-append without_number (map equation_of gone) (equation_of e ∷ [])))
