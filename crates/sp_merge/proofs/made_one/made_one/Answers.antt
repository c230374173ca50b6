use Rattle.std.proofs.Common.{Some, List, option_map, option_and_then, refl, sym, ap, ◌∙◌}
use Rattle.sp_spec.specs.Substitution.{Binding, bound_to}
use Rattle.sp_spec_system.specs.Equating.{system_changed}
use Rattle.sp_spec_system.specs.MakingOne.{unified}
use Rattle.sp_term.specs.Bindings.{bindings}
use Rattle.sp_system.specs.SystemView.{system_of}
use Rattle.sp_merge.specs.JoiningView.{joining_of}
use Rattle.sp_merge.proofs.made_one.made_one.Goals as goal

pub returns-in_default : goal.returns-in_default
returns-in_default c = (ap (option_and_then unified) (sym c.in_ok-joining.ensures ∙ ap (option_map joining_of) c.in_default.is), refl)

pub returns-in_default-2 : goal.returns-in_default-2
returns-in_default-2 c =
    let s = system_of c.in-Some.joining.system in (
      ap (option_and_then unified) (sym c.in_ok-joining.ensures ∙ ap (option_map joining_of) c.in-Some.is)
          ∙ ap (option_map (λ (bs : List Binding). system_changed (bound_to bs) (λ i. i) s)) (sym c.in_ok-subst.ensures ∙ ap (option_map bindings) c.in_default-2.is),
      refl,
    )

pub returns : goal.returns
returns c =
    let s = system_of c.in-Some.joining.system in
    ap (option_and_then unified) (sym c.in_ok-joining.ensures ∙ ap (option_map joining_of) c.in-Some.is)
    ∙ ap (option_map (λ (bs : List Binding). system_changed (bound_to bs) (λ i. i) s)) (sym c.in_ok-subst.ensures ∙ ap (option_map bindings) c.in-Some-2.is)
    ∙ ap Some (sym c.in_ok-made.ensures)
