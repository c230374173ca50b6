use Rattle.std.proofs.Common.{◌≡◌, Bool, true, false, not, List, Option, Some, None, is_none, is_some, option_map, option_and_then, refl, sym, ap, ◌∙◌}
use Rattle.sp_spec.specs.Substitution.{Binding, bound_to}
use Rattle.sp_spec.specs.Unifier.{mgu}
use Rattle.sp_spec_system.specs.Equating.{system_changed}
use Rattle.sp_spec_system.specs.MakingOne.{unified}
use Rattle.sp_term.specs.Bindings.{bindings}
use Rattle.sp_merge.specs.JoiningView.{joining_of}
use Rattle.sp_merge.proofs.made_one.stay_apart.Goals as goal

none_mapped : {A B : Type 0} (f : A → B) (o : Option A) → is_none (option_map f o) ≡ is_none o
none_mapped f None = refl
none_mapped f (Some a) = refl

turned : {A : Type 0} (b : Bool) (o : Option A) → not b ≡ is_some o → b ≡ is_none o
turned true None e = refl
turned true (Some a) e = absurd cc
turned false None e = absurd cc
turned false (Some a) e = refl

pub returns-in_default : goal.returns-in_default
returns-in_default c = sym (ap (λ o. is_none (option_and_then unified o)) (sym c.in_ok-joining.ensures ∙ ap (option_map joining_of) c.in_default.is))

pub returns : goal.returns
returns c =
    let j = joining_of c.in-Some.joining in
    let row = λ (bs : List Binding). system_changed (bound_to bs) (λ i. i) j.system in
    turned c.is_none.result c.in_ok-subst.subst (sym c.is_none.ensures) ∙ sym (none_mapped bindings c.in_ok-subst.subst) ∙ ap is_none c.in_ok-subst.ensures
    ∙ sym (none_mapped row (mgu j.pairs)) ∙ sym (ap (λ o. is_none (option_and_then unified o)) (sym c.in_ok-joining.ensures ∙ ap (option_map joining_of) c.in-Some.is))
