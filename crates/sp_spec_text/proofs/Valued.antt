-- What holds of the terms that are bound in a rule, and that values keep, holds of each value that stands for a name.
use Rattle.std.proofs.Common.{Bool, true, false, if◌then◌else◌, List, [], ◌∷◌, ◌++◌, Option, Some}
use Rattle.std.specs.Str.{bytes_eq}
use Rattle.sp_spec.specs.Lists.{Every}
use Rattle.sp_spec.proofs.Lists.{every_append}
use Rattle.sp_spec.specs.Term.{Term, var, valued}
use Rattle.sp_spec.specs.Formula.{Written}
use Rattle.sp_spec_text.specs.Bindings.{Binding, bound_value, or_itself, value_by, binding_with, whole_after, whole}

module _ (T : Term Written → Type 0) where
  abbrev pub IsBoundSo : Binding → Type 0
  IsBoundSo b = T b.value

  chosen_so : (x : Written) (c : Bool) (t : Term Written) (o : Option (Term Written)) → T t → T (or_itself x o) → T (or_itself x (if c then Some t else o))
  chosen_so x true t o h k = h
  chosen_so x false t o h k = k

  pub value_so : (bs : List Binding) (x : Written) → Every IsBoundSo bs → T (var x) → T (value_by bs x)
  value_so [] x h k = k
  value_so (b ∷ bs) x h k = chosen_so x (bytes_eq b.variable.name x.name) b.value (bound_value bs x.name) h.0 (value_so bs x h.1 k)

  module _ (kept : (v : Written → Term Written) (t : Term Written) → ((x : Written) → T (var x) → T (v x)) → T t → T (valued v t)) where
    whole_so : (above bs : List Binding) → Every IsBoundSo above → Every IsBoundSo bs → Every IsBoundSo (whole_after above bs)
    whole_so above [] h k = h
    whole_so above (b ∷ bs) h k =
        whole_so (above ++ binding_with above b ∷ []) bs
        (every_append IsBoundSo above (binding_with above b ∷ []) h (kept (value_by above) b.value (λ x e. value_so above x h e) k.0, tt)) k.1

    pub values_so : (bs : List Binding) → Every IsBoundSo bs → (x : Written) → T (var x) → T (value_by (whole bs) x)
    values_so bs h x k = value_so (whole bs) x (whole_so [] bs tt h) k
