-- Rules with the values of their bindings, and bindings with the values of those above them.
use Rattle.std.proofs.Common.{◌≡◌, ◌<◌, ◌+◌, ℕ, true, false, nat_eq, List, [], ◌∷◌, ◌++◌, length, get_or, drop, map, refl, sym, ap, ◌∙◌, arith}
use Rattle.std.proofs.lemmas.List.{map-append, nil_from_length}
use Rattle.sp_spec.proofs.Lists.{next_item}
use Rattle.sp_spec.specs.Written.{WrittenRule}
use Rattle.sp_spec_text.specs.Bindings.{Binding, binding_with, whole_after, whole, with_whole, with_values}
use Rattle.sp_read_parts.specs.Views.{binding, bindings}
use Rattle.sp_read_parts.specs.declared.written.WrittenBinding.{WrittenBinding}

-- one more binding, with the values of those above it
pub next_whole : (above more : List Binding) (target : List Binding) (i : ℕ) (ys bs : List WrittenBinding) (b : WrittenBinding) → ys ≡ bs → i < length ys → b ≡ get_or ys i b
    → more ≡ above ++ binding_with above (binding b) ∷ [] → whole_after above (bindings (drop i bs)) ≡ target → whole_after more (bindings (drop (i + 1) bs)) ≡ target
next_whole above more target i ys bs b same below is pushed so =
    let there : drop i bs ≡ b ∷ drop (i + 1) bs = ap (drop i) (sym same) ∙ next_item ys i b below is ∙ ap (λ (zs : List WrittenBinding). b ∷ drop (i + 1) zs) same in
    ap (λ (cs : List Binding). whole_after cs (bindings (drop (i + 1) bs))) pushed ∙ sym (ap (λ (zs : List WrittenBinding). whole_after above (bindings zs)) there) ∙ so

-- bindings with one more, as they are seen
pub pushed_whole : (above made : List WrittenBinding) (b : WrittenBinding) (seen : Binding) → made ≡ above ++ b ∷ [] → binding b ≡ binding_with (bindings above) seen
    → bindings made ≡ bindings above ++ binding_with (bindings above) seen ∷ []
pushed_whole above made b seen e f = ap bindings e ∙ map-append binding above (b ∷ []) ∙ ap (λ (c : Binding). bindings above ++ c ∷ []) f

-- a rule without bindings stays, and one with some has their values
pub values_none : (n : ℕ) (bs : List WrittenBinding) (r : WrittenRule) → true ≡ nat_eq n 0 → n ≡ length bs → r ≡ with_values (bindings bs) r
values_none n bs r e f = sym (ap (λ (cs : List WrittenBinding). with_values (bindings cs) r) (nil_from_length bs (grind (arith, e, f))))

pub values_some : (n : ℕ) (bs : List WrittenBinding) (r : WrittenRule) → false ≡ nat_eq n 0 → n ≡ length bs → with_whole (whole (bindings bs)) r ≡ with_values (bindings bs) r
values_some n [] r e f = let none : n ≡ 0 = f in absurd (grind (arith, e, none))
values_some n (b ∷ bs) r e f = refl
