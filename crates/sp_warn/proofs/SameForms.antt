-- Forms in memory are equal just where the test of what they stand for tells so, and the test tells forms that are one.
use Rattle.std.proofs.Common.{◌≡◌, Bool, true, ◌&&◌, ◌==◌, refl, ap}
use Rattle.std.proofs.lemmas.Bool.{and_parts, eqb-true}
use Rattle.std.proofs.lemmas.Slice.Eq.{bytes_eq-Decides}
use Rattle.std.specs.Str.{bytes_eq}
use Rattle.sp_warn.specs.Forms.{Usage, linear, persistent, action, is_same_usage, Form, is_same_form}
use Rattle.sp_warn.specs.FormView.{usage_of, form_of}
use Rattle.sp_warn.specs.declared.forms.Usage as memory_usage
use Rattle.sp_warn.specs.declared.forms.Usage.TheVariants as u
use Rattle.sp_warn.specs.declared.forms.Form as memory
use Rattle.sp_warn.specs.contracts.forms.UsagePartialEq.TheImpl as usages
use Rattle.sp_warn.specs.contracts.forms.FormPartialEq.TheImpl as forms

usage_tests : (x y : memory_usage.Usage) → usages.ghosts.eq x y ≡ is_same_usage (usage_of x) (usage_of y)
usage_tests u.Linear u.Linear = refl
usage_tests u.Linear u.Persistent = refl
usage_tests u.Linear u.Action = refl
usage_tests u.Persistent u.Linear = refl
usage_tests u.Persistent u.Persistent = refl
usage_tests u.Persistent u.Action = refl
usage_tests u.Action u.Linear = refl
usage_tests u.Action u.Persistent = refl
usage_tests u.Action u.Action = refl

pub form_tests : (x y : memory.Form) → forms.ghosts.eq x y ≡ is_same_form (form_of x) (form_of y)
form_tests x y = ap (λ (b : Bool). bytes_eq x.symbol.now y.symbol.now && ((x.arity == y.arity) && b)) (usage_tests x.usage y.usage)

same_usages : (x y : Usage) → is_same_usage x y ≡ true → x ≡ y
same_usages linear linear e = refl
same_usages linear persistent e = absurd cc
same_usages linear action e = absurd cc
same_usages persistent linear e = absurd cc
same_usages persistent persistent e = refl
same_usages persistent action e = absurd cc
same_usages action linear e = absurd cc
same_usages action persistent e = absurd cc
same_usages action action e = refl

pub same_forms : (x y : Form) → is_same_form x y ≡ true → x ≡ y
same_forms x y e =
    let parts = and_parts (bytes_eq x.symbol y.symbol) ((x.arity == y.arity) && is_same_usage x.usage y.usage) e in
    let rest = and_parts (x.arity == y.arity) (is_same_usage x.usage y.usage) parts.1 in
    let symbols : x.symbol ≡ y.symbol = (bytes_eq-Decides x.symbol y.symbol).0 parts.0 in
    let arities : x.arity ≡ y.arity = eqb-true x.arity y.arity rest.0 in
    let usages : x.usage ≡ y.usage = same_usages x.usage y.usage rest.1 in
    λ i. record { symbol = symbols i; arity = arities i; usage = usages i }
