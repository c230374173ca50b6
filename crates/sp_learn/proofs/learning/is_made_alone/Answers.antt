use Rattle.std.proofs.Common.{◌≡◌, ℕ, Bool, ◌&&◌, ◌||◌, ◌==◌, codes, length, sym, ap, ◌∙◌, arith}
use Rattle.std.specs.Str.{bytes_eq}
use Rattle.sp_term.specs.View.{name_of, never_of}
use Rattle.sp_term.proofs.Lists.{count-view_all}
use Rattle.sp_fact.specs.GroundView.{ground_of, signature_of}
use Rattle.sp_fact.proofs.Applied.{ground_app}
use Rattle.sp_norm.specs.Over.{any_public}
use Rattle.sp_learn.specs.Learning as spec
use Rattle.sp_learn.proofs.learning.is_made_alone.Goals as goal

pub returns-in-App : goal.returns-in-App
returns-in-App c =
    let signature = signature_of c.args.signature.now in
    let f = name_of c.in-App.symbol in
    let terms = c.in-App.terms.value in
    let as_long : c.len.result ≡ length terms.items = c.len.ensures ∙ ap (λ v. v.len) c.deref.ensures ∙ omega (arith, terms.ok.0) in
    let alone : ℕ → Bool = λ n. (bytes_eq f (codes "pair") && (n == 2)) || ((n == 0) && any_public signature.symbols f 0) in
    c.is_applied_alone.ensures ∙ ap alone (as_long ∙ sym (count-view_all never_of terms.items))
    ∙ ap (spec.is_made_alone signature) (sym (ap ground_of c.in-App.is ∙ ground_app c.in-App.symbol c.in-App.terms c.in-App.field-2))
