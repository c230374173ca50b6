use Rattle.std.proofs.Common.{◌≡◌, Bool, if◌then◌else◌, sym, ap, ◌∙◌}
use Rattle.sp_read_parts.specs.Views.{fact_of}
use Rattle.sp_warn.specs.Forms as spec
use Rattle.sp_warn.specs.Forms.{Usage, linear, persistent}
use Rattle.sp_warn.specs.FormView.{usage_of}
use Rattle.sp_warn.proofs.Counted.{counted}
use Rattle.sp_warn.proofs.forms.fact_form.Goals as goal
use Rattle.sp_warn.proofs.forms.fact_form.Goals.{then-fact, else-fact}

pub returns : goal.returns
returns c =
    let arity = counted c.len.result c.args.fact.now.args.items (c.len.ensures ∙ c.args.fact.now.args.ok.0) in
    let of : Bool → Usage = λ b. if b then persistent else linear in
    let usage : usage_of c.if-fact.usage ≡ spec.usage_of (fact_of c.args.fact.now) =
    elim c.if-fact.branch [ then-fact w ↦ ap usage_of w.usage-is ∙ sym (ap of w.if-fact.true) | else-fact w ↦ ap usage_of w.usage-is ∙ sym (ap of w.if-fact.false) ] in
    λ i. record { symbol = c.as_str.ensures.value i; arity = arity i; usage = usage i }
