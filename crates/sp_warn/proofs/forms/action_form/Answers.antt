use Rattle.std.proofs.Common.{◌∙◌}
use Rattle.sp_warn.specs.Forms.{action}
use Rattle.sp_warn.proofs.Counted.{counted}
use Rattle.sp_warn.proofs.forms.action_form.Goals as goal

pub returns : goal.returns
returns c =
    let arity = counted c.len.result c.args.action.now.args.items (c.len.ensures ∙ c.args.action.now.args.ok.0) in
    λ i. record { symbol = c.as_str.ensures.value i; arity = arity i; usage = action }
