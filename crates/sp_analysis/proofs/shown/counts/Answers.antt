use Rattle.std.proofs.Common.{string_bytes, ap, ◌∙◌}
use Rattle.sp_analysis.proofs.Counting.{counts_tried}
use Rattle.sp_analysis.proofs.shown.counts.Goals as goal

pub returns : goal.returns
returns c =
    ap (λ v. v.items) c.into_bytes.ensures.value
    ∙ counts_tried c.args.lemmas.now.items (string_bytes c.in_ok-text.text) c.len-count.result c.verified-verified.result c.falsified-falsified.result c.incomplete-incomplete.result c.all_steps-steps.result
    c.in_ok-text.ensures (c.len-count.ensures ∙ c.args.lemmas.now.ok.0) c.verified-verified.ensures c.falsified-falsified.ensures c.incomplete-incomplete.ensures c.all_steps-steps.ensures
