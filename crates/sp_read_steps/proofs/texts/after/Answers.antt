use Rattle.std.proofs.lemmas.Bool.Decides.{Decides-eqb}
use Rattle.std.proofs.lemmas.Slice.Eq.{strip_prefix_is}
use Rattle.sp_read_steps.proofs.Prefixes.{stripped}
use Rattle.sp_read_steps.proofs.texts.after.Goals as goal

pub returns-clause-value : goal.returns-clause-value
returns-clause-value c =
    let s = c.args.text.now in
    let p = c.args.sign.now in
    stripped s p c.strip_prefix.result (strip_prefix_is Decides-eqb s p c.strip_prefix.result c.strip_prefix.ensures.cases)
