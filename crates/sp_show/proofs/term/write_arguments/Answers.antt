use Rattle.std.proofs.Common.{ℕ, List, ◌++◌, ap, ◌∙◌, string_bytes}
use Rattle.std.proofs.lemmas.Result.{on_ok_weaker}
use Rattle.sp_fact.specs.GroundView.{grounds_of}
use Rattle.sp_show.proofs.Texts.{arguments_run}
use Rattle.sp_show.proofs.term.write_arguments.Goals as goal

pub returns : goal.returns
returns c =
    on_ok_weaker c.write_row.result
    (λ h. h ∙ ap (λ (xs : List ℕ). string_bytes c.args.out.now ++ xs) (arguments_run (grounds_of c.args.terms.now.items))) c.write_row.ensures.text
