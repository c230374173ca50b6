use Rattle.std.proofs.Common.{◌≡◌, ℕ, List, ◌++◌, true, map, ap, ◌∙◌, string_bytes, arith}
use Rattle.std.proofs.lemmas.Grind.{common_steps}
use Rattle.sp_fact.specs.GroundView.{given_of}
use Rattle.sp_show.specs.Runs.{given_run}
use Rattle.sp_show.proofs.Texts.{all_given_run}
use Rattle.sp_show.proofs.step.write_given.Goals as goal

pub returns-clause-text : goal.returns-clause-text
returns-clause-text c =
    let old = string_bytes c.args.out.now in
    let given = map given_of c.args.given.now.items in
    let written : string_bytes c.loop-one.out ≡ old ++ given_run true given = grind (arith, common_steps) in
    written ∙ ap (λ (xs : List ℕ). old ++ xs) (all_given_run given)
