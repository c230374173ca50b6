use Rattle.std.proofs.Common.{◌≡◌, ℕ, List, ◌++◌, true, map, ap, ◌∙◌, string_bytes, arith}
use Rattle.std.proofs.lemmas.Grind.{common_steps}
use Rattle.sp_fact.specs.GroundView.{ground_action}
use Rattle.sp_show.specs.Runs.{actions_run}
use Rattle.sp_show.proofs.Texts.{entry_run}
use Rattle.sp_show.proofs.trace.write_entry.Goals as goal

pub returns : goal.returns
returns c =
    let old = string_bytes c.args.out.now in
    let entry = map ground_action c.args.entry.now.items in
    let written : string_bytes c.push_str.new.self ≡ old ++ actions_run true entry = grind (arith, common_steps) in
    written ∙ ap (λ (xs : List ℕ). old ++ xs) (entry_run entry)
