use Rattle.std.proofs.Common.{◌≡◌, ℕ, List, ◌++◌, true, map, ap, ◌∙◌, string_bytes, arith}
use Rattle.std.proofs.lemmas.Grind.{common_steps}
use Rattle.sp_fact.specs.View.{action_of}
use Rattle.sp_rule_forms.specs.Text.{shown_action}
use Rattle.sp_rule_forms.proofs.Runs.{run, joined_run}
use Rattle.sp_rule_forms.proofs.text.write_action_row.Goals as goal

pub returns : goal.returns
returns c =
    let old = string_bytes c.args.out.now in
    let row = map shown_action (map action_of c.args.actions.now.items) in
    let written : string_bytes c.push_str.new.self ≡ old ++ run true row = grind (arith, common_steps) in
    written ∙ ap (λ (xs : List ℕ). old ++ xs) (joined_run row)
