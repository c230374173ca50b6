use Rattle.std.proofs.Common.{◌≡◌, ◌++◌, true, drop, map, string_bytes}
use Rattle.sp_fact.specs.View.{action_of}
use Rattle.sp_rule_forms.specs.Text.{shown_action}
use Rattle.sp_rule_forms.proofs.Runs.{run}
use Rattle.sp_rule_forms.proofs.text.write_action_row.Given as goal

abbrev pub invariant-loop-action : goal.invariant-loop-action
invariant-loop-action l =
    string_bytes l.out ++ run l.first (map shown_action (map action_of (drop l.action-index l.action-items))) ≡ string_bytes l.fn.out ++ run true (map shown_action (map action_of l.actions.items))
