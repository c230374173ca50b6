use Rattle.std.proofs.Common.{◌≡◌, ◌++◌, map, drop}
use Rattle.sp_read_parts.specs.Views as parts
use Rattle.sp_warn.specs.Forms as spec
use Rattle.sp_warn.specs.FormView.{form_of}
use Rattle.sp_warn.proofs.forms.push_actions.Given as goal

abbrev pub invariant-loop-action : goal.invariant-loop-action
invariant-loop-action l =
    map form_of l.found.items ++ map spec.action_form (map parts.action_of (drop l.action-index l.action-items))
    ≡ map form_of l.fn.found.items ++ map spec.action_form (map parts.action_of l.actions.items)
