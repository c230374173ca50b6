use Rattle.sp_read_parts.specs.Views as view
use Rattle.sp_lines.specs.TextsView.{texts_of}
use Rattle.sp_wf_rules.proofs.Standing.{unbound_anywhere}
use Rattle.sp_wf_rules.proofs.variables.tell_unbound.Goals as goal

pub returns : goal.returns
returns c =
    unbound_anywhere c.args.rule.now.name.now (view.rule c.args.rule.now).facts _ (texts_of c.args.lines.now) (texts_of c.tell_unbound_variables.new.lines)
    c.in_ok-variables.ensures c.in_ok-tell_unbound_variables.ensures
