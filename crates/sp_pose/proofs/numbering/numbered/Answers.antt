use Rattle.std.proofs.Common.{map}
use Rattle.sp_term.specs.View.{name_of}
use Rattle.sp_read_parts.specs.Views as view
use Rattle.sp_fact.specs.View.{declared_of, facts_of}
use Rattle.sp_declared.specs.View.{texts_of}
use Rattle.sp_pose.proofs.NumberedFacts.{numbered_rule}
use Rattle.sp_pose.proofs.numbering.numbered.Goals as goal

pub returns : goal.returns
returns c =
    numbered_rule (view.rule c.args.rule.now) (name_of c.in_ok-name.name) (texts_of c.in_ok-numbering.numbering.names.items) (map declared_of c.in_ok-variables.variables.items)
    (facts_of c.in_ok-facts.facts) c.in_ok-name.ensures c.in_ok-numbering.ensures.names c.in_ok-variables.ensures c.in_ok-facts.ensures
