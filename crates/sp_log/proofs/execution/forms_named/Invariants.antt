use Rattle.std.proofs.Common.{◌≡◌, drop, map}
use Rattle.sp_spec_forms.specs.Forms as spec
use Rattle.sp_term.specs.View.{name_of}
use Rattle.sp_book.specs.View.{rule_forms_of}
use Rattle.sp_log.proofs.execution.forms_named.Given as goal

abbrev pub invariant-loop-rule : goal.invariant-loop-rule
invariant-loop-rule l =
    spec.forms_named (name_of l.name) (map rule_forms_of l.rules.items)
    ≡ spec.forms_named (name_of l.name) (map rule_forms_of (drop l.rule-index l.rule-items))
