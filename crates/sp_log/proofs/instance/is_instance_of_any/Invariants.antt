use Rattle.std.proofs.Common.{◌≡◌, drop, map}
use Rattle.sp_term.specs.View.{name_of}
use Rattle.sp_fact.specs.GroundView.{ground_facts, signature_of}
use Rattle.sp_book.specs.View.{rule_forms_of}
use Rattle.sp_log.specs.Checking.{is_instance_of_any}
use Rattle.sp_log.proofs.instance.is_instance_of_any.Given as goal

abbrev pub invariant-loop-rule : goal.invariant-loop-rule
invariant-loop-rule l =
    is_instance_of_any (signature_of l.signature) (map rule_forms_of l.rules.items) (name_of l.name) (ground_facts l.facts)
    ≡ is_instance_of_any (signature_of l.signature) (map rule_forms_of (drop l.rule-index l.rule-items)) (name_of l.name) (ground_facts l.facts)
