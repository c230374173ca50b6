use Rattle.std.proofs.Common.{◌≡◌, drop, map}
use Rattle.sp_fact.specs.GroundView.{equation_of, ground_facts}
use Rattle.sp_book.specs.View.{form_of, rule_forms_of}
use Rattle.sp_law_log_steps.specs.Found as spec
use Rattle.sp_log.proofs.execution.given_by_first.Given as goal

abbrev pub invariant-loop-form : goal.invariant-loop-form
invariant-loop-form l =
    spec.given_by_first (map equation_of l.equations.items) (rule_forms_of l.rule) (map form_of l.rule.forms.items) (ground_facts l.facts)
    ≡ spec.given_by_first (map equation_of l.equations.items) (rule_forms_of l.rule) (map form_of (drop l.form-index l.form-items)) (ground_facts l.facts)
