use Rattle.std.proofs.Common.{[], map, unwrap_or, arith}
use Rattle.std.proofs.lemmas.Grind.{common_steps}
use Rattle.sp_spec.specs.Execution.{use_rule}
use Rattle.sp_spec.specs.Log.{fresh_of}
use Rattle.sp_law_log_steps.specs.Found.{given_by}
use Rattle.sp_term.specs.View.{name_of}
use Rattle.sp_fact.specs.GroundView.{equation_of, ground_fact, ground_facts, step_of}
use Rattle.sp_book.specs.View.{rule_forms_of}
use Rattle.sp_log.proofs.Orders.{steps_added}
use Rattle.sp_log.proofs.execution.add_steps.Goals as goal

pub returns : goal.returns
returns c =
    let e = c.args.entry.now in
    steps_added (map step_of c.args.steps.now.items) (map step_of c.push.new.self.items) (fresh_of (map ground_fact e.facts.premises.items))
    (use_rule (name_of e.rule) (unwrap_or (given_by (map equation_of c.args.equations.now.items) (map rule_forms_of c.args.rules.now.items) (name_of e.rule) (ground_facts e.facts)) []))
    (grind (arith, common_steps))
