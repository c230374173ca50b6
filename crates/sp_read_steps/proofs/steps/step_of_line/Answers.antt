use Rattle.sp_fact.specs.GroundView.{step_of}
use Rattle.sp_read_steps.specs.Reading.{read_term}
use Rattle.sp_read_steps.specs.View.{symbols_of}
use Rattle.sp_read_steps.proofs.Exits.{rule_step, application_step}
use Rattle.sp_read_steps.proofs.steps.step_of_line.Goals as goal

pub returns-in-Some : goal.returns-in-Some
returns-in-Some c = rule_step step_of (symbols_of c.args.symbols.now.items) c.args.line.now c.in-Some.rest.now c.in_ok-made.made c.in-Some.ensures.value c.in_ok-made.ensures

pub returns-in-Some-after : goal.returns-in-Some-after
returns-in-Some-after c = application_step step_of (symbols_of c.args.symbols.now.items) c.args.line.now c.in-Some-after.rest.now c.in_ok-made-2.made c.in-Some-after.ensures.value c.in_ok-made-2.ensures

pub returns : goal.returns
returns c =
    let t = rw c.in-Some-2.is at c.in_ok-found.ensures in
    rw c.over.ensures (read_term c.in-Some-first_word.kind c.in-Some-first_word.ensures t)
