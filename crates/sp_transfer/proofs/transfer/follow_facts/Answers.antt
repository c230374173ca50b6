use Rattle.std.proofs.Common.{◌≡◌, ◌∙◌, Global, Option, Vec, length, map, sym, ap, arith}
use Rattle.sp_fact.specs.GroundView.{ground_facts, signature_of, step_of}
use Rattle.sp_log.specs.View.{source_of}
use Rattle.sp_log.specs.declared.log.Source.{Source}
use Rattle.sp_transfer.specs.Sourced.{all_taken, given_of}
use Rattle.sp_transfer.specs.Steps.{followed_of}
use Rattle.sp_transfer.specs.View.{log_in}
use Rattle.sp_transfer.proofs.Entries.{log_length}
use Rattle.sp_transfer.proofs.Steps.{step_followed}
use Rattle.sp_transfer.proofs.transfer.follow_facts.Goals as goal

pub returns-in_ok-log_step-in-Some : goal.returns-in_ok-log_step-in-Some
returns-in_ok-log_step-in-Some c =
    let before = c.args.state.now in
    let left = c.take_all.new.facts.items in
    let long : length (log_in before.entries.items) ≡ c.len-position.result =
    log_length before.entries.items ∙ omega (arith, c.len-position.ensures, before.entries.ok.0) in
    step_followed (signature_of c.args.signature.now) (step_of c.args.step.now) (ground_facts c.args.facts) (followed_of before)
    (map source_of c.in-Some.sources.items) (map given_of left) (map given_of c.add.new.facts.items) (log_in c.log_step.new.entries.items) c.len-position.result
    (sym (ap (λ (o : Option (Vec Source Global)). all_taken o left) c.in-Some.is) ∙ c.in_ok-sources.ensures) long
    c.in_ok-add-in-Some.ensures c.in_ok-log_step-in-Some.ensures
