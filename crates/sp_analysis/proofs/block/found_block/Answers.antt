use Rattle.std.proofs.Common.{map, string_bytes, ap, ◌∙◌, ◌++◌}
use Rattle.sp_analysis.specs.Sought.{executed}
use Rattle.sp_analysis.specs.View.{setting_in}
use Rattle.sp_fact.specs.GroundView.{entries_of, step_of}
use Rattle.sp_learn.specs.View.{log_of}
use Rattle.sp_analysis.proofs.Blocks.{block_written, steps_numbered}
use Rattle.sp_analysis.proofs.block.found_block.Goals as goal

pub returns-clause-text : goal.returns-clause-text
returns-clause-text c =
    block_written (executed (setting_in c.args.setting.now)) (log_of c.args.log.now) (map step_of c.in_ok-steps.steps.items) (entries_of c.in_ok-trace.trace) (string_bytes c.in_ok-out.out)
    (string_bytes c.write_steps.new.out) (string_bytes c.push_str.new.self) (string_bytes c.in_ok-block.block) c.in_ok-steps.ensures.exact c.in_ok-trace.ensures c.in_ok-out.ensures.ok
    c.in_ok-write_steps.ensures.text c.in_ok-block.ensures (c.in_ok-push_str.ensures.bytes ∙ ap (λ x. string_bytes c.write_steps.new.out ++ x) c.as_str.ensures.value)

pub returns-clause-numbered : goal.returns-clause-numbered
returns-clause-numbered c = steps_numbered (executed (setting_in c.args.setting.now)) (log_of c.args.log.now) (map step_of c.in_ok-steps.steps.items) c.in_ok-steps.ensures.exact c.in_ok-write_steps.ensures.numbered
