use Rattle.std.proofs.Common.{map, string_bytes, ap, ◌∙◌, ◌++◌}
use Rattle.sp_fact.specs.GroundView.{entries_of, equation_of}
use Rattle.sp_book.specs.View.{rule_forms_of}
use Rattle.sp_learn.specs.View as view
use Rattle.sp_show.specs.Numbers.{numbered_names}
use Rattle.sp_show_log.specs.Given.{given_among}
use Rattle.sp_show_log.specs.Numbers.{LineHasNames}
use Rattle.sp_show_log.proofs.Blocks.{log_written, log_numbered}
use Rattle.sp_show_log.proofs.block.log_block.Goals as goal

pub returns-clause-text : goal.returns-clause-text
returns-clause-text c =
    log_written (given_among (map equation_of c.args.signature.now.equations.items) (map rule_forms_of c.args.rules.now.rules.items)) (view.entries_of c.args.log.now)
    (entries_of c.in_ok-trace.trace) (string_bytes c.in_ok-out.out) (string_bytes c.write_lines.new.out) (string_bytes c.push_str.new.self) (string_bytes c.in_ok-block.block)
    c.in_ok-trace.ensures c.in_ok-out.ensures.ok c.in_ok-write_lines.ensures.text c.in_ok-block.ensures
    (c.in_ok-push_str.ensures.bytes ∙ ap (λ x. string_bytes c.write_lines.new.out ++ x) c.as_str.ensures.value)

pub returns-clause-numbered : goal.returns-clause-numbered
returns-clause-numbered c =
    log_numbered (LineHasNames numbered_names) (given_among (map equation_of c.args.signature.now.equations.items) (map rule_forms_of c.args.rules.now.rules.items))
    (view.entries_of c.args.log.now) c.in_ok-write_lines.ensures.numbered
