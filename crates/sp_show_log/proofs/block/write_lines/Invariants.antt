use Rattle.std.proofs.Common.{◌≡◌, ◌++◌, drop, map, string_bytes}
use Rattle.sp_spec.specs.Lists.{Every}
use Rattle.sp_fact.specs.GroundView.{equation_of}
use Rattle.sp_book.specs.View.{rule_forms_of}
use Rattle.sp_show.specs.Numbers.{numbered_names}
use Rattle.sp_spec_log_lines.specs.Block.{lines_text}
use Rattle.sp_show_log.specs.Numbers.{LineHasNames}
use Rattle.sp_show_log.proofs.Blocks.{said}
use Rattle.sp_show_log.proofs.block.write_lines.Given as goal

abbrev pub invariant-loop-entry : goal.invariant-loop-entry
invariant-loop-entry l =
    let es = map equation_of l.equations.items in
    let rules = map rule_forms_of l.rules.items in
    (string_bytes l.out ++ lines_text (said es rules (drop l.entry-index l.entries.items)) ≡ string_bytes l.fn.out ++ lines_text (said es rules l.entries.items))
    × (Every (LineHasNames numbered_names) (said es rules (drop l.entry-index l.entries.items)) → Every (LineHasNames numbered_names) (said es rules l.entries.items))
