use Rattle.std.proofs.Common.{◌≡◌, map, drop}
use Rattle.sp_term.specs.View.{name_of}
use Rattle.sp_declared.specs.WrittenRules.{rules_written}
use Rattle.sp_written.specs.Views as view
use Rattle.sp_spec.specs.Constants.{once_after, in_rules}
use Rattle.sp_declared.proofs.public_names.see_rules.Given as goal

abbrev pub invariant-loop-item : goal.invariant-loop-item
invariant-loop-item l =
    once_after (map name_of l.seen.items) (in_rules (rules_written (view.items (drop l.item-index l.items.items))))
    ≡ once_after (map name_of l.fn.seen.items) (in_rules (rules_written (view.items l.items.items)))
