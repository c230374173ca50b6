use Rattle.std.proofs.Common.{◌≡◌, map, drop}
use Rattle.sp_term.specs.View.{name_of}
use Rattle.sp_spec_text.specs.Written.{restrictions_in}
use Rattle.sp_written.specs.Views as view
use Rattle.sp_spec.specs.Constants.{once_after, in_restrictions}
use Rattle.sp_declared.proofs.public_names.see_restrictions.Given as goal

abbrev pub invariant-loop-item : goal.invariant-loop-item
invariant-loop-item l =
    once_after (map name_of l.seen.items) (in_restrictions (restrictions_in (view.items (drop l.item-index l.items.items))))
    ≡ once_after (map name_of l.fn.seen.items) (in_restrictions (restrictions_in (view.items l.items.items)))
