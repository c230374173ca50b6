use Rattle.std.proofs.Common.{◌≡◌, drop}
use Rattle.sp_law_equal.specs.Matching.{value_in}
use Rattle.sp_term.specs.View.{view, view_all}
use Rattle.sp_fact.specs.GroundView.{ground_of}
use Rattle.sp_norm.specs.Bounds.{bounds}
use Rattle.sp_transfer.specs.Down.{chain_among}
use Rattle.sp_transfer.specs.View.{log_in}
use Rattle.sp_transfer.proofs.destructing.+down.Given as goal

abbrev pub invariant-down_among-loop-term : goal.invariant-down_among-loop-term
invariant-down_among-loop-term l =
    chain_among (log_in l.entries.items) (value_in (bounds l.values)) (ground_of l.end) (view l.wanted) (view_all l.args.items)
    ≡ chain_among (log_in l.entries.items) (value_in (bounds l.values)) (ground_of l.end) (view l.wanted) (view_all (drop l.term-index l.term-items))
