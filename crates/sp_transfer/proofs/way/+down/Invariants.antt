use Rattle.std.proofs.Common.{◌≡◌, drop, take}
use Rattle.sp_spec.specs.Term.{none}
use Rattle.sp_spec.specs.Destruction.{way_among}
use Rattle.sp_term.specs.View.{name_of, view, view_all}
use Rattle.sp_transfer.proofs.way.+down.Given as goal

abbrev pub invariant-way_among-loop-place : goal.invariant-way_among-loop-place
invariant-way_among-loop-place l =
    way_among (view l.wanted) (name_of l.symbol) none (view_all l.args.items)
    ≡ way_among (view l.wanted) (name_of l.symbol) (view_all (take l.place l.args.items)) (view_all (drop l.place l.args.items))
