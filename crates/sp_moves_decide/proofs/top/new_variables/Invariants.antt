use Rattle.std.proofs.Common.{◌≡◌, map}
use Rattle.sp_term.specs.View.{view}
use Rattle.sp_moves_decide.proofs.NewVariables.{new_list}
use Rattle.sp_moves_decide.proofs.top.new_variables.Given as goal

abbrev pub invariant-loop-place : goal.invariant-loop-place
invariant-loop-place l = map view l.made.items ≡ new_list l.place l.first
