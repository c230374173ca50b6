use Rattle.std.proofs.Common.{◌≡◌, take, map}
use Rattle.sp_spec.specs.Term.{valued}
use Rattle.sp_term.specs.View.{view}
use Rattle.sp_fact.specs.GroundView.{ground_of}
use Rattle.sp_law_equal.specs.Matching.{value_in}
use Rattle.sp_norm.specs.Bounds.{bounds}
use Rattle.sp_solved.proofs.suggest.messages_value.Given as goal

abbrev pub invariant-loop-message : goal.invariant-loop-message
invariant-loop-message l = map ground_of l.made.items ≡ map (valued (value_in (bounds l.values))) (map view (take l.message-index l.message-items))
