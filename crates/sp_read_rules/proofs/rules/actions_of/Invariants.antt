use Rattle.std.proofs.Common.{◌≡◌, ◌++◌, map}
use Rattle.sp_spec_text.specs.Shapes as shapes
use Rattle.sp_read_rules.specs.Views as view
use Rattle.sp_read_rules.proofs.rules.actions_of.Given as goal

abbrev pub invariant-loop-fact : goal.invariant-loop-fact
invariant-loop-fact l = map view.action_of l.shown.items ++ map shapes.action_of (view.facts_of l.fact-iterator.rest.items) ≡ map shapes.action_of (view.facts_of l.fn.facts.items)
