use Rattle.std.proofs.Common.{◌+◌, ◌-◌, ◌*◌, ◌≤◌, length, map}
use Rattle.sp_read_parts.specs.Views.{seen_from}
use Rattle.sp_read_parts.specs.Formulas as view
use Rattle.sp_read_formula.specs.Given as given
use Rattle.sp_read_formula.proofs.Depth.{depth}
use Rattle.sp_read_formula.proofs.Stuck.{Joined}
use Rattle.sp_read_formula.proofs.formulas.+formulas.Given as goal

abbrev pub decreases-whole : goal.decreases-whole
decreases-whole l = 9 * (128 - l.nesting) + 8

abbrev pub decreases-implication : goal.decreases-implication
decreases-implication l = 9 * (128 - l.nesting) + 7

abbrev pub decreases-chain : goal.decreases-chain
decreases-chain l = 9 * (128 - l.nesting) + depth l.joint + 1

abbrev pub decreases-part : goal.decreases-part
decreases-part l = 9 * (128 - l.nesting) + depth l.joint

abbrev pub decreases-unit : goal.decreases-unit
decreases-unit l = 9 * (128 - l.nesting) + 1

abbrev pub decreases-group : goal.decreases-group
decreases-group l = 9 * (128 - l.nesting)

abbrev pub invariant-chain-loop-found : goal.invariant-chain-loop-found
invariant-chain-loop-found l = record { reads : Joined (given.joint l.joint) l.nesting (seen_from l.tokens l.at) (map view.formula l.found.items) (seen_from l.tokens l.rest); further : l.at ≤ l.rest }

abbrev pub decreases-chain-loop-found : goal.decreases-chain-loop-found
decreases-chain-loop-found l = length l.tokens - l.rest
