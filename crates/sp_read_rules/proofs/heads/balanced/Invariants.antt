use Rattle.std.proofs.Common.{length, ◌≤◌, ◌+◌, ◌-◌}
use Rattle.sp_read_rules.specs.Rules.{IsPassed}
use Rattle.sp_read_rules.specs.Views.{seen_from}
use Rattle.sp_read_rules.proofs.heads.balanced.Given as goal

abbrev pub invariant-loop-depth : goal.invariant-loop-depth
invariant-loop-depth l = record {
  passed : IsPassed 1 (seen_from l.tokens l.at) l.depth (seen_from l.tokens l.rest);
  few : l.depth ≤ l.rest;
  further : l.at + (1 - l.depth) ≤ l.rest;
  within : l.rest ≤ length l.tokens;
}

abbrev pub decreases-loop-depth : goal.decreases-loop-depth
decreases-loop-depth l = length l.tokens - l.rest
