use Rattle.std.proofs.Common.{◌≡◌, ◌++◌, true, drop, map, string_bytes}
use Rattle.sp_spec.specs.Lists.{Every}
use Rattle.sp_fact.specs.GroundView.{given_of}
use Rattle.sp_show.specs.Numbers.{HasNames, numbered_names}
use Rattle.sp_show.specs.Runs.{given_run}
use Rattle.sp_show.proofs.step.write_given.Given as goal

abbrev pub invariant-loop-one : goal.invariant-loop-one
invariant-loop-one l =
    (string_bytes l.out ++ given_run l.first (map given_of (drop l.one-index l.one-items)) ≡ string_bytes l.fn.out ++ given_run true (map given_of l.given.items))
    × (Every (λ g. HasNames numbered_names g.1) (map given_of (drop l.one-index l.one-items)) → Every (λ g. HasNames numbered_names g.1) (map given_of l.given.items))
