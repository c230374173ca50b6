use Rattle.std.proofs.Common.{◌≡◌, ◌<◌, IfSome, take, option_map, ◌+◌}
use Rattle.sp_law_guard.specs.GuardedForm as spec
use Rattle.sp_guard.specs.View.{meaning_of, place_of, innermost_first}
use Rattle.sp_guard.proofs.meaning.meant.Given as goal

abbrev pub invariant-loop-binder : goal.invariant-loop-binder
invariant-loop-binder l = record {
  value : option_map meaning_of l.found ≡ spec.meant (innermost_first (take l.binder-index l.binder-items)) l.name;
  place : IfSome l.found (λ m. place_of m < l.binder-index + 1);
}
