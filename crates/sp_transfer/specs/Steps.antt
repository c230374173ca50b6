-- What the steps so far in memory lead to, and what later steps lead to from there.
use Rattle.std.specs.Prelude.{List, [], ◌∷◌, map, Option, Some, option_and_then}
use Rattle.sp_spec.specs.Execution.{Step}
use Rattle.sp_spec.specs.Rule.{Rule}
use Rattle.sp_spec.specs.Signature.{Signature}
use Rattle.sp_transfer.specs.Construction as spec
use Rattle.sp_transfer.specs.Construction.{followed_by}
use Rattle.sp_transfer.specs.Sourced.{given_of}
use Rattle.sp_transfer.specs.View.{log_in}
use Rattle.sp_transfer.specs.declared.transfer.Followed.{Followed}

abbrev pub followed_of : Followed → spec.Followed
followed_of state = record { facts = map given_of state.facts.items; log = log_in state.entries.items }

-- behind the steps, the oldest of which comes first
abbrev pub followed_on : Signature → List Rule → List Step → spec.Followed → Option spec.Followed
followed_on signature rules [] before = Some before
followed_on signature rules (s ∷ later) before = option_and_then (followed_on signature rules later) (followed_by signature rules s before)
