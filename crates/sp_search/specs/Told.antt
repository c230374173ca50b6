-- What a node in memory tells of its tree: a log, that a solution may be left, and a step.
use Rattle.std.specs.Prelude.{ℕ, Bool, false, not, Option, Some, None}
use Rattle.sp_spec.specs.Log.{Log}
use Rattle.sp_spec_proof.specs.Tree.{step_of}
use Rattle.sp_search.specs.Finished.{is_left}
use Rattle.sp_search.specs.Kinds.{Kind, open_leaf, end_at, choice}

abbrev pub log_at : Kind → Option Log
log_at (open_leaf s chosen depth) = None
log_at (end_at log) = Some log
log_at (choice move names) = None

abbrev pub leaves_none : Kind → Bool
leaves_none (open_leaf s chosen depth) = false
leaves_none (end_at log) = false
leaves_none (choice move names) = not (is_left move)

abbrev pub step_at : Kind → ℕ
step_at (open_leaf s chosen depth) = 0
step_at (end_at log) = 1
step_at (choice move names) = step_of move
