-- The end of a search that finds nothing: nothing is left to decide, and no log has been found. Source: this project's own (CSF 2012, "Constraint solving", ends
-- with solved systems, each of which has a solution).
use Rattle.std.specs.Prelude.{Bool, false, not, ◌&&◌, if◌then◌else◌, is_some, List, [], Option, Some, None}
use Rattle.std.specs.List.{list_any}
use Rattle.sp_spec_system.specs.System.{System}
use Rattle.sp_spec_system.specs.Move.{Move, Context, Case}
use Rattle.sp_spec_proof.specs.Kinds.{Picker, pickers_by}
use Rattle.sp_spec_proof.specs.ButFinish.{raw_but_finish}

-- some move of the kind is an instance
abbrev pub has_instance : Context → System → Picker → Bool
has_instance context s picker = list_any (λ (m : Move). is_some (raw_but_finish context s m)) (picker.moves context s)

-- closed, in a proof that begins from something, and no kind of moves has an instance
abbrev pub is_decided : Context → System → Bool
is_decided context s = s.closed && (is_some context.root && not (list_any (has_instance context s) (pickers_by false)))

abbrev pub finish_cases : Context → System → Option (List Case)
finish_cases context s = if is_decided context s then Some [] else None
