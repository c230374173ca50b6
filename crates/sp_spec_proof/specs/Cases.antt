-- The cases of each move, simplified. Source: Tamarin manual, "Constraint solving".
use Rattle.std.specs.Prelude.{List, Option, map, option_map}
use Rattle.sp_spec_system.specs.System.{System}
use Rattle.sp_spec_system.specs.Rules.{Rules}
use Rattle.sp_spec_proof.specs.Rows.{simplified}
use Rattle.sp_spec_system.specs.Move.{Move, finish, Context, Case}
use Rattle.sp_spec_proof.specs.ButFinish.{raw_but_finish}
use Rattle.sp_spec_proof.specs.Finish.{finish_cases}

-- the cases of a move before they are simplified; none where it is no instance
abbrev pub raw_cases : Context → System → Move → Option (List Case)
raw_cases context s finish = finish_cases context s
raw_cases context s move = raw_but_finish context s move

abbrev pub simple_case : Rules → Case → Case
simple_case rules c = record { name = c.name; system = simplified rules c.system }

abbrev pub cases : Context → System → Move → Option (List Case)
cases context s move = option_map (map (simple_case context.rules)) (raw_cases context s move)
