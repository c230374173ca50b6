-- The environments that slots in memory stand for.
use Rattle.std.specs.Prelude.{ℕ, List, map, Option}
use Rattle.sp_spec.specs.Term as spec
use Rattle.sp_spec.specs.Term.{Ground}
use Rattle.sp_spec.specs.Slots as slots
use Rattle.sp_law_decide.specs.Deciding as deciding
use Rattle.sp_term.specs.View.{never_of}
use Rattle.sp_formula.specs.SlotsView.{slots_by}
use Rattle.sp_eval.specs.declared.environment.Messages.{Messages}
use Rattle.sp_eval.specs.declared.environment.Environment.{Environment}

abbrev pub messages_of : Messages → List (slots.Slot spec.Sort Ground)
messages_of m = slots_by never_of m.slots.items

abbrev pub time_of : Option ℕ → slots.Slot (Unit {0}) ℕ
time_of o = slots.slot tt o

abbrev pub times_of : List (Option ℕ) → List (slots.Slot (Unit {0}) ℕ)
times_of times = map time_of times

abbrev pub environment_of : Environment → deciding.Environment
environment_of env = deciding.environment (messages_of env.messages) (times_of env.times.items)

abbrev pub environments_of : List Environment → List deciding.Environment
environments_of envs = map environment_of envs
