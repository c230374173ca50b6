-- What slots in memory hold.
use Rattle.std.specs.Prelude.{ℕ, List, Option, Some, None}
use Rattle.sp_spec.specs.Term.{Variable, Term}
use Rattle.sp_term.specs.View.{variable_of}
use Rattle.sp_formula.specs.SlotsView.{slots_by}
use Rattle.sp_spec_formula.specs.Instances as spec
use Rattle.sp_rows_formula.specs.declared.slots.Messages.{Messages}
use Rattle.sp_rows_formula.specs.declared.slots.Slots.{Slots}

abbrev pub messages_of : Messages → List spec.Message
messages_of m = slots_by variable_of m.slots.items

abbrev pub slots_of : Slots → spec.Slots
slots_of s = record { terms = messages_of s.messages; times = s.times.items }

-- with the value, if there is a place for it
abbrev pub put_at : List spec.Message → Option ℕ → Term Variable → Option (List spec.Message)
put_at s None t = Some s
put_at s (Some k) t = spec.put_term s k t
