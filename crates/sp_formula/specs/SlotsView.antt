-- The slots that slots in memory stand for.
use Rattle.std.specs.Prelude.{List, map, option_map}
use Rattle.sp_spec.specs.Term as spec
use Rattle.sp_spec.specs.Slots as slots
use Rattle.sp_term.specs.View.{sort_of, view_by}
use Rattle.sp_formula.specs.declared.slots.Slot.{Slot}

abbrev pub slot_by : {M V : Type 0} → (M → V) → Slot M → slots.Slot spec.Sort (spec.Term V)
slot_by leaf_of s = slots.slot (sort_of s.sort) (option_map (view_by leaf_of) s.value)

abbrev pub slots_by : {M V : Type 0} → (M → V) → List (Slot M) → List (slots.Slot spec.Sort (spec.Term V))
slots_by leaf_of slots = map (slot_by leaf_of) slots
