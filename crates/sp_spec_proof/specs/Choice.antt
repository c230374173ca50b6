-- Choice: the move with which this project's own search goes on at a system.
use Rattle.std.specs.Prelude.{Bool, is_some, ℕ, List, find, Option, option_map, ◌+◌}
use Rattle.sp_spec_system.specs.System.{System}
use Rattle.sp_spec_system.specs.Move.{Move, Context}
use Rattle.sp_spec_system.specs.Picked.{first_some}
use Rattle.sp_spec_proof.specs.Cases.{cases}
use Rattle.sp_spec_proof.specs.Kinds.{Picker, pickers}

-- a move, and the rank of its kind
pub record Ranked : Type 0 where
  pub rank : ℕ
  pub move : Move

abbrev pub with_rank : ℕ → Move → Ranked
with_rank rank move = record { rank = rank; move = move }

abbrev pub is_instance : Context → System → Move → Bool
is_instance context s move = is_some (cases context s move)

abbrev pub first_instance : Context → System → List Move → Option Move
first_instance context s moves = find (is_instance context s) moves

abbrev pub picked : Context → System → Picker → Option Ranked
picked context s picker = option_map (with_rank picker.rank) (first_instance context s (picker.moves context s))

-- the first instance of the first kind that has one; none where no kind has one
unfoldable pub choice : Context → System → Option Ranked
choice context s = first_some (picked context s) (pickers context)

-- The class of an open leaf is the rank of its chosen move and its depth; a leaf without a choice has none.
abbrev pub class_of : Option Ranked → ℕ → Option ℕ
class_of chosen depth = option_map (λ (r : Ranked). r.rank + depth) chosen
