-- The kinds of moves, in the order in which they are asked, and which of them count as one where a proof is asked to be consecutive. Source: Tamarin manual,
-- "Heuristics" (`s` and `c`); the order of the kinds is this project's own.
use Rattle.std.specs.Prelude.{Bool, true, false, not, if◌then◌else◌, ℕ, suc, List, [], ◌∷◌, ◌++◌, map, flat_map, Option, Some, None, option_map}
use Rattle.sp_spec.specs.Term.{Sort, Msg, Fresh, Pub, Variable, Term, var, app}
use Rattle.sp_spec_system.specs.System.{System, Happening, Event, happening_premises}
use Rattle.sp_spec_system.specs.Move.{Move, Root, Context, simplify, contradiction, solved, or, action, premise, know, chain, induction, more_events, finish}
use Rattle.sp_spec_know.specs.Know.{learnt_anyhow, is_message_variable}
use Rattle.sp_spec_know.specs.Chain.{Begun, begun}
use Rattle.sp_spec_proof.specs.Deciding.{told_comparisons, comparisons, sames, tops}

-- a kind of moves: its rank, and the moves of that kind at a system, from the oldest on
pub record Picker : Type 0 where
  pub rank : ℕ
  pub moves : Context → System → List Move

abbrev pub of_rank : ℕ → (Context → System → List Move) → Picker
of_rank rank moves = record { rank = rank; moves = moves }

abbrev pub only : Move → Context → System → List Move
only move context s = move ∷ []

-- the places in a list, from one on
abbrev pub places_from : {A : Type 0} → ℕ → List A → List ℕ
places_from p [] = []
places_from p (x ∷ xs) = p ∷ places_from (suc p) xs

abbrev pub at_each_formula : (ℕ → Move) → Context → System → List Move
at_each_formula move context s = map move (places_from 0 s.formulas)

-- ---- the moves at an event

abbrev pub premises_of : Event → List Move
premises_of e = map (premise e.time) (places_from 0 (happening_premises e.happening))

-- the message that a chain has passed last
abbrev pub passed_last : Happening → Option (Term Variable)
passed_last h = option_map (λ (b : Begun). b.last) (begun h)

abbrev pub no_message_variable : Term Variable → Bool
no_message_variable m = not (is_message_variable m)

abbrev pub is_fresh_sort : Sort → Bool
is_fresh_sort Fresh = true
is_fresh_sort Msg = false
is_fresh_sort Pub = false

abbrev pub is_fresh_variable : Term Variable → Bool
is_fresh_variable (var x) = is_fresh_sort x.sort
is_fresh_variable m = false

-- a private constant is one too
abbrev pub is_application : Term Variable → Bool
is_application (app f ts) = true
is_application m = false

abbrev pub if_of_kind : (ℕ → Move) → (Term Variable → Bool) → ℕ → Option (Term Variable) → List Move
if_of_kind move kind i None = []
if_of_kind move kind i (Some m) = if kind m then move i ∷ [] else []

-- the move at a message of that kind
abbrev pub at_message : (ℕ → Move) → (Happening → Option (Term Variable)) → (Term Variable → Bool) → Event → List Move
at_message move message kind e = if_of_kind move kind e.time (message e.happening)

-- the kinds of moves at events, each by its rank
abbrev pub EventKind : Type 0
EventKind = ℕ × (Event → List Move)

abbrev pub event_kinds : List EventKind
event_kinds =
    (6, at_message chain passed_last no_message_variable)
    ∷ (7, premises_of)
    ∷ (8, at_message know learnt_anyhow is_fresh_variable)
    ∷ (9, at_message know learnt_anyhow is_application)
    ∷ (10, at_message chain passed_last is_message_variable)
    ∷ []

abbrev pub at_each_event : (Event → List Move) → Context → System → List Move
at_each_event moves context s = flat_map moves s.events

-- the moves of each of these kinds at an event
abbrev pub all_at : List EventKind → Event → List Move
all_at kinds e = flat_map (λ (kind : EventKind). kind.1 e) kinds

-- one kind after the other, or all of them as one, from the oldest event on
abbrev pub event_pickers : Bool → List Picker
event_pickers false = map (λ (kind : EventKind). of_rank kind.0 (at_each_event kind.1)) event_kinds
event_pickers true = of_rank 6 (at_each_event (all_at event_kinds)) ∷ []

-- the kinds that decide what is left open
abbrev pub deciding_pickers : List Picker
deciding_pickers =
    of_rank 11 told_comparisons
    ∷ of_rank 12 comparisons
    ∷ of_rank 13 sames
    ∷ of_rank 14 (only more_events)
    ∷ of_rank 15 tops
    ∷ []

-- all kinds but the last one
abbrev pub pickers_by : Bool → List Picker
pickers_by consecutive =
    of_rank 1 (only contradiction)
    ∷ of_rank 2 (only simplify)
    ∷ of_rank 3 (only solved)
    ∷ of_rank 4 (at_each_formula or)
    ∷ of_rank 5 (at_each_formula action)
    ∷ (event_pickers consecutive ++ deciding_pickers)

abbrev pub last_picker : Picker
last_picker = of_rank 16 (only finish)

-- what begins from nothing isn't
abbrev pub are_consecutive : Option Root → Bool
are_consecutive None = false
are_consecutive (Some r) = r.consecutive

-- before all others, where the proof is to begin with it: the move at its root alone
abbrev pub first_pickers : Option Root → List Picker
first_pickers None = []
first_pickers (Some r) = if r.begins_with_induction then of_rank 0 (only induction) ∷ [] else []

-- the kinds in the order in which they are asked
abbrev pub pickers : Context → List Picker
pickers context = first_pickers context.root ++ (pickers_by (are_consecutive context.root) ++ last_picker ∷ [])
