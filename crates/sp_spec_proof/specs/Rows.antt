-- Contradictions, elementary moves in the order in which they are tried, and simplification. Source: CSF 2012, "Constraint solving" (the
-- simplification rules); Meier's thesis, chapter 3. Each elementary move is done at its lowest position.
use Rattle.std.specs.Prelude.{List, [], ◌∷◌, Option, Some, None, ◌||◌, Bool, is_some, true, false, ℕ, zero, suc}
use Rattle.std.specs.List.{list_any}
use Rattle.sp_spec_system.specs.System.{System}
use Rattle.sp_spec_system.specs.Rules.{Rules}
use Rattle.sp_spec_formula.specs.Split.{split, has_falsity}
use Rattle.sp_spec_formula.specs.Open.{open_existential}
use Rattle.sp_spec_formula.specs.Unequal.{unequal, has_equal_pair}
use Rattle.sp_spec_formula.specs.InOrder.{in_order, has_refuted}
use Rattle.sp_spec_formula.specs.Last.{sets_last, fails_to_last, has_later, has_last_refuted, has_unlast}
use Rattle.sp_spec_formula.specs.ActionStands.{action_stands}
use Rattle.sp_spec_graph.specs.FreshOnce.{fresh_once, fails_to_merge}
use Rattle.sp_spec_formula.specs.Equate.{equate, fails_to_equate}
use Rattle.sp_spec_graph.specs.LinearOnce.{linear_once, fails_to_link}
use Rattle.sp_spec_formula.specs.Disjunction.{disjunction}
use Rattle.sp_spec_know.specs.FreshFirst.{fresh_first}
use Rattle.sp_spec_know.specs.SendInput.{send_input}
use Rattle.sp_spec_know.specs.SendLearnt.{send_learnt}
use Rattle.sp_spec_know.specs.LearnOnce.{learn_once, fails_to_learn}
use Rattle.sp_spec_know.specs.SettleLearn.{settle_learn}
use Rattle.sp_spec_know.specs.LearntEarly.{has_early}
use Rattle.sp_spec_formula.specs.Instantiate.{instantiate}
use Rattle.sp_spec_system.specs.Order.{is_cyclic}
use Rattle.sp_spec_graph.specs.SourceTwice.{has_source_twice}
use Rattle.sp_spec_graph.specs.ReducibleEvent.{has_reducible}

-- the elementary moves, in their order
pub data Row : Type 0 where
  row_split : Row
  row_open : Row
  row_equate : Row
  row_unequal : Row
  row_order : Row
  row_last : Row
  row_action_stands : Row
  row_disjunction : Row
  row_send_input : Row
  row_send_learnt : Row
  row_learn_once : Row
  row_linear_once : Row
  row_fresh_once : Row
  row_settle_learn : Row
  row_fresh_first : Row
  row_instantiate : Row

abbrev pub rows : List Row
rows =
    row_split ∷ row_open ∷ row_equate ∷ row_unequal ∷ row_order ∷ row_last ∷ row_action_stands ∷ row_disjunction
    ∷ row_send_input ∷ row_send_learnt ∷ row_learn_once ∷ row_linear_once ∷ row_fresh_once ∷ row_settle_learn ∷ row_fresh_first ∷ row_instantiate ∷ []

-- in the rules of a proof, of which settling a learn needs the symbols
abbrev pub by_row : Rules → Row → System → Option System
by_row rules row_split s = split s
by_row rules row_open s = open_existential s
by_row rules row_equate s = equate s
by_row rules row_unequal s = unequal s
by_row rules row_order s = in_order s
by_row rules row_last s = sets_last s
by_row rules row_action_stands s = action_stands s
by_row rules row_disjunction s = disjunction s
by_row rules row_send_input s = send_input s
by_row rules row_send_learnt s = send_learnt s
by_row rules row_learn_once s = learn_once s
by_row rules row_linear_once s = linear_once s
by_row rules row_fresh_once s = fresh_once s
by_row rules row_settle_learn s = settle_learn rules.signature.symbols s
by_row rules row_fresh_first s = fresh_first s
by_row rules row_instantiate s = instantiate s

abbrev pub first_of : Option System → Option System → Option System
first_of (Some t) later = Some t
first_of None later = later

-- the first one that applies
abbrev pub by_rows : Rules → List Row → System → Option System
by_rows rules [] s = None
by_rows rules (row ∷ more_rows) s = first_of (by_row rules row s) (by_rows rules more_rows s)

-- a row has a place at which the unification or the merge fails
abbrev pub fails_somewhere : System → Bool
fails_somewhere s = fails_to_equate s s.formulas || (fails_to_last s s.formulas || (fails_to_learn s || (fails_to_link s || fails_to_merge s)))

-- what shows that a system has no solution, in the order in which it is looked for
pub data Contradiction : Type 0 where
  false_formula : Contradiction
  equal_unequal_pair : Contradiction
  refuted_literal : Contradiction
  cyclic_order : Contradiction
  source_used_twice : Contradiction
  learnt_too_early : Contradiction
  reducible_term : Contradiction
  failing_row : Contradiction
  time_after_last : Contradiction
  refuted_last : Contradiction
  last_in_closed : Contradiction

abbrev pub contradictions : List Contradiction
contradictions =
    false_formula ∷ equal_unequal_pair ∷ refuted_literal ∷ cyclic_order ∷ source_used_twice ∷ learnt_too_early ∷ reducible_term
    ∷ failing_row ∷ time_after_last ∷ refuted_last ∷ last_in_closed ∷ []

abbrev pub by_contradiction : Rules → System → Contradiction → Bool
by_contradiction rules s false_formula = has_falsity s.formulas
by_contradiction rules s equal_unequal_pair = has_equal_pair s.unequal
by_contradiction rules s refuted_literal = has_refuted s.order s.formulas
by_contradiction rules s cyclic_order = is_cyclic s.order
by_contradiction rules s source_used_twice = has_source_twice s
by_contradiction rules s learnt_too_early = has_early s
by_contradiction rules s reducible_term = has_reducible rules.signature.equations s.events
by_contradiction rules s failing_row = fails_somewhere s
by_contradiction rules s time_after_last = has_later s.last s.order
by_contradiction rules s refuted_last = has_last_refuted s.last s.formulas
by_contradiction rules s last_in_closed = has_unlast s

abbrev pub is_contradictory : Rules → System → Bool
is_contradictory rules s = list_any (by_contradiction rules s) contradictions

-- some row has a place, be it one at which it fails
abbrev pub has_place : Rules → System → Bool
has_place rules s = is_some (by_rows rules rows s) || fails_somewhere s

-- Simplification: contradictions are looked for before each elementary move.
abbrev pub goes_on : Bool → Option System → (System → System) → System → System
goes_on true next again s = s
goes_on false None again s = s
goes_on false (Some t) again s = again t

unfoldable pub simplified_by : Rules → ℕ → System → System
simplified_by rules zero s = s
simplified_by rules (suc n) s = goes_on (is_contradictory rules s) (by_rows rules rows s) (simplified_by rules n) s

-- at most 10,000 elementary moves
abbrev pub simplified : Rules → System → System
simplified rules s = simplified_by rules 10000 s
