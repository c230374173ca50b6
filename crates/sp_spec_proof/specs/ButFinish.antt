-- The cases of each move but `finish`, before they are simplified. Source: Tamarin manual, "Constraint solving".
use Rattle.std.specs.Prelude.{if◌then◌else◌, List, [], ◌∷◌, Option, Some, None, is_some, slice_get}
use Rattle.sp_spec.specs.Destruction.{destructions}
use Rattle.sp_spec_system.specs.System.{System}
use Rattle.sp_spec_proof.specs.Rows.{has_place, is_contradictory}
use Rattle.sp_spec_system.specs.Move.{Move, simplify, contradiction, unproved, solved, or, action, premise, know, chain, induction, compare, top, same, more_events, Context, Case, end_log}
use Rattle.sp_spec_formula.specs.Action.{solving_action}
use Rattle.sp_spec_formula.specs.Or.{disjunction_at, or_cases}
use Rattle.sp_spec_formula.specs.Induction.{root_induction}
use Rattle.sp_spec_formula.specs.Sides.{same_cases}
use Rattle.sp_spec_formula.specs.Top.{top_cases}
use Rattle.sp_spec_graph.specs.Premise.{open_premise, premise_cases}
use Rattle.sp_spec_graph.specs.Compare.{compare_cases}
use Rattle.sp_spec_graph.specs.More.{more_cases}
use Rattle.sp_spec_know.specs.Know.{know_cases}
use Rattle.sp_spec_know.specs.Chain.{chain_cases}

-- none where the move is no instance
abbrev pub raw_but_finish : Context → System → Move → Option (List Case)
raw_but_finish context s simplify = if has_place context.rules s then Some (record { name = []; system = s } ∷ []) else None
raw_but_finish context s contradiction = if is_contradictory context.rules s then Some [] else None
raw_but_finish context s unproved = Some []
raw_but_finish context s solved = if is_some (end_log context s) then Some [] else None
raw_but_finish context s (or k) = or_cases s (disjunction_at k s.formulas)
raw_but_finish context s (action k) = solving_action context.rules.forms s (slice_get s.formulas k)
raw_but_finish context s (premise i p) = premise_cases context.rules.forms s i p (open_premise s i p)
raw_but_finish context s (know i) = know_cases context.rules s i
raw_but_finish context s (chain i) = chain_cases (destructions context.rules.signature) s i
raw_but_finish context s induction = root_induction context.root s
raw_but_finish context s (compare i j) = compare_cases s i j
raw_but_finish context s (top k) = top_cases context.rules.signature.symbols s k
raw_but_finish context s (same a b) = same_cases context.public_names s a b
raw_but_finish context s more_events = more_cases context.rules.forms s
-- `source` has no cases as yet
raw_but_finish context s move = None
