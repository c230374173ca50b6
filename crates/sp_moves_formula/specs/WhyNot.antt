-- Why a move is no instance, and the cases of the moves that take up a formula.
use Rattle.std.specs.Prelude.{List, Option, Some, None, slice_get}
use Rattle.sp_spec.specs.Term.{Variable}
use Rattle.sp_spec.specs.Rule.{Action}
use Rattle.sp_spec.specs.Guarded.{Guarded, holds, acts, one_of, free_time}
use Rattle.sp_spec_system.specs.System.{System}
use Rattle.sp_spec_system.specs.Formulas.{freed_action}
use Rattle.sp_spec_system.specs.Move.{Move, or, action, Case}
use Rattle.sp_spec_formula.specs.Action.{solving_action}
use Rattle.sp_spec_formula.specs.Or.{disjunction_at, or_cases}
use Rattle.sp_spec_forms.specs.Forms.{RuleForms}
use Rattle.sp_moves.specs.Clause.{Clause, another_crate, absent, other_kind}

abbrev pub why_no_disjunction : Option Guarded → Option Clause
why_no_disjunction None = Some absent
why_no_disjunction (Some (one_of fs)) = None
why_no_disjunction (Some f) = Some other_kind

abbrev pub why_not_freed : Option (Action Variable) → Option Clause
why_not_freed None = Some other_kind
why_not_freed (Some a) = None

-- the move asks for an action at a time of the system, over terms of the system
abbrev pub why_no_action : Option Guarded → Option Clause
why_no_action None = Some absent
why_no_action (Some (holds (acts a (free_time i)))) = why_not_freed (freed_action a)
why_no_action (Some f) = Some other_kind

abbrev pub why_not_formula : System → Move → Option Clause
why_not_formula s (or k) = why_no_disjunction (slice_get s.formulas k)
why_not_formula s (action k) = why_no_action (slice_get s.formulas k)
why_not_formula s move = Some another_crate

-- the cases of such a move before they are simplified; none where it is no instance
abbrev pub formula_cases : List RuleForms → System → Move → Option (List Case)
formula_cases rules s (or k) = or_cases s (disjunction_at k s.formulas)
formula_cases rules s (action k) = solving_action rules s (slice_get s.formulas k)
formula_cases rules s move = None
