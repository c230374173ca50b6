-- The log that is looked for in a system: the one that it suggests, if that is a log of the rules and its trace makes formulas true.
-- Source: CSF 2012, "Constraint solving" (a solved system gives a trace that satisfies the formula).
use Rattle.std.specs.Prelude.{ℕ, Bool, ◌&&◌, if◌then◌else◌, List, Option, Some, None, option_and_then}
use Rattle.std.specs.List.{list_all}
use Rattle.sp_spec.specs.Signature.{Signature}
use Rattle.sp_spec_forms.specs.Forms.{RuleForms}
use Rattle.sp_spec.specs.Guarded.{Guarded}
use Rattle.sp_spec.specs.Log.{Entry, Log, log_trace}
use Rattle.sp_law_decide.specs.Deciding.{decided, empty}
use Rattle.sp_spec.specs.Lists.{newest_first}
use Rattle.sp_spec_system.specs.System.{System}
use Rattle.sp_learn.specs.Checking.{is_log}
use Rattle.sp_spec_solved.specs.Candidate.{candidate}

-- entries, the oldest first, that are a log of the rules, and over whose whole trace the formulas are true
abbrev pub is_sought : Signature → List RuleForms → List Guarded → List Entry → Bool
is_sought signature rules formulas entries = is_log signature rules entries && list_all (decided (log_trace (newest_first entries)) empty) formulas

abbrev pub kept_if : Bool → List Entry → Option Log
kept_if b entries = if b then Some (newest_first entries) else None

abbrev pub found : Signature → List RuleForms → List (List ℕ) → List Guarded → System → Option Log
found signature rules constants formulas s =
    option_and_then (λ (entries : List Entry). kept_if (is_sought signature rules formulas entries) entries) (candidate constants s)
