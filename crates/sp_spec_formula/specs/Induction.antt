-- Induction over traces: the move where a proof begins, and the systems of its two cases. Source: Tamarin manual, "Advanced features" (induction); Meier's
-- thesis, "Trace induction".
use Rattle.std.specs.Prelude.{◌==◌, Bool, true, not, ◌&&◌, is_none, if◌then◌else◌, List, [], ◌∷◌, length, Option, Some, None, option_map, codes}
use Rattle.sp_spec.specs.Guarded.{guardeds_of}
use Rattle.sp_spec.specs.SameFormula.{same_formulas}
use Rattle.sp_spec_system.specs.System.{System, formulas_alone, with_closed}
use Rattle.sp_spec_system.specs.Move.{Case, InductionCases, Root, root_formulas}

-- where the trace is empty nothing happens at all
abbrev pub induction_cases : InductionCases → List Case
induction_cases i =
    record { name = codes "empty_trace"; system = with_closed (formulas_alone i.empty_trace) true }
    ∷ record { name = codes "non_empty_trace"; system = formulas_alone i.non_empty_trace } ∷ []

abbrev pub is_empty : {A : Type 0} → List A → Bool
is_empty xs = length xs == 0

-- nothing but formulas stands in the system
abbrev pub has_formulas_alone : System → Bool
has_formulas_alone s =
    (s.next == 0)
    && (not s.closed && (is_none s.last && (is_empty s.events && (is_empty s.spent && (is_empty s.unequal && (is_empty s.links && is_empty s.order))))))

-- the system is the one in which a proof from this root begins
abbrev pub is_root : Root → System → Bool
is_root r s = has_formulas_alone s && same_formulas (guardeds_of s.formulas) (guardeds_of (root_formulas r))

-- the move there; none elsewhere, where the proof began from nothing, and where the root has no cases
abbrev pub root_induction : Option Root → System → Option (List Case)
root_induction None s = None
root_induction (Some r) s = if is_root r s then option_map induction_cases r.cases else None
