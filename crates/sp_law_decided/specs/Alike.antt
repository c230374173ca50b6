-- What two traces have in common that differ in names alone. Source: CSF 2012, "Guarded trace properties" (which formulas are true of a trace).
use Rattle.std.specs.Prelude.{◌≡◌, ◌↔◌, ◌<◌, ℕ, List, [], Some}
use Rattle.sp_spec.specs.Lists.{Every, newest_first}
use Rattle.sp_spec.specs.Formula.{Formula}
use Rattle.sp_spec.specs.Theory.{Theory, Restriction, signature_of}
use Rattle.sp_spec.specs.Execution.{Trace}
use Rattle.sp_spec.specs.Verdict.{MeetsRestrictions}
use Rattle.sp_spec.specs.Guarded.{Guarded, Assignment, GuardedHolds}
use Rattle.sp_law_guard.specs.GuardedForm.{negate, guarded_form}
use Rattle.sp_spec.specs.Log.{Entry, IsLog, log_trace}
use Rattle.sp_spec_system.specs.System.{System}
use Rattle.sp_spec_solved.specs.Candidate.{candidate}
use Rattle.sp_spec_system.specs.Numbered.{names_in, InFormula}

-- the formula has a guarded form, in which no names stand but these constants
abbrev pub HasForm : List (List ℕ) → Formula → Type 0
HasForm constants f = (g : Guarded) × (guarded_form [] f ≡ Some g) × (n : ℕ) × InFormula (names_in constants) (λ x. x.number < n) (λ i. i < n) g

-- Such formulas are as true over the one trace as over the other, and so are their negations; and both meet the restrictions or neither does.
pub record AreAlike (theory : Theory) (constants : List (List ℕ)) (t u : Trace) : Type 0 where
  pub form : (f : Formula) (h : HasForm constants f) (m w : Assignment) → GuardedHolds (signature_of theory) t m h.0 ↔ GuardedHolds (signature_of theory) u w h.0
  pub negation : (f : Formula) (h : HasForm constants f) (m w : Assignment) → GuardedHolds (signature_of theory) t m (negate h.0) ↔ GuardedHolds (signature_of theory) u w (negate h.0)
  pub restrictions : Every (λ (x : Restriction). HasForm constants x.formula) theory.restrictions → MeetsRestrictions theory t ↔ MeetsRestrictions theory u

-- what the system suggests is no learning log that meets the restrictions and makes the formula true
abbrev pub IsUnsought : Theory → List (List ℕ) → System → Assignment → Guarded → Type 0
IsUnsought theory constants s w f =
    (entries : List Entry) → candidate constants s ≡ Some entries → IsLog theory (newest_first entries) → MeetsRestrictions theory (log_trace (newest_first entries))
    → GuardedHolds (signature_of theory) (log_trace (newest_first entries)) w f → ⊥
