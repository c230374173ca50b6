-- The solutions of a closed system in which nothing is left to decide. Source: CSF 2012, "Constraint solving" (a solved system is its attack, up to names).
use Rattle.std.specs.Prelude.{◌≡◌, ℕ, true, List, Some}
use Rattle.sp_spec.specs.Lists.{Every, newest_first}
use Rattle.sp_spec.specs.Theory.{Theory, Restriction, signature_of}
use Rattle.sp_spec.specs.Formula.{Formula}
use Rattle.sp_spec.specs.Verdict.{MeetsRestrictions}
use Rattle.sp_spec.specs.Guarded.{Assignment, GuardedHolds}
use Rattle.sp_law_guard.specs.GuardedForm.{negate}
use Rattle.sp_spec.specs.Log.{Entry, Log, IsLog, log_trace}
use Rattle.sp_spec_system.specs.Numbered.{names_in, HappenOnce, IsNumbered}
use Rattle.sp_law_equal.specs.Right.{HaveNoNames}
use Rattle.sp_law_system.specs.Rules.{RulesAreNumbered}
use Rattle.sp_spec_system.specs.System.{System}
use Rattle.sp_spec_system.specs.Solutions.{Valuation, Solves}
use Rattle.sp_spec_solved.specs.Candidate.{candidate}
use Rattle.sp_law_exchange.specs.Renaming.{log_renamed}
use Rattle.sp_law_exchange.specs.Exchange.{Exchange, exchanges, IsUnlisted}
use Rattle.sp_law_decided.specs.Decided.{IsDecided}
use Rattle.sp_law_decided.specs.Test.{leaves_nothing}
use Rattle.sp_law_decided.specs.Alike.{HasForm, AreAlike, IsUnsought}

-- The system suggests a log, and each solution's log becomes that one by a list of exchanges of names.
pub record DecidedLogsAreTheCandidate : Type 0 where
  pub each : (theory : Theory) (constants : List (List ℕ)) (s : System) → IsDecided constants s
      → (log : Log) → IsLog theory log → (v : Valuation) → Solves theory log v s
      → (entries : List Entry) × (es : List Exchange) × (candidate constants s ≡ Some entries) × Every (IsUnlisted constants) es
      × (log_renamed (exchanges es) log ≡ newest_first entries)

-- Where the constants are those of the rules, what the system suggests is a learning log if some solution is over one, and both logs' traces are
-- alike. So of a lemma and restrictions with no other names: where a solution's log meets the restrictions and breaks the lemma, so does the suggested one.
pub record SolutionsAreSuggested : Type 0 where
  pub each : (theory : Theory) (constants : List (List ℕ)) → HaveNoNames (signature_of theory).equations → RulesAreNumbered (names_in constants) theory.rules
      → (s : System) → IsDecided constants s → (log : Log) → IsLog theory log → (v : Valuation) → Solves theory log v s
      → (entries : List Entry) × (candidate constants s ≡ Some entries) × IsLog theory (newest_first entries)
      × AreAlike theory constants (log_trace log) (log_trace (newest_first entries))

-- The test tells it of each system whose names are these constants, and no two events of which have one time.
pub record DecidedIsTested : Type 0 where
  pub each : (constants : List (List ℕ)) (s : System) → IsNumbered (names_in constants) s → HappenOnce s.events → leaves_nothing constants s ≡ true → IsDecided constants s

-- Where the log that is suggested is none, or doesn't meet the restrictions, or makes the formula false, no such system is solved by a log that
-- meets them and makes it true. The formula is a lemma's guarded form, or the negation of one.
pub record UnsoughtIsUnsolved : Type 0 where
  pub form : (theory : Theory) (constants : List (List ℕ)) → HaveNoNames (signature_of theory).equations → RulesAreNumbered (names_in constants) theory.rules
      → Every (λ (x : Restriction). HasForm constants x.formula) theory.restrictions → (s : System) → IsDecided constants s
      → (f : Formula) (h : HasForm constants f) (w : Assignment) → IsUnsought theory constants s w h.0
      → (log : Log) → IsLog theory log → (v : Valuation) → Solves theory log v s → (m : Assignment) → MeetsRestrictions theory (log_trace log)
      → GuardedHolds (signature_of theory) (log_trace log) m h.0 → ⊥
  pub negation : (theory : Theory) (constants : List (List ℕ)) → HaveNoNames (signature_of theory).equations → RulesAreNumbered (names_in constants) theory.rules
      → Every (λ (x : Restriction). HasForm constants x.formula) theory.restrictions → (s : System) → IsDecided constants s
      → (f : Formula) (h : HasForm constants f) (w : Assignment) → IsUnsought theory constants s w (negate h.0)
      → (log : Log) → IsLog theory log → (v : Valuation) → Solves theory log v s → (m : Assignment) → MeetsRestrictions theory (log_trace log)
      → GuardedHolds (signature_of theory) (log_trace log) m (negate h.0) → ⊥
