-- What holds of logs that were found.
use Rattle.std.specs.Prelude.{◌≡◌, ◌↔◌, ◌⊎◌, ℕ, List, [], ◌∷◌, ◌++◌, Some, true, false}
use Rattle.std.specs.List.{list_all}
use Rattle.sp_spec.specs.Lists.{Every}
use Rattle.sp_spec.specs.Formula.{Formula}
use Rattle.sp_spec.specs.Signature.{Signature}
use Rattle.sp_spec.specs.Theory.{Lemma, signature_of}
use Rattle.sp_spec.specs.Written.{WrittenTheory, theory_of}
use Rattle.sp_spec.specs.Guarded.{Guarded, GuardedHolds}
use Rattle.sp_spec.specs.Log.{Entry, Log, IsLog, log_trace}
use Rattle.sp_law_guard.specs.GuardedForm.{negate}
use Rattle.sp_law_guard.specs.CheckedForm.{checked_form}
use Rattle.sp_law_decide.specs.Deciding.{assignment_of, decided, empty}
use Rattle.sp_spec.specs.Lists.{newest_first}
use Rattle.sp_law_basic.specs.BasicTheory.{IsBasicFormula}
use Rattle.sp_law_basic.specs.Restrictions.{restriction_forms}
use Rattle.sp_spec_system.specs.System.{System}
use Rattle.sp_spec_system.specs.Rules.{rules_of}
use Rattle.sp_spec_system.specs.Move.{Root, asked_formulas, Context}
use Rattle.sp_learn.specs.Checking.{is_log}
use Rattle.sp_spec_solved.specs.Candidate.{candidate}
use Rattle.sp_solved.specs.Found.{found}
use Rattle.sp_law_cover.specs.Contexts.{EndsAsSought}
use Rattle.sp_law_found_log.specs.Shown.{IsSearched, FoundBreaks, FoundSatisfies}

-- Of entries, the oldest first, that pass the test of logs, and a lemma: where the guarded forms of the restrictions and the negation of the lemma's are found true over the
-- log's trace, the log meets the restrictions and breaks the lemma; where the form is found true, it satisfies the lemma.
pub record FoundLogsShow : Type 0 where
  pub breaks : (theory : WrittenTheory) → IsSearched theory → (lemma : Lemma) → IsBasicFormula (signature_of (theory_of theory)) lemma.formula
      → (g : Guarded) → checked_form lemma.formula ≡ Some g
      → (entries : List Entry) → is_log (signature_of (theory_of theory)) (rules_of (theory_of theory)).forms entries ≡ true
      → list_all (decided (log_trace (newest_first entries)) empty) (restriction_forms theory.restrictions ++ negate g ∷ []) ≡ true → FoundBreaks (theory_of theory) lemma (newest_first entries)
  pub satisfies : (theory : WrittenTheory) → IsSearched theory → (lemma : Lemma) → IsBasicFormula (signature_of (theory_of theory)) lemma.formula
      → (g : Guarded) → checked_form lemma.formula ≡ Some g
      → (entries : List Entry) → is_log (signature_of (theory_of theory)) (rules_of (theory_of theory)).forms entries ≡ true
      → list_all (decided (log_trace (newest_first entries)) empty) (restriction_forms theory.restrictions ++ g ∷ []) ≡ true → FoundSatisfies (theory_of theory) lemma (newest_first entries)

-- A formula from which a proof begins: the guarded form of a restriction or a lemma, or its negation.
abbrev pub IsRootFormula : Signature → Guarded → Type 0
IsRootFormula signature h = (f : Formula) × IsBasicFormula signature f × (g : Guarded) × (checked_form f ≡ Some g) × ((h ≡ g) ⊎ (h ≡ negate g))

-- The search ends at a system exactly where the candidate that the system suggests is a log of the theory over whose trace the formulas are
-- true, and it ends with that log.
pub record FoundIsSought : Type 0 where
  pub exact : (theory : WrittenTheory) → IsSearched theory → (hs : List Guarded) → Every (IsRootFormula (signature_of (theory_of theory))) hs → (constants : List (List ℕ)) (s : System) (log : Log)
      → (found (signature_of (theory_of theory)) (rules_of (theory_of theory)).forms constants hs s ≡ Some log)
      ↔ ((entries : List Entry) × (candidate constants s ≡ Some entries) × (log ≡ newest_first entries) × IsLog (theory_of theory) log
      × Every (GuardedHolds (signature_of (theory_of theory)) (log_trace log) (assignment_of empty)) hs)

-- So a context whose search ends with what is found of what its root asks for ends its search as it is to.
pub record SearchesEndAsSought : Type 0 where
  pub ends : (theory : WrittenTheory) → IsSearched theory → (context : Context) (root : Root) → context.root ≡ Some root
      → Every (IsRootFormula (signature_of (theory_of theory))) (asked_formulas root)
      → ((s : System) → context.found s ≡ found (signature_of (theory_of theory)) (rules_of (theory_of theory)).forms context.public_names (asked_formulas root) s)
      → EndsAsSought (theory_of theory) context
