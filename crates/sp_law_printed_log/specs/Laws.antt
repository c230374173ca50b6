-- What holds of the lines that are printed of an execution that was found.
use Rattle.std.specs.Prelude.{◌≡◌, ℕ, List, ◌++◌, map, Some}
use Rattle.sp_spec.specs.Lists.{Every, newest_first}
use Rattle.sp_spec.specs.Signature.{Symbol}
use Rattle.sp_spec.specs.Theory.{Lemma, signature_of}
use Rattle.sp_spec.specs.Written.{WrittenTheory, theory_of}
use Rattle.sp_spec.specs.Constants.{constants_of}
use Rattle.sp_spec.specs.Execution.{Step}
use Rattle.sp_spec.specs.Log.{Entry, Log, IsLog, visible_trace}
use Rattle.sp_law_log_execution.specs.Executed.{executed_of}
use Rattle.sp_law_log_execution.specs.Laws.{IsRunnable}
use Rattle.sp_spec_text.specs.Written.{WrittenText}
use Rattle.sp_spec_text.specs.Declared.{theory_in}
use Rattle.sp_spec_text.specs.Texts.{IsTextOf}
use Rattle.sp_spec_printed.specs.Printed.{step_text}
use Rattle.sp_spec_system.specs.System.{System}
use Rattle.sp_spec_system.specs.Numbered.{names_in, IsNumbered}
use Rattle.sp_spec_text.specs.Names.{IsNameWord}
use Rattle.sp_spec_printed.specs.StepLines.{IsQuotable, HaveNames, IsWritableStep, AreSteps}
use Rattle.sp_spec_text.specs.Blanks.{lines}
use Rattle.sp_spec_solved.specs.Candidate.{candidate}
use Rattle.sp_law_printed_log.specs.Block.{steps_text}
use Rattle.sp_law_printed_log.specs.Shown.{shown_names, numbered_names, StepHasNames, LogHasNames, IsNamedRule, IsShownTrace}

-- Steps that may be written are read back from their lines, one for each, and are followed by the lines of what follows.
pub record StepsAreReadBack : Type 0 where
  pub cut : (symbols : List Symbol) → HaveNames symbols → (steps : List Step) → Every (IsWritableStep symbols) steps → (behind : List ℕ)
      → lines (steps_text steps ++ behind) ≡ map step_text steps ++ lines behind
  pub read : (symbols : List Symbol) → HaveNames symbols → (steps : List Step) → Every (IsWritableStep symbols) steps → AreSteps symbols (map step_text steps) steps

-- Symbols, rules, their variables and actions, and lemmas have names as they stand in a text, and its public names stood in quotes.
pub record TextsHaveNames : Type 0 where
  pub symbols : (text : List ℕ) (theory : WrittenText) → IsTextOf text theory → HaveNames (signature_of (theory_of (theory_in theory))).symbols
  pub rules : (text : List ℕ) (theory : WrittenText) → IsTextOf text theory → Every IsNamedRule (theory_of (theory_in theory)).rules
  pub lemmas : (text : List ℕ) (theory : WrittenText) → IsTextOf text theory → Every (λ (l : Lemma). IsNameWord l.name) (theory_in theory).lemmas
  pub constants : (text : List ℕ) (theory : WrittenText) → IsTextOf text theory → Every IsQuotable (constants_of (theory_in theory))

-- The log that a system suggests has the system's public names, and those of its own; its fresh names are numbered from 1.
pub record CandidatesHaveNames : Type 0 where
  pub names : (constants : List (List ℕ)) → Every IsQuotable constants → (s : System) → IsNumbered (names_in constants) s
      → (entries : List Entry) → candidate constants s ≡ Some entries → LogHasNames shown_names (newest_first entries)

-- The execution of a log has its names, and is over the symbols; so has the log's trace. Where the numbers of names have an end, the steps may be
-- written, those of the adversary included.
pub record LogsMayBeWritten : Type 0 where
  pub steps : (theory : WrittenTheory) → IsRunnable (theory_of theory) → HaveNames (signature_of (theory_of theory)).symbols
      → Every IsNamedRule (theory_of theory).rules → (log : Log) → IsLog (theory_of theory) log → LogHasNames shown_names log
      → Every (StepHasNames numbered_names) (executed_of (theory_of theory) log)
      → Every (IsWritableStep (signature_of (theory_of theory)).symbols) (executed_of (theory_of theory) log)
  pub trace : (theory : WrittenTheory) → IsRunnable (theory_of theory) → Every IsNamedRule (theory_of theory).rules
      → (log : Log) → IsLog (theory_of theory) log → LogHasNames shown_names log
      → IsShownTrace (signature_of (theory_of theory)).symbols (visible_trace log)
