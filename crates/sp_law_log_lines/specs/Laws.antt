-- What holds of the lines that are printed of a learning log that was found.
use Rattle.std.specs.Prelude.{◌≡◌, ℕ, List, ◌++◌, map}
use Rattle.sp_spec.specs.Lists.{Every, newest_first}
use Rattle.sp_spec.specs.Signature.{Symbol}
use Rattle.sp_spec.specs.Theory.{Theory, signature_of}
use Rattle.sp_spec.specs.Log.{Entry, Log, IsLog, entry_actions}
use Rattle.sp_law_equal.specs.RightTheory.{IsRightTheory}
use Rattle.sp_law_log_execution.specs.Laws.{IsRunnable}
use Rattle.sp_spec_text.specs.Blanks.{lines}
use Rattle.sp_spec_printed.specs.StepLines.{HaveNames}
use Rattle.sp_law_printed_log.specs.Shown.{shown_names, LogHasNames, IsNamedRule}
use Rattle.sp_spec_log_lines.specs.Line.{Line, line_text}
use Rattle.sp_spec_log_lines.specs.Block.{lines_of, lines_text}
use Rattle.sp_spec_log_lines.specs.Told.{IsWritableLine, IsLogLine, TellOf}
use Rattle.sp_show_log.specs.Numbers.{HasNumberedLines}
use Rattle.sp_law_log_lines.specs.Alike.{AreAlike}
use Rattle.sp_law_log_lines.specs.Block.{given_in}

-- A text is that of one line at most. Lines that may be written are each a line of the text, and are followed by the lines of what follows.
pub record LogLinesAreReadBack : Type 0 where
  pub one : (symbols : List Symbol) → HaveNames symbols → (text : List ℕ) (x y : Line) → IsLogLine symbols text x → IsLogLine symbols text y → x ≡ y
  pub cut : (symbols : List Symbol) → HaveNames symbols → (xs : List Line) → Every (IsWritableLine symbols) xs → (behind : List ℕ)
      → lines (lines_text xs ++ behind) ≡ map line_text xs ++ lines behind

-- Entries of which the same lines tell are alike, and have the same actions: so the lines of a log tell its trace.
pub record LinesTellEntries : Type 0 where
  pub alike : (theory : Theory) → IsRightTheory theory → HaveNames (signature_of theory).symbols → (texts : List (List ℕ)) (es fs : List Entry)
      → TellOf theory texts es → TellOf theory texts fs → AreAlike es fs
  pub trace : (theory : Theory) → IsRightTheory theory → HaveNames (signature_of theory).symbols → (texts : List (List ℕ)) (es fs : List Entry)
      → TellOf theory texts es → TellOf theory texts fs → map entry_actions es ≡ map entry_actions fs

-- The lines of a log may be written, and tell of its entries, the oldest first: where names that may be shown stand in it, and in its lines such as have an end.
pub record LogsAreTold : Type 0 where
  pub writable : (theory : Theory) → IsRunnable theory → HaveNames (signature_of theory).symbols → Every IsNamedRule theory.rules
      → (log : Log) → IsLog theory log → LogHasNames shown_names log → HasNumberedLines (given_in theory) log
      → Every (IsWritableLine (signature_of theory).symbols) (lines_of (given_in theory) log)
  pub told : (theory : Theory) → IsRunnable theory → HaveNames (signature_of theory).symbols → Every IsNamedRule theory.rules
      → (log : Log) → IsLog theory log → LogHasNames shown_names log → HasNumberedLines (given_in theory) log
      → TellOf theory (map line_text (lines_of (given_in theory) log)) (newest_first log)
