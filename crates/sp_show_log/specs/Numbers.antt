-- Names in the lines of a log whose numbers have an end: those of names in memory, which have 128 bits.
use Rattle.std.specs.Prelude.{ℕ, List}
use Rattle.sp_spec.specs.Lists.{Every}
use Rattle.sp_spec.specs.Term.{Names, Ground}
use Rattle.sp_spec.specs.Log.{Log}
use Rattle.sp_show.specs.Numbers.{HasNames, numbered_names}
use Rattle.sp_spec_log_lines.specs.Line.{Giving, Line, rule_line, send_line, learn_line}
use Rattle.sp_spec_log_lines.specs.Block.{lines_of}

-- the names in what the line says are such ones
abbrev pub LineHasNames : Names → Line → Type 0
LineHasNames N (rule_line r given) = Every (λ (g : List ℕ × Ground). HasNames N g.1) given
LineHasNames N (send_line m) = HasNames N m
LineHasNames N (learn_line m way) = HasNames N m

-- those in the lines of the log are numbered so
abbrev pub HasNumberedLines : Giving → Log → Type 0
HasNumberedLines given log = Every (LineHasNames numbered_names) (lines_of given log)
