-- The block of a learning log that was found. Source of the shape: Tamarin manual, "Output" (the trace that is found); the words are this project's own.
use Rattle.std.specs.Prelude.{ℕ, List, [], ◌∷◌, ◌++◌, codes, map}
use Rattle.sp_spec.specs.Log.{Log, visible_trace}
use Rattle.sp_spec.specs.Lists.{newest_first}
use Rattle.sp_spec_printed.specs.Printed.{trace_block}
use Rattle.sp_spec_log_lines.specs.Line.{Line, Giving, line_of, line_text}

-- what the lines of a log say, the oldest entry first
abbrev pub lines_of : Giving → Log → List Line
lines_of given log = map (line_of given) (newest_first log)

-- each line with its line feed
abbrev pub lines_text : List Line → List ℕ
lines_text [] = []
lines_text (line ∷ others) = line_text line ++ (codes "\n" ++ lines_text others)

-- the lines of the log, then its visible trace as it stands below an execution
abbrev pub log_block : Giving → Log → List ℕ
log_block given log = codes "log:\n" ++ (lines_text (lines_of given log) ++ trace_block (newest_first (visible_trace log)))
