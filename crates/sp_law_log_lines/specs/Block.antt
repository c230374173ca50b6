-- The block of a learning log of a theory. Source of the shape: Tamarin manual, "Output" (the trace that is found); the words are this project's own.
use Rattle.std.specs.Prelude.{ℕ, List, [], map, Option, Some, None}
use Rattle.sp_spec.specs.Theory.{Theory, signature_of}
use Rattle.sp_spec.specs.Log.{Log}
use Rattle.sp_spec_forms.specs.Forms.{forms_of}
use Rattle.sp_spec_log_lines.specs.Line.{Giving}
use Rattle.sp_spec_log_lines.specs.Block.{log_block}
use Rattle.sp_show_log.specs.Given.{given_among}
use Rattle.sp_show_log.specs.Numbers.{HasNumberedLines}

-- the values that an entry's facts give to the variables of its rule
abbrev pub given_in : Theory → Giving
given_in theory = let es = (signature_of theory).equations in given_among es (map (forms_of es) theory.rules)

-- nothing where no log was found
abbrev pub log_block_by : Giving → Option Log → List ℕ
log_block_by given None = []
log_block_by given (Some log) = log_block given log

abbrev pub log_block_of : Theory → Option Log → List ℕ
log_block_of theory log = log_block_by (given_in theory) log

-- the numbers of the fresh names in the lines have an end
abbrev pub AreNumberedBy : Giving → Option Log → Type 0
AreNumberedBy given None = Unit {0}
AreNumberedBy given (Some log) = HasNumberedLines given log
