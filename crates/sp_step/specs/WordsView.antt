-- The words that those in memory stand for.
use Rattle.std.specs.Prelude.{map}
use Rattle.sp_spec_system.specs.Words as spec
use Rattle.sp_moves.specs.View.{side_of}
use Rattle.sp_step.specs.declared.words.Argument.{Argument}
use Rattle.sp_step.specs.declared.words.Argument.TheVariants.{Place, Time, Variable, Side}
use Rattle.sp_step.specs.declared.words.Said.{Said}
use Rattle.sp_step.specs.declared.words.Said.TheVariants.{Digits, Named}
use Rattle.sp_step.specs.declared.words.Words.{Words}
use Rattle.sp_step.specs.declared.words.Words.TheVariants.{Method, Goal}

abbrev pub argument_of : Argument → spec.Argument
argument_of (Place k) = spec.place k
argument_of (Time i) = spec.time i
argument_of (Variable k) = spec.variable k
argument_of (Side a) = spec.side (side_of a)

abbrev pub said_of : Said → spec.Said
said_of (Digits k) = spec.digits k
said_of (Named a) = spec.named (side_of a)

abbrev pub words_of : Words → spec.Words
words_of (Method word) = spec.method word.now
words_of (Goal word arguments) = spec.goal word.now (map argument_of arguments.items)
