use Rattle.std.proofs.Common.{◌≡◌, ◌++◌, drop, map, string_bytes}
use Rattle.sp_spec_system.specs.Words.{arguments_text}
use Rattle.sp_step.specs.WordsView.{argument_of}
use Rattle.sp_step.proofs.words.write_arguments.Given as goal

abbrev pub invariant-loop-argument : goal.invariant-loop-argument
invariant-loop-argument l = string_bytes l.out ++ arguments_text (map argument_of (drop l.argument-index l.arguments)) ≡ string_bytes l.fn.out ++ arguments_text (map argument_of l.arguments)
