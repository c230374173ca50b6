use Rattle.std.proofs.Common.{◌≡◌, ◌++◌}
use Rattle.sp_lines.proofs.texts.Texts.into_vec.Given as goal

abbrev pub invariant-loop-text : goal.invariant-loop-text
invariant-loop-text l = l.made.items ++ l.text-iterator ≡ l.fn.self.texts.keys
