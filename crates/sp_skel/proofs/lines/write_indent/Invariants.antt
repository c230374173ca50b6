use Rattle.std.proofs.Common.{◌≡◌, ◌++◌, ◌-◌, string_bytes}
use Rattle.sp_skel.specs.TreeText.{indent}
use Rattle.sp_skel.proofs.lines.write_indent.Given as goal

abbrev pub invariant-loop-level : goal.invariant-loop-level
invariant-loop-level l = string_bytes l.out ++ indent (l.depth - l._level) ≡ string_bytes l.fn.out ++ indent l.depth
