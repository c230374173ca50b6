use Rattle.std.proofs.Common.{◌++◌, string_bytes}
use Rattle.sp_skel.specs.TreeText.{indent}
use Rattle.sp_skel.proofs.Levels.{one_level}
use Rattle.sp_skel.proofs.lines.write_indent.Goals as goal

pub loop-level-preserved : goal.loop-level-preserved
loop-level-preserved c =
    one_level (string_bytes c.args.out.now ++ indent c.args.depth) (string_bytes c.loop-level.out) (string_bytes c.push_str.new.self) c.args.depth c.loop-level._level
    c.loop-level-test.true c.loop-level.invariant c.in_ok-push_str.ensures.bytes
