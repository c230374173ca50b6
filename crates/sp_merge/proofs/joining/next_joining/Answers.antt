use Rattle.std.proofs.Common.{sym, ap, ◌∙◌}
use Rattle.std.specs.Vec.{vec_len}
use Rattle.sp_merge.specs.JoiningView.{joining_of, next_joining}
use Rattle.sp_merge.proofs.Turns.{is_first, none_are, some_are}
use Rattle.sp_merge.proofs.joining.next_joining.Goals as goal

pub returns-then-is_empty : goal.returns-then-is_empty
returns-then-is_empty c =
    let times = c.args.joining.times in
    sym (ap (next_joining (joining_of c.args.joining)) (none_are (vec_len times) times.items c.if-is_empty.ensures times.ok.0))

pub returns : goal.returns
returns c =
    let times = c.args.joining.times in
    c.in_ok-made.ensures
    ∙ sym
    (ap (next_joining (joining_of c.args.joining))
    (is_first times.items c.remove-first.new.self.items c.remove-first.result (some_are (vec_len times) times.items c.if-is_empty.ensures times.ok.0) c.remove-first.ensures.value c.remove-first.ensures.items))
