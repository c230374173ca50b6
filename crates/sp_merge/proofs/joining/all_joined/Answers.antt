use Rattle.std.proofs.Common.{◌<◌, option_map, sym, ap, ◌∙◌, arith}
use Rattle.std.specs.Vec.{vec_len}
use Rattle.sp_spec_system.specs.MakingOne.{all_joined}
use Rattle.sp_merge.specs.JoiningView.{joining_of}
use Rattle.sp_merge.proofs.Turns.{ended, none_are, some_are, stuck, turned, used_up}
use Rattle.sp_merge.proofs.joining.all_joined.Goals as goal

pub returns-then-is_empty : goal.returns-then-is_empty
returns-then-is_empty c =
    let now = c.loop.joining in
    ended c.args.turns c.loop.counter (joining_of now) (all_joined c.args.turns (joining_of c.args.joining)) c.loop.invariant
    (none_are (vec_len now.times) now.times.items c.if-is_empty.ensures now.times.ok.0)

pub returns-in_default : goal.returns-in_default
returns-in_default c =
    let now = c.loop.joining in
    let less : c.loop.counter < c.args.turns = omega (arith, c.loop-test.true) in
    stuck c.args.turns c.loop.counter (joining_of now) (all_joined c.args.turns (joining_of c.args.joining)) c.loop.invariant less
    (some_are (vec_len now.times) now.times.items c.if-is_empty.ensures now.times.ok.0) (sym c.in_ok-next.ensures ∙ ap (option_map joining_of) c.in_default.is)

pub loop-preserved : goal.loop-preserved
loop-preserved c =
    let now = c.loop.joining in
    let less : c.loop.counter < c.args.turns = omega (arith, c.loop-test.true) in
    turned c.args.turns c.loop.counter (joining_of now) (all_joined c.args.turns (joining_of c.args.joining)) c.loop.invariant (joining_of c.in-Some.next) less
    (some_are (vec_len now.times) now.times.items c.if-is_empty.ensures now.times.ok.0) (sym c.in_ok-next.ensures ∙ ap (option_map joining_of) c.in-Some.is)

pub returns-then-not-is_empty : goal.returns-then-not-is_empty
returns-then-not-is_empty c =
    let now = c.loop.joining in
    used_up c.args.turns c.loop.counter (joining_of now) (all_joined c.args.turns (joining_of c.args.joining)) c.loop.invariant (omega (arith, c.loop-test.false))
    (some_are (vec_len now.times) now.times.items c.if-not-is_empty.ensures now.times.ok.0)

pub returns : goal.returns
returns c =
    let now = c.loop.joining in
    ended c.args.turns c.loop.counter (joining_of now) (all_joined c.args.turns (joining_of c.args.joining)) c.loop.invariant
    (none_are (vec_len now.times) now.times.items c.if-not-is_empty.ensures now.times.ok.0)
