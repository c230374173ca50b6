use Rattle.std.proofs.Common.{true, Some, ◌==◌, refl, sym, arith}
use Rattle.sp_spec.proofs.Lists.{length_map}
use Rattle.sp_formula.proofs.Filled.{filled_beyond, kept_value, new_value}
use Rattle.sp_eval.specs.View.{time_of, times_of}
use Rattle.sp_eval.proofs.environment.fill_time.Goals as goal

pub returns-then-index-len : goal.returns-then-index-len
returns-then-index-len c =
    let times = c.args.times.now in
    let k = length_map time_of times.items in
    sym (filled_beyond (λ i j. i == j) (λ u j. true) (0 == c.args.position) c.args.position (times_of times.items) c.args.place (omega (arith, k, c.if-index-len.true, c.len.ensures, times.ok.0)))

pub returns-in-Some : goal.returns-in-Some
returns-in-Some c =
    kept_value (λ i j. i == j) (λ u j. true) (0 == c.args.position) c.args.position time_of c.args.times.now.items c.args.place c.index.result.now
    (omega (arith, c.if-index-len.false, c.len.ensures, c.args.times.now.ok.0)) c.index.ensures c.in-Some.value c.in-Some.is (c.in-Some.value == c.args.position) refl

pub returns-in-None : goal.returns-in-None
returns-in-None c =
    new_value (λ i j. i == j) (λ u j. true) (0 == c.args.position) c.args.position time_of c.args.times.now.items c.args.place c.index.result.now (Some c.args.position)
    (omega (arith, c.if-index-len.false, c.len.ensures, c.args.times.now.ok.0)) c.index.ensures c.in-None.is refl refl
