use Rattle.std.proofs.Common.{◌≡◌, ◌<◌, ◌+◌, ◌-◌, ℕ, [], ◌∷◌, ◌++◌, map, drop, length, sym, ap, ◌∙◌, arith}
use Rattle.sp_spec.specs.Term.{Ground}
use Rattle.sp_solved.proofs.Constant.{ground_constant}
use Rattle.sp_term.specs.View.{name_of, variable_of, Never}
use Rattle.sp_norm.specs.Bounds.{bounds}
use Rattle.sp_term.specs.declared.subst.Bindings.{Bindings}
use Rattle.sp_spec_solved.specs.Naming.{public_given}
use Rattle.sp_solved.proofs.Giving.{all_given, passed_over, given_one}
use Rattle.sp_solved.proofs.naming.give_public.Goals as goal
use Rattle.sp_solved.proofs.naming.give_public.Goals.{then-not-is_listed+in_ok-push, else-not-is_listed}

pub returns-then-given-len : goal.returns-then-given-len
returns-then-given-len c =
    let done : length c.args.variables.now.items ≡ c.loop-passed.given = omega (arith, c.if-given-len.true, c.len-in-loop-passed.ensures, c.args.variables.now.ok.0) in
    all_given (map name_of c.args.constants.now.items) (length c.args.variables.now.items + length c.args.constants.now.items - c.loop-passed.passed) (c.loop-passed.passed + 1)
    c.args.variables.now.items c.loop-passed.given (bounds c.loop-passed.values) _ done c.loop-passed.invariant.same

pub loop-passed-preserved : goal.loop-passed-preserved
loop-passed-preserved c =
    let cs = map name_of c.args.constants.now.items in
    let vs = c.args.variables.now.items in
    let total = length c.args.variables.now.items + length c.args.constants.now.items in
    let target = bounds c.args.values.now ++ public_given cs total 1 (map variable_of vs) in
    let more : c.loop-passed.passed < total = omega (arith, c.loop-passed-test.true, c.len.ensures, c.len-2.ensures, c.args.variables.now.ok.0, c.args.constants.now.ok.0) in
    let here : c.loop-passed.given < length vs = omega (arith, c.if-given-len.false, c.loop-passed.invariant.within, c.len-in-loop-passed.ensures, c.args.variables.now.ok.0) in
    elim c.if-not-is_listed.branch [
      | then-not-is_listed+in_ok-push w ↦
          record {
            within = omega (arith, w.given-is);
            same =
                ap (λ (v : Bindings Never). bounds v ++ public_given cs (total - (c.loop-passed.passed + 1)) (c.loop-passed.passed + 1 + 1) (map variable_of (drop c.if-not-is_listed.given vs))) w.values-is
                ∙ ap (λ (k : ℕ). bounds w.push.new.self ++ public_given cs (total - (c.loop-passed.passed + 1)) (c.loop-passed.passed + 1 + 1) (map variable_of (drop k vs))) w.given-is
                ∙ given_one cs total c.loop-passed.passed (name_of c.in_ok-name.name) vs c.loop-passed.given w.index.result.now (bounds c.loop-passed.values) (bounds w.push.new.self) target
                more c.in_ok-name.ensures (sym c.is_listed.ensures ∙ w.if-not-is_listed.true) here w.index.ensures (w.in_ok-push.ensures ∙ ap (λ (t : Ground). bounds c.loop-passed.values ++ (variable_of w.index.result.now, t) ∷ []) (ground_constant c.in_ok-name.name)) c.loop-passed.invariant.same;
          }
      | else-not-is_listed w ↦
          record {
            within = omega (arith, w.given-is, here);
            same =
                ap (λ (v : Bindings Never). bounds v ++ public_given cs (total - (c.loop-passed.passed + 1)) (c.loop-passed.passed + 1 + 1) (map variable_of (drop c.if-not-is_listed.given vs))) w.values-is
                ∙ ap (λ (k : ℕ). bounds c.loop-passed.values ++ public_given cs (total - (c.loop-passed.passed + 1)) (c.loop-passed.passed + 1 + 1) (map variable_of (drop k vs))) w.given-is
                ∙ passed_over cs total c.loop-passed.passed (name_of c.in_ok-name.name) (map variable_of (drop c.loop-passed.given vs)) (bounds c.loop-passed.values) target
                more c.in_ok-name.ensures (sym c.is_listed.ensures ∙ w.if-not-is_listed.false) c.loop-passed.invariant.same;
          }
    ]
