use Rattle.std.proofs.Common.{◌<◌, arith}
use Rattle.sp_read_formula.specs.Reading.{shallow, from_group, lone, single}
use Rattle.sp_read_parts.specs.Views.{seen_from}
use Rattle.sp_read_parts.specs.Formulas as view
use Rattle.sp_read_formula.specs.Given as given
use Rattle.sp_read_formula.proofs.Stuck.{group_at, group_too_deep, no_group, group_no_inside, group_unclosed, unit_bound, unit_too_deep, unit_unbound, unit_no_binders, unit_no_body, negative_at, no_negative}
use Rattle.sp_read_formula.proofs.Stuck.{joined_none, joined_more, joined_end, implying_at, no_premise, implication_too_deep, no_conclusion, double_at, no_left, no_right}
use Rattle.sp_read_formula.proofs.formulas.+formulas.Goals as goal

-- ---- groups

pub group-returns-then-nesting-ge-LIMIT-clause-value : goal.group-returns-then-nesting-ge-LIMIT-clause-value
group-returns-then-nesting-ge-LIMIT-clause-value t c = group_too_deep c.if-nesting-ge-LIMIT.true

pub group-returns-in_default-clause-value : goal.group-returns-in_default-clause-value
group-returns-in_default-clause-value t c = no_group c.in_default.ensures.value

pub group-returns-in_default-2-clause-value : goal.group-returns-in_default-2-clause-value
group-returns-in_default-2-clause-value t c =
    let none = rw c.in_default-2.is at c.in_ok-found.ensures in
    group_no_inside c.in-Some.ensures.value none.value

pub group-returns-in_default-after-clause-value : goal.group-returns-in_default-after-clause-value
group-returns-in_default-after-clause-value t c =
    let one = rw c.in-Some-2.is at c.in_ok-found.ensures in
    group_unclosed c.in-Some.ensures.value one.value c.in_default-after.ensures.value

pub group-returns-clause-value : goal.group-returns-clause-value
group-returns-clause-value t c =
    let one = rw c.in-Some-2.is at c.in_ok-found.ensures in
    let shallow_enough : c.args.nesting < 128 = omega (arith, c.if-nesting-ge-LIMIT.false) in
    group_at c.in-Some.ensures.value shallow_enough one.value c.in-Some-after.ensures.value

-- ---- units

pub unit-returns-in-Some-clause-value : goal.unit-returns-in-Some-clause-value
unit-returns-in-Some-clause-value t c =
    let one = rw c.in-Some.is at c.in_ok-found.ensures in
    shallow one.value

pub unit-returns-in-Some-2-clause-value : goal.unit-returns-in-Some-2-clause-value
unit-returns-in-Some-2-clause-value t c =
    let no_atom = rw c.in_default.is at c.in_ok-found.ensures in
    let one = rw c.in-Some-2.is at c.in_ok-found-2.ensures in
    from_group no_atom.value one.value

pub unit-returns-then-nesting-ge-LIMIT-clause-value : goal.unit-returns-then-nesting-ge-LIMIT-clause-value
unit-returns-then-nesting-ge-LIMIT-clause-value t c =
    let no_atom = rw c.in_default.is at c.in_ok-found.ensures in
    let ungrouped = rw c.in_default-2.is at c.in_ok-found-2.ensures in
    unit_too_deep no_atom.value ungrouped.value c.if-nesting-ge-LIMIT.true

pub unit-returns-in_default-quantifier-clause-value : goal.unit-returns-in_default-quantifier-clause-value
unit-returns-in_default-quantifier-clause-value t c =
    let no_atom = rw c.in_default.is at c.in_ok-found.ensures in
    let ungrouped = rw c.in_default-2.is at c.in_ok-found-2.ensures in
    unit_unbound no_atom.value ungrouped.value c.in_default-quantifier.ensures.value

pub unit-returns-in_default-3-clause-value : goal.unit-returns-in_default-3-clause-value
unit-returns-in_default-3-clause-value t c =
    let no_atom = rw c.in_default.is at c.in_ok-found.ensures in
    let ungrouped = rw c.in_default-2.is at c.in_ok-found-2.ensures in
    let none = rw c.in_default-3.is at c.in_ok-variables.ensures in
    unit_no_binders no_atom.value ungrouped.value c.in-Some-quantifier.ensures.value none.value

pub unit-returns-in_default-4-clause-value : goal.unit-returns-in_default-4-clause-value
unit-returns-in_default-4-clause-value t c =
    let no_atom = rw c.in_default.is at c.in_ok-found.ensures in
    let ungrouped = rw c.in_default-2.is at c.in_ok-found-2.ensures in
    let bindings = rw c.in-Some-3.is at c.in_ok-variables.ensures in
    let none = rw c.in_default-4.is at c.in_ok-found-3.ensures in
    unit_no_body no_atom.value ungrouped.value c.in-Some-quantifier.ensures.value bindings.value none.value

pub unit-returns-clause-value : goal.unit-returns-clause-value
unit-returns-clause-value t c =
    let no_atom = rw c.in_default.is at c.in_ok-found.ensures in
    let bindings = rw c.in-Some-3.is at c.in_ok-variables.ensures in
    let one = rw c.in-Some-4.is at c.in_ok-found-3.ensures in
    let shallow_enough : c.args.nesting < 128 = omega (arith, c.if-nesting-ge-LIMIT.false) in
    unit_bound no_atom.value shallow_enough c.in-Some-quantifier.ensures.value bindings.value one.value c.in_ok-made.ensures

-- ---- parts of chains

pub part-returns-in_default-2-clause-value : goal.part-returns-in_default-2-clause-value
part-returns-in_default-2-clause-value t c =
    let none = rw c.in_default-2.is at c.in_ok-found-in-And.ensures in
    rw c.in-And.is (no_negative c.in-Some.ensures.value none.value)

pub part-returns-in_ok-made-in-And-clause-value : goal.part-returns-in_ok-made-in-And-clause-value
part-returns-in_ok-made-in-And-clause-value t c =
    let one = rw c.in-Some-2.is at c.in_ok-found-in-And.ensures in
    rw c.in-And.is (negative_at c.in-Some.ensures.value one.value c.in_ok-made-in-And.ensures)

-- ---- chains

pub chain-loop-found-init : goal.chain-loop-found-init
chain-loop-found-init t c =
    record { reads = rw c.new-found.ensures.items (joined_none (given.joint c.args.joint) c.args.nesting (seen_from c.args.tokens.now c.args.at)); further = omega arith }

pub chain-returns-in_default-clause-value : goal.chain-returns-in_default-clause-value
chain-returns-in_default-clause-value t c =
    let none = rw c.in_default.is at c.in_ok-next.ensures in
    c.loop-found.invariant.reads.lacks none.value

pub chain-returns-in_default-after-clause-value : goal.chain-returns-in_default-after-clause-value
chain-returns-in_default-after-clause-value t c =
    let one = rw c.in-Some.is at c.in_ok-next.ensures in
    let ends = rw c.sign_between.ensures at c.in_default-after.ensures.value in
    rw c.in_ok-made.ensures (joined_end (given.joint c.args.joint) c.loop-found.invariant.reads one.value ends)

pub chain-loop-found-preserved : goal.chain-loop-found-preserved
chain-loop-found-preserved t c =
    let one = rw c.in-Some.is at c.in_ok-next.ensures in
    let sign = rw c.sign_between.ensures at c.in-Some-after.ensures.value in
    record {
      reads = rw c.in_ok-push_part.ensures (joined_more (given.joint c.args.joint) c.loop-found.invariant.reads one.value sign);
      further = omega (arith, one.further, c.in-Some-after.ensures.further, c.loop-found.invariant.further);
    }

-- ---- implications and whole formulas

pub implication-returns-in_default-clause-value : goal.implication-returns-in_default-clause-value
implication-returns-in_default-clause-value t c =
    let none = rw c.in_default.is at c.in_ok-left.ensures in
    no_premise none.value

pub implication-returns-in_default-after-clause-value : goal.implication-returns-in_default-after-clause-value
implication-returns-in_default-after-clause-value t c =
    let one = rw c.in-Some.is at c.in_ok-left.ensures in
    lone one.value c.in_default-after.ensures.value

pub implication-returns-then-nesting-ge-LIMIT-clause-value : goal.implication-returns-then-nesting-ge-LIMIT-clause-value
implication-returns-then-nesting-ge-LIMIT-clause-value t c =
    let one = rw c.in-Some.is at c.in_ok-left.ensures in
    implication_too_deep one.value c.in-Some-after.ensures.value c.if-nesting-ge-LIMIT.true

pub implication-returns-in_default-2-clause-value : goal.implication-returns-in_default-2-clause-value
implication-returns-in_default-2-clause-value t c =
    let one = rw c.in-Some.is at c.in_ok-left.ensures in
    let none = rw c.in_default-2.is at c.in_ok-right.ensures in
    no_conclusion one.value c.in-Some-after.ensures.value none.value

pub implication-returns-clause-value : goal.implication-returns-clause-value
implication-returns-clause-value t c =
    let one = rw c.in-Some.is at c.in_ok-left.ensures in
    let two = rw c.in-Some-2.is at c.in_ok-right.ensures in
    let shallow_enough : c.args.nesting < 128 = omega (arith, c.if-nesting-ge-LIMIT.false) in
    implying_at one.value c.in-Some-after.ensures.value shallow_enough two.value c.in_ok-made.ensures

pub whole-returns-in_default-clause-value : goal.whole-returns-in_default-clause-value
whole-returns-in_default-clause-value t c =
    let none = rw c.in_default.is at c.in_ok-left.ensures in
    no_left none.value

pub whole-returns-in_default-after-clause-value : goal.whole-returns-in_default-after-clause-value
whole-returns-in_default-after-clause-value t c =
    let one = rw c.in-Some.is at c.in_ok-left.ensures in
    single one.value c.in_default-after.ensures.value

pub whole-returns-in_default-2-clause-value : goal.whole-returns-in_default-2-clause-value
whole-returns-in_default-2-clause-value t c =
    let one = rw c.in-Some.is at c.in_ok-left.ensures in
    let none = rw c.in_default-2.is at c.in_ok-right.ensures in
    no_right one.value c.in-Some-after.ensures.value none.value

pub whole-returns-clause-value : goal.whole-returns-clause-value
whole-returns-clause-value t c =
    let one = rw c.in-Some.is at c.in_ok-left.ensures in
    let two = rw c.in-Some-2.is at c.in_ok-right.ensures in
    double_at one.value c.in-Some-after.ensures.value two.value c.in_ok-made.ensures
