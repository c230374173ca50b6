use Rattle.sp_read_steps.proofs.Exits.{rule_alone, rule_with_values}
use Rattle.sp_read_steps.proofs.steps.rule.Goals as goal

pub returns-then-is_nothing : goal.returns-then-is_nothing
returns-then-is_nothing c =
    let n = rw c.if-is_nothing.true at c.is_nothing.ensures in
    rw (c.in_ok-rule.ensures, c.new-then-is_nothing.ensures.items) (rule_alone c.in-Some.ensures.value c.in-Some-behind.ensures n)

pub returns : goal.returns
returns c =
    let k = rw c.in-Some-2.is at c.in_ok-given.ensures in
    rw c.in_ok-rule.ensures (rule_with_values c.in-Some.ensures.value c.in-Some-behind.ensures c.in-Some-behind-2.ensures k)
