use Rattle.std.proofs.Common.{map, sym, ◌∙◌}
use Rattle.sp_formula.specs.FormulaView.{formula_of}
use Rattle.sp_fact.specs.GroundView.{trace_of}
use Rattle.sp_law_decide.specs.Deciding.{decided, empty}
use Rattle.sp_solved.proofs.Asked.{one_fails, last_tells}
use Rattle.sp_solved.proofs.seek.is_answer.Goals as goal

pub returns-then-not-branch : goal.returns-then-not-branch
returns-then-not-branch c =
    one_fails (decided (trace_of c.args.trace.now) empty) (map formula_of c.args.root.now.restrictions.now.items) (formula_of c.args.root.now.sought.now) (sym c.in_ok-all_hold.ensures ∙ c.if-not-branch.true)

pub returns : goal.returns
returns c =
    last_tells (decided (trace_of c.args.trace.now) empty) (map formula_of c.args.root.now.restrictions.now.items) (formula_of c.args.root.now.sought.now)
    c.in_ok-answer.answer (sym c.in_ok-all_hold.ensures ∙ c.if-not-branch.false) c.in_ok-answer.ensures.exact
