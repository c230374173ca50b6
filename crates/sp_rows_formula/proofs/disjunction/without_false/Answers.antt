use Rattle.std.proofs.Common.{sym, ◌∙◌, arith}
use Rattle.sp_term.proofs.Cloned.{cloned}
use Rattle.sp_formula.specs.FormulaView.{formula_of}
use Rattle.sp_rows_formula.proofs.Parts.{false_within, kept_left, nothing_left}
use Rattle.sp_rows_formula.proofs.disjunction.without_false.Goals as goal

pub returns-in_default : goal.returns-in_default
returns-in_default c = nothing_left c.args.parts.now.items (sym c.in_default.is ∙ c.position_of_false.ensures)

pub remove-requires : goal.remove-requires
remove-requires c =
    let within = false_within c.args.parts.now.items c.in_ok-kept.kept.items c.in-Some.position (sym c.in-Some.is ∙ c.position_of_false.ensures) (cloned formula_of c.args.parts.now.items c.in_ok-kept.kept.items c.in_ok-kept.ensures.cases.0) in
    omega (arith, within, c.in_ok-kept.kept.ok)

pub returns : goal.returns
returns c =
    kept_left c.args.parts.now.items c.in_ok-kept.kept.items c.remove.new.self.items c.in-Some.position (sym c.in-Some.is ∙ c.position_of_false.ensures) (cloned formula_of c.args.parts.now.items c.in_ok-kept.kept.items c.in_ok-kept.ensures.cases.0) c.remove.ensures.items
