use Rattle.std.proofs.Common.{sym, ap₂, ◌∙◌, subst}
use Rattle.sp_law_decide.specs.Deciding.{environment, decided}
use Rattle.sp_law_decide.specs.Laws.{TellsTruth}
use Rattle.sp_law_decide.proofs.Told.{told}
use Rattle.sp_term.specs.View.{never_of}
use Rattle.sp_formula.specs.FormulaView.{formula_of}
use Rattle.sp_formula.specs.SlotsView.{slots_by}
use Rattle.sp_fact.specs.GroundView.{trace_of}
use Rattle.sp_eval.specs.View.{times_of}
use Rattle.sp_eval.proofs.truth.holds.Goals as goal

pub returns-clause-means : goal.returns-clause-means
returns-clause-means c =
    let trace = trace_of c.args.trace.now in
    let g = formula_of c.args.formula.now in
    let nothing = ap₂ (λ messages times. decided trace (environment (slots_by never_of messages) (times_of times)) g) c.new.ensures.items c.new-2.ensures.items in
    subst (TellsTruth trace g) (sym (c.in_ok-answer.ensures ∙ nothing)) (told trace g)
