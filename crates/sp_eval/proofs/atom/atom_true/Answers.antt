use Rattle.std.proofs.Common.{◌≡◌, sym, subst, IfOk}
use Rattle.sp_law_decide.specs.Deciding as deciding
use Rattle.sp_law_decide.specs.Deciding.{assignment_of}
use Rattle.sp_formula.specs.declared.formula.Atom.{Atom}
use Rattle.sp_formula.specs.FormulaView.{atom_of}
use Rattle.sp_fact.specs.GroundView.{trace_of}
use Rattle.sp_eval.specs.View.{environment_of}
use Rattle.sp_eval.proofs.atom.atom_true.Goals as goal

pub returns-in-Acts : goal.returns-in-Acts
returns-in-Acts c =
    let P : Atom → Type 0 = λ a. IfOk c.happens.result (λ b. b ≡ deciding.atom_true (trace_of c.args.trace.now) (assignment_of (environment_of c.args.env.now)) (atom_of a)) in
    subst P (sym c.in-Acts.is) c.happens.ensures

pub returns-in-Same : goal.returns-in-Same
returns-in-Same c =
    let P : Atom → Type 0 = λ a. IfOk c.equal.result (λ b. b ≡ deciding.atom_true (trace_of c.args.trace.now) (assignment_of (environment_of c.args.env.now)) (atom_of a)) in
    subst P (sym c.in-Same.is) c.equal.ensures
