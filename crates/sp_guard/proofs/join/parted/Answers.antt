use Rattle.std.proofs.Common.{map}
use Rattle.sp_formula.specs.FormulaView.{atom_of, formula_of}
use Rattle.sp_guard.proofs.Joining.{guard_step, rest_step}
use Rattle.sp_guard.proofs.join.parted.Goals as goal

pub loop-formula-preserved : goal.loop-formula-preserved
loop-formula-preserved c = record {
  guarding = guard_step c.loop-formula.yielded c.in-Some.formula (map atom_of c.loop-formula.guard.items) (map atom_of c.part.new.guard.items) c.loop-formula.invariant.guarding c.in_ok-part.ensures.guarding;
  others = rest_step c.loop-formula.yielded c.in-Some.formula (map formula_of c.loop-formula.rest.items) (map formula_of c.part.new.rest.items) c.loop-formula.invariant.others c.in_ok-part.ensures.others;
}
