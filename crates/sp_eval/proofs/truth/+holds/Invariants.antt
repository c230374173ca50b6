use Rattle.std.proofs.Common.{◌≡◌, map, drop}
use Rattle.sp_law_decide.specs.Deciding as deciding
use Rattle.sp_spec.specs.Guarded.{guardeds_of}
use Rattle.sp_formula.specs.FormulaView.{atom_of, formula_of}
use Rattle.sp_fact.specs.GroundView.{trace_of}
use Rattle.sp_eval.specs.View.{environment_of}
use Rattle.sp_eval.specs.Found.{for_one, for_each}
use Rattle.sp_eval.proofs.truth.+holds.Given as goal

abbrev pub invariant-each_holds-loop-part : goal.invariant-each_holds-loop-part
invariant-each_holds-loop-part l =
    deciding.each_decided (trace_of l.trace) (environment_of l.env) (guardeds_of (map formula_of l.parts.items))
    ≡ deciding.each_decided (trace_of l.trace) (environment_of l.env) (guardeds_of (map formula_of (drop l.part-index l.part-items)))

abbrev pub invariant-one_holds-loop-part : goal.invariant-one_holds-loop-part
invariant-one_holds-loop-part l =
    deciding.one_decided (trace_of l.trace) (environment_of l.env) (guardeds_of (map formula_of l.parts.items))
    ≡ deciding.one_decided (trace_of l.trace) (environment_of l.env) (guardeds_of (map formula_of (drop l.part-index l.part-items)))

abbrev pub invariant-for_one-loop-env : goal.invariant-for_one-loop-env
invariant-for_one-loop-env l =
    for_one (trace_of l.trace) (map atom_of l.guard.items) (formula_of l.body) (map environment_of l.found.items)
    ≡ for_one (trace_of l.trace) (map atom_of l.guard.items) (formula_of l.body) (map environment_of (drop l.env-index l.env-items))

abbrev pub invariant-for_each-loop-env : goal.invariant-for_each-loop-env
invariant-for_each-loop-env l =
    for_each (trace_of l.trace) (map atom_of l.guard.items) (formula_of l.body) (map environment_of l.found.items)
    ≡ for_each (trace_of l.trace) (map atom_of l.guard.items) (formula_of l.body) (map environment_of (drop l.env-index l.env-items))
