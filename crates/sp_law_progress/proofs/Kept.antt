-- A system with one more formula; and cases that keep what systems of a proof fulfil.
use Rattle.std.proofs.Common.{List, [], ◌∷◌, ◌++◌, le_refl}
use Rattle.sp_spec.specs.Lists.{Every}
use Rattle.sp_spec.specs.Term.{Names}
use Rattle.sp_spec.specs.Theory.{Theory}
use Rattle.sp_spec.specs.Guarded.{Guarded}
use Rattle.sp_spec.specs.Log.{Log}
use Rattle.sp_spec.proofs.Lists.{every_append, every_both}
use Rattle.sp_spec_system.specs.System.{System}
use Rattle.sp_spec_system.specs.Solutions.{Valuation, FormulaHolds, Solves}
use Rattle.sp_spec_system.specs.Numbered.{names_in, InFormula, IsNumbered}
use Rattle.sp_spec_system.specs.Move.{Context}
use Rattle.sp_spec_formula.specs.Instantiate.{with_formula}
use Rattle.sp_law_system.specs.Proofs.{IsKept}
use Rattle.sp_law_system.proofs.Solutions.{Under, TimeUnder}
use Rattle.sp_law_system.proofs.With.{formulas_solve, formulas_numbered}
use Rattle.sp_law_formula.proofs.Merged.{Later}
use Rattle.sp_law_graph.proofs.Once.{IsOnce}

-- it is solved where the formula holds, too
pub formula_solves : (theory : Theory) (log : Log) (v : Valuation) (s : System) → Solves theory log v s → (f : Guarded) → FormulaHolds theory log v f → Solves theory log v (with_formula s f)
formula_solves theory log v s h f k = formulas_solve theory log v s h (s.formulas ++ f ∷ []) (every_append (FormulaHolds theory log v) s.formulas (f ∷ []) h.formulas (k, tt))

-- and keeps the numbers
pub formula_numbered : {N : Names} (s : System) → IsNumbered N s → (f : Guarded) → InFormula N (Under s.next) (TimeUnder s.next) f → Later N s.next (with_formula s f)
formula_numbered {N} s n f k = (
  formulas_numbered s n (s.formulas ++ f ∷ []) (every_append (InFormula N (Under s.next) (TimeUnder s.next)) s.formulas (f ∷ []) n.formulas (k, tt)),
  le_refl s.next,
)

-- numbers and times are what systems of a proof fulfil
pub each_kept : (context : Context) (s : System) (ts : List System) → Every (Later (names_in context.public_names) s.next) ts → Every IsOnce ts → Every (IsKept context s) ts
each_kept context s = every_both (Later (names_in context.public_names) s.next) IsOnce (IsKept context s) (λ t later once. record { well_made = record { numbered = later.0; once = once }; next = later.1 })
