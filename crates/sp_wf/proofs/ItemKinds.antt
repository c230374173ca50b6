-- What is looked for in a formula doesn't depend on the kind of the lemma.
use Rattle.std.proofs.Common.{◌≡◌, ℕ, List, refl}
use Rattle.sp_spec.specs.Formula.{Formula}
use Rattle.sp_spec.specs.Theory.{TraceKind, Lemma}
use Rattle.sp_wf_formulas.specs.Statements.{statement}
use Rattle.sp_wf.specs.Told.{on_statement}
use Rattle.sp_wf.specs.declared.told.FormulaFault.{FormulaFault}
use Rattle.sp_wf.specs.declared.told.FormulaFault.TheVariants as f

abbrev of_kind : List ℕ → TraceKind → Formula → Lemma
of_kind n k g = record { name = n; kind = k; formula = g }

pub as_statement : (fault : FormulaFault) (n : List ℕ) (k : TraceKind) (g : Formula) → on_statement fault (statement n g) ≡ on_statement fault (of_kind n k g)
as_statement f.Unbound n k g = refl
as_statement (f.Unguarded es) n k g = refl
as_statement (f.Destructor es) n k g = refl
as_statement f.OtherSort n k g = refl
as_statement f.Mixed n k g = refl
