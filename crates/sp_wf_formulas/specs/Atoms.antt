-- One kind of finding on the atoms of a formula, as the code looks for it.
use Rattle.std.specs.Prelude.{Bool, false, ◌||◌, List, [], ◌∷◌, ◌++◌}
use Rattle.sp_spec.specs.Term.{Term}
use Rattle.sp_spec.specs.Signature.{Symbol, Equation}
use Rattle.sp_spec.specs.Rule.{Action}
use Rattle.sp_spec.specs.Formula.{Written, Formula}
use Rattle.sp_spec.specs.Written.{in_term, in_terms}
use Rattle.sp_spec.specs.Findings.{is_wide}
use Rattle.sp_finding.specs.Finding.{Finding, arity_above, told}
use Rattle.sp_finding.specs.KnownView.{symbols_of}
use Rattle.sp_finding.specs.TermFindings.{unknown_in, unknown_in_all, has_destructor, have_destructor}
use Rattle.sp_law_guard.specs.GuardedForm.{term_time}
use Rattle.sp_walk.specs.Atoms.{Atom, happens, equals, precedes, collected}
use Rattle.sp_wf_formulas.specs.FormulaFindings.{as_message, as_time, Use, uses_as, role_of}
use Rattle.sp_wf_formulas.specs.declared.atoms.TermFault.{TermFault}
use Rattle.sp_wf_formulas.specs.declared.atoms.TermFault.TheVariants as f

-- an action has too many arguments, or a symbol is none of these
pub data Fault : Type 0 where
  too_wide : Fault
  unknown : List Symbol → Fault

abbrev pub fault_of : TermFault → Fault
fault_of f.Wide = too_wide
fault_of (f.Unknown symbols) = unknown (symbols_of symbols.now)

abbrev pub on_action : Fault → Action Written → List Finding
on_action too_wide a = told (is_wide a.args) (arity_above a.symbol) []
on_action (unknown symbols) a = unknown_in_all symbols a.args

abbrev pub on_sides : Fault → Term Written → Term Written → List Finding
on_sides too_wide t u = []
on_sides (unknown symbols) t u = unknown_in symbols t ++ unknown_in symbols u

abbrev pub on_atom : Fault → Atom → List Finding
on_atom fault (happens a i) = on_action fault a
on_atom fault (equals t u) = on_sides fault t u
on_atom fault (precedes i j) = []

abbrev pub on_terms : Fault → Formula → List Finding
on_terms fault f = collected (λ bs. on_atom fault) [] f

-- destructors
abbrev pub atom_has_destructor : List Equation → Atom → Bool
atom_has_destructor es (happens a i) = have_destructor es a.args
atom_has_destructor es (equals t u) = has_destructor es t || has_destructor es u
atom_has_destructor es (precedes i j) = false

-- uses of variables, within the reach of these binders
abbrev pub uses_at : List Written → Atom → List Use
uses_at bs (happens a i) = uses_as as_message bs (in_terms a.args) ++ uses_as as_time bs (i ∷ [])
uses_at bs (equals t u) = uses_as (role_of (term_time bs t) (term_time bs u)) bs (in_term t ++ in_term u)
uses_at bs (precedes i j) = uses_as as_time bs (i ∷ j ∷ [])
