-- An application in memory is one.
use Rattle.std.proofs.Common.{◌≡◌, ℕ, Vec, Global, sym, ap, ◌∙◌}
use Rattle.std.specs.declared.rc.Rc.{Rc}
use Rattle.sp_spec.specs.Term.{app, Ground}
use Rattle.sp_term.specs.View.{name_of, never_of, view_step, Never}
use Rattle.sp_term.specs.declared.term.Name.{Name}
use Rattle.sp_term.specs.declared.term.Term.{Term}
use Rattle.sp_term.specs.declared.term.Term.TheVariants.{App, rolls-App}
use Rattle.sp_term.specs.declared.term.Term.TheFolds.{fold-roll-Term}
use Rattle.sp_term.specs.declared.term.Term.TheOpen.{Term-F}
use Rattle.sp_fact.specs.GroundView.{ground_of, grounds_of}

pub ground_app : (f : Name) (ts : Rc (Vec (Term Never) Global) Global) (nesting : ℕ) → ground_of (App f ts nesting) ≡ app (name_of f) (grounds_of ts.value.items)
ground_app f ts nesting = ap ground_of (sym (rolls-App f ts nesting)) ∙ fold-roll-Term Never Ground (view_step never_of) (Term-F.App f ts nesting)
