-- A public name in memory is one.
use Rattle.std.proofs.Common.{◌≡◌, sym, ap, ◌∙◌}
use Rattle.sp_spec.specs.Term.{constant, Ground}
use Rattle.sp_term.specs.View.{name_of, never_of, view_step, Never}
use Rattle.sp_term.specs.declared.term.Name.{Name}
use Rattle.sp_term.specs.declared.term.Term.TheVariants.{Constant, rolls-Constant}
use Rattle.sp_term.specs.declared.term.Term.TheFolds.{fold-roll-Term}
use Rattle.sp_term.specs.declared.term.Term.TheOpen.{Term-F}
use Rattle.sp_fact.specs.GroundView.{ground_of}

pub ground_constant : (n : Name) → ground_of (Constant n) ≡ constant (name_of n)
ground_constant n = ap ground_of (sym (rolls-Constant n)) ∙ fold-roll-Term Never Ground (view_step never_of) (Term-F.Constant n)
