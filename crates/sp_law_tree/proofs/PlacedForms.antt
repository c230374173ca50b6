-- The guarded form of a basic formula has flat atoms.
use Rattle.std.proofs.Common.{◌≡◌, true, [], Some, sym, subst}
use Rattle.sp_spec.specs.Signature.{Signature}
use Rattle.sp_spec.specs.Formula.{Formula}
use Rattle.sp_spec.specs.Guarded.{Guarded}
use Rattle.sp_law_guard.specs.GuardedForm.{guarded_form}
use Rattle.sp_law_guard.specs.IsGuarded.{is_guarded}
use Rattle.sp_law_guard.proofs.Closed.{closed_time}
use Rattle.sp_law_guard.proofs.Places.{term_closed, action_made, order_made, equality_made}
use Rattle.sp_law_guard.proofs.Throughout.{times_bound, OfFormulas, OfAtoms, form_throughout}
use Rattle.sp_law_decide.proofs.ConstructorForms.{placed_constructor, placed_constructors}
use Rattle.sp_law_basic.specs.BasicTheory.{IsBasicFormula}
use Rattle.sp_law_tree.proofs.Flat.{FlatAtom}
use Rattle.sp_law_tree.proofs.Forms.{IsRight}

module _ (signature : Signature) where
  -- the formula's parts and atoms
  basic_parts : OfFormulas (IsBasicFormula signature)
  basic_parts = record {
    of_not = λ f w. w;
    of_both = λ f g w. w;
    of_either = λ f g w. w;
    of_implies = λ f g w. w;
    of_all = λ x f w. w;
    of_some = λ x f w. w;
  }

  basic_atoms : OfAtoms (FlatAtom signature) (IsBasicFormula signature)
  basic_atoms = record {
    of_actions = λ bs a i atom w e.
        let r = action_made bs a i atom e in
        subst (FlatAtom signature (times_bound bs)) (sym r.is)
        (r.bounded, (r.closed, closed_time (times_bound bs) r.time r.bounded), placed_constructors signature bs a.args r.action.args w.0 r.placed);
    of_equalities = λ bs t u atom w e.
        equality_made bs t u atom (FlatAtom signature (times_bound bs)) e (λ i j k l. ((k, l), (closed_time (times_bound bs) i k, closed_time (times_bound bs) j l), tt))
        (λ x y k l. (tt, (term_closed bs t x k, term_closed bs u y l), (placed_constructor signature bs t x w.0.0 k, placed_constructor signature bs u y w.1.0 l)));
    of_order = λ bs i j atom w e.
        let r = order_made bs i j atom e in
        subst (FlatAtom signature (times_bound bs)) (sym r.is)
        ((r.first_bound, r.second_bound), (closed_time (times_bound bs) r.first r.first_bound, closed_time (times_bound bs) r.second r.second_bound), tt);
  }

  pub form_right : (f : Formula) (g : Guarded) → IsBasicFormula signature f → guarded_form [] f ≡ Some g → is_guarded g ≡ true → IsRight signature g
  form_right f g basic e guarded = record { each = form_throughout (FlatAtom signature) (IsBasicFormula signature) basic_parts basic_atoms [] f g basic e; guarded = guarded }
