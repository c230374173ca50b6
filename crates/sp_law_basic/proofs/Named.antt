-- The names of a formula are those of its guarded form.
use Rattle.std.proofs.Common.{◌≡◌, ℕ, List, [], Option, Some, None, sym, subst}
use Rattle.sp_spec.specs.Term.{Names, Term, var, Terms, MadeOf, AllMadeOf}
use Rattle.sp_spec.specs.Formula.{Written, Formula}
use Rattle.sp_spec.specs.Guarded.{Place, bound, Atom, acts, same, same_time, before, last, Guarded}
use Rattle.sp_spec.proofs.Variables.{where_made, where_all_made}
use Rattle.sp_law_guard.specs.GuardedForm.{Meant, a_message, a_time, meant, message_place, placed_variable, placed_term, placed_terms, guarded_form}
use Rattle.sp_law_guard.proofs.Places.{action_made, order_made, equality_made}
use Rattle.sp_law_guard.proofs.Throughout.{times_bound, OfFormulas, OfAtoms, form_throughout, Throughout}
use Rattle.sp_law_basic.specs.BasicTheory.{HasNames}

abbrev pub NamedTerm : Names → Term Place → Type 0
NamedTerm N t = MadeOf N (λ p. Unit {0}) t

abbrev pub NamedTerms : Names → Terms Place → Type 0
NamedTerms N ts = AllMadeOf N (λ p. Unit {0}) ts

-- the names in the atom are such ones, however many times are bound
abbrev pub NamedAtom : Names → ℕ → Atom → Type 0
NamedAtom N n (acts a i) = NamedTerms N a.args
NamedAtom N n (same t u) = NamedTerm N t × NamedTerm N u
NamedAtom N n (same_time i j) = Unit {0}
NamedAtom N n (before i j) = Unit {0}
NamedAtom N n (last i) = Unit {0}

module _ (N : Names) where
  message_named : (o : Option Meant) (u : Term Place) → message_place o ≡ Some u → NamedTerm N u
  message_named None u e = absurd cc
  message_named (Some (a_time k)) u e = absurd cc
  message_named (Some (a_message mark k)) u e = let g : var (bound k) ≡ u = cc in subst (NamedTerm N) g tt

  module _ (bs : List Written) where
    variable_named : (x : Written) (u : Term Place) → placed_variable bs x ≡ Some u → Unit {0} → NamedTerm N u
    variable_named x u e h = message_named (meant bs x.name) u e

    term_named : (t : Term Written) (u : Term Place) → MadeOf N (λ x. Unit {0}) t → placed_term bs t ≡ Some u → NamedTerm N u
    term_named t u h e = where_made (placed_variable bs) N (λ x. Unit {0}) (λ p. Unit {0}) variable_named t u e h

    terms_named : (ts : Terms Written) (us : Terms Place) → AllMadeOf N (λ x. Unit {0}) ts → placed_terms bs ts ≡ Some us → NamedTerms N us
    terms_named ts us h e = where_all_made (placed_variable bs) N (λ x. Unit {0}) (λ p. Unit {0}) variable_named ts us e h

  named_parts : OfFormulas (HasNames N)
  named_parts = record {
    of_not = λ f w. w;
    of_both = λ f g w. w;
    of_either = λ f g w. w;
    of_implies = λ f g w. w;
    of_all = λ x f w. w;
    of_some = λ x f w. w;
  }

  named_atoms : OfAtoms (NamedAtom N) (HasNames N)
  named_atoms = record {
    of_actions = λ bs a i atom w e.
        let r = action_made bs a i atom e in
        subst (NamedAtom N (times_bound bs)) (sym r.is) (terms_named bs a.args r.action.args w r.placed);
    of_equalities = λ bs t u atom w e.
        equality_made bs t u atom (NamedAtom N (times_bound bs)) e (λ i j k l. tt) (λ x y k l. (term_named bs t x w.0 k, term_named bs u y w.1 l));
    of_order = λ bs i j atom w e.
        let r = order_made bs i j atom e in
        subst (NamedAtom N (times_bound bs)) (sym r.is) tt;
  }

  -- the guarded form of a formula with such names has such ones
  pub form_named : (f : Formula) (g : Guarded) → HasNames N f → guarded_form [] f ≡ Some g → Throughout (NamedAtom N) 0 g
  form_named f g w e = form_throughout (NamedAtom N) (HasNames N) named_parts named_atoms [] f g w e
