-- Guarded forms have the symbols of the formula's terms.
use Rattle.std.proofs.Common.{◌≡◌, ℕ, suc, List, [], Option, Some, None, refl, sym, ap, subst}
use Rattle.sp_spec.specs.Term.{Term, var, Terms, count}
use Rattle.sp_spec.specs.Signature.{Signature, HasSymbol}
use Rattle.sp_spec.specs.Formula.{Written, Formula}
use Rattle.sp_spec.specs.Guarded.{Place, bound, Atom, Guarded, Guardeds, holds, fails, all_of, one_of, some, every, no_more, and_then}
use Rattle.sp_spec.specs.Guarded as guarded
use Rattle.sp_law_truth.specs.Shown.{times_within}
use Rattle.sp_law_guard.specs.GuardedForm.{Meant, a_message, a_time, meant, message_place, placed_variable, placed_term, placed_terms, guarded_form}
use Rattle.sp_spec.proofs.Variables.{Carries, where_carried, all_where_carried}
use Rattle.sp_law_guard.proofs.Places.{action_made, order_made, equality_made}
use Rattle.sp_law_guard.proofs.Throughout.{Throughout, ThroughoutEach, OfFormulas, OfAtoms, form_throughout}
use Rattle.sp_law_decide.specs.Normal.{IsConstructorTerm, AreConstructorTerms, IsConstructorAtom, IsConstructorForm, AreConstructorForms, HasConstructorTerms}

module _ (signature : Signature) where
  message_constructor : (o : Option Meant) (u : Term Place) → message_place o ≡ Some u → IsConstructorTerm signature u
  message_constructor None u e = absurd cc
  message_constructor (Some (a_time k)) u e = absurd cc
  message_constructor (Some (a_message mark k)) u e = let g : var (bound k) ≡ u = cc in subst (IsConstructorTerm signature) g tt

  module _ (bs : List Written) where
    abbrev KeepsTerm : Term Written → Term Place → Type 0
    KeepsTerm t u = IsConstructorTerm signature t → IsConstructorTerm signature u

    abbrev KeepsTerms : Terms Written → Terms Place → Type 0
    KeepsTerms ts us = (count ts ≡ count us) × (AreConstructorTerms signature ts → AreConstructorTerms signature us)

    constructors_carried : Carries (placed_variable bs) KeepsTerm KeepsTerms
    constructors_carried = record {
      leaf = λ x u e p. message_constructor (meant bs x.name) u e;
      constants = λ c p. p;
      names = λ n p. p;
      under = λ f ts us h p. (p.0, subst (λ (k : ℕ). HasSymbol signature.symbols f k) h.0 p.1, h.1 p.2);
      end = (refl, λ p. p);
      beside = λ t u ts us h k. (ap suc k.0, λ p. (h p.0, k.1 p.1));
    }

    pub placed_constructor : (t : Term Written) (u : Term Place) → IsConstructorTerm signature t → placed_term bs t ≡ Some u → IsConstructorTerm signature u
    placed_constructor t u p e = where_carried (placed_variable bs) KeepsTerm KeepsTerms constructors_carried t u e p

    pub placed_constructors : (ts : Terms Written) (us : Terms Place) → AreConstructorTerms signature ts → placed_terms bs ts ≡ Some us → AreConstructorTerms signature us
    placed_constructors ts us p e = (all_where_carried (placed_variable bs) KeepsTerm KeepsTerms constructors_carried ts us e).1 p

  abbrev pub OfConstructors : ℕ → Atom → Type 0
  OfConstructors n a = IsConstructorAtom signature a

  constructor_formulas : OfFormulas (HasConstructorTerms signature)
  constructor_formulas = record {
    of_not = λ f w. w;
    of_both = λ f g w. w;
    of_either = λ f g w. w;
    of_implies = λ f g w. w;
    of_all = λ x f w. w;
    of_some = λ x f w. w;
  }

  constructor_atoms : OfAtoms OfConstructors (HasConstructorTerms signature)
  constructor_atoms = record {
    of_actions = λ bs a i atom w e. let r = action_made bs a i atom e in subst (IsConstructorAtom signature) (sym r.is) (placed_constructors bs a.args r.action.args w r.placed);
    of_equalities = λ bs t u atom w e. equality_made bs t u atom (IsConstructorAtom signature) e (λ i j k l. tt) (λ x y k l. (placed_constructor bs t x w.0 k, placed_constructor bs u y w.1 l));
    of_order = λ bs i j atom w e. let r = order_made bs i j atom e in subst (IsConstructorAtom signature) (sym r.is) tt;
  }

  mutual
    pub constructors : (n : ℕ) (g : Guarded) → Throughout OfConstructors n g → IsConstructorForm signature g
    constructors n guarded.truth t = tt
    constructors n guarded.falsity t = tt
    constructors n (holds a) t = t
    constructors n (fails a) t = t
    constructors n (all_of gs) t = each_form_kept n gs t
    constructors n (one_of gs) t = each_form_kept n gs t
    constructors n (some bs guard g) t = (t.0, constructors (times_within bs n) g t.1)
    constructors n (every bs guard g) t = (t.0, constructors (times_within bs n) g t.1)

    each_form_kept : (n : ℕ) (gs : Guardeds) → ThroughoutEach OfConstructors n gs → AreConstructorForms signature gs
    each_form_kept n no_more t = tt
    each_form_kept n (and_then g gs) t = (constructors n g t.0, each_form_kept n gs t.1)

  pub form_keeps : (f : Formula) (g : Guarded) → HasConstructorTerms signature f → guarded_form [] f ≡ Some g → IsConstructorForm signature g
  form_keeps f g h e = constructors 0 g (form_throughout OfConstructors (HasConstructorTerms signature) constructor_formulas constructor_atoms [] f g h e)
