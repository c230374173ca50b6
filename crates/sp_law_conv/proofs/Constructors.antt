-- Terms of constructors over symbols of one arity each are without destructors.
use Rattle.std.proofs.Common.{◌≡◌, ℕ, List, ◌∙◌, subst}
use Rattle.std.specs.Prelude.{codes}
use Rattle.sp_spec.specs.Lists.{Member}
use Rattle.sp_spec.specs.Term.{Variable, Term, var, constant, name, app, Terms, none, more, count}
use Rattle.sp_spec.specs.Signature.{Symbol, Equation, HasSymbol}
use Rattle.sp_law_equal.specs.Destructors.{HasRoot, IsDestructor, IsPlain, ArePlain}
use Rattle.sp_law_equal.specs.SubtermRules.{IsPlainBelow}
use Rattle.sp_law_equal.specs.Right.{IsTermOver, AreTermsOver, EquationsAreOver}
use Rattle.sp_law_conv.specs.Accepted.{IsApplicationOf, IsDestructorOf, IsOfConstructors, AreOfConstructors, IsLeftSide, AreAccepted}
use Rattle.sp_law_conv.specs.Laws.{HaveOneArity}

module _ (symbols : List Symbol) (es : List Equation) (one : HaveOneArity symbols) where
  -- a left side with this symbol at its root applies it to as many arguments as its arity says
  applied : (f : List ℕ) (n : ℕ) → HasSymbol symbols f n → (l : Term Variable) → IsLeftSide es l → IsTermOver symbols l → HasRoot f l
      → IsApplicationOf f n l × (f ≡ codes "pair" → ⊥)
  applied f n has (var x) left o r = absurd r
  applied f n has (constant c) left o r = absurd r
  applied f n has (name k) left o r = absurd r
  applied f n has (app g none) left o r = absurd left
  applied f n has (app g (more t ts)) left o r =
      ((r, one f (count (more t ts)) n (subst (λ h. HasSymbol symbols h (count (more t ts))) r o.0) has), λ e. left.0 (r ∙ e))

  module _ (over : EquationsAreOver symbols es) (good : AreAccepted symbols es) where
    is_destructor_of : (f : List ℕ) (n : ℕ) → HasSymbol symbols f n → IsDestructor es f → IsDestructorOf es f n
    is_destructor_of f n has d =
        let r = applied f n has d.0.left (good.each d.0 d.1).left (over.left d.0 d.1) d.2 in
        record { equation = d.0; stands = d.1; at_root = r.0; no_pair = r.1 }

    mutual
      is_plain : (t : Term Variable) → IsOfConstructors es t → IsTermOver symbols t → IsPlain es t
      is_plain (var x) h o = tt
      is_plain (constant c) h o = tt
      is_plain (name n) h o = tt
      is_plain (app f ts) h o = (λ d. h.0 (is_destructor_of f (count ts) o.0 d), are_plain ts h.1 o.1)

      are_plain : (ts : Terms Variable) → AreOfConstructors es ts → AreTermsOver symbols ts → ArePlain es ts
      are_plain none h o = tt
      are_plain (more t ts) h o = (is_plain t h.0 o.0, are_plain ts h.1 o.1)

    is_plain_below : (l : Term Variable) → IsLeftSide es l → IsTermOver symbols l → IsPlainBelow es l
    is_plain_below (var x) h o = absurd h
    is_plain_below (constant c) h o = absurd h
    is_plain_below (name n) h o = absurd h
    is_plain_below (app f none) h o = absurd h
    is_plain_below (app f (more t ts)) h o = are_plain (more t ts) h.1 o.1

    pub left_plain : (e : Equation) → Member e es → IsPlainBelow es e.left
    left_plain e m = is_plain_below e.left (good.each e m).left (over.left e m)

    pub right_plain : (e : Equation) → Member e es → IsPlain es e.right
    right_plain e m = is_plain e.right (good.each e m).right (over.right e m)
