-- No name stands in accepted equations.
use Rattle.std.proofs.Common.{List}
use Rattle.sp_spec.specs.Term.{Variable, Term, var, constant, name, app, Terms, none, more, MadeOf, AllMadeOf}
use Rattle.sp_spec.specs.Signature.{Symbol, Equation}
use Rattle.sp_law_equal.specs.Right.{no_names, HaveNoNames}
use Rattle.sp_law_conv.specs.Accepted.{IsOfConstructors, AreOfConstructors, IsLeftSide, AreAccepted}

module _ (es : List Equation) where
  mutual
    constructors_nameless : (t : Term Variable) → IsOfConstructors es t → MadeOf no_names (λ (x : Variable). Unit {0}) t
    constructors_nameless (var x) h = tt
    constructors_nameless (constant c) h = absurd h
    constructors_nameless (name n) h = absurd h
    constructors_nameless (app f ts) h = all_nameless ts h.1

    all_nameless : (ts : Terms Variable) → AreOfConstructors es ts → AllMadeOf no_names (λ (x : Variable). Unit {0}) ts
    all_nameless none h = tt
    all_nameless (more t ts) h = (constructors_nameless t h.0, all_nameless ts h.1)

  left_nameless : (l : Term Variable) → IsLeftSide es l → MadeOf no_names (λ (x : Variable). Unit {0}) l
  left_nameless (var x) h = absurd h
  left_nameless (constant c) h = absurd h
  left_nameless (name n) h = absurd h
  left_nameless (app d none) h = absurd h
  left_nameless (app d (more t ts)) h = all_nameless (more t ts) h.1

pub accepted_nameless : (symbols : List Symbol) (es : List Equation) → AreAccepted symbols es → HaveNoNames es
accepted_nameless symbols es good = record {
  left = λ e m. left_nameless es e.left (good.each e m).left;
  right = λ e m. constructors_nameless es e.right (good.each e m).right;
}
