-- Values of the variables of an equation that is used: those that match its left side, beside the values that there are.
use Rattle.std.proofs.Common.{◌≡◌, ⊎_elim, inl, inr, ℕ, ◌-◌, nat_lt, Bool, true, false, cond, ◌||◌, List, refl, sym, ap, subst, arith, if◌then◌else◌}
use Rattle.std.proofs.lemmas.Bool.{or_left, or_right, or_cases}
use Rattle.sp_spec.specs.Term.{Sort, Msg, Fresh, Pub, Variable, Term, var, constant, name, app, Terms, none, more, Ground, Grounds, Values, valued, valued_all}
use Rattle.sp_spec.specs.Signature.{Equation, Signature, HasSort, RespectsSorts, IsOver, AreOver}
use Rattle.sp_spec.specs.Equal.{IsNormal, AreNormal}
use Rattle.sp_spec.specs.Unifier.{occurs, occurs_in}
use Rattle.sp_spec.proofs.Same.{same_variable_decides}
use Rattle.sp_law_equal.specs.Matching.{any_of}
use Rattle.sp_law_equal.specs.Parts.{IsPart, IsPartOfOne}
use Rattle.sp_law_equal.proofs.Parts.{part_itself, part_normal, part_over, part_of_one_normal, part_of_one_over}
use Rattle.sp_law_conv.proofs.Apart.{joined, joined_below, joined_shifted}
use Rattle.sp_law_forms.specs.Laws.{IsNormalValuation}
use Rattle.sp_law_forms.proofs.Shifted.{AgreeBelow, shift}

-- only the values of the variables that occur matter
module _ {W : Type 0} (v w : Variable → Term W) where
  mutual
    valued_occurs : (t : Term Variable) → ((x : Variable) → occurs x t ≡ true → v x ≡ w x) → valued v t ≡ valued w t
    valued_occurs (var x) h = h x ((same_variable_decides x x).1 refl)
    valued_occurs (constant c) h = refl
    valued_occurs (name n) h = refl
    valued_occurs (app f ts) h = ap (app f) (valued_all_occurs ts h)

    pub valued_all_occurs : (ts : Terms Variable) → ((x : Variable) → occurs_in x ts ≡ true → v x ≡ w x) → valued_all v ts ≡ valued_all w ts
    valued_all_occurs none h = refl
    valued_all_occurs (more t ts) h =
        cc
        (valued_occurs t (λ x o. h x (or_left (occurs x t) (occurs_in x ts) o)), valued_all_occurs ts (λ x o. h x (or_right (occurs x t) (occurs_in x ts) o)))

-- the value of a variable that occurs is a part of the value
module _ {W : Type 0} (v : Variable → Term W) (x : Variable) where
  mutual
    occurs_part : (t : Term Variable) → occurs x t ≡ true → IsPart (v x) (valued v t)
    occurs_part (var y) o = subst (λ (z : Variable). IsPart (v x) (v z)) ((same_variable_decides x y).0 o) (part_itself (v x))
    occurs_part (constant c) o = absurd cc
    occurs_part (name n) o = absurd cc
    occurs_part (app f ts) o = inr (occurs_in_part ts o)

    occurs_in_part : (ts : Terms Variable) → occurs_in x ts ≡ true → IsPartOfOne (v x) (valued_all v ts)
    occurs_in_part none o = absurd cc
    occurs_in_part (more t ts) o =
        ⊎_elim (λ k. inl (occurs_part t k)) (λ k. inr (occurs_in_part ts k)) (or_cases (occurs x t) (occurs_in x ts) o)

-- those of the variables that occur in the equation, and some values for the others
abbrev pub within : Equation → Values → Values
within e m x = if occurs x e.left || occurs x e.right then m x else any_of x.sort

pub within_left : (e : Equation) (m : Values) → valued (within e m) e.left ≡ valued m e.left
within_left e m =
    valued_occurs (within e m) m e.left (λ x o. ap (λ c. cond c (m x) (any_of x.sort)) (or_left (occurs x e.left) (occurs x e.right) o))

pub within_right : (e : Equation) (m : Values) → valued (within e m) e.right ≡ valued m e.right
within_right e m =
    valued_occurs (within e m) m e.right (λ x o. ap (λ c. cond c (m x) (any_of x.sort)) (or_right (occurs x e.left) (occurs x e.right) o))

-- v below n, and u from there on
pub joined_old : (n : ℕ) (v u : Values) → AgreeBelow n v (joined n v u)
joined_old n v u x lt = sym (joined_below n v u (var x) (omega (arith, lt)))

pub joined_new : (n : ℕ) (v u : Values) (x : Variable) → joined n v u (shift n x) ≡ u x
joined_new n v u x = joined_shifted n v u (var x)

module _ (signature : Signature) where
  abbrev Good : Sort → Ground → Type 0
  Good s t = HasSort s t × IsOver signature.symbols t × IsNormal signature.equations t

  some_good : (s : Sort) → Good s (any_of s)
  some_good Msg = (tt, tt, tt)
  some_good Fresh = (tt, tt, tt)
  some_good Pub = (tt, tt, tt)

  abbrev from_good : (v : Values) → ((x : Variable) → Good x.sort (v x)) → IsNormalValuation signature v
  from_good v h = (λ x. ((h x).0, (h x).1), λ x. (h x).2)

  pub within_good : (e : Equation) (m : Values) (f : List ℕ) (ns : Grounds) → ((x : Variable) → e.left ≡ var x → ⊥) → RespectsSorts m
      → valued m e.left ≡ app f ns → AreNormal signature.equations ns → AreOver signature.symbols ns
      → IsNormal signature.equations (valued m e.right) → IsOver signature.symbols (valued m e.right) → IsNormalValuation signature (within e m)
  within_good e m f ns other r same n o n' o' = from_good (within e m) (λ x. by_tests x (occurs x e.left) refl (occurs x e.right) refl)
    where
      below : (x : Variable) (l : Term Variable) → e.left ≡ l → valued m l ≡ app f ns → occurs x l ≡ true → IsPartOfOne (m x) ns
      below x (var y) is k h = absurd (other y is)
      below x (constant c) is k h = absurd cc
      below x (name i) is k h = absurd cc
      below x (app g ls) is k h = let args : valued_all m ls ≡ ns = cc in subst (λ (us : Grounds). IsPartOfOne (m x) us) args (occurs_in_part m x ls h)

      by_tests : (x : Variable) (c : Bool) → occurs x e.left ≡ c → (d : Bool) → occurs x e.right ≡ d → Good x.sort (cond (c || d) (m x) (any_of x.sort))
      by_tests x true h d k =
          let part = below x e.left refl same h in
          (r x, part_of_one_over signature.symbols (m x) ns part o, part_of_one_normal signature.equations (m x) ns part n)
      by_tests x false h true k =
          let part = occurs_part m x e.right k in
          (r x, part_over signature.symbols (m x) (valued m e.right) part o', part_normal signature.equations (m x) (valued m e.right) part n')
      by_tests x false h false k = some_good x.sort

  pub joined_good : (n : ℕ) (v u : Values) → IsNormalValuation signature v → IsNormalValuation signature u → IsNormalValuation signature (joined n v u)
  joined_good n v u h k = from_good (joined n v u) (λ x. by_test x (nat_lt x.number n))
    where
      by_test : (x : Variable) (c : Bool) → Good x.sort (cond c (v x) (u (record { sort = x.sort; number = x.number - n })))
      by_test x true = ((h.0 x).0, (h.0 x).1, h.1 x)
      by_test x false =
          let y : Variable = record { sort = x.sort; number = x.number - n } in
          ((k.0 y).0, (k.0 y).1, k.1 y)
