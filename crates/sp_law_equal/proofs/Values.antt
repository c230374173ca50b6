-- Normal terms that are equal are the same; normal forms of instances; names and public names.
use Rattle.std.proofs.Common.{◌≡◌, ℕ, List, refl, sym, ap, ◌∙◌}
use Rattle.sp_spec.specs.Term.{Sort, Msg, Term, var, constant, name, app, Terms, none, more, Ground, Grounds, valued, valued_all}
use Rattle.sp_spec.specs.Signature.{Equation, HasSort}
use Rattle.sp_spec.specs.Equal.{Equal, EqualAll, IsNormal, AreNormal, AreNormalFormsOf}
use Rattle.sp_law_equal.specs.NormalForms.{HaveNormalForms}
use Rattle.sp_law_equal.specs.Normal.{reduced, normal, normal_all}
use Rattle.sp_law_equal.proofs.Forms.{normal_of_normal, normal_all_of_normal, sorted_is_normal, to_normal_all, equal_normal, equal_all_normal, are_normal}

module _ (es : List Equation) (good : HaveNormalForms es) where
  pub normal_again : (t : Ground) → normal es (normal es t) ≡ normal es t
  normal_again t = normal_of_normal es (normal es t) (good.is_normal t)

  pub normal_all_again : (ts : Grounds) → normal_all es (normal_all es ts) ≡ normal_all es ts
  normal_all_again ts = normal_all_of_normal es (normal_all es ts) (are_normal es good ts)

  pub equal_normal_same : (t u : Ground) → IsNormal es t → IsNormal es u → Equal es t u → t ≡ u
  equal_normal_same t u n m h = sym (normal_of_normal es t n) ∙ equal_normal es good h ∙ normal_of_normal es u m

  pub equal_all_normal_same : (ts us : Grounds) → AreNormal es ts → AreNormal es us → EqualAll es ts us → ts ≡ us
  equal_all_normal_same ts us n m h = sym (normal_all_of_normal es ts n) ∙ equal_all_normal es good ts us h ∙ normal_all_of_normal es us m

  -- a normal term that is equal to another is its normal form
  pub equal_normal_form : (t u : Ground) → Equal es t u → IsNormal es u → u ≡ normal es t
  equal_normal_form t u h n = sym (normal_of_normal es u n) ∙ sym (equal_normal es good h)

  -- the normal forms of a row of terms are the ones, and no others
  pub normal_forms : (ts : Grounds) → AreNormalFormsOf es ts (normal_all es ts)
  normal_forms ts = (to_normal_all es ts, are_normal es good ts)

  pub normal_forms_same : (ts us : Grounds) → AreNormalFormsOf es ts us → us ≡ normal_all es ts
  normal_forms_same ts us h = sym (normal_all_of_normal es us h.1) ∙ sym (equal_all_normal es good ts us h.0)

  -- the values of an instance may be taken in normal form
  module _ {V : Type 0} (v : V → Ground) where
    mutual
      pub normal_value : (t : Term V) → normal es (valued v t) ≡ normal es (valued (λ x. normal es (v x)) t)
      normal_value (var x) = sym (normal_again (v x))
      normal_value (constant c) = refl
      normal_value (name n) = refl
      normal_value (app f ts) = ap (λ us. reduced es (app f us)) (normal_value_all ts)

      pub normal_value_all : (ts : Terms V) → normal_all es (valued_all v ts) ≡ normal_all es (valued_all (λ x. normal es (v x)) ts)
      normal_value_all none = refl
      normal_value_all (more t ts) = cc (normal_value t, normal_value_all ts)

  -- fresh names, and public names, that are equal are the same
  pub equal_sorted_same : (s s' : Sort) (t u : Ground) → HasSort s t → HasSort s' u → (s ≡ Msg → ⊥) → (s' ≡ Msg → ⊥) → Equal es t u → t ≡ u
  equal_sorted_same s s' t u h h' n n' e = equal_normal_same t u (sorted_is_normal es s t h n) (sorted_is_normal es s' u h' n') e

  pub equal_names_same : (m n : ℕ) → Equal es (name m) (name n) → m ≡ n
  equal_names_same m n h = let e = equal_normal_same (name m) (name n) tt tt h in cc

  pub equal_constants_same : (c d : List ℕ) → Equal es (constant c) (constant d) → c ≡ d
  equal_constants_same c d h = let e = equal_normal_same (constant c) (constant d) tt tt h in cc

  pub name_never_constant : (m : ℕ) (d : List ℕ) → Equal es (name m) (constant d) → ⊥
  name_never_constant m d h = let e = equal_normal_same (name m) (constant d) tt tt h in cc

  -- what is equal to a fresh name has it as its normal form
  pub normal_name : (t : Ground) (n : ℕ) → Equal es t (name n) → normal es t ≡ name n
  normal_name t n h = equal_normal es good h

  pub normal_constant : (t : Ground) (c : List ℕ) → Equal es t (constant c) → normal es t ≡ constant c
  normal_constant t c h = equal_normal es good h
