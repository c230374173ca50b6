-- Terms and rules without destructors: nothing is chosen. What a premise says of the values in it.
use Rattle.std.proofs.Common.{◌≡◌, ℕ, ◌+◌, Bool, List, [], ◌∷◌, ◌++◌, map, None, refl, sym, ap, ap₂, ◌∙◌}
use Rattle.std.specs.List.{flat_map}
use Rattle.sp_spec.specs.Lists.{Member, Every}
use Rattle.sp_spec.specs.Term.{Variable, Term, var, constant, name, app, Terms, none, more, Grounds, Values, valued, valued_all}
use Rattle.sp_spec.specs.Signature.{Equation, RespectsSorts}
use Rattle.sp_spec.specs.Equal.{EqualAll, AreNormal}
use Rattle.sp_spec.specs.Unifier.{Pair, mgu}
use Rattle.sp_spec.specs.Rule.{Fact, fact_at, SameFact}
use Rattle.sp_law_equal.specs.NormalForms.{HaveNormalForms}
use Rattle.sp_law_equal.specs.Destructors.{IsDestructor, IsPlain, ArePlain}
use Rattle.sp_law_equal.specs.Pointwise.{EachWith}
use Rattle.sp_law_equal.proofs.Plain.{plain_matches_none, normal_plain_all}
use Rattle.sp_law_equal.proofs.Forms.{normals}
use Rattle.sp_law_equal.proofs.Values.{normal_forms_same}
use Rattle.sp_law_unify.proofs.Unique.{unifier_law}
use Rattle.sp_spec_forms.specs.Shifted.{above, shifted}
use Rattle.sp_spec_forms.specs.Narrowing.{Chosen, if_unified, by_equation, choices, narrow, narrow_all}
use Rattle.sp_law_forms.proofs.Lists.{flat_map_none}
use Rattle.sp_law_forms.proofs.Shifted.{shift, valued_shifted}

module _ (es : List Equation) (good : HaveNormalForms es) where
  -- no values make an application of a symbol that is no destructor the same as a left side over other variables
  no_instance : (f : List ℕ) (us : Terms Variable) (n : ℕ) (e : Equation) → Member e es → (IsDestructor es f → ⊥)
      → (v : Values) → RespectsSorts v → valued v (shifted n e.left) ≡ app f (valued_all v us) → ⊥
  no_instance f us n e m other v r same =
      plain_matches_none es good f (valued_all v us) other e m (λ x. v (shift n x)) (λ x. r (shift n x)) (sym (valued_shifted n v e.left) ∙ same)

  -- so they aren't unified
  other_root : (f : List ℕ) (us : Terms Variable) (n : ℕ) (e : Equation) → Member e es → (IsDestructor es f → ⊥) → (pairs : List Pair)
      → mgu ((app f us, shifted n e.left) ∷ pairs) ≡ None
  other_root f us n e m other pairs =
      (unifier_law.none ((app f us, shifted n e.left) ∷ pairs)).1 (λ v s. no_instance f us n e m other v s.respects (sym s.makes_same.0))

  choices_plain : (f : List ℕ) (us : Terms Variable) (s : Chosen) → (IsDestructor es f → ⊥) → choices es (app f us) s ≡ (app f us, s) ∷ []
  choices_plain f us s h =
      ap (λ rs. (app f us, s) ∷ rs)
      (flat_map_none (by_equation (app f us) s) es
      (λ e m.
      let pairs : List Pair = (app f us, shifted s.next e.left) ∷ s.pairs in
      ap (λ o. if_unified o (shifted s.next e.right, record { pairs = pairs; next = s.next + (above e.left + above e.right) }))
      (other_root f us s.next e m h s.pairs)))

  mutual
    -- nothing is chosen in a term without destructors
    narrow_plain : (t : Term Variable) (s : Chosen) → IsPlain es t → narrow es t s ≡ (t, s) ∷ []
    narrow_plain (var x) s p = refl
    narrow_plain (constant c) s p = refl
    narrow_plain (name n) s p = refl
    narrow_plain (app f ts) s p =
        ap (flat_map (λ (r : Terms Variable × Chosen). choices es (app f r.0) r.1)) (narrow_all_plain ts s p.1)
        ∙ ap (λ rs. rs ++ []) (choices_plain f ts s p.0)

    pub narrow_all_plain : (ts : Terms Variable) (s : Chosen) → ArePlain es ts → narrow_all es ts s ≡ (ts, s) ∷ []
    narrow_all_plain none s p = refl
    narrow_all_plain (more t ts) s p =
        ap (flat_map (λ (r : Term Variable × Chosen). map (λ (q : Terms Variable × Chosen). (more r.0 q.0, q.1)) (narrow_all es ts r.1))) (narrow_plain t s p.0)
        ∙ ap (λ qs. map (λ (q : Terms Variable × Chosen). (more t q.0, q.1)) qs ++ []) (narrow_all_plain ts s p.1)

  -- a normal instance of terms without destructors is the instance at the normal forms of the values
  plain_kept : (ts : Terms Variable) (v : Values) (us : Grounds) → ArePlain es ts → EqualAll es (valued_all v ts) us → AreNormal es us
      → us ≡ valued_all (normals es v) ts
  plain_kept ts v us p e n = normal_forms_same es good (valued_all v ts) us (e, n) ∙ normal_plain_all es good v ts p

  -- so it is with premises
  pub premises_kept : (fs : List (Fact Variable)) (gs : List (Fact ⊥)) (v : Values) → Every (λ (f : Fact Variable). ArePlain es f.args) fs
      → EachWith (SameFact es) (map (fact_at v) fs) gs → Every (λ (g : Fact ⊥). AreNormal es g.args) gs → gs ≡ map (fact_at (normals es v)) fs
  premises_kept [] [] v p e n = refl
  premises_kept [] (g ∷ gs) v p e n = absurd e
  premises_kept (f ∷ fs) [] v p e n = absurd e
  premises_kept (f ∷ fs) (g ∷ gs) v p e n =
      let made : List ℕ → Bool → Grounds → Fact ⊥ = λ s b ts. record { symbol = s; persistent = b; args = ts } in
      let first : g ≡ fact_at (normals es v) f =
      ap (λ s. made s g.persistent g.args) (sym e.0.0)
      ∙ ap (λ b. made f.symbol b g.args) (sym e.0.1)
      ∙ ap (made f.symbol f.persistent) (plain_kept f.args v g.args p.0 e.0.2 n.0) in
      ap₂ (λ x xs. x ∷ xs) first (premises_kept fs gs v p.1 e.1 n.1)
