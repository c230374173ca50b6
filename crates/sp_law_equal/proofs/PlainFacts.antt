-- The normal form of facts and actions without destructors is that under the normal forms of the values.
use Rattle.std.proofs.Common.{◌≡◌, List, [], ◌∷◌, map, ap, ap₂, refl}
use Rattle.sp_spec.specs.Lists.{Every}
use Rattle.sp_spec.specs.Term.{Variable, Values}
use Rattle.sp_spec.specs.Signature.{Equation}
use Rattle.sp_spec.specs.Rule.{Fact, Action, fact_at, action_at}
use Rattle.sp_spec.proofs.Facts.{made_fact, made_action}
use Rattle.sp_law_equal.specs.Destructors.{ArePlain}
use Rattle.sp_law_equal.specs.NormalForms.{HaveNormalForms}
use Rattle.sp_law_equal.specs.Normal.{normal_fact, normal_action}
use Rattle.sp_law_equal.proofs.Forms.{normals}
use Rattle.sp_law_equal.proofs.Plain.{normal_plain_all}

module _ (es : List Equation) (good : HaveNormalForms es) (v : Values) where
  pub plain_facts : (fs : List (Fact Variable)) → Every (λ (f : Fact Variable). ArePlain es f.args) fs → map (normal_fact es) (map (fact_at v) fs) ≡ map (fact_at (normals es v)) fs
  plain_facts [] h = refl
  plain_facts (f ∷ fs) h =
      ap₂ (λ (x : Fact ⊥) (xs : List (Fact ⊥)). x ∷ xs) (ap (made_fact f.symbol f.persistent) (normal_plain_all es good v f.args h.0)) (plain_facts fs h.1)

  pub plain_actions : (xs : List (Action Variable)) → Every (λ (a : Action Variable). ArePlain es a.args) xs → map (normal_action es) (map (action_at v) xs) ≡ map (action_at (normals es v)) xs
  plain_actions [] h = refl
  plain_actions (a ∷ xs) h =
      ap₂ (λ (x : Action ⊥) (ys : List (Action ⊥)). x ∷ ys) (ap (made_action a.symbol) (normal_plain_all es good v a.args h.0)) (plain_actions xs h.1)
