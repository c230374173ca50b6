-- Facts that use no fresh name, and what stays in normal form: the linear sources and the actions.
use Rattle.std.proofs.Common.{◌≡◌, ℕ, Bool, true, false, not, ◌&&◌, List, [], ◌∷◌, ◌++◌, map, refl, sym, ap₂, ◌∙◌}
use Rattle.std.specs.Prelude.{codes}
use Rattle.std.specs.Str.{bytes_eq}
use Rattle.std.proofs.lemmas.Slice.Eq.{bytes_eq-Decides}
use Rattle.sp_spec.specs.Signature.{Equation}
use Rattle.sp_spec.specs.Rule.{Fact, Action, SameAction}
use Rattle.sp_spec.specs.Log.{Source, fresh_rule, conclusion, is_fr, linear_sources}
use Rattle.sp_law_equal.specs.Normal.{normal_fact, normal_action}
use Rattle.sp_law_equal.proofs.Forms.{to_normal_all}
use Rattle.sp_law_equal.specs.Pointwise.{EachWith}
use Rattle.sp_law_log.proofs.Taking.{source_share, fresh_share, linear_cons}

false_test : (test : Bool) (P : Type 0) → (test ≡ true → P) → (P → ⊥) → test ≡ false
false_test true P h wrong = absurd (wrong (h refl))
false_test false P h wrong = refl

false_and : (a b : Bool) → a ≡ false → a && b ≡ false
false_and a b e = rw e refl

-- a name that isn't this one is told from it
pub is_not_named : (f g : List ℕ) → (f ≡ g → ⊥) → bytes_eq f g ≡ false
is_not_named f g apart = false_test (bytes_eq f g) (f ≡ g) (bytes_eq-Decides f g).0 apart

pub is_not_fr : (f : Fact ⊥) → (f.symbol ≡ codes "Fr" → ⊥) → is_fr f ≡ false
is_not_fr f apart = false_and (bytes_eq f.symbol (codes "Fr")) (not f.persistent) (is_not_named f.symbol (codes "Fr") apart)

pub no_fresh_share : (f : Fact ⊥) → (f.symbol ≡ codes "Fr" → ⊥) → fresh_share f ≡ []
no_fresh_share f apart = rw (is_not_fr f apart) refl

module _ (es : List Equation) where
  pub same_normal_actions : (xs : List (Action ⊥)) → EachWith (SameAction es) xs (map (normal_action es) xs)
  same_normal_actions [] = tt
  same_normal_actions (a ∷ xs) = ((refl, to_normal_all es a.args), same_normal_actions xs)

  linear_normal_one : (f : Fact ⊥) (o : Source) → source_share (normal_fact es f) o ≡ source_share f o
  linear_normal_one f (conclusion p k) = refl
  linear_normal_one f fresh_rule = refl

  -- normal facts are linear or persistent as they were
  pub linear_normal : (fs : List (Fact ⊥)) (os : List Source) → linear_sources (map (normal_fact es) fs) os ≡ linear_sources fs os
  linear_normal [] os = refl
  linear_normal (f ∷ fs) [] = refl
  linear_normal (f ∷ fs) (o ∷ os) =
      linear_cons (normal_fact es f) (map (normal_fact es) fs) o os
      ∙ ap₂ (λ (xs ys : List Source). xs ++ ys) (linear_normal_one f o) (linear_normal fs os)
      ∙ sym (linear_cons f fs o os)
