-- What comes of giving slots values: the values that still fit, and the places that have a value.
use Rattle.std.proofs.Common.{◌≡◌, ℕ, zero, suc, Bool, true, List, [], ◌∷◌, Option, Some, None, is_some, unwrap_or, option_map, refl, sym, ap, ◌∙◌, subst}
use Rattle.sp_spec.specs.Slots.{Slot, slot, value_at, slot_with, filled_at}
use Rattle.sp_spec.proofs.Options.{then_if}
use Rattle.sp_spec.proofs.Slots.{IsGoodValue, AreGood, value_at_good, Fills, filled_so}
use Rattle.sp_law_decide.specs.Deciding.{value_or, is_filled}

module _ {K A : Type 0} (G : K → A → Type 0) (d : A) where
  abbrev pub Agrees : Option A → A → Type 0
  Agrees None a = Unit {0}
  Agrees (Some b) a = b ≡ a

  -- values of all places that agree with the slots
  abbrev pub Fits : List (Slot K A) → (ℕ → A) → Type 0
  Fits [] f = (k : ℕ) → f k ≡ d
  Fits (s ∷ slots) f = G s.kind (f zero) × Agrees s.value (f zero) × Fits slots (λ k. f (suc k))

  pub record Grown (small large : List (Slot K A)) : Type 0 where
    pub weakens : (f : ℕ → A) → Fits large f → Fits small f
    pub good : AreGood G small → AreGood G large
    pub keeps : (k : ℕ) → is_filled small k ≡ true → is_filled large k ≡ true

  pub grown_none : (a : List (Slot K A)) → Grown a a
  grown_none a = record { weakens = λ f h. h; good = λ h. h; keeps = λ k h. h }

  pub grown_same : (a b : List (Slot K A)) → b ≡ a → Grown a b
  grown_same a b e = subst (Grown a) (sym e) (grown_none a)

  pub grown_twice : (a b c : List (Slot K A)) → Grown a b → Grown b c → Grown a c
  grown_twice a b c g h = record { weakens = λ f x. g.weakens f (h.weakens f x); good = λ x. h.good (g.good x); keeps = λ k x. h.keeps k (g.keeps k x) }

  grown_below : (s : Slot K A) (a b : List (Slot K A)) → Grown a b → Grown (s ∷ a) (s ∷ b)
  grown_below s a b g = record { weakens = λ f x. (x.0, x.1, g.weakens (λ k. f (suc k)) x.2); good = λ x. (x.0, g.good x.1); keeps = keeps }
    where
      keeps : (k : ℕ) → is_filled (s ∷ a) k ≡ true → is_filled (s ∷ b) k ≡ true
      keeps zero e = e
      keeps (suc k) e = g.keeps k e

  grown_first : (kind : K) (a : A) (slots : List (Slot K A)) → G kind a → Grown (slot kind None ∷ slots) (slot kind (Some a) ∷ slots)
  grown_first kind a slots h = record { weakens = λ f x. (x.0, tt, x.2); good = λ x. (h, x.1); keeps = keeps }
    where
      keeps : (k : ℕ) → is_filled (slot kind None ∷ slots) k ≡ true → is_filled (slot kind (Some a) ∷ slots) k ≡ true
      keeps zero e = refl
      keeps (suc k) e = e

  -- a place that has a value has that of all that fits
  pub value_fits : (slots : List (Slot K A)) (f : ℕ → A) → Fits slots f → (k : ℕ) → is_filled slots k ≡ true → value_or d slots k ≡ f k
  value_fits [] f h k e = sym (h k)
  value_fits (s ∷ slots) f h zero e = at s.value h.1 e
    where
      at : (o : Option A) → Agrees o (f zero) → is_some o ≡ true → unwrap_or o d ≡ f zero
      at None g e = absurd cc
      at (Some b) g e = g
  value_fits (s ∷ slots) f h (suc k) e = value_fits slots (λ k. f (suc k)) h.2 k e

  -- the values themselves
  pub fits_itself : (slots : List (Slot K A)) → AreGood G slots → ((k : ℕ) → is_filled slots k ≡ true) → Fits slots (value_or d slots)
  fits_itself [] good full = λ k. refl
  fits_itself (s ∷ slots) good full =
      let r = at s.value good.0 (full zero) in
      (r.0, r.1, fits_itself slots good.1 (λ k. full (suc k)))
    where
      at : (o : Option A) → IsGoodValue G s.kind o → is_some o ≡ true → G s.kind (unwrap_or o d) × Agrees o (unwrap_or o d)
      at None g e = absurd cc
      at (Some b) g e = (g, refl)

  pub good_value : (H : A → Type 0) → H d → ((kind : K) (a : A) → G kind a → H a) → (slots : List (Slot K A)) → AreGood G slots → (k : ℕ) → H (value_or d slots k)
  good_value H h from slots good k = at (value_at slots k) refl
    where
      at : (o : Option A) → value_at slots k ≡ o → H (unwrap_or o d)
      at None e = h
      at (Some a) e = let g = value_at_good G slots good k a e in from g.0 a g.1

  pub good_fits : (H : A → Type 0) → H d → ((kind : K) (a : A) → G kind a → H a) → (slots : List (Slot K A)) (f : ℕ → A) → Fits slots f → (k : ℕ) → H (f k)
  good_fits H h from [] f fits k = subst H (sym (fits k)) h
  good_fits H h from (s ∷ slots) f fits zero = from s.kind (f zero) fits.0
  good_fits H h from (s ∷ slots) f fits (suc k) = good_fits H h from slots (λ j. f (suc j)) fits.2 k

  module _ (alike : A → A → Bool) (admits : K → A → Bool) (beyond : Bool) (a : A) where
    abbrev Filled : ℕ → List (Slot K A) → List (Slot K A) → Type 0
    Filled k small large = Grown small large × (is_filled large k ≡ true)

    pub filled_grown : ((kind : K) → admits kind a ≡ true → G kind a) → (k : ℕ) (small large : List (Slot K A)) → filled_at alike admits beyond k a small ≡ Some large → Filled k small large
    filled_grown good k small large e = filled_so alike admits beyond a Filled fills k small large e
      where
        fills : Fills alike admits beyond a Filled
        fills = record {
          past = λ k h. (grown_none [], refl);
          new = λ kind slots h. (grown_first kind a slots (good kind h), refl);
          old = λ kind b slots h. (grown_none (slot kind (Some b) ∷ slots), refl);
          further = λ s k small large h. (grown_below s small large h.0, h.1);
        }

    -- a value that fits is taken
    module _ (same : (b : A) → b ≡ a → alike b a ≡ true) (admitted : (kind : K) → G kind a → admits kind a ≡ true) (past : d ≡ a → beyond ≡ true) where
      with_found : (kind : K) (o : Option A) (b : A) → G kind b → Agrees o b → b ≡ a → (r : Slot K A) × (slot_with alike admits a kind o ≡ Some r) × (G r.kind b × Agrees r.value b)
      with_found kind None b h g e =
          (slot kind (Some a), then_if (admits kind a) (Some (slot kind (Some a))) (admitted kind (subst (G kind) e h)), (h, sym e))
      with_found kind (Some c) b h g e =
          (slot kind (Some c), then_if (alike c a) (Some (slot kind (Some c))) (same c (g ∙ e)), (h, g))

      pub filled_found : (k : ℕ) (slots : List (Slot K A)) (f : ℕ → A) → Fits slots f → f k ≡ a → (large : List (Slot K A)) × (filled_at alike admits beyond k a slots ≡ Some large) × Fits large f
      filled_found k [] f h e = ([], then_if beyond (Some []) (past (sym (h k) ∙ e)), h)
      filled_found zero (s ∷ slots) f h e =
          let r = with_found s.kind s.value (f zero) h.0 h.1 e in
          (r.0 ∷ slots, ap (option_map (λ (x : Slot K A). x ∷ slots)) r.1, (r.2.0, r.2.1, h.2))
      filled_found (suc k) (s ∷ slots) f h e =
          let r = filled_found k slots (λ j. f (suc j)) h.2 e in
          (s ∷ r.0, ap (option_map (λ (x : List (Slot K A)). s ∷ x)) r.1, (h.0, h.1, r.2))
