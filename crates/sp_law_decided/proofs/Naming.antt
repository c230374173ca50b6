-- Values of names' sorts: different ones lead to different ones by exchanges that speak of none of the constants.
use Rattle.std.proofs.Common.{◌≡◌, ℕ, Bool, true, false, List, [], ◌∷◌, inl, inr, refl, sym, ap, ◌∙◌}
use Rattle.std.proofs.lemmas.Bool.{false_from_ne_true}
use Rattle.sp_spec.specs.Lists.{Member, Every, is_listed}
use Rattle.sp_spec.proofs.Lists.{every_member, every_append}
use Rattle.sp_spec.proofs.Listed.{listed_member}
use Rattle.sp_spec.specs.Term.{Sort, Msg, Fresh, Pub, Variable, var, constant, name, app, Ground, Values}
use Rattle.sp_spec.specs.Signature.{HasSort}
use Rattle.sp_spec.specs.Same.{same_variable}
use Rattle.sp_spec.proofs.Same.{same_variable_decides}
use Rattle.sp_law_truth.proofs.Only.{is_among_member}
use Rattle.sp_law_exchange.specs.Exchange.{Exchange, of_public, of_fresh, exchanges, IsUnlisted}
use Rattle.sp_law_exchange.specs.Leading.{public_exchanges, fresh_exchanges, AreApart, HaveNone, public_pair, public_pairs, fresh_pairs, leading_values}
use Rattle.sp_law_exchange.proofs.Exchanges.{exchanges_one}
use Rattle.sp_law_exchange.proofs.ExchangesKeep.{unlisted_stay}

-- ---- sorts

-- that of a name, and msg of anything else
abbrev sort_in : Ground → Sort
sort_in (constant c) = Pub
sort_in (name n) = Fresh
sort_in t = Msg

its_sort : (sort : Sort) (t : Ground) → (sort ≡ Msg → ⊥) → HasSort sort t → sort ≡ sort_in t
its_sort Msg t n h = absurd (n refl)
its_sort sort (var x) n h = absurd x
its_sort Fresh (constant c) n h = absurd h
its_sort Fresh (name k) n h = refl
its_sort Fresh (app f ts) n h = absurd h
its_sort Pub (constant c) n h = refl
its_sort Pub (name k) n h = absurd h
its_sort Pub (app f ts) n h = absurd h

-- values of the right sorts that differ at variables of one sort differ
pub apart_by_sorts : (xs : List Variable) → ((x : Variable) → Member x xs → x.sort ≡ Msg → ⊥) → (v : Values) → ((x : Variable) → HasSort x.sort (v x))
    → ((x y : Variable) → Member x xs → Member y xs → x.sort ≡ y.sort → (x ≡ y → ⊥) → v x ≡ v y → ⊥) → AreApart xs v
apart_by_sorts xs named v sorts apart x y m k e = at (same_variable x y) refl
  where
    at : (b : Bool) → same_variable x y ≡ b → x ≡ y
    at true f = (same_variable_decides x y).0 f
    at false f =
        absurd
        (apart x y m k (its_sort x.sort (v x) (named x m) (sorts x) ∙ ap sort_in e ∙ sym (its_sort y.sort (v y) (named y k) (sorts y)))
        (λ g. let t = (same_variable_decides x y).1 g in cc) e)

-- ---- exchanges

module _ (constants : List (List ℕ)) where
  abbrev Unlisted : List ℕ → Type 0
  Unlisted c = is_listed c constants ≡ false

  unlisted : (c : List ℕ) → (Member c constants → ⊥) → Unlisted c
  unlisted c none = false_from_ne_true (is_listed c constants) (λ e. none (is_among_member c constants e))

  -- what is none of the constants becomes none of them
  stays_unlisted : (es : List Exchange) → Every (IsUnlisted constants) es → (c : List ℕ) → Unlisted c → Unlisted ((exchanges es).public c)
  stays_unlisted es h c none =
      let one = exchanges_one es in
      let d = (exchanges es).public c in
      unlisted d (λ m.
      let still : (exchanges es).public d ≡ d = every_member (λ (a : List ℕ). (exchanges es).public a ≡ a) constants d m (unlisted_stay es constants h) in
      let same : d ≡ c = sym (one.back.public d) ∙ ap one.inverse.public still ∙ one.back.public c in
      let there = listed_member d constants m in
      let not_there : is_listed d constants ≡ false = ap (λ (a : List ℕ). is_listed a constants) same ∙ none in cc)

  public_unlisted : (ps : List (List ℕ × List ℕ)) → Every (λ (p : List ℕ × List ℕ). Unlisted p.0 × Unlisted p.1) ps → Every (IsUnlisted constants) (public_exchanges ps)
  public_unlisted [] h = tt
  public_unlisted (p ∷ ps) h =
      let before = public_unlisted ps h.1 in
      every_append (IsUnlisted constants) (public_exchanges ps) (of_public ((exchanges (public_exchanges ps)).public p.0) p.1 ∷ []) before
      ((stays_unlisted (public_exchanges ps) before p.0 h.0.0, h.0.1), tt)

  fresh_unlisted : (fs : List (ℕ × ℕ)) → Every (IsUnlisted constants) (fresh_exchanges fs)
  fresh_unlisted [] = tt
  fresh_unlisted (p ∷ fs) = every_append (IsUnlisted constants) (fresh_exchanges fs) (of_fresh ((exchanges (fresh_exchanges fs)).fresh p.0) p.1 ∷ []) (fresh_unlisted fs) (tt, tt)

  pair_unlisted : (t u : Ground) → ((c : List ℕ) → Member c constants → t ≡ constant c → ⊥) → ((c : List ℕ) → Member c constants → u ≡ constant c → ⊥)
      → Every (λ (p : List ℕ × List ℕ). Unlisted p.0 × Unlisted p.1) (public_pair t u)
  pair_unlisted (constant c) (constant d) h k = ((unlisted c (λ m. h c m refl), unlisted d (λ m. k d m refl)), tt)
  pair_unlisted (constant c) (name n) h k = tt
  pair_unlisted (constant c) (app f us) h k = tt
  pair_unlisted (constant c) (var x) h k = tt
  pair_unlisted (name n) u h k = tt
  pair_unlisted (app f ts) u h k = tt
  pair_unlisted (var x) u h k = tt

  pairs_unlisted : (xs : List Variable) (v w : Values) → HaveNone constants xs v → HaveNone constants xs w → Every (λ (p : List ℕ × List ℕ). Unlisted p.0 × Unlisted p.1) (public_pairs xs v w)
  pairs_unlisted [] v w h k = tt
  pairs_unlisted (x ∷ xs) v w h k =
      every_append (λ (p : List ℕ × List ℕ). Unlisted p.0 × Unlisted p.1) (public_pair (v x) (w x)) (public_pairs xs v w)
      (pair_unlisted (v x) (w x) (h x (inl refl)) (k x (inl refl))) (pairs_unlisted xs v w (λ y m. h y (inr m)) (λ y m. k y (inr m)))

  -- none of the exchanges that lead from values that are none of the constants to others speaks of one
  pub values_unlisted : (xs : List Variable) (v w : Values) → HaveNone constants xs v → HaveNone constants xs w → Every (IsUnlisted constants) (leading_values xs v w)
  values_unlisted xs v w h k =
      every_append (IsUnlisted constants) (public_exchanges (public_pairs xs v w)) (fresh_exchanges (fresh_pairs xs v w))
      (public_unlisted (public_pairs xs v w) (pairs_unlisted xs v w h k)) (fresh_unlisted (fresh_pairs xs v w))
