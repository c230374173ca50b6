-- The values of a formula's terms: they are normal and over the signature, and known where each place has a value.
use Rattle.std.proofs.Common.{◌≡◌, ℕ, suc, Bool, true, false, ◌||◌, not, List, refl, sym, ap, subst}
use Rattle.std.specs.Prelude.{nat_lt}
use Rattle.sp_spec.specs.Term.{Term, var, constant, name, app, Terms, none, more, Ground, count, valued, valued_all}
use Rattle.sp_spec.specs.Signature.{Signature, HasSymbol}
use Rattle.sp_spec.specs.Guarded.{Place, free, bound, Atom}
use Rattle.sp_law_equal.specs.NormalForms.{HaveNormalForms}
use Rattle.sp_law_equal.proofs.Plain.{plain_matches_none}
use Rattle.sp_law_guard.specs.IsGuarded.{in_action, place_given, is_given}
use Rattle.sp_law_decide.specs.Deciding.{nothing, value_or, is_filled, place_known, is_known}
use Rattle.sp_law_decide.specs.Normal.{IsConstructorTerm, AreConstructorTerms}
use Rattle.sp_spec.proofs.Slots.{AreGood}
use Rattle.sp_spec.proofs.Variables.{each_kept, each_valued}
use Rattle.sp_law_decide.proofs.Slots.{value_fits, good_value}
use Rattle.sp_law_decide.proofs.Matched.{Messages, value_by, IsGood, IsNormalValue, AreNormalValues, MessagesFit}

pub count_valued : {V W : Type 0} (v : V → Term W) (ts : Terms V) → count (valued_all v ts) ≡ count ts
count_valued v none = refl
count_valued v (more t ts) = ap (λ k. suc k) (count_valued v ts)

module _ (signature : Signature) (good : HaveNormalForms signature.equations) where
  module _ {V : Type 0} (v : V → Ground) (values : (x : V) → IsNormalValue signature (v x)) where
    mutual
      pub constructor_normal : (t : Term V) → IsConstructorTerm signature t → IsNormalValue signature (valued v t)
      constructor_normal (var x) p = values x
      constructor_normal (constant c) p = (tt, tt)
      constructor_normal (name n) p = (tt, tt)
      constructor_normal (app f ts) p =
          let r = constructors_normal ts p.2 in
          ((r.0, plain_matches_none signature.equations good f (valued_all v ts) p.0), (subst (λ (k : ℕ). HasSymbol signature.symbols f k) (sym (count_valued v ts)) p.1, r.1))

      pub constructors_normal : (ts : Terms V) → AreConstructorTerms signature ts → AreNormalValues signature (valued_all v ts)
      constructors_normal none p = (tt, tt)
      constructors_normal (more t ts) p =
          let r = constructor_normal t p.0 in
          let q = constructors_normal ts p.1 in
          ((r.0, q.0), (r.1, q.1))

  -- what stands at a place, in slots whose values are good
  pub slots_normal : (a : Messages) → AreGood (IsGood signature) a → (k : ℕ) → IsNormalValue signature (value_or nothing a k)
  slots_normal a h = good_value (IsGood signature) nothing (IsNormalValue signature) (tt, tt) (λ sort t g. (g.1, g.2)) a h

  pub places_normal : (a : Messages) → AreGood (IsGood signature) a → (p : Place) → IsNormalValue signature (value_by (value_or nothing a) p)
  places_normal a h (free x) = (tt, tt)
  places_normal a h (bound k) = slots_normal a h k

module _ (signature : Signature) (a : Messages) (f : ℕ → Ground) (fits : MessagesFit signature a f) where
  place_value : (p : Place) → place_known a p ≡ true → value_by (value_or nothing a) p ≡ value_by f p
  place_value (free x) e = refl
  place_value (bound k) e = value_fits (IsGood signature) nothing a f fits k e

  pub known_value : (t : Term Place) → is_known a t ≡ true → valued (value_by (value_or nothing a)) t ≡ valued (value_by f) t
  known_value t e = each_valued (place_known a) (value_by (value_or nothing a)) (value_by f) place_value t e

-- The terms that give others their values are known, where each place outside of the quantifier's n messages, and each that stands in an
-- action of the guard, has a value.
pub record Given (n : ℕ) (guard : List Atom) (a : Messages) : Type 0 where
  pub outside : (k : ℕ) → nat_lt k n ≡ false → is_filled a k ≡ true
  pub inside : (k : ℕ) → in_action k guard ≡ true → is_filled a k ≡ true

module _ (n : ℕ) (guard : List Atom) (a : Messages) (given : Given n guard a) where
  place_given_known : (p : Place) → place_given n guard p ≡ true → place_known a p ≡ true
  place_given_known (free x) e = refl
  place_given_known (bound k) e = at (nat_lt k n) refl e
    where
      at : (c : Bool) → nat_lt k n ≡ c → (not c || in_action k guard) ≡ true → is_filled a k ≡ true
      at true l e = given.inside k e
      at false l e = given.outside k l

  pub given_known : (t : Term Place) → is_given n guard t ≡ true → is_known a t ≡ true
  given_known t e = each_kept (place_given n guard) (place_known a) place_given_known t e
