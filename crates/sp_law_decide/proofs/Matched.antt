-- What comes of matching a pattern with a normal term: values that fit before and make the pattern the term are those that fit after.
use Rattle.std.proofs.Common.{◌≡◌, ℕ, ◌<◌, Bool, true, false, ◌||◌, ◌==◌, if◌then◌else◌, List, Option, Some, None, option_and_then, refl, ap, ◌∙◌, subst}
use Rattle.std.specs.Str.{bytes_eq}
use Rattle.std.proofs.lemmas.Bool.{eqb-true, eq-eqb}
use Rattle.std.proofs.lemmas.Slice.Eq.{bytes_eq-Decides}
use Rattle.sp_spec.specs.Term.{Sort, Term, var, constant, name, app, Terms, none, more, Ground, Grounds, valued, valued_all}
use Rattle.sp_spec.specs.Same.{same_term}
use Rattle.sp_spec.specs.Slots.{Slot}
use Rattle.sp_spec.specs.Signature.{Signature, HasSort, IsOver, AreOver}
use Rattle.sp_spec.specs.Equal.{IsNormal, AreNormal}
use Rattle.sp_spec.specs.Guarded.{Place, free, bound, Time, free_time, bound_time}
use Rattle.sp_law_equal.specs.Matching.{has_sort}
use Rattle.sp_spec.proofs.Same.{same_term_decides}
use Rattle.sp_law_equal.proofs.Tests.{has_sort_decides}
use Rattle.sp_law_guard.specs.IsGuarded.{stands_in, stands_among, is_time_place}
use Rattle.sp_spec.proofs.Options.{some_same, if_some, then_if}
use Rattle.sp_spec.proofs.Matching.{Matches, matched_all_so}
use Rattle.sp_law_decide.specs.Deciding.{nothing, is_filled, with_message, matched_place, matched, matched_all, matched_time}
use Rattle.sp_law_decide.proofs.Slots.{Fits, Grown, grown_none, grown_same, grown_twice, filled_grown, filled_found}

abbrev pub Messages : Type 0
Messages = List (Slot Sort Ground)

abbrev pub Times : Type 0
Times = List (Slot (Unit {0}) ℕ)

-- what stands at the places
abbrev pub value_by : (ℕ → Ground) → Place → Ground
value_by f (free x) = nothing
value_by f (bound k) = f k

abbrev pub time_by : (ℕ → ℕ) → Time → ℕ
time_by g (free_time i) = 0
time_by g (bound_time k) = g k

pub either_is : {P : Type 0} (x y : Bool) → (x || y) ≡ true → (x ≡ true → P) → (y ≡ true → P) → P
either_is true y e f g = f refl
either_is false y e f g = g e

module _ (signature : Signature) where
  -- a normal term of the sort, over the signature
  abbrev pub IsGood : Sort → Ground → Type 0
  IsGood sort t = HasSort sort t × IsNormal signature.equations t × IsOver signature.symbols t

  abbrev pub IsNormalValue : Ground → Type 0
  IsNormalValue t = IsNormal signature.equations t × IsOver signature.symbols t

  abbrev pub AreNormalValues : Grounds → Type 0
  AreNormalValues ts = AreNormal signature.equations ts × AreOver signature.symbols ts

  abbrev pub MessagesFit : Messages → (ℕ → Ground) → Type 0
  MessagesFit = Fits IsGood nothing

  abbrev pub MessagesGrown : Messages → Messages → Type 0
  MessagesGrown = Grown IsGood nothing

  pub message_grown : (k : ℕ) (t : Ground) → IsNormalValue t → (a b : Messages) → with_message k t a ≡ Some b → MessagesGrown a b × (is_filled b k ≡ true)
  message_grown k t good a b e = filled_grown IsGood nothing same_term has_sort (same_term nothing t) t (λ sort h. ((has_sort_decides sort t).0 h, good.0, good.1)) k a b e

  pub message_found : (k : ℕ) (a : Messages) (f : ℕ → Ground) → MessagesFit a f → (b : Messages) × (with_message k (f k) a ≡ Some b) × MessagesFit b f
  message_found k a f h =
      let same = λ (t : Ground). (same_term_decides t (f k)).1 in
      filled_found IsGood nothing same_term has_sort (same_term nothing (f k)) (f k) same (λ sort g. (has_sort_decides sort (f k)).1 g.0) (same nothing) k a f h refl

  -- the slots grow, and what stands in the pattern has a value
  abbrev FillsPattern : Term Place → Messages → Type 0
  FillsPattern p b = (k : ℕ) → stands_in k p ≡ true → is_filled b k ≡ true

  abbrev FillsPatterns : Terms Place → Messages → Type 0
  FillsPatterns ps b = (k : ℕ) → stands_among k ps ≡ true → is_filled b k ≡ true

  abbrev FillsBy : Term Place → Ground → Messages → Messages → Type 0
  FillsBy p t a b = IsNormalValue t → MessagesGrown a b × FillsPattern p b

  abbrev FillsAllBy : Terms Place → Grounds → Messages → Messages → Type 0
  FillsAllBy ps ts a b = AreNormalValues ts → MessagesGrown a b × FillsPatterns ps b

  place_grown : (p : Place) (t : Ground) (a b : Messages) → matched_place p t a ≡ Some b → FillsBy (var p) t a b
  place_grown (free x) t a b e good = (grown_same IsGood nothing a b (some_same a b (if_some (same_term nothing t) (Some a) b e).1), λ k h. absurd cc)
  place_grown (bound j) t a b e good =
      let r = message_grown j t good a b e in
      (r.0, λ k h. subst (λ (i : ℕ). is_filled b i ≡ true) (eqb-true j k h) r.1)

  pattern_grown : Matches matched_place FillsBy FillsAllBy
  pattern_grown = record {
    leaf = place_grown;
    constants = λ c a good. (grown_none IsGood nothing a, λ k h. absurd cc);
    names = λ n a good. (grown_none IsGood nothing a, λ k h. absurd cc);
    under = λ f ps ts a b h good. h (good.0.0, good.1.1);
    end = λ a good. (grown_none IsGood nothing a, λ k h. absurd cc);
    beside = λ p t ps ts a c b first rest good.
        let g = first (good.0.0, good.1.0) in
        let h = rest (good.0.1, good.1.1) in
        (grown_twice IsGood nothing a c b g.0 h.0, λ k m. either_is (stands_in k p) (stands_among k ps) m (λ x. h.0.keeps k (g.1 k x)) (h.1 k));
  }

  pub matched_all_grown : (ps : Terms Place) (ts : Grounds) → AreNormalValues ts → (a b : Messages) → matched_all ps ts a ≡ Some b → MessagesGrown a b × FillsPatterns ps b
  matched_all_grown ps ts good a b e = matched_all_so matched_place FillsBy FillsAllBy pattern_grown ps ts a b e good

  -- the values that fit make the pattern a term with which it is matched
  abbrev Found : Option Messages → (ℕ → Ground) → Type 0
  Found o f = (b : Messages) × (o ≡ Some b) × MessagesFit b f

  found_if : (c : Bool) (o : Option Messages) (f : ℕ → Ground) → c ≡ true → Found o f → Found (if c then o else None) f
  found_if c o f e r = (r.0, then_if c o e ∙ r.1, r.2)

  place_found : (p : Place) (a : Messages) (f : ℕ → Ground) → MessagesFit a f → Found (matched_place p (value_by f p) a) f
  place_found (free x) a f h = found_if (same_term nothing nothing) (Some a) f refl (a, refl, h)
  place_found (bound k) a f h = message_found k a f h

  mutual
    pub matched_found : (p : Term Place) (a : Messages) (f : ℕ → Ground) → MessagesFit a f → Found (matched p (valued (value_by f) p) a) f
    matched_found (var p) a f h = place_found p a f h
    matched_found (constant c) a f h = found_if (bytes_eq c c) (Some a) f ((bytes_eq-Decides c c).1 refl) (a, refl, h)
    matched_found (name n) a f h = found_if (n == n) (Some a) f (eq-eqb n n refl) (a, refl, h)
    matched_found (app g ps) a f h = found_if (bytes_eq g g) (matched_all ps (valued_all (value_by f) ps) a) f ((bytes_eq-Decides g g).1 refl) (matched_all_found ps a f h)

    pub matched_all_found : (ps : Terms Place) (a : Messages) (f : ℕ → Ground) → MessagesFit a f → Found (matched_all ps (valued_all (value_by f) ps) a) f
    matched_all_found none a f h = (a, refl, h)
    matched_all_found (more p ps) a f h =
        let r = matched_found p a f h in
        let q = matched_all_found ps r.0 f r.2 in
        (q.0, ap (option_and_then (λ s. matched_all ps (valued_all (value_by f) ps) s)) r.1 ∙ q.1, q.2)

-- The same of times, which are positions of a trace.
module _ (n : ℕ) where
  abbrev pub IsPosition : Unit {0} → ℕ → Type 0
  IsPosition u p = p < n

  abbrev pub TimesFit : Times → (ℕ → ℕ) → Type 0
  TimesFit = Fits IsPosition 0

  abbrev pub TimesGrown : Times → Times → Type 0
  TimesGrown = Grown IsPosition 0

  pub time_grown : (i : Time) (p : ℕ) → p < n → (a b : Times) → matched_time i p a ≡ Some b → TimesGrown a b × ((k : ℕ) → is_time_place k i ≡ true → is_filled b k ≡ true)
  time_grown (free_time i) p l a b e = (grown_same IsPosition 0 a b (some_same a b (if_some (0 == p) (Some a) b e).1), λ k h. absurd cc)
  time_grown (bound_time j) p l a b e =
      let r = filled_grown IsPosition 0 (λ i j. i == j) (λ u j. true) (0 == p) p (λ u h. l) j a b e in
      (r.0, λ k h. subst (λ (i : ℕ). is_filled b i ≡ true) (eqb-true j k h) r.1)

  pub time_found : (i : Time) (a : Times) (g : ℕ → ℕ) → TimesFit a g → (b : Times) × (matched_time i (time_by g i) a ≡ Some b) × TimesFit b g
  time_found (free_time i) a g h = (a, refl, h)
  time_found (bound_time k) a g h =
      filled_found IsPosition 0 (λ i j. i == j) (λ u j. true) (0 == g k) (g k) (λ j. eq-eqb j (g k)) (λ u l. refl) (eq-eqb 0 (g k)) k a g h refl
