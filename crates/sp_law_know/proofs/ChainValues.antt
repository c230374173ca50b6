-- A destruction's variables at new numbers: its terms stay below them, and have there the values that they had in an instance.
use Rattle.std.proofs.Common.{◌≡◌, ◌⊎◌, ⊎_elim, ◌<◌, ◌+◌, ℕ, Bool, true, false, if◌then◌else◌, List, [], ◌∷◌, ◌++◌, length, refl, sym, ap, ◌∙◌, subst, inl, inr, arith}
use Rattle.std.proofs.lemmas.Bool.{true≢false}
use Rattle.sp_spec.specs.Lists.{Member, Every}
use Rattle.sp_spec.specs.Term.{Names, any_names, Variable, Term, var, constant, name, app, Terms, none, more, Ground, joined, in_term, in_terms, MadeOf, AllMadeOf, EachVariable, Values, valued, valued_all}
use Rattle.sp_spec.specs.Signature.{Signature, IsValue}
use Rattle.sp_spec.specs.Equal.{IsNormal}
use Rattle.sp_spec.specs.Same.{same_variable}
use Rattle.sp_spec.specs.Destruction.{Destruction, Fork, destructions}
use Rattle.sp_spec.proofs.Lists.{every_parts, member_either}
use Rattle.sp_spec.proofs.Occurrences.{term_each, terms_each}
use Rattle.sp_spec.proofs.Same.{same_variable_decides}
use Rattle.sp_spec.proofs.Values.{valued-valued, valued_all-valued_all}
use Rattle.sp_spec_forms.specs.Numbering.{without_repeats, place}
use Rattle.sp_spec_system.specs.Solutions.{Valuation}
use Rattle.sp_spec_know.specs.Chain.{numbered_from, variables_of}
use Rattle.sp_law_equal.specs.Right.{HaveNoNames}
use Rattle.sp_law_equal.specs.RightTheory.{StandsIn, StandsAmong}
use Rattle.sp_law_forms.specs.Laws.{IsNormalValuation}
use Rattle.sp_law_forms.proofs.Numbered.{back_place, place_below, each_once, at_places, at_places_good, same_valued, same_valued_all}
use Rattle.sp_law_forms.proofs.Whole.{any_variable, without_names}
use Rattle.sp_law_forms.proofs.Repeats.{member_once}
use Rattle.sp_law_formula.proofs.Entries.{beside, beside_new}
use Rattle.sp_law_log.specs.Laws.{StandsInDestruction}
use Rattle.sp_law_log.specs.Ways.{args_with, sides, IsWay}
use Rattle.sp_law_log.proofs.Destructions.{destruction_place}
use Rattle.sp_law_equal.proofs.Made.{each_valued, each_valued_all, each_weaken, each_weaken_all, made_both, all_made_both}
use Rattle.sp_law_system.proofs.Solutions.{Under}

-- ---- what a destruction is made of

module _ (N : Names) (P : Variable → Type 0) where
  joined_made : (ts us : Terms Variable) → AllMadeOf N P ts → AllMadeOf N P us → AllMadeOf N P (joined ts us)
  joined_made none us h k = k
  joined_made (more t ts) us h k = (h.0, joined_made ts us h.1 k)

  joined_parts : (ts us : Terms Variable) → AllMadeOf N P (joined ts us) → AllMadeOf N P ts × AllMadeOf N P us
  joined_parts none us h = (tt, h)
  joined_parts (more t ts) us h = let rest = joined_parts ts us h.1 in ((h.0, rest.0), rest.1)

  fork_made : (t : Term Variable) (f : Fork) → t ≡ app f.symbol (args_with f f.entered) → MadeOf N P t
      → MadeOf N P f.entered × AllMadeOf N P (joined f.front f.back)
  fork_made t f e h =
      let parts = joined_parts f.front (more f.entered f.back) (subst (MadeOf N P) e h) in (parts.1.0, joined_made f.front f.back parts.0 parts.1.1)

  -- so are the term at a fork of a way, and the arguments beside the way down to it
  way_made : (t : Term Variable) (above : List Fork) (f : Fork) (under : List Fork) (r : Term Variable) → IsWay t (above ++ f ∷ under) r → MadeOf N P t
      → MadeOf N P f.entered × AllMadeOf N P (sides (above ++ f ∷ []))
  way_made t [] f under r w h = let parts = fork_made t f w.0 h in (parts.0, joined_made (joined f.front f.back) none parts.1 tt)
  way_made t (a ∷ above) f under r w h =
      let parts = fork_made t a w.0 h in
      let later = way_made a.entered above f under r w.1 parts.0 in
      (later.0, joined_made (joined a.front a.back) (sides (above ++ f ∷ [])) parts.1 later.1)

abbrev MadeAll : Names → (Variable → Type 0) → Destruction → Type 0
MadeAll N P d = MadeOf N P d.pattern × AllMadeOf N P d.sides × MadeOf N P d.result

-- any names will do where the equations have none
destruction_made : (N : Names) (signature : Signature) → HaveNoNames signature.equations → (d : Destruction) → Member d (destructions signature)
    → MadeAll N any_variable d
destruction_made N signature nameless d m =
    let p = destruction_place signature d m in
    let e = p.equation in
    let w = way_made N any_variable e.left p.above p.fork (p.next ∷ p.under) e.right p.way (without_names N e.left (nameless.left e p.is_equation)) in
    subst (MadeAll N any_variable) (sym p.is) (w.0, w.1, without_names N e.right (nameless.right e p.is_equation))

mutual
  occurs_stands : (x : Variable) (t : Term Variable) → Member x (in_term t) → StandsIn x t
  occurs_stands x (var y) (inl e) = e
  occurs_stands x (var y) (inr m) = absurd m
  occurs_stands x (constant c) m = absurd m
  occurs_stands x (name n) m = absurd m
  occurs_stands x (app f ts) m = occur_stand x ts m

  occur_stand : (x : Variable) (ts : Terms Variable) → Member x (in_terms ts) → StandsAmong x ts
  occur_stand x none m = absurd m
  occur_stand x (more t ts) m =
      ⊎_elim (λ k. inl (occurs_stands x t k)) (λ k. inr (occur_stand x ts k)) (member_either x (in_term t) (in_terms ts) m)

-- ---- chosen values of some variables, beside others

abbrev pub chosen : List Variable → Values → Values → Values
chosen [] w base x = base x
chosen (y ∷ ys) w base x = if same_variable y x then w x else chosen ys w base x

chosen_there : (w base : Values) (ys : List Variable) (x : Variable) → Member x ys → chosen ys w base x ≡ w x
chosen_there w base [] x m = absurd m
chosen_there w base (y ∷ ys) x m = at (same_variable y x) refl m (λ k. chosen_there w base ys x k)
  where
    at : (b : Bool) → same_variable y x ≡ b → Member x (y ∷ ys) → (Member x ys → chosen ys w base x ≡ w x) → (if b then w x else chosen ys w base x) ≡ w x
    at true e m later = refl
    at false e (inl k) later = absurd (true≢false (sym ((same_variable_decides y x).1 k) ∙ e))
    at false e (inr k) later = later k

chosen_good : (w base : Values) (P : Variable → Ground → Type 0) → ((x : Variable) → P x (base x)) → (ys : List Variable)
    → ((x : Variable) → Member x ys → P x (w x))
    → (x : Variable) → P x (chosen ys w base x)
chosen_good w base P h [] k x = h x
chosen_good w base P h (y ∷ ys) k x = at (same_variable y x) refl (chosen_good w base P h ys (λ z m. k z (inr m)) x)
  where
    at : (b : Bool) → same_variable y x ≡ b → P x (chosen ys w base x) → P x (if b then w x else chosen ys w base x)
    at true e later = k x (inl ((same_variable_decides y x).0 e))
    at false e later = later

-- ---- at new numbers

module _ (d : Destruction) where
  abbrev occurring : List Variable
  occurring = in_term d.pattern ++ (in_terms d.sides ++ in_term d.result)

  abbrev pub once : List Variable
  once = without_repeats same_variable occurring

  abbrev IsIn : Variable → Type 0
  IsIn x = Member x once

  parts : Every IsIn (in_term d.pattern) × Every IsIn (in_terms d.sides) × Every IsIn (in_term d.result)
  parts =
      let first = every_parts IsIn (in_term d.pattern) (in_terms d.sides ++ in_term d.result) (each_once occurring) in
      let second = every_parts IsIn (in_terms d.sides) (in_term d.result) first.1 in
      (first.0, second.0, second.1)

  -- its terms are made of variables below the new next number
  pub destruction_numbered : (N : Names) (signature : Signature) → HaveNoNames signature.equations → Member d (destructions signature) → (n : ℕ)
      → MadeOf N (Under (n + variables_of d)) (valued (numbered_from n d) d.pattern)
      × AllMadeOf N (Under (n + variables_of d)) (valued_all (numbered_from n d) d.sides)
      × MadeOf N (Under (n + variables_of d)) (valued (numbered_from n d) d.result)
  destruction_numbered N signature nameless m n =
      let made = destruction_made N signature nameless d m in
      let within : (x : Variable) → IsIn x → MadeOf N (Under (n + variables_of d)) (numbered_from n d x) =
      λ x k. let less = place_below once x k in let below : n + place once x < n + length once = omega (arith, less) in below in (
        each_valued N IsIn (Under (n + variables_of d)) (numbered_from n d) within d.pattern
            (made_both N any_names IsIn d.pattern made.0 (term_each IsIn d.pattern parts.0)),
        each_valued_all N IsIn (Under (n + variables_of d)) (numbered_from n d) within d.sides
            (all_made_both N any_names IsIn d.sides made.1 (terms_each IsIn d.sides parts.1)),
        each_valued N IsIn (Under (n + variables_of d)) (numbered_from n d) within d.result
            (made_both N any_names IsIn d.result made.2 (term_each IsIn d.result parts.2)),
      )

  module _ (w base : Values) where
    -- the values of its variables at their places, and the other ones
    abbrev pub at_new : Values
    at_new = at_places once (chosen once w base)

    pub at_new_good : (signature : Signature) → IsNormalValuation signature base → ((x : Variable) → IsIn x → IsValue signature x.sort (w x))
        → ((x : Variable) → IsIn x → IsNormal signature.equations (w x)) → IsNormalValuation signature at_new
    at_new_good signature good sorts are_normal =
        at_places_good signature once (chosen once w base) (
          chosen_good w base (λ x t. IsValue signature x.sort t) good.0 once sorts,
          chosen_good w base (λ x t. IsNormal signature.equations t) good.1 once are_normal,
        )

    module _ (n : ℕ) (v : Valuation) where
      abbrev value : Values
      value = (beside n v at_new).terms

      one_value : (x : Variable) → IsIn x → valued value (numbered_from n d x) ≡ w x
      one_value x m =
          let y : Variable = record { sort = x.sort; number = place once x } in
          beside_new n v at_new y ∙ ap (chosen once w base) (back_place once x y m refl) ∙ chosen_there w base once x m

      term_value : (t : Term Variable) → EachVariable IsIn t → valued value (valued (numbered_from n d) t) ≡ valued w t
      term_value t h =
          valued-valued (numbered_from n d) value t
          ∙ same_valued (λ x. valued value (numbered_from n d x)) w t (each_weaken any_names IsIn (λ x. valued value (numbered_from n d x) ≡ w x) one_value t h)

      -- its terms have the values that they had
      pub pattern_value : valued value (valued (numbered_from n d) d.pattern) ≡ valued w d.pattern
      pattern_value = term_value d.pattern (term_each IsIn d.pattern parts.0)

      pub result_value : valued value (valued (numbered_from n d) d.result) ≡ valued w d.result
      result_value = term_value d.result (term_each IsIn d.result parts.2)

      pub sides_value : valued_all value (valued_all (numbered_from n d) d.sides) ≡ valued_all w d.sides
      sides_value =
          valued_all-valued_all (numbered_from n d) value d.sides
          ∙ same_valued_all (λ x. valued value (numbered_from n d x)) w d.sides
          (each_weaken_all any_names IsIn (λ x. valued value (numbered_from n d x) ≡ w x) one_value d.sides (terms_each IsIn d.sides parts.1))

  -- each of its variables stands in it
  pub once_stands : (x : Variable) → IsIn x → StandsInDestruction x d
  once_stands x m = first (member_either x (in_term d.pattern) (in_terms d.sides ++ in_term d.result) (member_once same_variable x occurring m))
    where
      second : Member x (in_terms d.sides) ⊎ Member x (in_term d.result) → StandsInDestruction x d
      second (inl k) = inr (inl (occur_stand x d.sides k))
      second (inr k) = inr (inr (occurs_stands x d.result k))

      first : Member x (in_term d.pattern) ⊎ Member x (in_terms d.sides ++ in_term d.result) → StandsInDestruction x d
      first (inl k) = inl (occurs_stands x d.pattern k)
      first (inr k) = second (member_either x (in_terms d.sides) (in_term d.result) k)
