-- A written rule of a basic theory without findings stands for a right one: what is in its actions and conclusions is public or stands in its premises, each Fr is
-- of a variable of sort fresh, and no fact stands where it is reserved.
use Rattle.std.proofs.Common.{◌≡◌, ◌⊎◌, ℕ, Bool, true, false, not, ◌&&◌, ◌||◌, List, [], ◌∷◌, ◌++◌, map, codes, refl, sym, ap, inl, inr, bytes_eq, ⊎_elim}
use Rattle.std.proofs.lemmas.Bool.{or_cases, or_left, or_right, or_parts}
use Rattle.std.proofs.lemmas.Slice.Eq.{bytes_eq-Decides}
use Rattle.sp_spec.specs.Lists.{Member, Every}
use Rattle.sp_spec.specs.Term.{any_names, AllMadeOf, Sort, Msg, Fresh, Pub, Variable, Term, var, constant, name, app, Terms, none, more, valued, valued_all, EachVariables}
use Rattle.sp_spec.specs.Signature.{Signature}
use Rattle.sp_spec.specs.Rule.{Fact, Action, Facts, Rule, fact_at, action_at}
use Rattle.sp_spec.specs.Formula.{Written}
use Rattle.sp_spec.specs.Written.{WrittenRule, in_term, in_terms, in_facts, in_actions, occurrences, rule_names, place_of, numbered_in, sort_in, rule_of}
use Rattle.sp_spec.specs.Findings.{has_wide_fact, has_wide_action, has_two_sorts, is_misused, is_no_premise, is_no_action, is_no_conclusion, is_wrong_premise, is_wrong_conclusion, has_wrong_premise, has_wrong_action, has_wrong_conclusion, has_wrong_argument, is_pub, is_named, has_unbound, rule_is_wrong}
use Rattle.sp_spec.proofs.Lists.{every_both, every_map, every_weaken}
use Rattle.sp_law_basic.specs.BasicTheory.{IsBasicRule}
use Rattle.sp_spec.proofs.Occurrences.{facts_each, actions_each}
use Rattle.sp_law_basic.proofs.FreshRules.{fresh_premises}
use Rattle.sp_law_equal.proofs.Made.{each_valued_all, all_made_both}
use Rattle.sp_law_equal.proofs.Pairs.{names_apart}
use Rattle.sp_law_equal.specs.RightTheory.{TakesFreshNames, MakesNoFr, LeavesReserved, AreBound, BindsActions, BindsConclusions, StandsIn, StandsAmong, HasVariable, no_fresh_names}

-- ---- what is named in facts stands in them

named_parts : (x : List ℕ) (xs ys : List Written) → is_named x (xs ++ ys) ≡ true → (is_named x xs ≡ true) ⊎ (is_named x ys ≡ true)
named_parts x [] ys e = inr e
named_parts x (z ∷ xs) ys e =
    ⊎_elim (λ h. inl (or_left (bytes_eq z.name x) (is_named x xs) h))
    (λ h. ⊎_elim (λ k. inl (or_right (bytes_eq z.name x) (is_named x xs) k)) (λ k. inr k) (named_parts x xs ys h))
    (or_cases (bytes_eq z.name x) (is_named x (xs ++ ys)) e)

-- the variable for which a name stands
abbrev variable_of : Facts Written → List ℕ → Variable
variable_of facts x = record { sort = sort_in facts x; number = place_of x (rule_names facts) }

or_false : (b : Bool) → (b || false) ≡ true → b ≡ true
or_false true e = refl
or_false false e = e

module _ (facts : Facts Written) (x : List ℕ) where
  mutual
    named_in : (t : Term Written) → is_named x (in_term t) ≡ true → StandsIn (variable_of facts x) (valued (numbered_in facts) t)
    named_in (var y) e = ap (variable_of facts) ((bytes_eq-Decides y.name x).0 (or_false (bytes_eq y.name x) e))
    named_in (constant c) e = absurd cc
    named_in (name n) e = absurd cc
    named_in (app f ts) e = named_among ts e

    named_among : (ts : Terms Written) → is_named x (in_terms ts) ≡ true → StandsAmong (variable_of facts x) (valued_all (numbered_in facts) ts)
    named_among none e = absurd cc
    named_among (more t ts) e = ⊎_elim (λ h. inl (named_in t h)) (λ h. inr (named_among ts h)) (named_parts x (in_term t) (in_terms ts) e)

  named_has : (fs : List (Fact Written)) → is_named x (in_facts fs) ≡ true → HasVariable (variable_of facts x) (map (fact_at (numbered_in facts)) fs)
  named_has [] e = absurd cc
  named_has (f ∷ fs) e = ⊎_elim (λ h. inl (named_among f.args h)) (λ h. inr (named_has fs h)) (named_parts x (in_terms f.args) (in_facts fs) e)

-- ---- what isn't unbound stands in a premise

abbrev IsBound : Facts Written → Variable → Type 0
IsBound facts x = (x.sort ≡ Pub → ⊥) → HasVariable x (map (fact_at (numbered_in facts)) facts.premises)

pub_sort : (s : Sort) → is_pub s ≡ true → s ≡ Pub
pub_sort Pub e = refl
pub_sort Msg e = absurd cc
pub_sort Fresh e = absurd cc

either_true : (a b : Bool) → (not a && not b) ≡ false → (a ≡ true → ⊥) → b ≡ true
either_true true b e h = absurd (h refl)
either_true false true e h = refl
either_true false false e h = absurd cc

bound_each : (facts : Facts Written) (xs : List Written) → has_unbound facts xs ≡ false → Every (λ (x : Written). IsBound facts (variable_of facts x.name)) xs
bound_each facts [] e = tt
bound_each facts (x ∷ xs) e =
    let named = is_named x.name (in_facts facts.premises) in
    let both = or_parts (not (is_pub (sort_in facts x.name)) && not named) (has_unbound facts xs) e in (
      λ h. named_has facts x.name facts.premises (either_true (is_pub (sort_in facts x.name)) named both.0 (λ k. h (pub_sort (sort_in facts x.name) k))),
      bound_each facts xs both.1,
    )

module _ (facts : Facts Written) where
  abbrev IsBoundName : Written → Type 0
  IsBoundName x = IsBound facts (variable_of facts x.name)

  abbrev AreBoundIn : Terms Written → Type 0
  AreBoundIn ts = AreBound (map (fact_at (numbered_in facts)) facts.premises) (valued_all (numbered_in facts) ts)

  arguments_bound : (ts : Terms Written) → AllMadeOf no_fresh_names (λ x. Unit {0}) ts → EachVariables IsBoundName ts → AreBoundIn ts
  arguments_bound ts a h =
      each_valued_all no_fresh_names IsBoundName (IsBound facts) (numbered_in facts) (λ x k. k) ts (all_made_both no_fresh_names any_names IsBoundName ts a h)

  conclusions_bound : (fs : List (Fact Written)) → Every (λ (f : Fact Written). AllMadeOf no_fresh_names (λ x. Unit {0}) f.args) fs → has_unbound facts (in_facts fs) ≡ false
      → Every (λ (f : Fact Written). AreBoundIn f.args) fs
  conclusions_bound fs p e = every_both _ _ _ (λ f a h. arguments_bound f.args a h) fs p (facts_each IsBoundName fs (bound_each facts (in_facts fs) e))

  actions_bound : (xs : List (Action Written)) → Every (λ (a : Action Written). AllMadeOf no_fresh_names (λ x. Unit {0}) a.args) xs → has_unbound facts (in_actions xs) ≡ false
      → Every (λ (a : Action Written). AreBoundIn a.args) xs
  actions_bound xs p e = every_both _ _ _ (λ x a h. arguments_bound x.args a h) xs p (actions_each IsBoundName xs (bound_each facts (in_actions xs) e))

-- ---- rules

-- what is no finding of a rule
record HasNone (r : WrittenRule) : Type 0 where
  premises : has_wrong_premise r.facts.premises ≡ false
  actions : has_wrong_action r.facts.actions ≡ false
  conclusions : has_wrong_conclusion r.facts.conclusions ≡ false
  arguments : has_wrong_argument r.facts.premises ≡ false
  bound_actions : has_unbound r.facts (in_actions r.facts.actions) ≡ false
  bound : has_unbound r.facts (in_facts r.facts.conclusions) ≡ false

has_none : (r : WrittenRule) → rule_is_wrong r ≡ false → HasNone r
has_none r e =
    let wide = or_parts (has_wide_fact r.facts.premises || (has_wide_action r.facts.actions || has_wide_fact r.facts.conclusions)) _ e in
    let sorts = or_parts (has_two_sorts r.facts (occurrences r.facts)) _ wide.1 in
    let premises = or_parts (has_wrong_premise r.facts.premises) _ sorts.1 in
    let actions = or_parts (has_wrong_action r.facts.actions) _ premises.1 in
    let conclusions = or_parts (has_wrong_conclusion r.facts.conclusions) _ actions.1 in
    let arguments = or_parts (has_wrong_argument r.facts.premises) _ conclusions.1 in
    let bound = or_parts (has_unbound r.facts (in_actions r.facts.actions)) _ arguments.1 in
    record { premises = premises.0; actions = actions.0; conclusions = conclusions.0; arguments = arguments.0; bound_actions = bound.0; bound = bound.1 }

-- what is right of the rule that a written rule stands for
pub record IsRightRule (r : Rule) : Type 0 where
  pub fresh : TakesFreshNames r
  pub makes_no_fr : MakesNoFr r
  pub reserved : LeavesReserved r
  pub bound : BindsConclusions r
  pub bound_actions : BindsActions r

-- ---- reserved names

four_false : (a b c d : Bool) → (a || b || c || d) ≡ false → (a ≡ false) × ((b ≡ false) × (c ≡ false))
four_false a b c d e =
    let p = or_parts (a || b || c) d e in
    let q = or_parts (a || b) c p.0 in
    let r = or_parts a b q.0 in
    (r.0, (r.1, q.1))

no_premise : (w : List ℕ) → is_no_premise w ≡ false → Member w (codes "Out" ∷ codes "K" ∷ []) → ⊥
unfolding is_no_premise
no_premise w e m =
    let parts = four_false (bytes_eq w (codes "Out")) (bytes_eq w (codes "K")) (bytes_eq w (codes "KU")) (bytes_eq w (codes "KD")) e in
    ⊎_elim (λ h. names_apart w (codes "Out") parts.0 (sym h)) (λ k. ⊎_elim (λ h. names_apart w (codes "K") parts.1.0 (sym h)) (λ never. never) k) m

no_action : (w : List ℕ) → is_no_action w ≡ false → Member w (codes "K" ∷ codes "KU" ∷ []) → ⊥
unfolding is_no_action
no_action w e m =
    let p = or_parts (bytes_eq w (codes "K") || bytes_eq w (codes "KU")) (bytes_eq w (codes "KD")) e in
    let q = or_parts (bytes_eq w (codes "K")) (bytes_eq w (codes "KU")) p.0 in
    ⊎_elim (λ h. names_apart w (codes "K") q.0 (sym h)) (λ k. ⊎_elim (λ h. names_apart w (codes "KU") q.1 (sym h)) (λ never. never) k) m

no_conclusion : (w : List ℕ) → is_no_conclusion w ≡ false → Member w (codes "In" ∷ codes "Fr" ∷ codes "K" ∷ []) → ⊥
unfolding is_no_conclusion
no_conclusion w e m =
    let p = or_parts (bytes_eq w (codes "In") || bytes_eq w (codes "Fr") || bytes_eq w (codes "K") || bytes_eq w (codes "KU")) (bytes_eq w (codes "KD")) e in
    let parts = four_false (bytes_eq w (codes "In")) (bytes_eq w (codes "Fr")) (bytes_eq w (codes "K")) (bytes_eq w (codes "KU")) p.0 in
    ⊎_elim (λ h. names_apart w (codes "In") parts.0 (sym h)) (λ k. ⊎_elim (λ h. names_apart w (codes "Fr") parts.1.0 (sym h)) (λ l. ⊎_elim (λ h. names_apart w (codes "K") parts.1.1 (sym h)) (λ never. never) l) k) m

premises_reserved : (fs : List (Fact Written)) → has_wrong_premise fs ≡ false → Every (λ (f : Fact Written). Member f.symbol (codes "Out" ∷ codes "K" ∷ []) → ⊥) fs
premises_reserved [] e = tt
premises_reserved (f ∷ fs) e =
    let both = or_parts (is_wrong_premise f) (has_wrong_premise fs) e in
    (no_premise f.symbol (or_parts (is_no_premise f.symbol) (is_misused f) both.0).0, premises_reserved fs both.1)

actions_reserved : (xs : List (Action Written)) → has_wrong_action xs ≡ false → Every (λ (a : Action Written). Member a.symbol (codes "K" ∷ codes "KU" ∷ []) → ⊥) xs
actions_reserved [] e = tt
actions_reserved (a ∷ xs) e =
    let both = or_parts (is_no_action a.symbol) (has_wrong_action xs) e in
    (no_action a.symbol both.0, actions_reserved xs both.1)

conclusions_reserved : (fs : List (Fact Written)) → has_wrong_conclusion fs ≡ false
    → Every (λ (f : Fact Written). Member f.symbol (codes "In" ∷ codes "Fr" ∷ codes "K" ∷ []) → ⊥) fs
conclusions_reserved [] e = tt
conclusions_reserved (f ∷ fs) e =
    let both = or_parts (is_wrong_conclusion f) (has_wrong_conclusion fs) e in
    (no_conclusion f.symbol (or_parts (is_no_conclusion f.symbol) (is_misused f) both.0).0, conclusions_reserved fs both.1)

rule_reserved : (r : WrittenRule) → HasNone r → LeavesReserved (rule_of r)
rule_reserved r h = record {
  premises = every_map _ _ (fact_at (numbered_in r.facts)) (λ f k. k) r.facts.premises (premises_reserved r.facts.premises h.premises);
  actions = every_map _ _ (action_at (numbered_in r.facts)) (λ a k. k) r.facts.actions (actions_reserved r.facts.actions h.actions);
  conclusions = every_map _ _ (fact_at (numbered_in r.facts)) (λ f k. k) r.facts.conclusions (conclusions_reserved r.facts.conclusions h.conclusions);
}

no_fr : (r : Rule) → LeavesReserved r → MakesNoFr r
no_fr r h = every_weaken _ _ (λ f out k. out (inr (inl (sym k)))) r.facts.conclusions h.conclusions

rule_right : (signature : Signature) (r : WrittenRule) → IsBasicRule signature r → rule_is_wrong r ≡ false → IsRightRule (rule_of r)
rule_right signature r p e =
    let clean = has_none r e in
    let reserved = rule_reserved r clean in
    record {
      fresh = fresh_premises r.facts r.facts.premises (λ f m. m) clean.premises clean.arguments;
      makes_no_fr = no_fr (rule_of r) reserved;
      reserved = reserved;
      bound = every_map (λ (f : Fact Written). AreBoundIn r.facts f.args) (λ (f : Fact Variable). AreBound (rule_of r).facts.premises f.args) (fact_at (numbered_in r.facts)) (λ f k. k) r.facts.conclusions
          (conclusions_bound r.facts r.facts.conclusions (every_weaken _ _ (λ f k. k.1) r.facts.conclusions p.conclusions) clean.bound);
      bound_actions = every_map (λ (a : Action Written). AreBoundIn r.facts a.args) (λ (a : Action Variable). AreBound (rule_of r).facts.premises a.args) (action_at (numbered_in r.facts)) (λ a k. k) r.facts.actions
          (actions_bound r.facts r.facts.actions (every_weaken _ _ (λ a k. k.1) r.facts.actions p.actions) clean.bound_actions);
    }

pub each_right : (signature : Signature) (rs : List WrittenRule) → Every (IsBasicRule signature) rs → Every (λ (r : WrittenRule). rule_is_wrong r ≡ false) rs
    → Every IsRightRule (map rule_of rs)
each_right signature [] p e = tt
each_right signature (r ∷ rs) p e = (rule_right signature r p.0 e.0, each_right signature rs p.1 e.1)
