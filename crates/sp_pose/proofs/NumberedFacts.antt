-- What a rule's variables are numbered by is their numbering in the whole rule.
use Rattle.std.proofs.Common.{◌≡◌, ℕ, Bool, true, false, ◌||◌, if◌then◌else◌, List, [], ◌∷◌, map, refl, ap, ◌∙◌}
use Rattle.std.proofs.lemmas.Slice.Eq.{bytes_eq-Decides}
use Rattle.std.specs.Str.{bytes_eq}
use Rattle.sp_spec.specs.Lists.{Every, is_listed}
use Rattle.sp_spec.specs.Term.{Sort, Term, var, constant, name, app, Terms, none, more, Variable, valued, valued_all, EachVariable, EachVariables}
use Rattle.sp_spec.specs.Rule.{Fact, Action, Facts, InFacts, facts_at, fact_at, action_at}
use Rattle.sp_spec.specs.Rule as spec
use Rattle.sp_spec.specs.Formula.{Written}
use Rattle.sp_spec.specs.Written.{occurrences, rule_names, sort_in, place_of, numbered_in, WrittenRule, rule_of}
use Rattle.sp_spec.proofs.Lists.{every_weaken, map_each}
use Rattle.sp_spec.proofs.Occurrences.{names_have, occurrences_each}
use Rattle.sp_pose.specs.Numbering.{declared_in, sort_among, numbered_by}

-- ---- values that are the same for each variable

module _ {V W : Type 0} (v w : V → Term W) where
  mutual
    same_valued : (t : Term V) → EachVariable (λ x. v x ≡ w x) t → valued v t ≡ valued w t
    same_valued (var x) h = h
    same_valued (constant c) h = refl
    same_valued (name n) h = refl
    same_valued (app f ts) h = ap (app f) (same_valued_all ts h)

    same_valued_all : (ts : Terms V) → EachVariables (λ x. v x ≡ w x) ts → valued_all v ts ≡ valued_all w ts
    same_valued_all none h = refl
    same_valued_all (more t ts) h = ap (λ (u : Term W). more u (valued_all v ts)) (same_valued t h.0) ∙ ap (more (valued w t)) (same_valued_all ts h.1)

abbrev made_fact : {W : Type 0} → List ℕ → Bool → Terms W → Fact W
made_fact f persistent args = record { symbol = f; persistent = persistent; args = args }

abbrev made_action : {W : Type 0} → List ℕ → Terms W → Action W
made_action f args = record { symbol = f; args = args }

abbrev made_facts : {W : Type 0} → List (Fact W) → List (Action W) → List (Fact W) → Facts W
made_facts premises actions conclusions = record { premises = premises; actions = actions; conclusions = conclusions }

module _ {V W : Type 0} (v w : V → Term W) where
  facts_same : (fs : List (Fact V)) → Every (λ (f : Fact V). EachVariables (λ x. v x ≡ w x) f.args) fs → map (fact_at v) fs ≡ map (fact_at w) fs
  facts_same fs h =
      map_each (fact_at v) (fact_at w) fs
      (every_weaken (λ (f : Fact V). EachVariables (λ x. v x ≡ w x) f.args) (λ (f : Fact V). fact_at v f ≡ fact_at w f) (λ f k. ap (made_fact f.symbol f.persistent) (same_valued_all v w f.args k)) fs h)

  actions_same : (as' : List (Action V)) → Every (λ (a : Action V). EachVariables (λ x. v x ≡ w x) a.args) as' → map (action_at v) as' ≡ map (action_at w) as'
  actions_same as' h =
      map_each (action_at v) (action_at w) as'
      (every_weaken (λ (a : Action V). EachVariables (λ x. v x ≡ w x) a.args) (λ (a : Action V). action_at v a ≡ action_at w a) (λ a k. ap (made_action a.symbol) (same_valued_all v w a.args k)) as' h)

  same_at : (facts : Facts V) → InFacts (λ x. v x ≡ w x) facts → facts_at v facts ≡ facts_at w facts
  same_at facts h =
      ap (λ (fs : List (Fact W)). made_facts fs (map (action_at v) facts.actions) (map (fact_at v) facts.conclusions)) (facts_same facts.premises h.premises)
      ∙ (ap (λ (as' : List (Action W)). made_facts (map (fact_at w) facts.premises) as' (map (fact_at v) facts.conclusions)) (actions_same facts.actions h.actions)
      ∙ ap (made_facts (map (fact_at w) facts.premises) (map (action_at w) facts.actions)) (facts_same facts.conclusions h.conclusions))

-- ---- sorts

sort_there : (facts : Facts Written) (x : List ℕ) (names : List (List ℕ)) → is_listed x names ≡ true → sort_among x (map (declared_in facts) names) ≡ sort_in facts x
sort_there facts x [] e = absurd cc
sort_there facts x (y ∷ names) e = at (bytes_eq y x) refl e (λ k. sort_there facts x names k)
  where
    at : (b : Bool) → bytes_eq y x ≡ b → (b || is_listed x names) ≡ true → (is_listed x names ≡ true → sort_among x (map (declared_in facts) names) ≡ sort_in facts x)
        → (if b then sort_in facts y else sort_among x (map (declared_in facts) names)) ≡ sort_in facts x
    at true is k later = ap (sort_in facts) ((bytes_eq-Decides y x).0 is)
    at false is k later = later k

abbrev numbered_at : ℕ → Sort → Term Variable
numbered_at number sort = var (record { sort = sort; number = number })

each_numbered : (facts : Facts Written) → Every (λ (x : Written). numbered_by (rule_names facts) (map (declared_in facts) (rule_names facts)) x ≡ numbered_in facts x) (occurrences facts)
each_numbered facts =
    every_weaken (λ (x : Written). is_listed x.name (rule_names facts) ≡ true) (λ (x : Written). numbered_by (rule_names facts) (map (declared_in facts) (rule_names facts)) x ≡ numbered_in facts x)
    (λ x k. ap (numbered_at (place_of x.name (rule_names facts))) (sort_there facts x.name (rule_names facts) k))
    (occurrences facts) (names_have [] (occurrences facts))

numbered_facts : (facts : Facts Written) (names : List (List ℕ)) (ds : List spec.Declared) → names ≡ rule_names facts → ds ≡ map (declared_in facts) names
    → facts_at (numbered_by names ds) facts ≡ facts_at (numbered_in facts) facts
numbered_facts facts names ds e d =
    ap (λ (es : List spec.Declared). facts_at (numbered_by names es) facts) d
    ∙ (ap (λ (ns : List (List ℕ)). facts_at (numbered_by ns (map (declared_in facts) ns)) facts) e
    ∙ same_at (numbered_by (rule_names facts) (map (declared_in facts) (rule_names facts))) (numbered_in facts) facts (occurrences_each (λ x. numbered_by (rule_names facts) (map (declared_in facts) (rule_names facts)) x ≡ numbered_in facts x) facts (each_numbered facts)))

-- ---- the whole rule

abbrev pub made_rule : List ℕ → List spec.Declared → Facts Variable → spec.Rule
made_rule x ds facts = record { name = x; variables = ds; facts = facts }

pub numbered_rule : (r : WrittenRule) (x : List ℕ) (names : List (List ℕ)) (ds : List spec.Declared) (facts : Facts Variable) → x ≡ r.name → names ≡ rule_names r.facts → ds ≡ map (declared_in r.facts) names
    → facts ≡ facts_at (numbered_by names ds) r.facts → made_rule x ds facts ≡ rule_of r
numbered_rule r x names ds facts named e d f =
    ap (λ (y : List ℕ). made_rule y ds facts) named
    ∙ (ap (λ (es : List spec.Declared). made_rule r.name es facts) (d ∙ ap (map (declared_in r.facts)) e)
    ∙ ap (made_rule r.name (map (declared_in r.facts) (rule_names r.facts))) (f ∙ numbered_facts r.facts names ds e d))
