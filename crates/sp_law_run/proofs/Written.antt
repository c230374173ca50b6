-- The rules that a text writes have each variable declared at its number, and no two variables of one name.
use Rattle.std.proofs.Common.{◌≡◌, ⊎_elim, ℕ, zero, suc, Bool, true, false, ◌||◌, if◌then◌else◌, List, [], ◌∷◌, ◌++◌, map, inl, inr, refl, sym, ap, subst}
use Rattle.std.proofs.lemmas.Bool.{both_ways}
use Rattle.std.proofs.lemmas.Slice.Eq.{bytes_eq-Decides}
use Rattle.std.specs.Str.{bytes_eq}
use Rattle.sp_spec.specs.Lists.{Member, Every, Distinct, AtPlace}
use Rattle.sp_spec.proofs.Lists.{every_map, member_either, place_map, map-map}
use Rattle.sp_spec.specs.Term.{Variable, Term, var, constant, name, app, Terms, none, more, count, valued, valued_all, any_names, EachVariables}
use Rattle.sp_spec.specs.Signature.{Symbol, HasSymbol}
use Rattle.sp_spec.specs.Rule.{Fact, Action, Facts, Declared, Rule, fact_at, action_at, facts_at, OfArguments}
use Rattle.sp_spec.specs.Formula.{Written}
use Rattle.sp_spec.specs.Written.{WrittenRule, occurrences, is_listed, names_after, rule_names, place_of, numbered_in, sort_in, rule_of}
use Rattle.sp_spec.proofs.Occurrences.{occurrences_each, names_have}
use Rattle.sp_law_equal.proofs.Made.{each_valued_all}
use Rattle.sp_law_equal.specs.Right.{IsTermOver, AreTermsOver, IsDeclared, IsRight, AreRight, RulesAreOver}
use Rattle.sp_spec.proofs.Listed.{listed_member}

distinct_last : (x : List ℕ) (xs : List (List ℕ)) → Distinct xs → (Member x xs → ⊥) → Distinct (xs ++ x ∷ [])
distinct_last x [] d n = ((λ m. m), tt)
distinct_last x (z ∷ xs) d n = (
  λ m. ⊎_elim (λ a. d.0 a) (λ b. ⊎_elim (λ e. n (inl (sym e))) (λ k. k) b) (member_either z xs (x ∷ []) m),
  distinct_last x xs d.1 (λ m. n (inr m)),
)

abbrev seen_then : Bool → List (List ℕ) → Written → List (List ℕ)
seen_then b seen x = if b then seen else seen ++ x.name ∷ []

distinct_then : (b : Bool) (seen : List (List ℕ)) (x : Written) → is_listed x.name seen ≡ b → Distinct seen → Distinct (seen_then b seen x)
distinct_then true seen x e d = d
distinct_then false seen x e d = distinct_last x.name seen d (λ m. both_ways (is_listed x.name seen) e (listed_member x.name seen m))

names_distinct : (seen : List (List ℕ)) (xs : List Written) → Distinct seen → Distinct (names_after seen xs)
names_distinct seen [] d = d
names_distinct seen (x ∷ xs) d = let b = is_listed x.name seen in names_distinct (seen_then b seen x) xs (distinct_then b seen x refl d)

-- a name stands at its place
place_there : (x : List ℕ) (xs : List (List ℕ)) → is_listed x xs ≡ true → AtPlace xs (place_of x xs) x
place_there x [] e = absurd cc
place_there x (z ∷ xs) e = at (bytes_eq z x) (λ h. (bytes_eq-Decides z x).0 h) e (λ h. place_there x xs h)
  where
    at : (b : Bool) → (b ≡ true → z ≡ x) → (b || is_listed x xs) ≡ true → (is_listed x xs ≡ true → AtPlace xs (place_of x xs) x) →
        AtPlace (z ∷ xs) (if b then zero else suc (place_of x xs)) x
    at true h e later = h refl
    at false h e later = later e

-- what holds of the arguments holds of them with terms put for their variables
arguments_valued : (P : Terms Written → Type 0) (Q : Terms Variable → Type 0) (v : Written → Term Variable) → ((ts : Terms Written) → P ts → Q (valued_all v ts)) →
    (facts : Facts Written) → OfArguments P facts → OfArguments Q (facts_at v facts)
arguments_valued P Q v h facts k = record {
  premises = every_map (λ (f : Fact Written). P f.args) (λ (f : Fact Variable). Q f.args) (fact_at v) (λ f p. h f.args p) facts.premises k.premises;
  actions = every_map (λ (a : Action Written). P a.args) (λ (a : Action Variable). Q a.args) (action_at v) (λ a p. h a.args p) facts.actions k.actions;
  conclusions = every_map (λ (f : Fact Written). P f.args) (λ (f : Fact Variable). Q f.args) (fact_at v) (λ f p. h f.args p) facts.conclusions k.conclusions;
}

rule_right : (r : WrittenRule) → IsRight (rule_of r)
rule_right r =
    let listed = rule_names r.facts in
    let declared : List ℕ → Declared = λ x. record { name = x; sort = sort_in r.facts x } in
    let IsListed : Written → Type 0 = λ y. is_listed y.name listed ≡ true in
    let names_again : map (λ (d : Declared). d.name) (map declared listed) ≡ listed = same_names declared listed (λ x. refl) in
    record {
      declared = arguments_valued (EachVariables IsListed) (EachVariables (IsDeclared (map declared listed))) (numbered_in r.facts)
          (each_valued_all any_names IsListed (IsDeclared (map declared listed)) (numbered_in r.facts)
          (λ y h. (declared y.name, place_map declared listed (place_of y.name listed) y.name (place_there y.name listed h), refl)))
          r.facts (occurrences_each IsListed r.facts (names_have [] (occurrences r.facts)));
      distinct = subst (λ (xs : List (List ℕ)). Distinct xs) (sym names_again) (names_distinct [] (occurrences r.facts) tt);
    }
  where
    same_names : (f : List ℕ → Declared) (xs : List (List ℕ)) → ((x : List ℕ) → (f x).name ≡ x) → map (λ (d : Declared). d.name) (map f xs) ≡ xs
    same_names f [] h = refl
    same_names f (x ∷ xs) h = let first = h x in let rest = same_names f xs h in cc

rules_each : (rules : List WrittenRule) → Every IsRight (map rule_of rules)
rules_each [] = tt
rules_each (r ∷ rules) = (rule_right r, rules_each rules)

pub rules_right : (rules : List WrittenRule) → Distinct (map (λ (r : WrittenRule). r.name) rules) → AreRight (map rule_of rules)
rules_right rules d = record {
  each = rules_each rules;
  distinct = subst (λ (xs : List (List ℕ)). Distinct xs) (sym (map-map rule_of (λ (r : Rule). r.name) rules)) d;
}

-- the symbols stay where variables are numbered
module _ (symbols : List Symbol) (facts : Facts Written) where
  abbrev at : Written → Term Variable
  at x = numbered_in facts x

  count_numbered : (ts : Terms Written) → count (valued_all at ts) ≡ count ts
  count_numbered none = refl
  count_numbered (more t ts) = ap suc (count_numbered ts)

  mutual
    numbered_over : (t : Term Written) → IsTermOver symbols t → IsTermOver symbols (valued at t)
    numbered_over (var x) h = tt
    numbered_over (constant c) h = tt
    numbered_over (name n) h = tt
    numbered_over (app f ts) h = (subst (λ (k : ℕ). HasSymbol symbols f k) (sym (count_numbered ts)) h.0, numbered_all_over ts h.1)

    numbered_all_over : (ts : Terms Written) → AreTermsOver symbols ts → AreTermsOver symbols (valued_all at ts)
    numbered_all_over none h = tt
    numbered_all_over (more t ts) h = (numbered_over t h.0, numbered_all_over ts h.1)

pub rules_over : (symbols : List Symbol) (rules : List WrittenRule) → Every (λ (r : WrittenRule). OfArguments (AreTermsOver symbols) r.facts) rules →
    RulesAreOver symbols (map rule_of rules)
rules_over symbols rules h = record {
  each = every_map (λ (r : WrittenRule). OfArguments (AreTermsOver symbols) r.facts) (λ (r : Rule). OfArguments (AreTermsOver symbols) r.facts) rule_of
      (λ r k. arguments_valued (AreTermsOver symbols) (AreTermsOver symbols) (numbered_in r.facts) (numbered_all_over symbols r.facts) r.facts k) rules h;
}
