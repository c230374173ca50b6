-- What holds of each variable as it stands in facts.
use Rattle.std.proofs.Common.{◌≡◌, ℕ, true, if◌then◌else◌, List, [], ◌∷◌, ◌++◌, refl}
use Rattle.sp_spec.specs.Lists.{Every, is_listed}
use Rattle.sp_spec.specs.Term.{Term, var, constant, name, app, Terms, none, more, in_term, in_terms, EachVariable, EachVariables}
use Rattle.sp_spec.specs.Rule.{Fact, Action, Facts, in_facts, in_actions, occurrences, InFacts}
use Rattle.sp_spec.specs.Formula.{Written}
use Rattle.sp_spec.specs.Written.{names_after}
use Rattle.sp_spec.proofs.Lists.{every_parts}
use Rattle.sp_spec.proofs.Listed.{listed_then, listed_now}

module _ {V : Type 0} (P : V → Type 0) where
  mutual
    pub term_each : (t : Term V) → Every P (in_term t) → EachVariable P t
    term_each (var x) h = h.0
    term_each (constant c) h = tt
    term_each (name n) h = tt
    term_each (app f ts) h = terms_each ts h

    pub terms_each : (ts : Terms V) → Every P (in_terms ts) → EachVariables P ts
    terms_each none h = tt
    terms_each (more t ts) h = let both = every_parts P (in_term t) (in_terms ts) h in (term_each t both.0, terms_each ts both.1)

  pub facts_each : (fs : List (Fact V)) → Every P (in_facts fs) → Every (λ (f : Fact V). EachVariables P f.args) fs
  facts_each [] h = tt
  facts_each (f ∷ fs) h = let both = every_parts P (in_terms f.args) (in_facts fs) h in (terms_each f.args both.0, facts_each fs both.1)

  pub actions_each : (xs : List (Action V)) → Every P (in_actions xs) → Every (λ (a : Action V). EachVariables P a.args) xs
  actions_each [] h = tt
  actions_each (a ∷ xs) h = let both = every_parts P (in_terms a.args) (in_actions xs) h in (terms_each a.args both.0, actions_each xs both.1)

  pub occurrences_each : (facts : Facts V) → Every P (occurrences facts) → InFacts P facts
  occurrences_each facts h =
      let first = every_parts P (in_facts facts.premises) (in_actions facts.actions ++ in_facts facts.conclusions) h in
      let second = every_parts P (in_actions facts.actions) (in_facts facts.conclusions) first.1 in
      record {
        premises = facts_each facts.premises first.0;
        actions = actions_each facts.actions second.0;
        conclusions = facts_each facts.conclusions second.1;
      }

-- ---- the names of variables, each once

pub names_keep : (y : List ℕ) (seen : List (List ℕ)) (xs : List Written) → is_listed y seen ≡ true → is_listed y (names_after seen xs) ≡ true
names_keep y seen [] e = e
names_keep y seen (x ∷ xs) e =
    let b = is_listed x.name seen in names_keep y (if b then seen else seen ++ x.name ∷ []) xs (listed_then b y x.name seen e)

pub names_have : (seen : List (List ℕ)) (xs : List Written) → Every (λ (x : Written). is_listed x.name (names_after seen xs) ≡ true) xs
names_have seen [] = tt
names_have seen (x ∷ xs) =
    let b = is_listed x.name seen in
    let now = if b then seen else seen ++ x.name ∷ [] in
    (names_keep x.name now xs (listed_now b x.name seen refl), names_have now xs)
