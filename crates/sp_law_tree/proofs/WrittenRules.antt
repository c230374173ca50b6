-- A written rule of a basic theory stands for a rule whose variables are numbered.
use Rattle.std.proofs.Common.{◌≡◌, ◌<◌, ℕ, zero, suc, Bool, true, false, ◌||◌, if◌then◌else◌, List, [], ◌∷◌, ◌++◌, map, length, sym, subst, arith, bytes_eq}
use Rattle.sp_spec.specs.Lists.{Every}
use Rattle.sp_spec.specs.Signature.{Signature}
use Rattle.sp_spec.specs.Rule.{Declared, FactsMadeOf}
use Rattle.sp_spec.specs.Formula.{Written}
use Rattle.sp_spec.specs.Theory.{signature_of}
use Rattle.sp_spec.specs.Written.{WrittenRule, occurrences, is_listed, rule_names, place_of, numbered_in, sort_in, rule_of, theory_of}
use Rattle.sp_spec.proofs.Occurrences.{occurrences_each, names_have}
use Rattle.sp_spec.proofs.Lists.{every_weaken, every_parts, length_map}
use Rattle.sp_law_equal.proofs.Made.{facts_valued}
use Rattle.sp_law_system.specs.Rules.{RulesAreNumbered}
use Rattle.sp_spec.specs.Constants.{in_facts, in_actions, in_rule, constants_of}
use Rattle.sp_spec_system.specs.Numbered.{names_in}
use Rattle.sp_law_tree.specs.Laws.{NamesStand}
use Rattle.sp_law_tree.proofs.Listed.{AreListed, facts_made, actions_made, rules_listed, restriction_has_names, lemma_has_names}
use Rattle.sp_law_basic.specs.BasicTheory.{IsBasicRule}

place_under : (x : List ℕ) (xs : List (List ℕ)) → is_listed x xs ≡ true → place_of x xs < length xs
place_under x [] e = absurd cc
place_under x (z ∷ xs) e = at (bytes_eq z x) e (λ h. place_under x xs h)
  where
    at : (b : Bool) → (b || is_listed x xs) ≡ true → (is_listed x xs ≡ true → place_of x xs < length xs) → (if b then zero else suc (place_of x xs)) < suc (length xs)
    at true h later = omega arith
    at false h later = let l = later h in omega (arith, l)

-- the variables are numbered, and the names listed
rule_numbered : (signature : Signature) (listed : List (List ℕ)) (r : WrittenRule) → IsBasicRule signature r → AreListed listed (in_rule r) → FactsMadeOf (names_in listed) (λ x. x.number < length (rule_of r).variables) (rule_of r).facts
rule_numbered signature listed r basic stand =
    let names = rule_names r.facts in
    let declared : List ℕ → Declared = λ x. record { name = x; sort = sort_in r.facts x } in
    let IsNamed : Written → Type 0 = λ y. is_listed y.name names ≡ true in
    let first = every_parts _ (in_facts r.facts.premises) (in_actions r.facts.actions ++ in_facts r.facts.conclusions) stand in
    let second = every_parts _ (in_actions r.facts.actions) (in_facts r.facts.conclusions) first.1 in
    let each = occurrences_each IsNamed r.facts (names_have [] (occurrences r.facts)) in
    facts_valued (names_in listed) IsNamed (λ x. x.number < length (map declared names)) (numbered_in r.facts)
    (λ y h. subst (λ (n : ℕ). place_of y.name names < n) (sym (length_map declared names)) (place_under y.name names h))
    r.facts (record {
      premises = facts_made listed IsNamed r.facts.premises (every_weaken _ _ (λ f k. k.1) r.facts.premises basic.premises) first.0 each.premises;
      actions = actions_made listed IsNamed r.facts.actions (every_weaken _ _ (λ a k. k.1) r.facts.actions basic.actions) second.0 each.actions;
      conclusions = facts_made listed IsNamed r.facts.conclusions (every_weaken _ _ (λ f k. k.1) r.facts.conclusions basic.conclusions) second.1 each.conclusions;
    })

each_numbered : (signature : Signature) (listed : List (List ℕ)) (rs : List WrittenRule) → Every (IsBasicRule signature) rs → Every (λ (r : WrittenRule). AreListed listed (in_rule r)) rs
    → RulesAreNumbered (names_in listed) (map rule_of rs)
each_numbered signature listed [] p k = tt
each_numbered signature listed (r ∷ rs) p k = (rule_numbered signature listed r p.0 k.0, each_numbered signature listed rs p.1 k.1)

pub names_stand_lem : NamesStand
names_stand_lem = record {
  rules = λ theory basic. each_numbered (signature_of (theory_of theory)) (constants_of theory) theory.rules basic (rules_listed theory);
  restrictions = restriction_has_names;
  lemmas = lemma_has_names;
}
