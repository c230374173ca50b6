-- Where values stand for bound names, the rules as they are written are all rules.
use Rattle.std.proofs.Common.{◌≡◌, List, [], ◌∷◌, ◌++◌, map, refl, ap}
use Rattle.sp_spec.specs.Signature.{Symbol}
use Rattle.sp_spec.specs.Written.{WrittenRule}
use Rattle.sp_spec_text.specs.Bindings.{with_values}
use Rattle.sp_spec_text.specs.Written.{Item, builtins_item, functions_item, equations_item, heuristic_item, block_item, rule_item, restriction_item, lemma_item, item_rules, rules_in, WrittenText}
use Rattle.sp_spec_text.specs.Declared.{all_symbols, resolved_rule, resolved_item, resolved}
use Rattle.sp_declared.specs.WrittenRules.{item_written, rules_written}

-- of an item, and of all of them
pub item_all : (symbols : List Symbol) (x : Item) → item_written (resolved_item symbols x) ≡ item_rules (resolved_item symbols x)
item_all symbols (builtins_item bs) = refl
item_all symbols (functions_item ss) = refl
item_all symbols (equations_item es) = refl
item_all symbols (heuristic_item ws) = refl
item_all symbols (block_item w) = refl
item_all symbols (rule_item bs r) = refl
item_all symbols (restriction_item r) = refl
item_all symbols (lemma_item l as' p) = refl

items_all : (symbols : List Symbol) (xs : List Item) → rules_written (map (resolved_item symbols) xs) ≡ rules_in (map (resolved_item symbols) xs)
items_all symbols [] = refl
items_all symbols (builtins_item bs ∷ xs) = items_all symbols xs
items_all symbols (functions_item ss ∷ xs) = items_all symbols xs
items_all symbols (equations_item es ∷ xs) = items_all symbols xs
items_all symbols (heuristic_item ws ∷ xs) = items_all symbols xs
items_all symbols (block_item w ∷ xs) = items_all symbols xs
items_all symbols (rule_item bs r ∷ xs) = ap (λ (rs : List WrittenRule). resolved_rule symbols (with_values bs r) ∷ rs) (items_all symbols xs)
items_all symbols (restriction_item r ∷ xs) = items_all symbols xs
items_all symbols (lemma_item l as' p ∷ xs) = items_all symbols xs

pub rules_all : (t : WrittenText) → rules_written (resolved t).items ≡ rules_in (resolved t).items
rules_all t = items_all (all_symbols t.items) t.items
