-- No finding stands on the items of a text exactly where none stands on what they say: on symbols, equations, rules, restrictions and lemmas.
use Rattle.std.proofs.Common.{◌≡◌, ◌≤◌, ℕ, true, false, nat_lt, List, [], ◌∷◌, ◌++◌, map, Option, Some, None, refl, sym, ap, ap₂, ◌∙◌}
use Rattle.std.proofs.lemmas.Bool.{ltb-false, le-ltb}
use Rattle.std.proofs.lemmas.List.{append_assoc}
use Rattle.std.specs.List.{flat_map}
use Rattle.sp_spec.specs.Lists.{Member, Every}
use Rattle.sp_spec.specs.Term.{Term}
use Rattle.sp_spec.specs.Formula.{Written}
use Rattle.sp_spec.specs.Signature.{Symbol, pair_symbols, pair_equations}
use Rattle.sp_spec.specs.Theory.{Lemma}
use Rattle.sp_spec.specs.Written.{WrittenRule}
use Rattle.sp_spec.proofs.Lists.{every_append, every_parts}
use Rattle.sp_spec_text.specs.Written.{Item, builtins_item, functions_item, equations_item, heuristic_item, block_item, rule_item, restriction_item, lemma_item, item_builtins, item_functions, WrittenText, builtins_in, functions_in, equations_in}
use Rattle.sp_spec_text.specs.Declared.{Builtin, builtin_of, builtin_symbols, builtin_equations, declared_symbols, all_symbols, resolved_item, resolved, equation_of, Numbered, new_equations, without_number, numbered_from, declared_equations, all_equations, their_equations}
use Rattle.sp_declared.specs.WrittenRules.{item_written, rules_written}
use Rattle.sp_finding.specs.Finding.{Finding, builtin_left_out, arity_above, are_none}
use Rattle.sp_finding.specs.TermFindings.{unknown_in}
use Rattle.sp_finding.proofs.Nothing.{none_parts, none_both, none_told, told_none}
use Rattle.sp_wf_symbols.specs.SymbolFindings.{is_left_out, left_out, wide_symbols, unknown_in_equations}
use Rattle.sp_wf_symbols.proofs.EquationsOver.{IsOverBoth, known_equations, equations_known, builtins_over, pairs_over, new_hold, all_hold, numbered_hold, hold_numbered, without_hold, both_hold, later_hold}
use Rattle.sp_wf_rules.specs.RuleFindings.{unknown_in_rule, wide_in_rule}
use Rattle.sp_wf_formulas.specs.FormulaFindings.{unknown_in_formula, wide_in_lemma}
use Rattle.sp_wf_formulas.specs.Statements.{item_statements, statements_in}
use Rattle.sp_wf.specs.ItemFindings.{on_rules, on_lemmas, on_items, wide_in_item, wide_in_items, unknown_in_items}

-- ---- on each rule, and on each restriction and lemma

abbrev pub Clean : {A : Type 0} → (A → List Finding) → A → Type 0
Clean on x = are_none (on x) ≡ true

pub rules_clean : (on : WrittenRule → List Finding) (rs : List WrittenRule) → are_none (on_rules on rs) ≡ true → Every (Clean on) rs
rules_clean on [] e = tt
rules_clean on (r ∷ rs) e = let k = none_parts (on r) (on_rules on rs) e in (k.0, rules_clean on rs k.1)

pub no_rule : (on : WrittenRule → List Finding) (rs : List WrittenRule) → Every (Clean on) rs → are_none (on_rules on rs) ≡ true
no_rule on [] h = refl
no_rule on (r ∷ rs) h = none_both (on r) (on_rules on rs) h.0 (no_rule on rs h.1)

pub lemmas_clean : (on : Lemma → List Finding) (ls : List Lemma) → are_none (on_lemmas on ls) ≡ true → Every (Clean on) ls
lemmas_clean on [] e = tt
lemmas_clean on (l ∷ ls) e = let k = none_parts (on l) (on_lemmas on ls) e in (k.0, lemmas_clean on ls k.1)

pub no_lemma : (on : Lemma → List Finding) (ls : List Lemma) → Every (Clean on) ls → are_none (on_lemmas on ls) ≡ true
no_lemma on [] h = refl
no_lemma on (l ∷ ls) h = none_both (on l) (on_lemmas on ls) h.0 (no_lemma on ls h.1)

pub items_clean : (on : Item → List Finding) (xs : List Item) → are_none (on_items on xs) ≡ true → Every (Clean on) xs
items_clean on [] e = tt
items_clean on (x ∷ xs) e = let k = none_parts (on x) (on_items on xs) e in (k.0, items_clean on xs k.1)

pub no_item : (on : Item → List Finding) (xs : List Item) → Every (Clean on) xs → are_none (on_items on xs) ≡ true
no_item on [] h = refl
no_item on (x ∷ xs) h = none_both (on x) (on_items on xs) h.0 (no_item on xs h.1)

-- ---- too many arguments

abbrev IsNarrow : Symbol → Type 0
IsNarrow s = s.arity ≤ 16

narrow_symbols : (ss : List Symbol) → are_none (wide_symbols ss) ≡ true → Every IsNarrow ss
narrow_symbols [] e = tt
narrow_symbols (s ∷ ss) e = let k = none_told (nat_lt 16 s.arity) (arity_above s.name) (wide_symbols ss) e in (ltb-false 16 s.arity k.0, narrow_symbols ss k.1)

no_wide_symbol : (ss : List Symbol) → Every IsNarrow ss → are_none (wide_symbols ss) ≡ true
no_wide_symbol [] h = refl
no_wide_symbol (s ∷ ss) h = told_none (nat_lt 16 s.arity) (arity_above s.name) (wide_symbols ss) (le-ltb 16 s.arity h.0) (no_wide_symbol ss h.1)

pub record AreNarrow (xs : List Item) : Type 0 where
  pub symbols : Every IsNarrow (functions_in xs)
  pub rules : Every (Clean wide_in_rule) (rules_written xs)
  pub statements : Every (Clean wide_in_lemma) (statements_in xs)

pub wide_clean : (xs : List Item) → are_none (wide_in_items xs) ≡ true → AreNarrow xs
wide_clean [] e = record { symbols = tt; rules = tt; statements = tt }
wide_clean (x ∷ xs) e =
    let ss = item_functions x in
    let rs = item_written x in
    let ls = item_statements x in
    let k = none_parts (wide_in_item x) (wide_in_items xs) e in
    let first = none_parts (wide_symbols ss) (on_rules wide_in_rule rs ++ on_lemmas wide_in_lemma ls) k.0 in
    let one = none_parts (on_rules wide_in_rule rs) (on_lemmas wide_in_lemma ls) first.1 in
    let h = wide_clean xs k.1 in
    record {
      symbols = every_append IsNarrow ss (functions_in xs) (narrow_symbols ss first.0) h.symbols;
      rules = every_append (Clean wide_in_rule) rs (rules_written xs) (rules_clean wide_in_rule rs one.0) h.rules;
      statements = every_append (Clean wide_in_lemma) ls (statements_in xs) (lemmas_clean wide_in_lemma ls one.1) h.statements;
    }

pub no_wide : (xs : List Item) → AreNarrow xs → are_none (wide_in_items xs) ≡ true
no_wide [] h = refl
no_wide (x ∷ xs) h =
    let ss = item_functions x in
    let rs = item_written x in
    let ls = item_statements x in
    let s = every_parts IsNarrow ss (functions_in xs) h.symbols in
    let a = every_parts (Clean wide_in_rule) rs (rules_written xs) h.rules in
    let b = every_parts (Clean wide_in_lemma) ls (statements_in xs) h.statements in
    none_both (wide_in_item x) (wide_in_items xs)
    (none_both (wide_symbols ss) (on_rules wide_in_rule rs ++ on_lemmas wide_in_lemma ls) (no_wide_symbol ss s.0)
    (none_both (on_rules wide_in_rule rs) (on_lemmas wide_in_lemma ls) (no_rule wide_in_rule rs a.0) (no_lemma wide_in_lemma ls b.0)))
    (no_wide xs (record { symbols = s.1; rules = a.1; statements = b.1 }))

-- ---- builtins that are known

abbrev IsKnown : List ℕ → Type 0
IsKnown b = (found : Builtin) × (builtin_of b ≡ Some found)

found_known : (o : Option Builtin) → is_left_out o ≡ false → (found : Builtin) × (o ≡ Some found)
found_known None e = absurd cc
found_known (Some b) e = (b, refl)

known_found : (o : Option Builtin) (found : Builtin) → o ≡ Some found → is_left_out o ≡ false
known_found None found e = absurd cc
known_found (Some b) found e = refl

pub all_known : (bs : List (List ℕ)) → are_none (left_out bs) ≡ true → Every IsKnown bs
all_known [] e = tt
all_known (b ∷ bs) e = let k = none_told (is_left_out (builtin_of b)) (builtin_left_out b) (left_out bs) e in (found_known (builtin_of b) k.0, all_known bs k.1)

pub none_left_out : (bs : List (List ℕ)) → Every IsKnown bs → are_none (left_out bs) ≡ true
none_left_out [] h = refl
none_left_out (b ∷ bs) h = told_none (is_left_out (builtin_of b)) (builtin_left_out b) (left_out bs) (known_found (builtin_of b) h.0.0 h.0.1) (none_left_out bs h.1)

-- ---- symbols that are known

module _ (symbols : List Symbol) where
  pub record AreKnown (xs : List Item) : Type 0 where
    pub rules : Every (Clean (unknown_in_rule symbols)) (rules_written xs)
    pub statements : Every (Clean (λ (l : Lemma). unknown_in_formula symbols l.formula)) (statements_in xs)
    pub equations : are_none (unknown_in_equations symbols (equations_in xs)) ≡ true

  unknown_both : (ds es : List (Term Written × Term Written)) → unknown_in_equations symbols (ds ++ es) ≡ unknown_in_equations symbols ds ++ unknown_in_equations symbols es
  unknown_both [] es = refl
  unknown_both (d ∷ ds) es =
      ap (λ (fs : List Finding). unknown_in symbols d.0 ++ (unknown_in symbols d.1 ++ fs)) (unknown_both ds es)
      ∙ sym (append_assoc (unknown_in symbols d.0) (unknown_in symbols d.1 ++ unknown_in_equations symbols ds) (unknown_in_equations symbols es)
      ∙ ap (λ (fs : List Finding). unknown_in symbols d.0 ++ fs) (append_assoc (unknown_in symbols d.1) (unknown_in_equations symbols ds) (unknown_in_equations symbols es)))

  pub items_known : (xs : List Item) → are_none (unknown_in_items symbols xs) ≡ true → AreKnown xs
  items_known [] e = record { rules = tt; statements = tt; equations = refl }
  items_known (builtins_item bs ∷ xs) e = let h = items_known xs e in record { rules = h.rules; statements = h.statements; equations = h.equations }
  items_known (functions_item ss ∷ xs) e = let h = items_known xs e in record { rules = h.rules; statements = h.statements; equations = h.equations }
  items_known (equations_item es ∷ xs) e =
      let k = none_parts (unknown_in_equations symbols es) (unknown_in_items symbols xs) e in
      let h = items_known xs k.1 in
      record {
        rules = h.rules;
        statements = h.statements;
        equations = ap are_none (unknown_both es (equations_in xs)) ∙ none_both (unknown_in_equations symbols es) (unknown_in_equations symbols (equations_in xs)) k.0 h.equations;
      }
  items_known (heuristic_item ws ∷ xs) e = let h = items_known xs e in record { rules = h.rules; statements = h.statements; equations = h.equations }
  items_known (block_item w ∷ xs) e = let h = items_known xs e in record { rules = h.rules; statements = h.statements; equations = h.equations }
  items_known (rule_item bs r ∷ xs) e =
      let k = none_parts (unknown_in_rule symbols r) (unknown_in_items symbols xs) e in
      let h = items_known xs k.1 in
      record { rules = (k.0, h.rules); statements = h.statements; equations = h.equations }
  items_known (restriction_item r ∷ xs) e =
      let k = none_parts (unknown_in_formula symbols r.formula) (unknown_in_items symbols xs) e in
      let h = items_known xs k.1 in
      record { rules = h.rules; statements = (k.0, h.statements); equations = h.equations }
  items_known (lemma_item l as' p ∷ xs) e =
      let k = none_parts (unknown_in_formula symbols l.formula) (unknown_in_items symbols xs) e in
      let h = items_known xs k.1 in
      record { rules = h.rules; statements = (k.0, h.statements); equations = h.equations }

  pub known_items : (xs : List Item) → AreKnown xs → are_none (unknown_in_items symbols xs) ≡ true
  known_items [] h = refl
  known_items (builtins_item bs ∷ xs) h = known_items xs (record { rules = h.rules; statements = h.statements; equations = h.equations })
  known_items (functions_item ss ∷ xs) h = known_items xs (record { rules = h.rules; statements = h.statements; equations = h.equations })
  known_items (equations_item es ∷ xs) h =
      let k = none_parts (unknown_in_equations symbols es) (unknown_in_equations symbols (equations_in xs)) (sym (ap are_none (unknown_both es (equations_in xs))) ∙ h.equations) in
      none_both (unknown_in_equations symbols es) (unknown_in_items symbols xs) k.0 (known_items xs (record { rules = h.rules; statements = h.statements; equations = k.1 }))
  known_items (heuristic_item ws ∷ xs) h = known_items xs (record { rules = h.rules; statements = h.statements; equations = h.equations })
  known_items (block_item w ∷ xs) h = known_items xs (record { rules = h.rules; statements = h.statements; equations = h.equations })
  known_items (rule_item bs r ∷ xs) h =
      none_both (unknown_in_rule symbols r) (unknown_in_items symbols xs) h.rules.0 (known_items xs (record { rules = h.rules.1; statements = h.statements; equations = h.equations }))
  known_items (restriction_item r ∷ xs) h =
      none_both (unknown_in_formula symbols r.formula) (unknown_in_items symbols xs) h.statements.0 (known_items xs (record { rules = h.rules; statements = h.statements.1; equations = h.equations }))
  known_items (lemma_item l as' p ∷ xs) h =
      none_both (unknown_in_formula symbols l.formula) (unknown_in_items symbols xs) h.statements.0 (known_items xs (record { rules = h.rules; statements = h.statements.1; equations = h.equations }))

  -- ---- equations over the symbols

  abbrev Are : List Symbol → Type 0
  Are ss = Every (λ (s : Symbol). Member s symbols) ss

  module _ (xs : List Item) (pairs : Are pair_symbols) where
    abbrev of_builtins : List Numbered
    of_builtins = map without_number (flat_map (λ b. builtin_equations (builtin_of b)) (builtins_in xs))

    abbrev of_text : List Numbered
    of_text = numbered_from 1 (map equation_of (equations_in xs))

    pub numbered_over : Are (flat_map (λ b. builtin_symbols (builtin_of b)) (builtins_in xs)) → are_none (unknown_in_equations symbols (equations_in xs)) ≡ true
        → Every (IsOverBoth symbols) (their_equations (all_equations xs))
    numbered_over builtins known =
        let P = IsOverBoth symbols in
        let declared = both_hold P of_builtins of_text (without_hold P (flat_map (λ b. builtin_equations (builtin_of b)) (builtins_in xs)) (builtins_over symbols (builtins_in xs) builtins))
        (numbered_hold P 1 (map equation_of (equations_in xs)) (known_equations symbols (equations_in xs) known)) in
        both_hold P (map without_number pair_equations) (new_equations pair_equations (declared_equations xs)) (without_hold P pair_equations (pairs_over symbols pairs))
        (new_hold P pair_equations (declared_equations xs) declared)

    pub written_over : Every (IsOverBoth symbols) (their_equations (all_equations xs)) → are_none (unknown_in_equations symbols (equations_in xs)) ≡ true
    written_over h =
        let P = IsOverBoth symbols in
        let added = later_hold P (map without_number pair_equations) (new_equations pair_equations (declared_equations xs)) h in
        let declared = all_hold P pair_equations (declared_equations xs) (pairs_over symbols pairs) added in
        equations_known symbols (equations_in xs) (hold_numbered P 1 (map equation_of (equations_in xs)) (later_hold P of_builtins of_text declared))

-- ---- what names stand for changes nothing in what is declared

pub kept_by : {A : Type 0} (f : Item → List A) (symbols : List Symbol) → ((x : Item) → f (resolved_item symbols x) ≡ f x) → (xs : List Item) → flat_map f (map (resolved_item symbols) xs) ≡ flat_map f xs
kept_by f symbols e [] = refl
kept_by {A = A} f symbols e (x ∷ xs) = ap₂ (λ (ys zs : List A). ys ++ zs) (e x) (kept_by f symbols e xs)

same_builtins : (symbols : List Symbol) (x : Item) → item_builtins (resolved_item symbols x) ≡ item_builtins x
same_builtins symbols (builtins_item bs) = refl
same_builtins symbols (functions_item ss) = refl
same_builtins symbols (equations_item es) = refl
same_builtins symbols (heuristic_item ws) = refl
same_builtins symbols (block_item w) = refl
same_builtins symbols (rule_item bs r) = refl
same_builtins symbols (restriction_item r) = refl
same_builtins symbols (lemma_item l as' p) = refl

same_functions : (symbols : List Symbol) (x : Item) → item_functions (resolved_item symbols x) ≡ item_functions x
same_functions symbols (builtins_item bs) = refl
same_functions symbols (functions_item ss) = refl
same_functions symbols (equations_item es) = refl
same_functions symbols (heuristic_item ws) = refl
same_functions symbols (block_item w) = refl
same_functions symbols (rule_item bs r) = refl
same_functions symbols (restriction_item r) = refl
same_functions symbols (lemma_item l as' p) = refl

pub builtins_kept : (symbols : List Symbol) (xs : List Item) → builtins_in (map (resolved_item symbols) xs) ≡ builtins_in xs
builtins_kept symbols xs = kept_by item_builtins symbols (same_builtins symbols) xs

pub functions_kept : (symbols : List Symbol) (xs : List Item) → functions_in (map (resolved_item symbols) xs) ≡ functions_in xs
functions_kept symbols xs = kept_by item_functions symbols (same_functions symbols) xs

pub declared_kept : (t : WrittenText) → declared_symbols (resolved t).items ≡ declared_symbols t.items
declared_kept t =
    ap₂ (λ (bs : List (List ℕ)) (ss : List Symbol). flat_map (λ b. builtin_symbols (builtin_of b)) bs ++ ss) (builtins_kept (all_symbols t.items) t.items) (functions_kept (all_symbols t.items) t.items)
