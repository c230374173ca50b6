-- The report is empty exactly on well-formed theories.
use Rattle.std.proofs.Common.{◌≡◌, ◌≤◌, ℕ, Bool, true, false, if◌then◌else◌, List, [], ◌∷◌, ◌++◌, map, codes, Some, refl, sym, ap, ◌∙◌, subst}
use Rattle.sp_spec.specs.Lists.{Member, Every, Distinct}
use Rattle.sp_spec.specs.Signature.{Symbol, Equation, pair_symbols}
use Rattle.sp_spec.specs.Theory.{Restriction, Lemma}
use Rattle.sp_spec.specs.Written.{WrittenRule, is_listed}
use Rattle.sp_spec.specs.Guarded.{Guarded}
use Rattle.sp_law_guard.specs.CheckedForm.{checked_form}
use Rattle.sp_law_equal.specs.Right.{EquationsAreOver}
use Rattle.sp_spec.proofs.Lists.{every_both, every_from, every_member, every_parts, every_weaken, each_among, member_left}
use Rattle.sp_spec_text.specs.Written.{Item, WrittenText, builtins_in, functions_in, restrictions_in}
use Rattle.sp_spec_text.specs.Declared.{Builtin, builtin_of, new_symbols, declared_symbols, all_symbols, Numbered, all_equations, their_equations, resolved}
use Rattle.sp_declared.specs.WrittenRules.{rules_written}
use Rattle.sp_declared.proofs.WrittenRules.{rules_all}
use Rattle.sp_finding.specs.Finding.{Finding, destructor_in_premise, destructor_in_formula, line, are_none, lines_after}
use Rattle.sp_finding.proofs.Nothing.{none_parts, none_both, nothing, none_told, told_none}
use Rattle.sp_wf_symbols.specs.SymbolFindings.{left_out, declared_otherwise}
use Rattle.sp_wf_symbols.specs.EquationFindings.{findings_on_equations}
use Rattle.sp_wf_symbols.proofs.SymbolsClean.{declared_well, none_otherwise, pairs_distinct}
use Rattle.sp_wf_symbols.proofs.EquationsOver.{IsOverBoth}
use Rattle.sp_wf_symbols.proofs.EquationsClean.{clean_accepted, accepted_clean}
use Rattle.sp_wf_rules.specs.RuleFindings.{unknown_in_rule, facts_have_destructor, destructors_in_rule, wide_in_rule, sorts_in_rule, reserved_in_rule, arguments_in_rule, unbound_in_rule}
use Rattle.sp_wf_rules.specs.BindingFindings.{BoundNames, bound_in}
use Rattle.sp_wf_rules.proofs.RuleClean.{RuleClean, clean_is_right, right_is_clean}
use Rattle.sp_wf_formulas.specs.FormulaFindings.{unknown_in_formula, formula_has_destructor, destructors_in_lemma, wide_in_lemma, unbound_in_lemma, unguarded_in_lemma, sorts_in_lemma, mixed_in_lemma}
use Rattle.sp_wf_formulas.specs.Statements.{as_lemma, statements_in}
use Rattle.sp_wf_formulas.proofs.FormulaClean.{LemmaClean, clean_has_form, form_is_clean}
use Rattle.sp_wf.specs.ItemFindings.{wide_in_items, unknown_in_items, repeated, on_rules, on_lemmas, on_items, with_bound, twice_in_rule, marks_in_rule, findings_on_rules, findings_on_lemmas, learning_in_item, attributes_in_item}
use Rattle.sp_wf.specs.Report.{findings_on_symbols, findings_on_statements, findings}
use Rattle.sp_wf.specs.Laws.{IsFineRule, IsFineLemma, IsFineRestriction, IsWellFormed, ReportIsRight}
use Rattle.sp_wf.proofs.NamesClean.{names_distinct, distinct_names, each_kind_distinct, in_order_distinct}
use Rattle.sp_wf.proofs.ItemsClean.{Clean, rules_clean, no_rule, lemmas_clean, no_lemma, items_clean, no_item, wide_clean, no_wide, all_known, none_left_out, items_known, known_items, builtins_kept, functions_kept, declared_kept, numbered_over, written_over}
use Rattle.sp_wf.proofs.BindingsClean.{AllBindWell, bind_well, none_twice, none_marked}
use Rattle.sp_wf.proofs.StatementsClean.{IsSilent, each_kind, both_kinds, all_silent, silent_clean, known_attributes, attributes_known}

-- the lemma has a guarded form
abbrev pub HasForm : Lemma → Type 0
HasForm l = (g : Guarded) × (checked_form l.formula ≡ Some g)

right_rules : (rs : List WrittenRule) → Every (Clean wide_in_rule) rs → Every (Clean sorts_in_rule) rs → Every (Clean reserved_in_rule) rs → Every (Clean arguments_in_rule) rs
    → Every (Clean unbound_in_rule) rs → Every RuleClean rs
right_rules [] w s p a u = tt
right_rules (r ∷ rs) w s p a u = (record { wide = w.0; sorts = s.0; reserved = p.0; arguments = a.0; unbound = u.0 }, right_rules rs w.1 s.1 p.1 a.1 u.1)

right_lemmas : (es : List Equation) (ls : List Lemma) → Every (Clean wide_in_lemma) ls → Every (Clean unbound_in_lemma) ls → Every (Clean (unguarded_in_lemma es)) ls
    → Every (Clean (destructors_in_lemma es)) ls → Every (Clean sorts_in_lemma) ls → Every (Clean mixed_in_lemma) ls → Every (LemmaClean es) ls
right_lemmas es [] w u g d s m = tt
right_lemmas es (l ∷ ls) w u g d s m = (record { wide = w.0; unbound = u.0; unguarded = g.0; plain = d.0; sorts = s.0; mixed = m.0 }, right_lemmas es ls w.1 u.1 g.1 d.1 s.1 m.1)

module _ (symbols : List Symbol) (es : List Equation) where
  fine_rules : (rs : List WrittenRule) → Every RuleClean rs → Every (Clean (unknown_in_rule symbols)) rs → Every (Clean (destructors_in_rule es)) rs → Every (IsFineRule symbols es) rs
  fine_rules [] c k d = tt
  fine_rules (r ∷ rs) c k d = (
    record {
      right = clean_is_right r c.0;
      known = nothing (unknown_in_rule symbols r) k.0;
      plain = (none_told (facts_have_destructor es r.facts.premises) (destructor_in_premise r.name) [] d.0).0;
    },
    fine_rules rs c.1 k.1 d.1,
  )

  fine_lemmas : (ls : List Lemma) → Every (LemmaClean es) ls → Every (Clean (λ (l : Lemma). unknown_in_formula symbols l.formula)) ls → Every (IsFineLemma symbols es) ls
  fine_lemmas [] c k = tt
  fine_lemmas (l ∷ ls) c k = (
    record {
      form = clean_has_form es l c.0;
      known = nothing (unknown_in_formula symbols l.formula) k.0;
      plain = (none_told (formula_has_destructor es l.formula) (destructor_in_formula l.name) [] c.0.plain).0;
    },
    fine_lemmas ls c.1 k.1,
  )

  rule_clean : (r : WrittenRule) → IsFineRule symbols es r → RuleClean r
  rule_clean r h = right_is_clean r h.right

  rule_known : (r : WrittenRule) → IsFineRule symbols es r → Clean (unknown_in_rule symbols) r
  rule_known r h = ap are_none h.known

  rule_plain : (r : WrittenRule) → IsFineRule symbols es r → Clean (destructors_in_rule es) r
  rule_plain r h = told_none (facts_have_destructor es r.facts.premises) (destructor_in_premise r.name) [] h.plain refl

  lemma_known : (l : Lemma) → IsFineLemma symbols es l → Clean (λ (m : Lemma). unknown_in_formula symbols m.formula) l
  lemma_known l h = ap are_none h.known

  lemma_plain : (l : Lemma) → IsFineLemma symbols es l → Clean (destructors_in_lemma es) l
  lemma_plain l h = told_none (formula_has_destructor es l.formula) (destructor_in_formula l.name) [] h.plain refl

  lemma_clean : (l : Lemma) → IsFineLemma symbols es l → LemmaClean es l
  lemma_clean l h = form_is_clean es l h.form.0 h.form.1 (lemma_plain l h)

-- ---- rules, and restrictions and lemmas

module _ (es : List Equation) (rs : List WrittenRule) where
  pub record RulesClean : Type 0 where
    pub reserved : Every (Clean reserved_in_rule) rs
    pub arguments : Every (Clean arguments_in_rule) rs
    pub plain : Every (Clean (destructors_in_rule es)) rs
    pub unbound : Every (Clean unbound_in_rule) rs

  abbrev alone : List Finding
  alone = on_rules reserved_in_rule rs ++ (on_rules arguments_in_rule rs ++ (on_rules (destructors_in_rule es) rs ++ on_rules unbound_in_rule rs))

  rules_all_clean : are_none alone ≡ true → RulesClean
  rules_all_clean e =
      let b = none_parts (on_rules reserved_in_rule rs) _ e in
      let c = none_parts (on_rules arguments_in_rule rs) _ b.1 in
      let d = none_parts (on_rules (destructors_in_rule es) rs) (on_rules unbound_in_rule rs) c.1 in
      record {
        reserved = rules_clean reserved_in_rule rs b.0;
        arguments = rules_clean arguments_in_rule rs c.0;
        plain = rules_clean (destructors_in_rule es) rs d.0;
        unbound = rules_clean unbound_in_rule rs d.1;
      }

  none_on_rules : Every RuleClean rs → Every (Clean (destructors_in_rule es)) rs → are_none alone ≡ true
  none_on_rules h k =
      let each_of = λ (on : WrittenRule → List Finding) (f : (r : WrittenRule) → RuleClean r → Clean on r). no_rule on rs (every_weaken RuleClean (Clean on) f rs h) in
      none_both (on_rules reserved_in_rule rs) _ (each_of reserved_in_rule (λ r c. c.reserved))
      (none_both (on_rules arguments_in_rule rs) _ (each_of arguments_in_rule (λ r c. c.arguments))
      (none_both (on_rules (destructors_in_rule es) rs) _ (no_rule (destructors_in_rule es) rs k) (each_of unbound_in_rule (λ r c. c.unbound))))

module _ (es : List Equation) (ls : List Lemma) where
  pub record LemmasClean : Type 0 where
    pub unbound : Every (Clean unbound_in_lemma) ls
    pub unguarded : Every (Clean (unguarded_in_lemma es)) ls
    pub plain : Every (Clean (destructors_in_lemma es)) ls
    pub sorts : Every (Clean sorts_in_lemma) ls
    pub mixed : Every (Clean mixed_in_lemma) ls

  lemmas_all_clean : are_none (findings_on_lemmas es ls) ≡ true → LemmasClean
  lemmas_all_clean e =
      let a = none_parts (on_lemmas unbound_in_lemma ls) _ e in
      let b = none_parts (on_lemmas (unguarded_in_lemma es) ls) _ a.1 in
      let c = none_parts (on_lemmas (destructors_in_lemma es) ls) _ b.1 in
      let d = none_parts (on_lemmas sorts_in_lemma ls) (on_lemmas mixed_in_lemma ls) c.1 in
      record {
        unbound = lemmas_clean unbound_in_lemma ls a.0;
        unguarded = lemmas_clean (unguarded_in_lemma es) ls b.0;
        plain = lemmas_clean (destructors_in_lemma es) ls c.0;
        sorts = lemmas_clean sorts_in_lemma ls d.0;
        mixed = lemmas_clean mixed_in_lemma ls d.1;
      }

  none_on_lemmas : Every (LemmaClean es) ls → are_none (findings_on_lemmas es ls) ≡ true
  none_on_lemmas h =
      let each_of = λ (on : Lemma → List Finding) (f : (l : Lemma) → LemmaClean es l → Clean on l). no_lemma on ls (every_weaken (LemmaClean es) (Clean on) f ls h) in
      none_both (on_lemmas unbound_in_lemma ls) _ (each_of unbound_in_lemma (λ l c. c.unbound))
      (none_both (on_lemmas (unguarded_in_lemma es) ls) _ (each_of (unguarded_in_lemma es) (λ l c. c.unguarded))
      (none_both (on_lemmas (destructors_in_lemma es) ls) _ (each_of (destructors_in_lemma es) (λ l c. c.plain))
      (none_both (on_lemmas sorts_in_lemma ls) _ (each_of sorts_in_lemma (λ l c. c.sorts)) (each_of mixed_in_lemma (λ l c. c.mixed)))))

-- ---- each finding has a line, and each line a line feed
record NotEmpty (xs : List (List ℕ)) : Type 0 where
  first : List ℕ
  rest : List (List ℕ)
  is : xs ≡ first ∷ rest

still : (xs : List (List ℕ)) (x : List ℕ) → NotEmpty xs → NotEmpty (xs ++ x ∷ [])
still xs x h = record { first = h.first; rest = h.rest ++ x ∷ []; is = ap (λ (ys : List (List ℕ)). ys ++ x ∷ []) h.is }

either_way : (b : Bool) (xs : List (List ℕ)) (x : List ℕ) → NotEmpty xs → NotEmpty (if b then xs else xs ++ x ∷ [])
either_way true xs x h = h
either_way false xs x h = still xs x h

some_line : (fs : List Finding) (xs : List (List ℕ)) → NotEmpty xs → NotEmpty (lines_after xs fs)
some_line [] xs h = h
some_line (f ∷ fs) xs h = some_line fs (if is_listed (line f) xs then xs else xs ++ line f ∷ []) (either_way (is_listed (line f) xs) xs (line f) h)

no_line : (fs : List Finding) → lines_after [] fs ≡ [] → are_none fs ≡ true
no_line [] e = refl
no_line (f ∷ fs) e =
    let h = some_line fs (line f ∷ []) (record { first = line f; rest = []; is = refl }) in
    absurd (let none : h.first ∷ h.rest ≡ [] = sym h.is ∙ e in cc)

-- ---- the whole

-- what a text without findings says, by its resolved items
module _ (t : WrittenText) where
  abbrev all : List Symbol
  all = all_symbols t.items

  abbrev xs : List Item
  xs = (resolved t).items

  abbrev numbered : List Numbered
  numbered = all_equations xs

  abbrev es : List Equation
  es = their_equations numbered

  abbrev rs : List WrittenRule
  rs = rules_written xs

  abbrev ls : List Lemma
  ls = statements_in xs

  abbrev bound : List BoundNames
  bound = bound_in t.items

  over_all : Every (IsOverBoth all) (their_equations numbered) → EquationsAreOver all (their_equations numbered)
  over_all h = record {
    left = λ e m. (every_member (IsOverBoth all) (their_equations numbered) e m h).left;
    right = λ e m. (every_member (IsOverBoth all) (their_equations numbered) e m h).right;
  }

  all_over : EquationsAreOver all (their_equations numbered) → Every (IsOverBoth all) (their_equations numbered)
  all_over h = every_from (IsOverBoth all) (their_equations numbered) (λ e m. record { left = h.left e m; right = h.right e m })

  pairs_there : Every (λ (s : Symbol). Member s all) pair_symbols
  pairs_there = each_among pair_symbols all (λ s m. member_left s pair_symbols (new_symbols pair_symbols (declared_symbols t.items)) m)

  -- what is found on rules, restrictions and lemmas
  record OthersClean : Type 0 where
    bind : AllBindWell all t.items
    rules : RulesClean es rs
    lemmas : LemmasClean es ls
    silent : Every IsSilent (restrictions_in xs)
    attributes : Every (Clean attributes_in_item) xs

  items_all_clean : are_none (findings_on_rules es bound xs ++ findings_on_statements es xs) ≡ true → OthersClean
  items_all_clean e =
      let a = none_parts (findings_on_rules es bound xs) (findings_on_statements es xs) e in
      let b = none_parts (with_bound twice_in_rule bound xs) _ a.0 in
      let c = none_parts (with_bound marks_in_rule bound xs) _ b.1 in
      let d = none_parts (findings_on_lemmas es ls) _ a.1 in
      let f = none_parts (on_items learning_in_item xs) (on_items attributes_in_item xs) d.1 in
      record {
        bind = bind_well all t.items b.0 c.0;
        rules = rules_all_clean es rs c.1;
        lemmas = lemmas_all_clean es ls d.0;
        silent = all_silent xs (items_clean learning_in_item xs f.0);
        attributes = items_clean attributes_in_item xs f.1;
      }

  -- each restriction by its formula and by what it names
  fine_restrictions : Every (λ (r : Restriction). IsFineLemma all es (as_lemma r)) (restrictions_in xs) → Every IsSilent (restrictions_in xs) → Every (IsFineRestriction all es) (restrictions_in xs)
  fine_restrictions h k =
      every_both (λ (r : Restriction). IsFineLemma all es (as_lemma r)) IsSilent (IsFineRestriction all es) (λ r f s. record { fine = f; silent = s }) (restrictions_in xs) h k

  well_formed : are_none (findings t) ≡ true → IsWellFormed t
  well_formed e =
      let a = none_parts (findings_on_symbols all xs) _ e in
      let b = none_parts (wide_in_items xs) _ a.1 in
      let c = none_parts (findings_on_equations all numbered) _ b.1 in
      let d = none_parts (repeated [] [] xs) (findings_on_rules es bound xs ++ findings_on_statements es xs) c.1 in
      let items = items_all_clean d.1 in
      let builtins = none_parts (left_out (builtins_in xs)) _ a.0 in
      let symbols = none_parts (declared_otherwise all (declared_symbols xs)) (unknown_in_items all xs) builtins.1 in
      let known = items_known all xs symbols.1 in
      let wide = wide_clean xs b.0 in
      let declared = declared_well pair_symbols (declared_symbols t.items) (ap (λ (ss : List Symbol). are_none (declared_otherwise all ss)) (sym (declared_kept t)) ∙ symbols.0) in
      let in_builtins = (every_parts (λ (s : Symbol). Member s all) _ (functions_in xs) (subst (λ (ss : List Symbol). Every (λ (s : Symbol). Member s all) ss) (sym (declared_kept t)) declared)).0 in
      let equations = numbered_over all xs pairs_there in_builtins known.equations in
      let names = names_distinct xs d.0 in
      let fine = fine_rules all es rs (right_rules rs wide.rules items.bind.sorts items.rules.reserved items.rules.arguments items.rules.unbound) known.rules items.rules.plain in
      let right = fine_lemmas all es ls (right_lemmas es ls wide.statements items.lemmas.unbound items.lemmas.unguarded items.lemmas.plain items.lemmas.sorts items.lemmas.mixed) known.statements in
      let kinds = each_kind (IsFineLemma all es) xs right in
      record {
        declares = record {
          builtins = subst (λ (bs : List (List ℕ)). Every (λ (b : List ℕ). (found : Builtin) × (builtin_of b ≡ Some found)) bs) (builtins_kept all t.items) (all_known (builtins_in xs) builtins.0);
          symbols = declared;
          arities = subst (λ (ss : List Symbol). Every (λ (s : Symbol). s.arity ≤ 16) ss) (functions_kept all t.items) wide.symbols;
        };
        over = over_all equations;
        accepted = clean_accepted all numbered c.0;
        rule_names = subst (λ (qs : List WrittenRule). Distinct (map (λ (r : WrittenRule). r.name) qs)) (rules_all t) names.0;
        statement_names = each_kind_distinct xs names.1;
        bindings = items.bind.bindings;
        rules = subst (Every (IsFineRule all es)) (rules_all t) fine;
        restrictions = fine_restrictions kinds.0 items.silent;
        lemmas = kinds.1;
        attributes = known_attributes all t.items items.attributes;
      }

  none_stands : IsWellFormed t → are_none (findings t) ≡ true
  none_stands h =
      let fine_rule = IsFineRule all es in
      let fine_lemma = IsFineLemma all es in
      let fine : Every fine_rule rs = subst (Every fine_rule) (sym (rules_all t)) h.rules in
      let of_restrictions = every_weaken (IsFineRestriction all es) (λ (r : Restriction). IsFineLemma all es (as_lemma r)) (λ r f. f.fine) (restrictions_in xs) h.restrictions in
      let right : Every fine_lemma ls = both_kinds fine_lemma xs of_restrictions h.lemmas in
      let rules = every_weaken fine_rule RuleClean (rule_clean all es) rs fine in
      let lemmas = every_weaken fine_lemma (LemmaClean es) (lemma_clean all es) ls right in
      let builtins = none_left_out (builtins_in xs) (subst (λ (bs : List (List ℕ)). Every (λ (b : List ℕ). (found : Builtin) × (builtin_of b ≡ Some found)) bs) (sym (builtins_kept all t.items)) h.declares.builtins) in
      let symbols = ap (λ (ss : List Symbol). are_none (declared_otherwise all ss)) (declared_kept t) ∙ none_otherwise pair_symbols (declared_symbols t.items) pairs_distinct h.declares.symbols in
      let written = written_over all xs pairs_there (all_over h.over) in
      let known = known_items all xs
      (record {
        rules = every_weaken fine_rule (Clean (unknown_in_rule all)) (rule_known all es) rs fine;
        statements = every_weaken fine_lemma (Clean (λ (l : Lemma). unknown_in_formula all l.formula)) (lemma_known all es) ls right;
        equations = written;
      }) in
      let wide = no_wide xs
      (record {
        symbols = subst (λ (ss : List Symbol). Every (λ (s : Symbol). s.arity ≤ 16) ss) (sym (functions_kept all t.items)) h.declares.arities;
        rules = every_weaken RuleClean (Clean wide_in_rule) (λ r c. c.wide) rs rules;
        statements = every_weaken (LemmaClean es) (Clean wide_in_lemma) (λ l c. c.wide) ls lemmas;
      }) in
      let bind : AllBindWell all t.items = record { sorts = every_weaken RuleClean (Clean sorts_in_rule) (λ r c. c.sorts) rs rules; bindings = h.bindings } in
      let rule_names = subst (λ (qs : List WrittenRule). Distinct (map (λ (r : WrittenRule). r.name) qs)) (sym (rules_all t)) h.rule_names in
      let silent = silent_clean xs (every_weaken (IsFineRestriction all es) IsSilent (λ r f. f.silent) (restrictions_in xs) h.restrictions) in
      none_both (findings_on_symbols all xs) _ (none_both (left_out (builtins_in xs)) _ builtins (none_both (declared_otherwise all (declared_symbols xs)) _ symbols known))
      (none_both (wide_in_items xs) _ wide
      (none_both (findings_on_equations all numbered) _ (accepted_clean all numbered h.accepted)
      (none_both (repeated [] [] xs) _ (distinct_names xs rule_names (in_order_distinct xs h.statement_names))
      (none_both (findings_on_rules es bound xs) _
      (none_both (with_bound twice_in_rule bound xs) _ (none_twice all t.items bind)
      (none_both (with_bound marks_in_rule bound xs) _ (none_marked all t.items bind)
      (none_on_rules es rs rules (every_weaken fine_rule (Clean (destructors_in_rule es)) (rule_plain all es) rs fine))))
      (none_both (findings_on_lemmas es ls) _ (none_on_lemmas es ls lemmas)
      (none_both (on_items learning_in_item xs) (on_items attributes_in_item xs) (no_item learning_in_item xs silent)
      (no_item attributes_in_item xs (attributes_known all t.items h.attributes))))))))

pub report_is_right : ReportIsRight
report_is_right = record {
  no_finding = λ t. ((λ e. well_formed t (ap are_none e)), (λ h. nothing (findings t) (none_stands t h)));
  no_line = λ t. ((λ e. well_formed t (no_line (findings t) e)), (λ h. ap (lines_after []) (nothing (findings t) (none_stands t h))));
}
