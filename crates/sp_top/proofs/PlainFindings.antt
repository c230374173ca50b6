-- No line of a fatal finding has a closing bracket, as each line of a verdict has.
use Rattle.std.proofs.Common.{◌≡◌, ℕ, zero, suc, ◌/◌, ◌%◌, ◌<◌, arith, Bool, true, false, cond, ◌==◌, List, [], ◌∷◌, ◌++◌, codes, Option, Some, None, refl}
use Rattle.std.specs.Prelude.{decimal}
use Rattle.std.specs.Fmt.{digit_glyph, digits_onto, digits}
use Rattle.std.proofs.lemmas.Bool.Decides.{nat_tests}
use Rattle.std.proofs.Math.Nat.{mod-lt}
use Rattle.std.specs.List.{flat_map}
use Rattle.sp_spec.specs.Lists.{Every}
use Rattle.sp_spec.proofs.Lists.{every_append}
use Rattle.sp_spec.specs.Term.{Term, var, constant, name, app, Terms, none, more, count}
use Rattle.sp_spec.specs.Signature.{Symbol, Equation}
use Rattle.sp_spec.specs.Rule.{Fact, Action}
use Rattle.sp_spec.specs.Written.{WrittenRule}
use Rattle.sp_spec.specs.Formula.{Written, Formula, truth, falsity, happens, equals, precedes, not_so, both, either, implies, for_all, for_some}
use Rattle.sp_spec_text.specs.Written.{Item, builtins_item, functions_item, equations_item, heuristic_item, block_item, rule_item, restriction_item, lemma_item}
use Rattle.sp_spec_text.specs.Declared.{Builtin, hashing, symmetric_encryption, asymmetric_encryption, signing, revealing_signing, builtin_of, symbols_of, builtin_symbols, Numbered, their_equations}
use Rattle.sp_finding.specs.Finding as f
use Rattle.sp_finding.specs.Finding.{Finding, line, told}
use Rattle.sp_wf_symbols.specs.SymbolFindings.{left_out, declared_otherwise, wide_symbols, unknown_in_equations}
use Rattle.sp_finding.specs.TermFindings.{unknown_in, unknown_in_all}
use Rattle.sp_wf_rules.specs.RuleFindings.{unknown_in_facts, unknown_in_actions, unknown_in_rule}
use Rattle.sp_wf_formulas.specs.FormulaFindings.{unknown_in_formula}
use Rattle.sp_wf.specs.ItemFindings.{on_items, unknown_in_item, unknown_in_items}
use Rattle.sp_wf_symbols.specs.EquationFindings.{shapes, private_constants, clashes_with, clashes, findings_on_equations}
use Rattle.sp_top.proofs.PlainNames.{IsPlain, plain_in, plain_append, IsPlainTerm, ArePlainTerms, IsPlainFact, IsPlainAction, IsPlainFormula}
use Rattle.sp_top.proofs.PlainTexts.{IsPlainRule, IsPlainSymbol, IsPlainEquation, IsPlainItem}

-- ---- the line of a finding

-- the names that it tells have no closing bracket
abbrev pub IsPlainFinding : Finding → Type 0
IsPlainFinding (f.builtin_left_out b) = IsPlain b
IsPlainFinding (f.declared_twice s) = IsPlain s
IsPlainFinding (f.unknown_symbol s n) = IsPlain s
IsPlainFinding (f.arity_above x) = IsPlain x
IsPlainFinding (f.wrong_shape k) = Unit {0}
IsPlainFinding (f.private_constant k) = Unit {0}
IsPlainFinding (f.clash j k) = Unit {0}
IsPlainFinding (f.used_twice x) = IsPlain x
IsPlainFinding (f.bound_twice r x) = IsPlain r × IsPlain x
IsPlainFinding (f.two_sorts r x) = IsPlain r × IsPlain x
IsPlainFinding (f.reserved r x) = IsPlain r × IsPlain x
IsPlainFinding (f.fr_argument r) = IsPlain r
IsPlainFinding (f.destructor_in_premise r) = IsPlain r
IsPlainFinding (f.in_no_premise r x) = IsPlain r × IsPlain x
IsPlainFinding (f.without_binder n x) = IsPlain n × IsPlain x
IsPlainFinding (f.not_guarded n x) = IsPlain n × IsPlain x
IsPlainFinding (f.destructor_in_formula n) = IsPlain n
IsPlainFinding (f.other_sort n x) = IsPlain n × IsPlain x
IsPlainFinding (f.mixed_at n x) = IsPlain n × IsPlain x
IsPlainFinding (f.restricts_learning n) = IsPlain n
IsPlainFinding (f.attribute_left_out n a) = IsPlain n × IsPlain a

glyph_plain : (d : ℕ) → d < 10 → (digit_glyph false d == 41) ≡ false
glyph_plain d h = grind (arith, nat_tests)

plain_onto : (k n : ℕ) (acc : List ℕ) → IsPlain acc → IsPlain (digits_onto k 10 false n acc)
plain_onto zero n acc h = h
plain_onto (suc k) n acc h =
    let glyph = digit_glyph false (n % 10) in
    let more : IsPlain (glyph ∷ acc) = (glyph_plain (n % 10) (mod-lt n (omega arith)), h) in
    by_last (n / 10 == 0) (glyph ∷ acc) (digits_onto k 10 false (n / 10) (glyph ∷ acc)) more (plain_onto k (n / 10) (glyph ∷ acc) more)
  where
    by_last : (b : Bool) (xs ys : List ℕ) → IsPlain xs → IsPlain ys → IsPlain (cond b xs ys)
    by_last true xs ys h k = h
    by_last false xs ys h k = k

pub plain_number : (n : ℕ) → IsPlain (decimal n)
unfolding digits
plain_number n = plain_onto 64 n [] tt

pub around : (front x behind : List ℕ) → IsPlain front → IsPlain x → IsPlain behind → IsPlain (front ++ (x ++ behind))
around front x behind h k l = plain_append front (x ++ behind) h (plain_append x behind k l)

-- a name of a rule or a formula, and another behind it
two_names : (front r mid x behind : List ℕ) → IsPlain front → IsPlain r → IsPlain mid → IsPlain x → IsPlain behind → IsPlain (front ++ (r ++ (mid ++ (x ++ behind))))
two_names front r mid x behind h k l m n = around front r (mid ++ (x ++ behind)) h k (around mid x behind l m n)

last_name : (front r mid x : List ℕ) → IsPlain front → IsPlain r → IsPlain mid → IsPlain x → IsPlain (front ++ (r ++ (mid ++ x)))
last_name front r mid x h k l m = around front r (mid ++ x) h k (plain_append mid x l m)

pub plain_line : (x : Finding) → IsPlainFinding x → IsPlain (line x)
unfolding line
plain_line (f.builtin_left_out b) h = plain_append (codes "fatal: builtin left out: ") b (plain_in (codes "fatal: builtin left out: ") refl) h
plain_line (f.declared_twice s) h = around (codes "fatal: symbol ") s (codes " declared twice") (plain_in (codes "fatal: symbol ") refl) h (plain_in (codes " declared twice") refl)
plain_line (f.unknown_symbol s n) h =
    around (codes "fatal: unknown symbol ") s (codes "/" ++ decimal n) (plain_in (codes "fatal: unknown symbol ") refl) h (plain_append (codes "/") (decimal n) (plain_in (codes "/") refl) (plain_number n))
plain_line (f.wrong_shape k) h = around (codes "fatal: equation ") (decimal k) (codes ": shape") (plain_in (codes "fatal: equation ") refl) (plain_number k) (plain_in (codes ": shape") refl)
plain_line (f.private_constant k) h =
    around (codes "fatal: equation ") (decimal k) (codes ": private constant") (plain_in (codes "fatal: equation ") refl) (plain_number k) (plain_in (codes ": private constant") refl)
plain_line (f.clash j k) h =
    two_names (codes "fatal: equations ") (decimal j) (codes " and ") (decimal k) (codes " clash") (plain_in (codes "fatal: equations ") refl) (plain_number j) (plain_in (codes " and ") refl) (plain_number k) (plain_in (codes " clash") refl)
plain_line (f.destructor_in_premise r) h =
    around (codes "fatal: rule ") r (codes ": destructor in a premise") (plain_in (codes "fatal: rule ") refl) h (plain_in (codes ": destructor in a premise") refl)
plain_line (f.destructor_in_formula n) h = around (codes "fatal: formula ") n (codes ": destructor") (plain_in (codes "fatal: formula ") refl) h (plain_in (codes ": destructor") refl)
plain_line (f.arity_above x) h = plain_append (codes "fatal: arity above 16: ") x (plain_in (codes "fatal: arity above 16: ") refl) h
plain_line (f.used_twice x) h = around (codes "fatal: name ") x (codes " used twice") (plain_in (codes "fatal: name ") refl) h (plain_in (codes " used twice") refl)
plain_line (f.bound_twice r x) h =
    two_names (codes "fatal: rule ") r (codes ": let name ") x (codes " bound twice") (plain_in (codes "fatal: rule ") refl) h.0 (plain_in (codes ": let name ") refl) h.1 (plain_in (codes " bound twice") refl)
plain_line (f.two_sorts r x) h =
    two_names (codes "fatal: rule ") r (codes ": variable ") x (codes " has two sorts") (plain_in (codes "fatal: rule ") refl) h.0 (plain_in (codes ": variable ") refl) h.1 (plain_in (codes " has two sorts") refl)
plain_line (f.reserved r x) h = last_name (codes "fatal: rule ") r (codes ": reserved fact ") x (plain_in (codes "fatal: rule ") refl) h.0 (plain_in (codes ": reserved fact ") refl) h.1
plain_line (f.fr_argument r) h = around (codes "fatal: rule ") r (codes ": Fr argument") (plain_in (codes "fatal: rule ") refl) h (plain_in (codes ": Fr argument") refl)
plain_line (f.in_no_premise r x) h =
    two_names (codes "fatal: rule ") r (codes ": variable ") x (codes " not bound") (plain_in (codes "fatal: rule ") refl) h.0 (plain_in (codes ": variable ") refl) h.1 (plain_in (codes " not bound") refl)
plain_line (f.without_binder n x) h =
    two_names (codes "fatal: formula ") n (codes ": variable ") x (codes " not bound") (plain_in (codes "fatal: formula ") refl) h.0 (plain_in (codes ": variable ") refl) h.1 (plain_in (codes " not bound") refl)
plain_line (f.not_guarded n x) h =
    two_names (codes "fatal: formula ") n (codes ": variable ") x (codes " not guarded") (plain_in (codes "fatal: formula ") refl) h.0 (plain_in (codes ": variable ") refl) h.1 (plain_in (codes " not guarded") refl)
plain_line (f.other_sort n x) h =
    two_names (codes "fatal: formula ") n (codes ": variable ") x (codes " has another sort than its binder") (plain_in (codes "fatal: formula ") refl) h.0 (plain_in (codes ": variable ") refl) h.1 (plain_in (codes " has another sort than its binder") refl)
plain_line (f.mixed_at n x) h =
    last_name (codes "fatal: formula ") n (codes ": time and message mixed at ") x (plain_in (codes "fatal: formula ") refl) h.0 (plain_in (codes ": time and message mixed at ") refl) h.1
plain_line (f.restricts_learning n) h = around (codes "fatal: restriction ") n (codes " names KU") (plain_in (codes "fatal: restriction ") refl) h (plain_in (codes " names KU") refl)
plain_line (f.attribute_left_out n a) h =
    last_name (codes "fatal: lemma ") n (codes ": attribute left out: ") a (plain_in (codes "fatal: lemma ") refl) h.0 (plain_in (codes ": attribute left out: ") refl) h.1

-- ---- findings

abbrev pub ArePlain : List Finding → Type 0
ArePlain xs = Every IsPlainFinding xs

pub both_plain : (xs ys : List Finding) → ArePlain xs → ArePlain ys → ArePlain (xs ++ ys)
both_plain xs ys h k = every_append IsPlainFinding xs ys h k

pub plain_told : (b : Bool) (x : Finding) (xs : List Finding) → IsPlainFinding x → ArePlain xs → ArePlain (told b x xs)
plain_told true x xs h k = (h, k)
plain_told false x xs h k = k

pub on_items_plain : (on : Item → List Finding) → ((x : Item) → IsPlainItem x → ArePlain (on x)) → (xs : List Item) → Every IsPlainItem xs → ArePlain (on_items on xs)
on_items_plain on h [] e = tt
on_items_plain on h (x ∷ xs) e = both_plain (on x) (on_items on xs) (h x e.0) (on_items_plain on h xs e.1)

-- ---- symbols and terms

plain_symbols : (b : Builtin) → Every IsPlainSymbol (symbols_of b)
plain_symbols hashing = (plain_in (codes "h") refl, tt)
plain_symbols symmetric_encryption = (plain_in (codes "senc") refl, (plain_in (codes "sdec") refl, tt))
plain_symbols asymmetric_encryption = (plain_in (codes "aenc") refl, (plain_in (codes "adec") refl, (plain_in (codes "pk") refl, tt)))
plain_symbols signing = (plain_in (codes "sign") refl, (plain_in (codes "verify") refl, (plain_in (codes "pk") refl, (plain_in (codes "true") refl, tt))))
plain_symbols revealing_signing =
    (plain_in (codes "revealSign") refl, (plain_in (codes "revealVerify") refl, (plain_in (codes "getMessage") refl, (plain_in (codes "pk") refl, (plain_in (codes "true") refl, tt)))))

known_plain : (o : Option Builtin) → Every IsPlainSymbol (builtin_symbols o)
known_plain None = tt
known_plain (Some b) = plain_symbols b

pub builtins_plain : (bs : List (List ℕ)) → Every IsPlainSymbol (flat_map (λ b. builtin_symbols (builtin_of b)) bs)
builtins_plain [] = tt
builtins_plain (b ∷ bs) =
    every_append IsPlainSymbol (builtin_symbols (builtin_of b)) (flat_map (λ c. builtin_symbols (builtin_of c)) bs) (known_plain (builtin_of b)) (builtins_plain bs)

pub left_out_plain : (bs : List (List ℕ)) → Every IsPlain bs → ArePlain (left_out bs)
left_out_plain [] e = tt
left_out_plain (b ∷ bs) e = plain_told _ (f.builtin_left_out b) (left_out bs) e.0 (left_out_plain bs e.1)

pub declared_plain : (symbols declared : List Symbol) → Every IsPlainSymbol declared → ArePlain (declared_otherwise symbols declared)
declared_plain symbols [] e = tt
declared_plain symbols (s ∷ declared) e = plain_told _ (f.declared_twice s.name) (declared_otherwise symbols declared) e.0 (declared_plain symbols declared e.1)

pub wide_symbols_plain : (symbols : List Symbol) → Every IsPlainSymbol symbols → ArePlain (wide_symbols symbols)
wide_symbols_plain [] e = tt
wide_symbols_plain (s ∷ symbols) e = plain_told _ (f.arity_above s.name) (wide_symbols symbols) e.0 (wide_symbols_plain symbols e.1)

module _ (symbols : List Symbol) where
  mutual
    unknown_plain : (t : Term Written) → IsPlainTerm t → ArePlain (unknown_in symbols t)
    unknown_plain (var x) h = tt
    unknown_plain (constant c) h = tt
    unknown_plain (name n) h = tt
    unknown_plain (app s ts) h = plain_told _ (f.unknown_symbol s (count ts)) (unknown_in_all symbols ts) h.0 (unknown_all_plain ts h.1)

    unknown_all_plain : (ts : Terms Written) → ArePlainTerms ts → ArePlain (unknown_in_all symbols ts)
    unknown_all_plain none h = tt
    unknown_all_plain (more t ts) h = both_plain (unknown_in symbols t) (unknown_in_all symbols ts) (unknown_plain t h.0) (unknown_all_plain ts h.1)

  unknown_facts_plain : (fs : List (Fact Written)) → Every IsPlainFact fs → ArePlain (unknown_in_facts symbols fs)
  unknown_facts_plain [] e = tt
  unknown_facts_plain (x ∷ fs) e = both_plain (unknown_in_all symbols x.args) (unknown_in_facts symbols fs) (unknown_all_plain x.args e.0.1) (unknown_facts_plain fs e.1)

  unknown_actions_plain : (xs : List (Action Written)) → Every IsPlainAction xs → ArePlain (unknown_in_actions symbols xs)
  unknown_actions_plain [] e = tt
  unknown_actions_plain (a ∷ xs) e = both_plain (unknown_in_all symbols a.args) (unknown_in_actions symbols xs) (unknown_all_plain a.args e.0.1) (unknown_actions_plain xs e.1)

  unknown_formula_plain : (x : Formula) → IsPlainFormula x → ArePlain (unknown_in_formula symbols x)
  unknown_formula_plain truth h = tt
  unknown_formula_plain falsity h = tt
  unknown_formula_plain (happens a i) h = unknown_all_plain a.args h.0.1
  unknown_formula_plain (equals t u) h = both_plain (unknown_in symbols t) (unknown_in symbols u) (unknown_plain t h.0) (unknown_plain u h.1)
  unknown_formula_plain (precedes i j) h = tt
  unknown_formula_plain (not_so x) h = unknown_formula_plain x h
  unknown_formula_plain (both x y) h = both_plain (unknown_in_formula symbols x) (unknown_in_formula symbols y) (unknown_formula_plain x h.0) (unknown_formula_plain y h.1)
  unknown_formula_plain (either x y) h = both_plain (unknown_in_formula symbols x) (unknown_in_formula symbols y) (unknown_formula_plain x h.0) (unknown_formula_plain y h.1)
  unknown_formula_plain (implies x y) h = both_plain (unknown_in_formula symbols x) (unknown_in_formula symbols y) (unknown_formula_plain x h.0) (unknown_formula_plain y h.1)
  unknown_formula_plain (for_all v x) h = unknown_formula_plain x h.1
  unknown_formula_plain (for_some v x) h = unknown_formula_plain x h.1

  unknown_equations_plain : (es : List (Term Written × Term Written)) → Every IsPlainEquation es → ArePlain (unknown_in_equations symbols es)
  unknown_equations_plain [] e = tt
  unknown_equations_plain (d ∷ es) e =
      both_plain (unknown_in symbols d.0) (unknown_in symbols d.1 ++ unknown_in_equations symbols es) (unknown_plain d.0 e.0.0)
      (both_plain (unknown_in symbols d.1) (unknown_in_equations symbols es) (unknown_plain d.1 e.0.1) (unknown_equations_plain es e.1))

  unknown_rule_plain : (r : WrittenRule) → IsPlainRule r → ArePlain (unknown_in_rule symbols r)
  unknown_rule_plain r h =
      both_plain (unknown_in_facts symbols r.facts.premises) (unknown_in_actions symbols r.facts.actions ++ unknown_in_facts symbols r.facts.conclusions) (unknown_facts_plain r.facts.premises h.premises)
      (both_plain (unknown_in_actions symbols r.facts.actions) (unknown_in_facts symbols r.facts.conclusions) (unknown_actions_plain r.facts.actions h.actions) (unknown_facts_plain r.facts.conclusions h.conclusions))

  unknown_item_plain : (x : Item) → IsPlainItem x → ArePlain (unknown_in_item symbols x)
  unknown_item_plain (builtins_item bs) h = tt
  unknown_item_plain (functions_item ss) h = tt
  unknown_item_plain (equations_item es) h = unknown_equations_plain es h
  unknown_item_plain (heuristic_item ws) h = tt
  unknown_item_plain (block_item w) h = tt
  unknown_item_plain (rule_item bs r) h = unknown_rule_plain r h.1
  unknown_item_plain (restriction_item r) h = unknown_formula_plain r.formula h.1
  unknown_item_plain (lemma_item l as' p) h = unknown_formula_plain l.formula h.0.1

  pub unknown_items_plain : (xs : List Item) → Every IsPlainItem xs → ArePlain (unknown_in_items symbols xs)
  unknown_items_plain xs e = on_items_plain (unknown_in_item symbols) unknown_item_plain xs e

-- ---- equations are told by their numbers

shapes_plain : (symbols : List Symbol) (es : List Equation) (ns : List Numbered) → ArePlain (shapes symbols es ns)
shapes_plain symbols es [] = tt
shapes_plain symbols es (n ∷ ns) = plain_told _ (f.wrong_shape n.0) (shapes symbols es ns) tt (shapes_plain symbols es ns)

constants_plain : (symbols : List Symbol) (es : List Equation) (ns : List Numbered) → ArePlain (private_constants symbols es ns)
constants_plain symbols es [] = tt
constants_plain symbols es (n ∷ ns) = plain_told _ (f.private_constant n.0) (private_constants symbols es ns) tt (constants_plain symbols es ns)

clashes_with_plain : (d : Numbered) (ns : List Numbered) → ArePlain (clashes_with d ns)
clashes_with_plain d [] = tt
clashes_with_plain d (n ∷ ns) = plain_told _ (f.clash d.0 n.0) (clashes_with d ns) tt (clashes_with_plain d ns)

clashes_plain : (ns : List Numbered) → ArePlain (clashes ns)
clashes_plain [] = tt
clashes_plain (n ∷ ns) = both_plain (clashes_with n ns) (clashes ns) (clashes_with_plain n ns) (clashes_plain ns)

pub plain_if : (b : Bool) (xs : List Finding) → ArePlain xs → ArePlain (cond b xs [])
plain_if true xs h = h
plain_if false xs h = tt

pub equations_plain : (symbols : List Symbol) (ns : List Numbered) → ArePlain (findings_on_equations symbols ns)
equations_plain symbols ns =
    let es : List Equation = their_equations ns in
    both_plain (shapes symbols es ns) _ (shapes_plain symbols es ns) (both_plain (private_constants symbols es ns) _ (constants_plain symbols es ns) (plain_if _ (clashes ns) (clashes_plain ns)))
