-- The theory that a text says: its signature, of the pairs, the builtins and its own functions and equations, its rules with the values of their
-- bindings, its restrictions and its lemmas. A bare name that is declared with arity 0 is that symbol, unless a quantifier or `let` binds it. Source: Tamarin manual, "Cryptographic messages" (built-in theories,
-- user-defined functions and equations).
use Rattle.std.specs.Prelude.{ℕ, suc, Bool, true, false, not, ◌&&◌, ◌||◌, ◌==◌, if◌then◌else◌, List, [], ◌∷◌, ◌++◌, map, Option, Some, None, codes}
use Rattle.std.specs.List.{flat_map}
use Rattle.std.specs.Str.{bytes_eq}
use Rattle.sp_spec.specs.Lists.{is_listed}
use Rattle.sp_spec.specs.Term.{Sort, Msg, Pub, Variable, Term, var, app, Terms, none, more, valued, in_term}
use Rattle.sp_spec.specs.Same.{alike}
use Rattle.sp_spec.specs.Signature.{Symbol, Equation, msg, pair_symbols, pair_equations}
use Rattle.sp_spec.specs.Rule.{action_at, facts_at}
use Rattle.sp_spec.specs.Formula.{Mark, bare, of_sort, of_time, Written, Formula, truth, falsity, happens, equals, precedes, not_so, both, either, implies, for_all, for_some}
use Rattle.sp_spec.specs.Theory.{Restriction, Lemma}
use Rattle.sp_spec.specs.Written.{WrittenRule, WrittenTheory, names_after, place_of}
use Rattle.sp_spec_text.specs.Bindings.{with_values}
use Rattle.sp_spec_text.specs.Written.{Item, builtins_item, functions_item, equations_item, heuristic_item, block_item, rule_item, restriction_item, lemma_item, builtins_in, functions_in, equations_in, rules_in, restrictions_in, lemmas_in, WrittenText}

-- ---- builtins

pub data Builtin : Type 0 where
  hashing : Builtin
  symmetric_encryption : Builtin
  asymmetric_encryption : Builtin
  signing : Builtin
  revealing_signing : Builtin

unfoldable pub builtin_of : List ℕ → Option Builtin
builtin_of b =
    if bytes_eq b (codes "hashing") then Some hashing
    else if bytes_eq b (codes "symmetric-encryption") then Some symmetric_encryption
    else if bytes_eq b (codes "asymmetric-encryption") then Some asymmetric_encryption
    else if bytes_eq b (codes "signing") then Some signing
    else if bytes_eq b (codes "revealing-signing") then Some revealing_signing
    else None

abbrev pub public : List ℕ → ℕ → Symbol
public f arity = record { name = f; arity = arity; private = false }

abbrev pub symbols_of : Builtin → List Symbol
symbols_of hashing = public (codes "h") 1 ∷ []
symbols_of symmetric_encryption = public (codes "senc") 2 ∷ public (codes "sdec") 2 ∷ []
symbols_of asymmetric_encryption = public (codes "aenc") 2 ∷ public (codes "adec") 2 ∷ public (codes "pk") 1 ∷ []
symbols_of signing = public (codes "sign") 2 ∷ public (codes "verify") 3 ∷ public (codes "pk") 1 ∷ public (codes "true") 0 ∷ []
symbols_of revealing_signing =
    public (codes "revealSign") 2 ∷ public (codes "revealVerify") 3 ∷ public (codes "getMessage") 1 ∷ public (codes "pk") 1 ∷ public (codes "true") 0 ∷ []

abbrev pub row : List (Term Variable) → Terms Variable
row [] = none
row (t ∷ ts) = more t (row ts)

abbrev pub over : List ℕ → List (Term Variable) → Term Variable
over f ts = app f (row ts)

-- the message and the key
abbrev pub m : Term Variable
m = msg 0

abbrev pub k : Term Variable
k = msg 1

abbrev pub pk : Term Variable → Term Variable
pk t = over (codes "pk") (t ∷ [])

-- sdec(senc(m, k), k) = m; adec(aenc(m, pk(k)), k) = m; verify(sign(m, k), m, pk(k)) = true;
-- revealVerify(revealSign(m, k), m, pk(k)) = true and getMessage(revealSign(m, k)) = m
abbrev pub equations_of : Builtin → List Equation
equations_of hashing = []
equations_of symmetric_encryption = record { left = over (codes "sdec") (over (codes "senc") (m ∷ k ∷ []) ∷ k ∷ []); right = m } ∷ []
equations_of asymmetric_encryption = record { left = over (codes "adec") (over (codes "aenc") (m ∷ pk k ∷ []) ∷ k ∷ []); right = m } ∷ []
equations_of signing = record { left = over (codes "verify") (over (codes "sign") (m ∷ k ∷ []) ∷ m ∷ pk k ∷ []); right = over (codes "true") [] } ∷ []
equations_of revealing_signing =
    record { left = over (codes "revealVerify") (over (codes "revealSign") (m ∷ k ∷ []) ∷ m ∷ pk k ∷ []); right = over (codes "true") [] }
    ∷ record { left = over (codes "getMessage") (over (codes "revealSign") (m ∷ k ∷ []) ∷ []); right = m } ∷ []

abbrev pub builtin_symbols : Option Builtin → List Symbol
builtin_symbols None = []
builtin_symbols (Some b) = symbols_of b

abbrev pub builtin_equations : Option Builtin → List Equation
builtin_equations None = []
builtin_equations (Some b) = equations_of b

-- ---- symbols

abbrev pub is_named : List ℕ → List Symbol → Bool
is_named f [] = false
is_named f (s ∷ symbols) = bytes_eq s.name f || is_named f symbols

-- those that stand behind these: of several symbols of one name the first counts
abbrev pub new_symbols : List Symbol → List Symbol → List Symbol
new_symbols before [] = []
new_symbols before (s ∷ symbols) = if is_named s.name before then new_symbols before symbols else s ∷ new_symbols (before ++ s ∷ []) symbols

-- all that builtins and functions declare, the builtins first
abbrev pub declared_symbols : List Item → List Symbol
declared_symbols items = flat_map (λ b. builtin_symbols (builtin_of b)) (builtins_in items) ++ functions_in items

abbrev pub all_symbols : List Item → List Symbol
all_symbols items = pair_symbols ++ new_symbols pair_symbols (declared_symbols items)

-- ---- names that are symbols

abbrev pub is_constant : List Symbol → List ℕ → Bool
is_constant [] f = false
is_constant (s ∷ symbols) f = (bytes_eq s.name f && (s.arity == 0)) || is_constant symbols f

abbrev pub is_bare : Mark → Bool
is_bare bare = true
is_bare mark = false

-- unless it is one of these names, which are bound
abbrev pub resolved_name : List Symbol → List (List ℕ) → Written → Term Written
resolved_name symbols bound x = if is_bare x.mark && (is_constant symbols x.name && not (is_listed x.name bound)) then app x.name none else var x

abbrev pub resolved_term : List Symbol → List (List ℕ) → Term Written → Term Written
resolved_term symbols bound t = valued (resolved_name symbols bound) t

abbrev pub resolved_formula : List Symbol → List (List ℕ) → Formula → Formula
resolved_formula symbols bound truth = truth
resolved_formula symbols bound falsity = falsity
resolved_formula symbols bound (happens a i) = happens (action_at (resolved_name symbols bound) a) i
resolved_formula symbols bound (equals t u) = equals (resolved_term symbols bound t) (resolved_term symbols bound u)
resolved_formula symbols bound (precedes i j) = precedes i j
resolved_formula symbols bound (not_so f) = not_so (resolved_formula symbols bound f)
resolved_formula symbols bound (both f g) = both (resolved_formula symbols bound f) (resolved_formula symbols bound g)
resolved_formula symbols bound (either f g) = either (resolved_formula symbols bound f) (resolved_formula symbols bound g)
resolved_formula symbols bound (implies f g) = implies (resolved_formula symbols bound f) (resolved_formula symbols bound g)
resolved_formula symbols bound (for_all x f) = for_all x (resolved_formula symbols (x.name ∷ bound) f)
resolved_formula symbols bound (for_some x f) = for_some x (resolved_formula symbols (x.name ∷ bound) f)

abbrev pub resolved_lemma : List Symbol → Lemma → Lemma
resolved_lemma symbols l = record { name = l.name; kind = l.kind; formula = resolved_formula symbols [] l.formula }

abbrev pub resolved_restriction : List Symbol → Restriction → Restriction
resolved_restriction symbols r = record { name = r.name; formula = resolved_formula symbols [] r.formula }

abbrev pub resolved_equation : List Symbol → Term Written × Term Written → Term Written × Term Written
resolved_equation symbols e = (resolved_term symbols [] e.0, resolved_term symbols [] e.1)

abbrev pub resolved_rule : List Symbol → WrittenRule → WrittenRule
resolved_rule symbols r = record { name = r.name; facts = facts_at (resolved_name symbols []) r.facts }

-- bindings are replaced first, so that a name that is bound is none of a symbol
abbrev pub resolved_item : List Symbol → Item → Item
resolved_item symbols (builtins_item bs) = builtins_item bs
resolved_item symbols (functions_item ss) = functions_item ss
resolved_item symbols (equations_item es) = equations_item (map (resolved_equation symbols) es)
resolved_item symbols (heuristic_item ws) = heuristic_item ws
resolved_item symbols (block_item w) = block_item w
resolved_item symbols (rule_item bs r) = rule_item [] (resolved_rule symbols (with_values bs r))
resolved_item symbols (restriction_item r) = restriction_item (resolved_restriction symbols r)
resolved_item symbols (lemma_item l as' p) = lemma_item (resolved_lemma symbols l) as' p

-- the text with values in the place of the names that are bound, and with symbols in that of the names that are such
abbrev pub resolved : WrittenText → WrittenText
resolved t = record { name = t.name; items = map (resolved_item (all_symbols t.items)) t.items }

-- ---- equations

-- variables are known by their names; any mark but that of messages is none that an equation may have
abbrev pub equation_sort : Mark → Sort
equation_sort bare = Msg
equation_sort (of_sort sort) = sort
equation_sort of_time = Pub

abbrev pub equation_names : Term Written × Term Written → List (List ℕ)
equation_names e = names_after [] (in_term e.0 ++ in_term e.1)

abbrev pub equation_variable : List (List ℕ) → Written → Term Variable
equation_variable names x = var (record { sort = equation_sort x.mark; number = place_of x.name names })

abbrev pub equation_of : Term Written × Term Written → Equation
equation_of e = record { left = valued (equation_variable (equation_names e)) e.0; right = valued (equation_variable (equation_names e)) e.1 }

abbrev pub is_same_equation : Equation → Equation → Bool
is_same_equation d e = alike d.left e.left && alike d.right e.right

abbrev pub stands_among : Equation → List Equation → Bool
stands_among e [] = false
stands_among e (d ∷ ds) = is_same_equation d e || stands_among e ds

-- an equation with its number in the text
abbrev pub Numbered : Type 0
Numbered = ℕ × Equation

-- those that stand behind these: one that equals an earlier one, up to names of variables, is passed over
abbrev pub new_equations : List Equation → List Numbered → List Numbered
new_equations before [] = []
new_equations before (e ∷ es) = if stands_among e.1 before then new_equations before es else e ∷ new_equations (before ++ e.1 ∷ []) es

abbrev pub without_number : Equation → Numbered
without_number e = (0, e)

abbrev pub numbered_from : ℕ → List Equation → List Numbered
numbered_from n [] = []
numbered_from n (e ∷ es) = (n, e) ∷ numbered_from (suc n) es

-- all that builtins and equations declare, the builtins first; those of builtins have number 0, those of the text from 1 on
abbrev pub declared_equations : List Item → List Numbered
declared_equations items =
    map without_number (flat_map (λ b. builtin_equations (builtin_of b)) (builtins_in items)) ++ numbered_from 1 (map equation_of (equations_in items))

-- those of the theory, behind those of pairs
abbrev pub added_equations : List Item → List Numbered
added_equations items = new_equations pair_equations (declared_equations items)

abbrev pub all_equations : List Item → List Numbered
all_equations items = map without_number pair_equations ++ added_equations items

abbrev pub their_equations : List Numbered → List Equation
their_equations es = map (λ (e : Numbered). e.1) es

-- ---- the theory

abbrev pub theory_in : WrittenText → WrittenTheory
theory_in t = record {
  name = t.name;
  symbols = new_symbols pair_symbols (declared_symbols t.items);
  equations = their_equations (added_equations (resolved t).items);
  rules = rules_in (resolved t).items;
  restrictions = restrictions_in (resolved t).items;
  lemmas = lemmas_in (resolved t).items;
}
