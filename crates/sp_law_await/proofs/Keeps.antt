-- A move makes a good list of parts of a good one.
use Rattle.std.proofs.Common.{◌≡◌, ℕ, zero, suc, ◌+◌, ◌*◌, ◌<◌, if◌then◌else◌, Bool, List, [], ◌∷◌, ◌++◌, refl, subst, arith}
use Rattle.sp_spec_text.specs.Signs.{Sign}
use Rattle.sp_spec_text.specs.Signs as s
use Rattle.sp_spec_text.specs.Token.{Lexeme}
use Rattle.sp_await.specs.Parts.{Awaited}
use Rattle.sp_await.specs.Parts as a
use Rattle.sp_await.specs.Keywords.{NamedItem, Rule, Restriction, Lemma, ListItem, Builtins, Functions, Equations, Heuristic, Keyword, names, lists, neither, TraceKind, All, Exists}
use Rattle.sp_await.specs.Table.{Move, takes, becomes, opens, stuck, single, nests, next, deep, keyword, side_closed, both_closed, open_move, bracket_move, name_move, colon_move, binding_parts, kind_parts, colon_beside, words_colon_move, words_bracket_move, one_of, behind_name, dash_move}
use Rattle.sp_await.specs.Stack.{is_closed, Fits, Good}
use Rattle.sp_law_await.proofs.Means.{by_if, by_nests}

-- how often parts may become others before a token is taken
abbrev pub weight : Awaited → ℕ
weight (a.Applied n) = 2
weight (a.Tuple n y) = 3
weight (a.Arguments n) = 3
weight (a.Negation n k) = 2
weight (a.Order n k) = 2
weight (a.Bare n k) = 3
weight (a.Named n k) = 4
weight (a.Shown n k) = 2
weight (a.Truth n k) = 4 * k + 5
weight (a.Both n k) = 4 * k + 2
weight (a.Closing n k) = 4 * k + 1
weight a.Quoted = 6
weight (a.Body i) = 10
weight (a.Listing l) = 6
weight (a.Facts y) = 3
weight a.MoreBuiltins = 2
weight a.MoreFunctions = 2
weight a.MoreEquations = 2
weight (a.Either l i) = 11
weight (a.Joined l y) = 7
weight (a.JoinedTraces y) = 4
weight a.JoinedQuote = 3
weight a.Below = 2
weight a.BelowSolved = 2
weight a.BelowBy = 3
weight a.BelowMethod = 4
weight a.Behind = 2
weight _ = 1

abbrev pub weights : List Awaited → ℕ
weights [] = 0
weights (part ∷ parts) = weight part + weights parts

weights-append : (parts others : List Awaited) → weights (parts ++ others) ≡ weights parts + weights others
weights-append [] others = omega arith
weights-append (part ∷ parts) others = let e = weights-append parts others in omega (arith, e)

-- from a good list of parts the move makes a good list; and what becomes other parts grows lighter
abbrev Keeps : Awaited → Move → Type 0
Keeps part (takes parts) = (others : List Awaited) → Fits part (is_closed others) → Good others → Good (parts ++ others)
Keeps part (becomes parts) = (weights parts < weight part) × ((others : List Awaited) → Fits part (is_closed others) → Good others → Good (parts ++ others))
Keeps part (opens parts) = (weights parts < weight part) × ((others : List Awaited) → Fits part (is_closed others) → Good others → Good (parts ++ others))
Keeps part stuck = Unit {0}

record Kept (part : Awaited) (m : Move) : Type 0 where
  keeps : Keeps part m

by_choice : {part : Awaited} (b : Bool) {m o : Move} → Kept part m → Kept part o → Kept part (if b then m else o)
by_choice {part} b {m} {o} f g = by_if (Kept part) b m o (λ e. f) (λ e. g)

by_depth : {part : Awaited} (n : ℕ) {m : Move} → (n < 128 → Kept part m) → Kept part (nests n m)
by_depth {part} n {m} f = by_nests (Kept part) n m (record { keeps = tt }) f

to_parts : {part : Awaited} {parts : List Awaited} → ((others : List Awaited) → Fits part (is_closed others) → Good others → Good (parts ++ others)) → Kept part (takes parts)
to_parts f = record { keeps = f }

as_parts : {part : Awaited} {parts : List Awaited} → weights parts < weight part → ((others : List Awaited) → Fits part (is_closed others) → Good others → Good (parts ++ others)) → Kept part (becomes parts)
as_parts lt f = record { keeps = (lt, f) }

open_parts : {part : Awaited} {parts : List Awaited} → weights parts < weight part → ((others : List Awaited) → Fits part (is_closed others) → Good others → Good (parts ++ others)) → Kept part (opens parts)
open_parts lt f = record { keeps = (lt, f) }

sticks : {part : Awaited} → Kept part stuck
sticks = record { keeps = tt }

keeps_single : (part : Awaited) (b : Bool) → Kept part (single b)
keeps_single part b = by_choice _ (to_parts (λ os f g. g)) sticks

-- ---- variables, terms and facts

keeps_sorted : (x : Lexeme) → Kept a.Sorted (next a.Sorted x)
keeps_sorted x = by_choice _ (to_parts (λ os f g. (tt, g))) (as_parts (omega arith) (λ os f g. g))

keeps_variable : (x : Lexeme) → Kept a.Variable (next a.Variable x)
keeps_variable x = by_choice _ (to_parts {parts = a.Name ∷ []} (λ os f g. (tt, g))) (by_choice _ (to_parts {parts = a.Sorted ∷ []} (λ os f g. (tt, g))) sticks)

keeps_term : (n : ℕ) (x : Lexeme) → Kept (a.Term n) (next (a.Term n) x)
keeps_term n x =
    by_choice _ (to_parts {parts = []} (λ os f g. g))
    (by_choice _ (by_depth n (λ lt. to_parts {parts = a.Term (n + 1) ∷ a.Exactly s.Close ∷ []} (λ os f g. (omega (arith, lt), (tt, g)))))
    (by_choice _ (by_depth n (λ lt. to_parts {parts = a.Tuple (n + 1) s.Greater ∷ []} (λ os f g. ((omega (arith, lt), refl), g))))
    (by_choice _ (to_parts {parts = a.Name ∷ []} (λ os f g. (tt, g)))
    (by_choice _ (to_parts {parts = a.Applied n ∷ []} (λ os f g. (f, g))) sticks))))

keeps_applied : (n : ℕ) (x : Lexeme) → Kept (a.Applied n) (next (a.Applied n) x)
keeps_applied n x =
    by_choice _ (by_depth n (λ lt. to_parts {parts = a.Arguments (n + 1) ∷ []} (λ os f g. (omega (arith, lt), g))))
    (by_choice _ (by_depth n (λ lt. to_parts {parts = a.Tuple (n + 1) s.CloseBrace ∷ a.Term (n + 1) ∷ []} (λ os f g. ((omega (arith, lt), refl), (omega (arith, lt), g))))) (as_parts (omega arith) (λ os f g. (tt, g))))

keeps_tuple : (n : ℕ) (y : Sign) (x : Lexeme) → Kept (a.Tuple n y) (next (a.Tuple n y) x)
keeps_tuple n y x = as_parts (omega arith) (λ os f g. (f.0, (f, g)))

keeps_more_tuple : (n : ℕ) (y : Sign) (x : Lexeme) → Kept (a.MoreTuple n y) (next (a.MoreTuple n y) x)
keeps_more_tuple n y x = by_choice _ (by_depth n (λ lt. to_parts {parts = a.Tuple (n + 1) y ∷ []} (λ os f g. ((omega (arith, lt), f.1), g)))) (by_choice _ (to_parts {parts = []} (λ os f g. g)) sticks)

keeps_arguments : (n : ℕ) (x : Lexeme) → Kept (a.Arguments n) (next (a.Arguments n) x)
keeps_arguments n x = by_choice _ (to_parts (λ os f g. g)) (as_parts (omega arith) (λ os f g. (f, (f, g))))

keeps_more_arguments : (n : ℕ) (x : Lexeme) → Kept (a.MoreArguments n) (next (a.MoreArguments n) x)
keeps_more_arguments n x = by_choice _ (to_parts {parts = a.Term n ∷ a.MoreArguments n ∷ []} (λ os f g. (f, (f, g)))) (by_choice _ (to_parts {parts = []} (λ os f g. g)) sticks)

keeps_fact : (n : ℕ) (x : Lexeme) → Kept (a.Fact n) (next (a.Fact n) x)
keeps_fact n x = by_choice _ (to_parts {parts = a.FactName ∷ a.Opened n ∷ []} (λ os f g. (tt, (f, g)))) (by_choice _ (to_parts {parts = a.Opened n ∷ []} (λ os f g. (f, g))) sticks)

keeps_opened : (n : ℕ) (x : Lexeme) → Kept (a.Opened n) (next (a.Opened n) x)
keeps_opened n x = by_choice _ (by_depth n (λ lt. to_parts {parts = a.Arguments (n + 1) ∷ a.Annotations ∷ []} (λ os f g. (omega (arith, lt), (tt, g))))) sticks

keeps_annotations : (x : Lexeme) → Kept a.Annotations (next a.Annotations x)
keeps_annotations x = by_choice _ (to_parts (λ os f g. (tt, (tt, g)))) (as_parts (omega arith) (λ os f g. g))

keeps_more_annotations : (x : Lexeme) → Kept a.MoreAnnotations (next a.MoreAnnotations x)
keeps_more_annotations x = by_choice _ (to_parts {parts = a.Annotation ∷ a.MoreAnnotations ∷ []} (λ os f g. (tt, (tt, g)))) (by_choice _ (to_parts {parts = []} (λ os f g. g)) sticks)

keeps_binders : (x : Lexeme) → Kept a.Binders (next a.Binders x)
keeps_binders x = by_choice _ (to_parts {parts = []} (λ os f g. g)) (by_choice _ (to_parts {parts = a.Name ∷ a.Binders ∷ []} (λ os f g. (tt, (tt, g)))) (by_choice _ (to_parts {parts = a.Sorted ∷ a.Binders ∷ []} (λ os f g. (tt, (tt, g)))) sticks))

-- ---- formulas

keeps_negation : (n k : ℕ) (x : Lexeme) → Kept (a.Negation n k) (next (a.Negation n k) x)
keeps_negation n k x = by_choice _ (to_parts (λ os f g. (f, (f, g)))) (as_parts (omega arith) (λ os f g. (f, g)))

keeps_unit : (n k : ℕ) (x : Lexeme) → Kept (a.Unit n k) (next (a.Unit n k) x)
keeps_unit n k x =
    by_choice _ (by_depth (deep n k) (λ lt. to_parts {parts = a.Negation n (suc k) ∷ []} (λ os f g. ((omega (arith, lt), f.1), g))))
    (by_choice _ (by_depth (deep n k) (λ lt. to_parts {parts = a.Tuple (deep n k + 1) s.Greater ∷ a.Side n k ∷ []} (λ os f g. ((omega (arith, lt), refl), (f, g)))))
    (by_choice _ (to_parts {parts = a.Side n k ∷ []} (λ os f g. (f, g)))
    (by_choice _ (to_parts {parts = a.Name ∷ a.Order n k ∷ []} (λ os f g. (tt, (f, g))))
    (by_choice _ (by_depth (deep n k) (λ lt. to_parts {parts = a.FactName ∷ a.Opened (deep n k) ∷ a.Exactly s.At ∷ a.Variable ∷ a.Closing n k ∷ []} (λ os f g. (tt, (lt, (tt, (tt, (f, g))))))))
    (by_choice _ (by_depth (deep n k) (λ lt. to_parts {parts = a.Variable ∷ a.Binders ∷ a.Negation (deep n k + 1) 0 ∷ a.More (deep n k + 1) ∷ a.Twice (deep n k + 1) ∷ a.Closing n k ∷ []} (λ os f g. (tt, (tt, ((omega (arith, lt), f.1), ((omega (arith, lt), f.1), ((omega (arith, lt), f.1), (f, g)))))))))
    (by_choice _ (to_parts {parts = a.Truth n k ∷ []} (λ os f g. (f, g)))
    (by_choice _ (to_parts {parts = a.Named n k ∷ []} (λ os f g. (f, g)))
    (by_choice _ (to_parts {parts = a.Bare n k ∷ []} (λ os f g. (f, g))) sticks))))))))

keeps_side_closed : (n k : ℕ) → Kept (a.Side n k) (side_closed n k)
keeps_side_closed n zero = sticks
keeps_side_closed n (suc k) = to_parts (λ os f g. ((omega (arith, f.0), f.1), g))

keeps_side : (n k : ℕ) (x : Lexeme) → Kept (a.Side n k) (next (a.Side n k) x)
keeps_side n k x = by_choice _ (to_parts (λ os f g. (f.0, (f, g)))) (by_choice _ (keeps_side_closed n k) sticks)

keeps_order : (n k : ℕ) (x : Lexeme) → Kept (a.Order n k) (next (a.Order n k) x)
keeps_order n k x = by_choice _ (to_parts (λ os f g. (tt, (f, g)))) (as_parts (omega arith) (λ os f g. (f, g)))

keeps_bare : (n k : ℕ) (x : Lexeme) → Kept (a.Bare n k) (next (a.Bare n k) x)
keeps_bare n k x =
    by_choice _ (to_parts {parts = a.Sort ∷ a.Order n k ∷ []} (λ os f g. (tt, (f, g))))
    (by_choice _ (by_depth (deep n k) (λ lt. to_parts {parts = a.Arguments (deep n k + 1) ∷ a.Side n k ∷ []} (λ os f g. (omega (arith, lt), (f, g)))))
    (by_choice _ (by_depth (deep n k) (λ lt. to_parts {parts = a.Tuple (deep n k + 1) s.CloseBrace ∷ a.Term (deep n k + 1) ∷ a.Side n k ∷ []} (λ os f g. ((omega (arith, lt), refl), (omega (arith, lt), (f, g)))))) (as_parts (omega arith) (λ os f g. (f, g)))))

keeps_named : (n k : ℕ) (x : Lexeme) → Kept (a.Named n k) (next (a.Named n k) x)
keeps_named n k x = by_choice _ (by_depth (deep n k) (λ lt. to_parts (λ os f g. (omega (arith, lt), (f, g))))) (as_parts (omega arith) (λ os f g. (f, g)))

keeps_shown : (n k : ℕ) (x : Lexeme) → Kept (a.Shown n k) (next (a.Shown n k) x)
keeps_shown n k x =
    by_choice _ (to_parts {parts = a.Variable ∷ a.Closing n k ∷ []} (λ os f g. (tt, (f, g))))
    (by_choice _ (to_parts {parts = a.Annotation ∷ a.MoreAnnotations ∷ a.Exactly s.At ∷ a.Variable ∷ a.Closing n k ∷ []} (λ os f g. (tt, (tt, (tt, (tt, (f, g))))))) (as_parts (omega arith) (λ os f g. (f, g))))

keeps_truth : (n k : ℕ) (x : Lexeme) → Kept (a.Truth n k) (next (a.Truth n k) x)
keeps_truth n k x = by_choice _ (as_parts (omega arith) (λ os f g. (f, g))) (as_parts (omega arith) (λ os f g. (f, g)))

keeps_both_closed : (n k : ℕ) → Kept (a.Both n k) (both_closed n k)
keeps_both_closed n zero = as_parts (omega arith) (λ os f g. (f, g))
keeps_both_closed n (suc k) = to_parts (λ os f g. ((omega (arith, f.0), f.1), g))

keeps_both : (n k : ℕ) (x : Lexeme) → Kept (a.Both n k) (next (a.Both n k) x)
keeps_both n k x = by_choice _ (as_parts (omega arith) (λ os f g. (f, g))) (by_choice _ (keeps_both_closed n k) (as_parts (omega arith) (λ os f g. (f, g))))

keeps_closing : (n k : ℕ) (x : Lexeme) → Kept (a.Closing n k) (next (a.Closing n k) x)
keeps_closing n zero x = as_parts (omega arith) (λ os f g. g)
keeps_closing n (suc k) x = as_parts (omega arith) (λ os f g. ((f.0, refl), ((f.0, refl), (tt, ((omega (arith, f.0), f.1), g)))))

keeps_more : (n : ℕ) (x : Lexeme) → Kept (a.More n) (next (a.More n) x)
keeps_more n x =
    by_choice _ (to_parts (λ os f g. (f, (f, g))))
    (by_choice _ (by_depth n (λ lt. to_parts (λ os f g. ((omega (arith, lt), f.1), ((omega (arith, lt), f.1), g))))) (as_parts (omega arith) (λ os f g. g)))

keeps_twice : (n : ℕ) (x : Lexeme) → Kept (a.Twice n) (next (a.Twice n) x)
keeps_twice n x = by_choice _ (to_parts (λ os f g. (f, (f, g)))) (as_parts (omega arith) (λ os f g. g))

-- ---- proofs and theories

keeps_proof : (x : Lexeme) → Kept a.Proof (next a.Proof x)
keeps_proof x = by_choice _ (to_parts {parts = []} (λ os f g. g)) (by_choice _ (to_parts {parts = a.Method ∷ []} (λ os f g. (tt, g))) (by_choice _ (to_parts {parts = a.Behind ∷ []} (λ os f g. (tt, g))) sticks))

keeps_behind : (x : Lexeme) → Kept a.Behind (next a.Behind x)
keeps_behind x = by_choice _ (to_parts (λ os f g. (tt, (tt, (tt, g))))) (as_parts (omega arith) (λ os f g. (tt, g)))

keeps_cases : (x : Lexeme) → Kept a.Cases (next a.Cases x)
keeps_cases x = by_choice _ (to_parts {parts = []} (λ os f g. g)) (by_choice _ (to_parts {parts = a.Case ∷ a.Name ∷ a.Proof ∷ a.Cases ∷ []} (λ os f g. (tt, (tt, (tt, (tt, g)))))) sticks)

keeps_theory : (x : Lexeme) → Kept a.Theory (next a.Theory x)
keeps_theory x = by_choice _ (to_parts (λ os f g. (tt, (tt, (tt, g))))) sticks

keeps_items : (x : Lexeme) → Kept a.Items (next a.Items x)
keeps_items x = by_choice _ (to_parts {parts = a.Item (keyword x) ∷ []} (λ os f g. (tt, g))) (by_choice _ (to_parts {parts = []} (λ os f g. g)) sticks)

-- `(`, and `[`, behind words of an item
keeps_open : {part : Awaited} (k : Keyword) → Kept part (open_move k)
keeps_open (names Rule) = to_parts {parts = a.Modulo ∷ a.Name ∷ a.Exactly s.Close ∷ a.Name ∷ a.Headed Rule ∷ []} (λ os f g. (tt, (tt, (tt, (tt, (tt, g))))))
keeps_open _ = sticks

keeps_bracket : {part : Awaited} (i : NamedItem) → Kept part (bracket_move i)
keeps_bracket Rule = to_parts {parts = a.Balanced ∷ a.Exactly s.Colon ∷ a.Body Rule ∷ []} (λ os f g. (tt, (tt, (tt, g))))
keeps_bracket Restriction = sticks
keeps_bracket Lemma = to_parts {parts = a.LemmaAttribute ∷ a.MoreLemmaAttributes ∷ a.Exactly s.Colon ∷ a.Body Lemma ∷ []} (λ os f g. (tt, (tt, (tt, (tt, g)))))

keeps_name : {part : Awaited} (k : Keyword) → Kept part (name_move k)
keeps_name (names i) = to_parts {parts = a.Headed i ∷ []} (λ os f g. (tt, g))
keeps_name _ = sticks

keeps_colon : {part : Awaited} (k : Keyword) → Kept part (colon_move k)
keeps_colon (lists l) = to_parts {parts = a.Listing l ∷ []} (λ os f g. (tt, g))
keeps_colon _ = sticks

keeps_item : (k : Keyword) (x : Lexeme) → Kept (a.Item k) (next (a.Item k) x)
keeps_item k x = by_choice _ (to_parts {parts = a.Items ∷ []} (λ os f g. (tt, g))) (by_choice _ (keeps_name k) (by_choice _ (keeps_colon k) (by_choice _ (keeps_open k) sticks)))

keeps_headed : (i : NamedItem) (x : Lexeme) → Kept (a.Headed i) (next (a.Headed i) x)
keeps_headed i x = by_choice _ (to_parts {parts = a.Body i ∷ []} (λ os f g. (tt, g))) (by_choice _ (keeps_bracket i) sticks)

keeps_body : (i : NamedItem) (x : Lexeme) → Kept (a.Body i) (next (a.Body i) x)
keeps_body Rule x = as_parts (omega arith) (λ os f g. (tt, (tt, (tt, (tt, (tt, g))))))
keeps_body Restriction x = as_parts (omega arith) (λ os f g. (tt, (tt, (tt, g))))
keeps_body Lemma x = as_parts (omega arith) (λ os f g. (tt, (tt, (tt, g))))

keeps_quoted : (x : Lexeme) → Kept a.Quoted (next a.Quoted x)
keeps_quoted x = open_parts (omega arith) (λ os f g. ((omega arith, refl), ((omega arith, refl), ((omega arith, refl), (tt, g)))))

keeps_balanced : (x : Lexeme) → Kept a.Balanced (next a.Balanced x)
keeps_balanced x =
    by_choice _ (to_parts {parts = []} (λ os f g. g))
    (by_choice _ (to_parts {parts = a.Balanced ∷ a.Balanced ∷ []} (λ os f g. (tt, (tt, g)))) (by_choice _ sticks (to_parts {parts = a.Balanced ∷ []} (λ os f g. (tt, g)))))

keeps_let : (x : Lexeme) → Kept a.Let (next a.Let x)
keeps_let x = by_choice _ (to_parts (λ os f g. (tt, (tt, (omega arith, (tt, g)))))) (as_parts (omega arith) (λ os f g. g))

keeps_more_bindings : (x : Lexeme) → Kept a.MoreBindings (next a.MoreBindings x)
keeps_more_bindings x =
    by_choice _ (to_parts {parts = []} (λ os f g. g))
    (by_choice _ (to_parts {parts = a.Name ∷ binding_parts} (λ os f g. (tt, (tt, (omega arith, (tt, g)))))) (by_choice _ (to_parts {parts = a.Sorted ∷ binding_parts} (λ os f g. (tt, (tt, (omega arith, (tt, g)))))) sticks))

keeps_lemma_attribute : (x : Lexeme) → Kept a.LemmaAttribute (next a.LemmaAttribute x)
keeps_lemma_attribute x = by_choice _ (to_parts {parts = a.AttributeValue ∷ []} (λ os f g. (tt, g))) (by_choice _ (to_parts {parts = []} (λ os f g. g)) sticks)

keeps_attribute_value : (x : Lexeme) → Kept a.AttributeValue (next a.AttributeValue x)
keeps_attribute_value x = by_choice _ (to_parts (λ os f g. (tt, g))) (as_parts (omega arith) (λ os f g. g))

keeps_more_lemma_attributes : (x : Lexeme) → Kept a.MoreLemmaAttributes (next a.MoreLemmaAttributes x)
keeps_more_lemma_attributes x = by_choice _ (to_parts {parts = a.LemmaAttribute ∷ a.MoreLemmaAttributes ∷ []} (λ os f g. (tt, (tt, g)))) (by_choice _ (to_parts {parts = []} (λ os f g. g)) sticks)

keeps_listing : (l : ListItem) (x : Lexeme) → Kept (a.Listing l) (next (a.Listing l) x)
keeps_listing Builtins x = as_parts (omega arith) (λ os f g. (tt, (tt, g)))
keeps_listing Functions x = as_parts (omega arith) (λ os f g. (tt, (tt, g)))
keeps_listing Equations x = as_parts (omega arith) (λ os f g. (omega arith, (tt, (omega arith, (tt, g)))))
keeps_listing Heuristic x = as_parts (omega arith) (λ os f g. (tt, (tt, g)))

keeps_more_builtins : (x : Lexeme) → Kept a.MoreBuiltins (next a.MoreBuiltins x)
keeps_more_builtins x = by_choice _ (to_parts (λ os f g. (tt, (tt, g)))) (as_parts (omega arith) (λ os f g. (tt, g)))

keeps_function : (x : Lexeme) → Kept a.Function (next a.Function x)
keeps_function x = by_choice _ (to_parts (λ os f g. (tt, (tt, (tt, g))))) sticks

keeps_attributes : (x : Lexeme) → Kept a.Attributes (next a.Attributes x)
keeps_attributes x = by_choice _ (to_parts (λ os f g. (tt, (tt, g)))) (as_parts (omega arith) (λ os f g. g))

keeps_more_attributes : (x : Lexeme) → Kept a.MoreAttributes (next a.MoreAttributes x)
keeps_more_attributes x = by_choice _ (to_parts {parts = a.Attribute ∷ a.MoreAttributes ∷ []} (λ os f g. (tt, (tt, g)))) (by_choice _ (to_parts {parts = []} (λ os f g. g)) sticks)

keeps_more_functions : (x : Lexeme) → Kept a.MoreFunctions (next a.MoreFunctions x)
keeps_more_functions x = by_choice _ (to_parts (λ os f g. (tt, (tt, g)))) (as_parts (omega arith) (λ os f g. (tt, g)))

keeps_more_equations : (x : Lexeme) → Kept a.MoreEquations (next a.MoreEquations x)
keeps_more_equations x = by_choice _ (to_parts (λ os f g. (omega arith, (tt, (omega arith, (tt, g)))))) (as_parts (omega arith) (λ os f g. (tt, g)))

keeps_fact_list : (x : Lexeme) → Kept a.FactList (next a.FactList x)
keeps_fact_list x = by_choice _ (to_parts (λ os f g. (refl, g))) sticks

keeps_facts : (y : Sign) (x : Lexeme) → Kept (a.Facts y) (next (a.Facts y) x)
keeps_facts y x = by_choice _ (to_parts (λ os f g. g)) (as_parts (omega arith) (λ os f g. (omega arith, (f, g))))

keeps_more_facts : (y : Sign) (x : Lexeme) → Kept (a.MoreFacts y) (next (a.MoreFacts y) x)
keeps_more_facts y x = by_choice _ (to_parts {parts = a.Fact 0 ∷ a.MoreFacts y ∷ []} (λ os f g. (omega arith, (f, g)))) (by_choice _ (to_parts {parts = []} (λ os f g. g)) sticks)

keeps_arrow : (x : Lexeme) → Kept a.Arrow (next a.Arrow x)
keeps_arrow x = by_choice _ (to_parts {parts = []} (λ os f g. g)) (by_choice _ (to_parts {parts = a.Facts s.CloseArrow ∷ []} (λ os f g. (refl, g))) sticks)

keeps_kind : (x : Lexeme) → Kept a.Kind (next a.Kind x)
keeps_kind x = by_choice _ (to_parts {parts = []} (λ os f g. g)) (by_choice _ (to_parts {parts = kind_parts All} (λ os f g. (tt, (tt, (tt, g))))) (by_choice _ (to_parts {parts = kind_parts Exists} (λ os f g. (tt, (tt, (tt, g))))) sticks))

keeps_below : (x : Lexeme) → Kept a.Below (next a.Below x)
keeps_below x =
    by_choice _ (to_parts {parts = a.BelowSolved ∷ []} (λ os f g. (tt, g)))
    (by_choice _ (to_parts {parts = a.BelowBy ∷ []} (λ os f g. (tt, g)))
    (by_choice _ (to_parts {parts = a.BelowMethod ∷ []} (λ os f g. (tt, g)))
    (by_choice _ (to_parts {parts = a.Behind ∷ a.Items ∷ []} (λ os f g. (tt, (tt, g)))) (as_parts (omega arith) (λ os f g. (tt, g))))))

keeps_below_solved : (x : Lexeme) → Kept a.BelowSolved (next a.BelowSolved x)
keeps_below_solved x = by_choice _ (to_parts {parts = a.Items ∷ []} (λ os f g. (tt, g))) (as_parts (omega arith) (λ os f g. (tt, g)))

keeps_below_by : (x : Lexeme) → Kept a.BelowBy (next a.BelowBy x)
keeps_below_by x = by_choice _ (to_parts {parts = a.Items ∷ []} (λ os f g. (tt, g))) (as_parts (omega arith) (λ os f g. (tt, (tt, g))))

keeps_below_method : (x : Lexeme) → Kept a.BelowMethod (next a.BelowMethod x)
keeps_below_method x = by_choice _ (to_parts {parts = a.Items ∷ []} (λ os f g. (tt, g))) (as_parts (omega arith) (λ os f g. (tt, (tt, g))))

-- ---- words of a heuristic

keeps_second_word : (x : Lexeme) → Kept a.SecondWord (next a.SecondWord x)
keeps_second_word x = by_choice _ (to_parts {parts = a.MoreWords (keyword x) neither ∷ []} (λ os f g. (tt, g))) (by_choice _ (to_parts {parts = []} (λ os f g. g)) sticks)

keeps_colon_beside : {part : Awaited} (i : NamedItem) (k : Keyword) → Kept part (colon_beside i k)
keeps_colon_beside i (lists l) = to_parts {parts = a.Either l i ∷ []} (λ os f g. (tt, g))
keeps_colon_beside i _ = to_parts {parts = a.Body i ∷ []} (λ os f g. (tt, g))

keeps_words_colon : {part : Awaited} (k j : Keyword) → Kept part (words_colon_move k j)
keeps_words_colon k (names i) = keeps_colon_beside i k
keeps_words_colon k _ = keeps_colon k

keeps_words_bracket : {part : Awaited} (j : Keyword) → Kept part (words_bracket_move j)
keeps_words_bracket (names i) = keeps_bracket i
keeps_words_bracket _ = sticks

keeps_more_words : (k j : Keyword) (x : Lexeme) → Kept (a.MoreWords k j) (next (a.MoreWords k j) x)
keeps_more_words k j x =
    by_choice _ (to_parts {parts = a.Items ∷ []} (λ os f g. (tt, g)))
    (by_choice _ (to_parts {parts = a.MoreWords (keyword x) k ∷ []} (λ os f g. (tt, g)))
    (by_choice _ (keeps_words_colon k j) (by_choice _ (keeps_open k) (by_choice _ (keeps_words_bracket j) (by_choice _ (to_parts {parts = []} (λ os f g. g)) sticks)))))

keeps_one_of : (l : ListItem) (i : NamedItem) (b : Bool) → Kept (a.Either l i) (one_of l i b)
keeps_one_of l i b = by_choice b (as_parts (omega arith) (λ os f g. (tt, g))) (as_parts (omega arith) (λ os f g. (tt, g)))

keeps_either : (l : ListItem) (i : NamedItem) (x : Lexeme) → Kept (a.Either l i) (next (a.Either l i) x)
keeps_either l Rule x = keeps_one_of l Rule _
keeps_either l Restriction x = keeps_one_of l Restriction _
keeps_either l Lemma x = by_choice _ (to_parts {parts = a.Joined l All ∷ []} (λ os f g. (tt, g))) (by_choice _ (to_parts {parts = a.Joined l Exists ∷ []} (λ os f g. (tt, g))) (keeps_one_of l Lemma _))

keeps_dash : (l : ListItem) (y : TraceKind) → Kept (a.Joined l y) (dash_move l y)
keeps_dash Builtins y = to_parts {parts = a.JoinedTraces y ∷ []} (λ os f g. (tt, g))
keeps_dash _ y = to_parts {parts = a.Traces y ∷ a.Exactly s.Quote ∷ a.Quoted ∷ a.Below ∷ []} (λ os f g. (tt, (tt, (tt, (tt, g)))))

keeps_behind_name : (l : ListItem) (y : TraceKind) → Kept (a.Joined l y) (becomes (behind_name l))
keeps_behind_name Builtins y = as_parts (omega arith) (λ os f g. (tt, g))
keeps_behind_name Functions y = as_parts (omega arith) (λ os f g. (tt, (tt, (tt, (tt, g)))))
keeps_behind_name Equations y = as_parts (omega arith) (λ os f g. (omega arith, (tt, (omega arith, (tt, g)))))
keeps_behind_name Heuristic y = as_parts (omega arith) (λ os f g. (tt, g))

keeps_joined : (l : ListItem) (y : TraceKind) (x : Lexeme) → Kept (a.Joined l y) (next (a.Joined l y) x)
keeps_joined l y x = by_choice _ (keeps_dash l y) (keeps_behind_name l y)

keeps_joined_traces : (y : TraceKind) (x : Lexeme) → Kept (a.JoinedTraces y) (next (a.JoinedTraces y) x)
keeps_joined_traces y x = by_choice _ (to_parts {parts = a.JoinedQuote ∷ []} (λ os f g. (tt, g))) (as_parts (omega arith) (λ os f g. (tt, (tt, g))))

keeps_joined_quote : (x : Lexeme) → Kept a.JoinedQuote (next a.JoinedQuote x)
keeps_joined_quote x = by_choice _ (to_parts {parts = a.Quoted ∷ a.Below ∷ []} (λ os f g. (tt, (tt, g)))) (as_parts (omega arith) (λ os f g. (tt, g)))

-- ---- all

kept : (part : Awaited) (x : Lexeme) → Kept part (next part x)
kept (a.Exactly y) x = keeps_single (a.Exactly y) _
kept a.Name x = keeps_single a.Name _
kept a.Sort x = keeps_single a.Sort _
kept a.FactName x = keeps_single a.FactName _
kept a.Sorted x = keeps_sorted x
kept a.Variable x = keeps_variable x
kept (a.Term n) x = keeps_term n x
kept (a.Applied n) x = keeps_applied n x
kept (a.Tuple n y) x = keeps_tuple n y x
kept (a.MoreTuple n y) x = keeps_more_tuple n y x
kept (a.Arguments n) x = keeps_arguments n x
kept (a.MoreArguments n) x = keeps_more_arguments n x
kept (a.Fact n) x = keeps_fact n x
kept (a.Opened n) x = keeps_opened n x
kept a.Annotations x = keeps_annotations x
kept a.Annotation x = keeps_single a.Annotation _
kept a.MoreAnnotations x = keeps_more_annotations x
kept a.Binders x = keeps_binders x
kept (a.Negation n k) x = keeps_negation n k x
kept (a.Unit n k) x = keeps_unit n k x
kept (a.Side n k) x = keeps_side n k x
kept (a.Order n k) x = keeps_order n k x
kept (a.Bare n k) x = keeps_bare n k x
kept (a.Named n k) x = keeps_named n k x
kept (a.Shown n k) x = keeps_shown n k x
kept (a.Truth n k) x = keeps_truth n k x
kept (a.Both n k) x = keeps_both n k x
kept (a.Closing n k) x = keeps_closing n k x
kept (a.More n) x = keeps_more n x
kept (a.Twice n) x = keeps_twice n x
kept a.Quoted x = keeps_quoted x
kept a.Theory x = keeps_theory x
kept a.Begin x = keeps_single a.Begin _
kept a.Items x = keeps_items x
kept (a.Item k) x = keeps_item k x
kept a.Modulo x = keeps_single a.Modulo _
kept (a.Headed i) x = keeps_headed i x
kept (a.Body i) x = keeps_body i x
kept a.Balanced x = keeps_balanced x
kept a.Let x = keeps_let x
kept a.MoreBindings x = keeps_more_bindings x
kept a.LemmaAttribute x = keeps_lemma_attribute x
kept a.AttributeValue x = keeps_attribute_value x
kept a.MoreLemmaAttributes x = keeps_more_lemma_attributes x
kept (a.Listing l) x = keeps_listing l x
kept a.MoreBuiltins x = keeps_more_builtins x
kept a.Function x = keeps_function x
kept a.Number x = keeps_single a.Number _
kept a.Attributes x = keeps_attributes x
kept a.Attribute x = keeps_single a.Attribute _
kept a.MoreAttributes x = keeps_more_attributes x
kept a.MoreFunctions x = keeps_more_functions x
kept a.MoreEquations x = keeps_more_equations x
kept a.SecondWord x = keeps_second_word x
kept (a.MoreWords k j) x = keeps_more_words k j x
kept (a.Either l i) x = keeps_either l i x
kept (a.Joined l y) x = keeps_joined l y x
kept (a.JoinedTraces y) x = keeps_joined_traces y x
kept a.JoinedQuote x = keeps_joined_quote x
kept a.FactList x = keeps_fact_list x
kept (a.Facts y) x = keeps_facts y x
kept (a.MoreFacts y) x = keeps_more_facts y x
kept a.Arrow x = keeps_arrow x
kept a.Kind x = keeps_kind x
kept (a.Traces y) x = keeps_single (a.Traces y) _
kept a.Below x = keeps_below x
kept a.BelowSolved x = keeps_below_solved x
kept a.BelowBy x = keeps_below_by x
kept a.BelowMethod x = keeps_below_method x
kept a.Proof x = keeps_proof x
kept a.Behind x = keeps_behind x
kept a.Case x = keeps_single a.Case _
kept a.Cases x = keeps_cases x
kept a.Method x = keeps_single a.Method _

kept_as : (part : Awaited) (x : Lexeme) (m : Move) → next part x ≡ m → Kept part m
kept_as part x m e = subst (λ (o : Move). Kept part o) e (kept part x)

pub taken_good : (part : Awaited) (x : Lexeme) (parts others : List Awaited) → next part x ≡ takes parts → Good (part ∷ others) → Good (parts ++ others)
taken_good part x parts others e g = (kept_as part x (takes parts) e).keeps others g.0 g.1

pub become_good : (part : Awaited) (x : Lexeme) (parts others : List Awaited) → next part x ≡ becomes parts → Good (part ∷ others) → Good (parts ++ others)
become_good part x parts others e g = (kept_as part x (becomes parts) e).keeps.1 others g.0 g.1

pub become_lighter : (part : Awaited) (x : Lexeme) (parts others : List Awaited) → next part x ≡ becomes parts → weights (parts ++ others) < weights (part ∷ others)
become_lighter part x parts others e = let lt = (kept_as part x (becomes parts) e).keeps.0 in let d = weights-append parts others in omega (arith, lt, d)

pub open_good : (part : Awaited) (x : Lexeme) (parts others : List Awaited) → next part x ≡ opens parts → Good (part ∷ others) → Good (parts ++ others)
open_good part x parts others e g = (kept_as part x (opens parts) e).keeps.1 others g.0 g.1

pub open_lighter : (part : Awaited) (x : Lexeme) (parts others : List Awaited) → next part x ≡ opens parts → weights (parts ++ others) < weights (part ∷ others)
open_lighter part x parts others e = let lt = (kept_as part x (opens parts) e).keeps.0 in let d = weights-append parts others in omega (arith, lt, d)
