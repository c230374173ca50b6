-- What a text may go on with: the parts that it still has to have, and what a token does to the first of them. Each token takes away
-- the first part and puts its remainder there, or the first part becomes others, or may be empty, and then these meet the token.
use Rattle.std.specs.Prelude.{ℕ, zero, suc, ◌+◌, ◌==◌, nat_lt, Bool, true, false, not, ◌||◌, is_some, if◌then◌else◌, List, [], ◌∷◌, codes}
use Rattle.std.specs.Str.{bytes_eq}
use Rattle.sp_spec_text.specs.Signs.{Sign}
use Rattle.sp_spec_text.specs.Signs as s
use Rattle.sp_spec_text.specs.Token.{Lexeme, word, constant, sign, solve, wide, block}
use Rattle.sp_spec_text.specs.Names.{is_reserved, names_fact, mark_of, mark_at, privacy_of, is_annotation}
use Rattle.sp_spec_text.specs.Numerals as numerals
use Rattle.sp_spec_text.specs.Proofs.{is_method}
use Rattle.sp_await.specs.Keywords.{NamedItem, Rule, Restriction, Lemma, ListItem, Builtins, Functions, Equations, Heuristic, Keyword, names, lists, neither, keyword_of, TraceKind, All, Exists, traces_word}
use Rattle.sp_await.specs.Parts.{Awaited}
use Rattle.sp_await.specs.Parts as a

-- The token is taken, and these parts follow; the part becomes these parts; it becomes these parts, and up to the next quote signs of logic are
-- read as the text beside them; the token is wrong.
pub data Move : Type 0 where
  takes : List Awaited → Move
  becomes : List Awaited → Move
  opens : List Awaited → Move
  stuck : Move

-- ---- tokens

abbrev pub code : Sign → ℕ
code s.Open = 0
code s.Close = 1
code s.OpenList = 2
code s.CloseList = 3
code s.OpenArrow = 4
code s.CloseArrow = 5
code s.Arrow = 6
code s.Implies = 7
code s.Iff = 8
code s.Comma = 9
code s.Colon = 10
code s.Dot = 11
code s.Quote = 12
code s.Bang = 13
code s.Tilde = 14
code s.Dollar = 15
code s.Hash = 16
code s.At = 17
code s.And = 18
code s.Or = 19
code s.Equals = 20
code s.Less = 21
code s.Dash = 22
code s.OpenBrace = 23
code s.CloseBrace = 24
code s.Greater = 25
code s.Slash = 26
code s.Plus = 27

abbrev pub is_sign : Sign → Lexeme → Bool
is_sign x (word w) = false
is_sign x (constant c) = false
is_sign x (sign y) = code y == code x
is_sign x (solve g) = false
is_sign x (wide v) = false
is_sign x block = false

-- a word that passes the test
abbrev pub is_such : (List ℕ → Bool) → Lexeme → Bool
is_such p (word w) = p w
is_such p (constant c) = false
is_such p (sign y) = false
is_such p (solve g) = false
is_such p (wide v) = false
is_such p block = false

abbrev pub is_word : List ℕ → Lexeme → Bool
is_word v x = is_such (λ w. bytes_eq w v) x

abbrev pub is_constant : Lexeme → Bool
is_constant (constant c) = true
is_constant _ = false

abbrev pub is_block : Lexeme → Bool
is_block block = true
is_block _ = false

abbrev pub is_mark : Lexeme → Bool
is_mark (sign y) = is_some (mark_at y)
is_mark _ = false

abbrev pub is_name : Lexeme → Bool
is_name x = is_such (λ w. not (is_reserved w)) x

abbrev pub is_fact_name : Lexeme → Bool
is_fact_name x = is_such names_fact x

abbrev pub is_sort : Lexeme → Bool
is_sort x = is_such (λ w. is_some (mark_of w)) x

abbrev pub is_numeral : Lexeme → Bool
is_numeral x = is_such numerals.is_numeral x

abbrev pub is_attribute : Lexeme → Bool
is_attribute x = is_such (λ w. is_some (privacy_of w)) x

abbrev pub is_method_word : Lexeme → Bool
is_method_word x = is_such is_method x

abbrev pub is_step : Lexeme → Bool
is_step (word w) = is_method w
is_step (solve g) = true
is_step _ = false

abbrev pub keyword : Lexeme → Keyword
keyword (word w) = keyword_of w
keyword _ = neither

-- ---- moves

abbrev pub single : Bool → Move
single b = if b then takes [] else stuck

-- what opens a nesting is wrong at nesting 128
abbrev pub nests : ℕ → Move → Move
nests n x = if nat_lt n 128 then x else stuck

-- the nesting inside so many brackets
abbrev pub deep : ℕ → ℕ → ℕ
deep n zero = n
deep n (suc k) = deep n k + 1

-- ---- variables, terms and facts

abbrev pub variable_move : List Awaited → Lexeme → Move
variable_move more x =
    if is_mark x then takes (a.Name ∷ more)
    else if is_name x then takes (a.Sorted ∷ more)
    else stuck

abbrev pub sorted_move : Lexeme → Move
sorted_move x = if is_sign s.Colon x then takes (a.Sort ∷ []) else becomes []

abbrev pub term_move : ℕ → Lexeme → Move
term_move n x =
    if is_constant x then takes []
    else if is_sign s.Open x then nests n (takes (a.Term (n + 1) ∷ a.Exactly s.Close ∷ []))
    else if is_sign s.Less x then nests n (takes (a.Tuple (n + 1) s.Greater ∷ []))
    else if is_mark x then takes (a.Name ∷ [])
    else if is_name x then takes (a.Applied n ∷ [])
    else stuck

abbrev pub applied_move : ℕ → Lexeme → Move
applied_move n x =
    if is_sign s.Open x then nests n (takes (a.Arguments (n + 1) ∷ []))
    else if is_sign s.OpenBrace x then nests n (takes (a.Tuple (n + 1) s.CloseBrace ∷ a.Term (n + 1) ∷ []))
    else becomes (a.Sorted ∷ [])

abbrev pub tuple_move : ℕ → Sign → Move
tuple_move n y = becomes (a.Term n ∷ a.MoreTuple n y ∷ [])

abbrev pub more_tuple_move : ℕ → Sign → Lexeme → Move
more_tuple_move n y x = if is_sign s.Comma x then nests n (takes (a.Tuple (n + 1) y ∷ [])) else single (is_sign y x)

abbrev pub arguments_move : ℕ → Lexeme → Move
arguments_move n x = if is_sign s.Close x then takes [] else becomes (a.Term n ∷ a.MoreArguments n ∷ [])

abbrev pub more_arguments_move : ℕ → Lexeme → Move
more_arguments_move n x =
    if is_sign s.Comma x then takes (a.Term n ∷ a.MoreArguments n ∷ [])
    else if is_sign s.Close x then takes []
    else stuck

abbrev pub fact_move : ℕ → Lexeme → Move
fact_move n x =
    if is_sign s.Bang x then takes (a.FactName ∷ a.Opened n ∷ [])
    else if is_fact_name x then takes (a.Opened n ∷ [])
    else stuck

abbrev pub opened_move : ℕ → Lexeme → Move
opened_move n x = if is_sign s.Open x then nests n (takes (a.Arguments (n + 1) ∷ a.Annotations ∷ [])) else stuck

abbrev pub annotations_move : Lexeme → Move
annotations_move x = if is_sign s.OpenList x then takes (a.Annotation ∷ a.MoreAnnotations ∷ []) else becomes []

abbrev pub more_annotations_move : Lexeme → Move
more_annotations_move x = if is_sign s.Comma x then takes (a.Annotation ∷ a.MoreAnnotations ∷ []) else single (is_sign s.CloseList x)

abbrev pub binders_move : Lexeme → Move
binders_move x = if is_sign s.Dot x then takes [] else variable_move (a.Binders ∷ []) x

-- ---- formulas

abbrev pub negation_move : ℕ → ℕ → Lexeme → Move
negation_move n k x = if is_word (codes "not") x then takes (a.Unit (deep n k) 0 ∷ a.Closing n k ∷ []) else becomes (a.Unit n k ∷ [])

abbrev pub is_quantifier : Lexeme → Bool
is_quantifier x = is_word (codes "All") x || is_word (codes "Ex") x

abbrev pub is_truth : Lexeme → Bool
is_truth x = is_word (codes "T") x || is_word (codes "F") x

abbrev pub word_move : ℕ → ℕ → Lexeme → Move
word_move n k x =
    if is_quantifier x then nests (deep n k) (takes (a.Variable ∷ a.Binders ∷ a.Negation (deep n k + 1) 0 ∷ a.More (deep n k + 1) ∷ a.Twice (deep n k + 1) ∷ a.Closing n k ∷ []))
    else if is_truth x then takes (a.Truth n k ∷ [])
    else if is_fact_name x then takes (a.Named n k ∷ [])
    else if is_name x then takes (a.Bare n k ∷ [])
    else stuck

abbrev pub unit_move : ℕ → ℕ → Lexeme → Move
unit_move n k x =
    if is_sign s.Open x then nests (deep n k) (takes (a.Negation n (suc k) ∷ []))
    else if is_sign s.Less x then nests (deep n k) (takes (a.Tuple (deep n k + 1) s.Greater ∷ a.Side n k ∷ []))
    else if is_constant x then takes (a.Side n k ∷ [])
    else if is_mark x then takes (a.Name ∷ a.Order n k ∷ [])
    else if is_sign s.Bang x then nests (deep n k) (takes (a.FactName ∷ a.Opened (deep n k) ∷ a.Exactly s.At ∷ a.Variable ∷ a.Closing n k ∷ []))
    else word_move n k x

abbrev pub side_closed : ℕ → ℕ → Move
side_closed n zero = stuck
side_closed n (suc k) = takes (a.Side n k ∷ [])

abbrev pub side_move : ℕ → ℕ → Lexeme → Move
side_move n k x =
    if is_sign s.Equals x then takes (a.Term (deep n k) ∷ a.Closing n k ∷ [])
    else if is_sign s.Close x then side_closed n k
    else stuck

abbrev pub order_move : ℕ → ℕ → Lexeme → Move
order_move n k x = if is_sign s.Less x then takes (a.Variable ∷ a.Closing n k ∷ []) else becomes (a.Side n k ∷ [])

abbrev pub bare_move : ℕ → ℕ → Lexeme → Move
bare_move n k x =
    if is_sign s.Colon x then takes (a.Sort ∷ a.Order n k ∷ [])
    else if is_sign s.Open x then nests (deep n k) (takes (a.Arguments (deep n k + 1) ∷ a.Side n k ∷ []))
    else if is_sign s.OpenBrace x then nests (deep n k) (takes (a.Tuple (deep n k + 1) s.CloseBrace ∷ a.Term (deep n k + 1) ∷ a.Side n k ∷ []))
    else becomes (a.Order n k ∷ [])

abbrev pub named_move : ℕ → ℕ → Lexeme → Move
named_move n k x = if is_sign s.Open x then nests (deep n k) (takes (a.Arguments (deep n k + 1) ∷ a.Shown n k ∷ [])) else becomes (a.Bare n k ∷ [])

abbrev pub shown_move : ℕ → ℕ → Lexeme → Move
shown_move n k x =
    if is_sign s.At x then takes (a.Variable ∷ a.Closing n k ∷ [])
    else if is_sign s.OpenList x then takes (a.Annotation ∷ a.MoreAnnotations ∷ a.Exactly s.At ∷ a.Variable ∷ a.Closing n k ∷ [])
    else becomes (a.Side n k ∷ [])

abbrev pub truth_move : ℕ → ℕ → Lexeme → Move
truth_move n k x =
    if is_sign s.Colon x || is_sign s.Open x || is_sign s.Less x || is_sign s.OpenBrace x then becomes (a.Named n k ∷ [])
    else becomes (a.Both n k ∷ [])

abbrev pub both_closed : ℕ → ℕ → Move
both_closed n zero = becomes (a.Closing n zero ∷ [])
both_closed n (suc k) = takes (a.Both n k ∷ [])

abbrev pub both_move : ℕ → ℕ → Lexeme → Move
both_move n k x =
    if is_sign s.Equals x then becomes (a.Side n k ∷ [])
    else if is_sign s.Close x then both_closed n k
    else becomes (a.Closing n k ∷ [])

abbrev pub closing_move : ℕ → ℕ → Move
closing_move n zero = becomes []
closing_move n (suc k) = becomes (a.More (deep n k + 1) ∷ a.Twice (deep n k + 1) ∷ a.Exactly s.Close ∷ a.Closing n k ∷ [])

abbrev pub more_move : ℕ → Lexeme → Move
more_move n x =
    if is_sign s.And x || is_sign s.Or x then takes (a.Negation n 0 ∷ a.More n ∷ [])
    else if is_sign s.Implies x then nests n (takes (a.Negation (n + 1) 0 ∷ a.More (n + 1) ∷ []))
    else becomes []

abbrev pub twice_move : ℕ → Lexeme → Move
twice_move n x = if is_sign s.Iff x then takes (a.Negation n 0 ∷ a.More n ∷ []) else becomes []

-- ---- proofs

abbrev pub proof_move : Lexeme → Move
proof_move x =
    if is_word (codes "SOLVED") x then takes []
    else if is_word (codes "by") x then takes (a.Method ∷ [])
    else if is_step x then takes (a.Behind ∷ [])
    else stuck

abbrev pub behind_move : Lexeme → Move
behind_move x = if is_word (codes "case") x then takes (a.Name ∷ a.Proof ∷ a.Cases ∷ []) else becomes (a.Proof ∷ [])

abbrev pub cases_move : Lexeme → Move
cases_move x =
    if is_word (codes "qed") x then takes []
    else if is_word (codes "next") x then takes (a.Case ∷ a.Name ∷ a.Proof ∷ a.Cases ∷ [])
    else stuck

-- behind a lemma: words with which proofs begin may also be words of blocks of text

abbrev pub below_move : Lexeme → Move
below_move x =
    if is_word (codes "SOLVED") x then takes (a.BelowSolved ∷ [])
    else if is_word (codes "by") x then takes (a.BelowBy ∷ [])
    else if is_method_word x then takes (a.BelowMethod ∷ [])
    else if is_step x then takes (a.Behind ∷ a.Items ∷ [])
    else becomes (a.Items ∷ [])

-- a block of text, or these parts
abbrev pub or_block : List Awaited → Lexeme → Move
or_block parts x = if is_block x then takes (a.Items ∷ []) else becomes parts

-- ---- items

abbrev pub theory_move : Lexeme → Move
theory_move x = if is_word (codes "theory") x then takes (a.Name ∷ a.Begin ∷ a.Items ∷ []) else stuck

abbrev pub items_move : Lexeme → Move
items_move x = if is_name x then takes (a.Item (keyword x) ∷ []) else single (is_word (codes "end") x)

abbrev pub name_move : Keyword → Move
name_move (names i) = takes (a.Headed i ∷ [])
name_move _ = stuck

abbrev pub colon_move : Keyword → Move
colon_move (lists l) = takes (a.Listing l ∷ [])
colon_move _ = stuck

-- `(` directly behind the first word of an item
abbrev pub open_move : Keyword → Move
open_move (names Rule) = takes (a.Modulo ∷ a.Name ∷ a.Exactly s.Close ∷ a.Name ∷ a.Headed Rule ∷ [])
open_move _ = stuck

abbrev pub item_move : Keyword → Lexeme → Move
item_move k x =
    if is_block x then takes (a.Items ∷ [])
    else if is_name x then name_move k
    else if is_sign s.Colon x then colon_move k
    else if is_sign s.Open x then open_move k
    else stuck

-- `[` behind the name of an item
abbrev pub bracket_move : NamedItem → Move
bracket_move Rule = takes (a.Balanced ∷ a.Exactly s.Colon ∷ a.Body Rule ∷ [])
bracket_move Restriction = stuck
bracket_move Lemma = takes (a.LemmaAttribute ∷ a.MoreLemmaAttributes ∷ a.Exactly s.Colon ∷ a.Body Lemma ∷ [])

abbrev pub headed_move : NamedItem → Lexeme → Move
headed_move i x =
    if is_sign s.Colon x then takes (a.Body i ∷ [])
    else if is_sign s.OpenList x then bracket_move i
    else stuck

abbrev pub body_parts : NamedItem → List Awaited
body_parts Rule = a.Let ∷ a.FactList ∷ a.Arrow ∷ a.FactList ∷ a.Items ∷ []
body_parts Restriction = a.Exactly s.Quote ∷ a.Quoted ∷ a.Items ∷ []
body_parts Lemma = a.Kind ∷ a.Quoted ∷ a.Below ∷ []

-- a formula, in which signs of logic are read as the text beside them
abbrev pub quoted_move : Move
quoted_move = opens (a.Negation 0 0 ∷ a.More 0 ∷ a.Twice 0 ∷ a.Exactly s.Quote ∷ [])

abbrev pub balanced_move : Lexeme → Move
balanced_move x =
    if is_sign s.CloseList x then takes []
    else if is_sign s.OpenList x then takes (a.Balanced ∷ a.Balanced ∷ [])
    else if is_word (codes "end") x then stuck
    else takes (a.Balanced ∷ [])

abbrev pub let_move : Lexeme → Move
let_move x = if is_word (codes "let") x then takes (a.Variable ∷ a.Exactly s.Equals ∷ a.Term 0 ∷ a.MoreBindings ∷ []) else becomes []

-- what stands behind the variable of a binding
abbrev pub binding_parts : List Awaited
binding_parts = a.Exactly s.Equals ∷ a.Term 0 ∷ a.MoreBindings ∷ []

abbrev pub more_bindings_move : Lexeme → Move
more_bindings_move x = if is_word (codes "in") x then takes [] else variable_move binding_parts x

-- the words of attributes that may have a value
abbrev pub has_value : List ℕ → Bool
has_value w = bytes_eq w (codes "hide_lemma") || bytes_eq w (codes "heuristic")

abbrev pub lemma_attribute_move : Lexeme → Move
lemma_attribute_move x = if is_such has_value x then takes (a.AttributeValue ∷ []) else single (is_name x)

abbrev pub attribute_value_move : Lexeme → Move
attribute_value_move x = if is_sign s.Equals x then takes (a.Name ∷ []) else becomes []

abbrev pub more_lemma_attributes_move : Lexeme → Move
more_lemma_attributes_move x =
    if is_sign s.Comma x then takes (a.LemmaAttribute ∷ a.MoreLemmaAttributes ∷ [])
    else single (is_sign s.CloseList x)

-- ---- lists

abbrev pub list_parts : ListItem → List Awaited
list_parts Builtins = a.Name ∷ a.MoreBuiltins ∷ []
list_parts Functions = a.Function ∷ a.MoreFunctions ∷ []
list_parts Equations = a.Term 0 ∷ a.Exactly s.Equals ∷ a.Term 0 ∷ a.MoreEquations ∷ []
list_parts Heuristic = a.Name ∷ a.SecondWord ∷ []

abbrev pub more_builtins_move : Lexeme → Move
more_builtins_move x = if is_sign s.Dash x || is_sign s.Comma x then takes (a.Name ∷ a.MoreBuiltins ∷ []) else becomes (a.Items ∷ [])

abbrev pub function_move : Lexeme → Move
function_move x = if is_name x then takes (a.Exactly s.Slash ∷ a.Number ∷ a.Attributes ∷ []) else stuck

abbrev pub attributes_move : Lexeme → Move
attributes_move x = if is_sign s.OpenList x then takes (a.Attribute ∷ a.MoreAttributes ∷ []) else becomes []

abbrev pub more_attributes_move : Lexeme → Move
more_attributes_move x =
    if is_sign s.Comma x then takes (a.Attribute ∷ a.MoreAttributes ∷ [])
    else single (is_sign s.CloseList x)

abbrev pub more_functions_move : Lexeme → Move
more_functions_move x = if is_sign s.Comma x then takes (a.Function ∷ a.MoreFunctions ∷ []) else becomes (a.Items ∷ [])

abbrev pub more_equations_move : Lexeme → Move
more_equations_move x = if is_sign s.Comma x then takes (a.Term 0 ∷ a.Exactly s.Equals ∷ a.Term 0 ∷ a.MoreEquations ∷ []) else becomes (a.Items ∷ [])

abbrev pub fact_list_move : Lexeme → Move
fact_list_move x = if is_sign s.OpenList x then takes (a.Facts s.CloseList ∷ []) else stuck

abbrev pub facts_move : Sign → Lexeme → Move
facts_move y x = if is_sign y x then takes [] else becomes (a.Fact 0 ∷ a.MoreFacts y ∷ [])

abbrev pub more_facts_move : Sign → Lexeme → Move
more_facts_move y x = if is_sign s.Comma x then takes (a.Fact 0 ∷ a.MoreFacts y ∷ []) else single (is_sign y x)

abbrev pub arrow_move : Lexeme → Move
arrow_move x =
    if is_sign s.Arrow x then takes []
    else if is_sign s.OpenArrow x then takes (a.Facts s.CloseArrow ∷ [])
    else stuck

-- the dash in a kind, and what stands behind it up to the quote
abbrev pub kind_parts : TraceKind → List Awaited
kind_parts y = a.Exactly s.Dash ∷ a.Traces y ∷ a.Exactly s.Quote ∷ []

abbrev pub kind_move : Lexeme → Move
kind_move x =
    if is_sign s.Quote x then takes []
    else if is_word (codes "all") x then takes (kind_parts All)
    else if is_word (codes "exists") x then takes (kind_parts Exists)
    else stuck

-- ---- the words of a heuristic, which end where an item begins

abbrev pub second_word_move : Lexeme → Move
second_word_move x = if is_name x then takes (a.MoreWords (keyword x) neither ∷ []) else single (is_word (codes "end") x)

-- a colon behind words: the last, or the one before it, begins an item
abbrev pub colon_beside : NamedItem → Keyword → Move
colon_beside i (lists l) = takes (a.Either l i ∷ [])
colon_beside i _ = takes (a.Body i ∷ [])

abbrev pub words_colon_move : Keyword → Keyword → Move
words_colon_move k (names i) = colon_beside i k
words_colon_move k _ = colon_move k

-- `[` behind words: the one before the last begins an item
abbrev pub words_bracket_move : Keyword → Move
words_bracket_move (names i) = bracket_move i
words_bracket_move _ = stuck

abbrev pub more_words_move : Keyword → Keyword → Lexeme → Move
more_words_move k j x =
    if is_block x then takes (a.Items ∷ [])
    else if is_name x then takes (a.MoreWords (keyword x) k ∷ [])
    else if is_sign s.Colon x then words_colon_move k j
    else if is_sign s.Open x then open_move k
    else if is_sign s.OpenList x then words_bracket_move j
    else single (is_word (codes "end") x)

-- the list or the item, whichever the token begins behind its colon
abbrev pub one_of : ListItem → NamedItem → Bool → Move
one_of l i b = if b then becomes (a.Body i ∷ []) else becomes (a.Listing l ∷ [])

abbrev pub list_or_lemma_move : ListItem → Lexeme → Move
list_or_lemma_move l x =
    if is_word (codes "all") x then takes (a.Joined l All ∷ [])
    else if is_word (codes "exists") x then takes (a.Joined l Exists ∷ [])
    else one_of l Lemma (is_sign s.Quote x)

abbrev pub either_move : ListItem → NamedItem → Lexeme → Move
either_move l Rule x = one_of l Rule (is_sign s.OpenList x || is_word (codes "let") x)
either_move l Restriction x = one_of l Restriction (is_sign s.Quote x)
either_move l Lemma x = list_or_lemma_move l x

-- what stands behind a name with which a list begins
abbrev pub behind_name : ListItem → List Awaited
behind_name Builtins = a.MoreBuiltins ∷ []
behind_name Functions = a.Exactly s.Slash ∷ a.Number ∷ a.Attributes ∷ a.MoreFunctions ∷ []
behind_name Equations = a.Applied 0 ∷ a.Exactly s.Equals ∷ a.Term 0 ∷ a.MoreEquations ∷ []
behind_name Heuristic = a.SecondWord ∷ []

abbrev pub dash_move : ListItem → TraceKind → Move
dash_move Builtins y = takes (a.JoinedTraces y ∷ [])
dash_move _ y = takes (a.Traces y ∷ a.Exactly s.Quote ∷ a.Quoted ∷ a.Below ∷ [])

abbrev pub joined_move : ListItem → TraceKind → Lexeme → Move
joined_move l y x = if is_sign s.Dash x then dash_move l y else becomes (behind_name l)

abbrev pub joined_traces_move : TraceKind → Lexeme → Move
joined_traces_move y x = if is_word (traces_word y) x then takes (a.JoinedQuote ∷ []) else becomes (a.Name ∷ a.MoreBuiltins ∷ [])

abbrev pub joined_quote_move : Lexeme → Move
joined_quote_move x = if is_sign s.Quote x then takes (a.Quoted ∷ a.Below ∷ []) else becomes (a.MoreBuiltins ∷ [])

-- ---- all

abbrev pub next : Awaited → Lexeme → Move
next (a.Exactly y) x = single (is_sign y x)
next a.Name x = single (is_name x)
next a.Sort x = single (is_sort x)
next a.FactName x = single (is_fact_name x)
next a.Sorted x = sorted_move x
next a.Variable x = variable_move [] x
next (a.Term n) x = term_move n x
next (a.Applied n) x = applied_move n x
next (a.Tuple n y) x = tuple_move n y
next (a.MoreTuple n y) x = more_tuple_move n y x
next (a.Arguments n) x = arguments_move n x
next (a.MoreArguments n) x = more_arguments_move n x
next (a.Fact n) x = fact_move n x
next (a.Opened n) x = opened_move n x
next a.Annotations x = annotations_move x
next a.Annotation x = single (is_annotation x)
next a.MoreAnnotations x = more_annotations_move x
next a.Binders x = binders_move x
next (a.Negation n k) x = negation_move n k x
next (a.Unit n k) x = unit_move n k x
next (a.Side n k) x = side_move n k x
next (a.Order n k) x = order_move n k x
next (a.Bare n k) x = bare_move n k x
next (a.Named n k) x = named_move n k x
next (a.Shown n k) x = shown_move n k x
next (a.Truth n k) x = truth_move n k x
next (a.Both n k) x = both_move n k x
next (a.Closing n k) x = closing_move n k
next (a.More n) x = more_move n x
next (a.Twice n) x = twice_move n x
next a.Quoted x = quoted_move
next a.Theory x = theory_move x
next a.Begin x = single (is_word (codes "begin") x)
next a.Items x = items_move x
next (a.Item k) x = item_move k x
next a.Modulo x = single (is_word (codes "modulo") x)
next (a.Headed i) x = headed_move i x
next (a.Body i) x = becomes (body_parts i)
next a.Balanced x = balanced_move x
next a.Let x = let_move x
next a.MoreBindings x = more_bindings_move x
next a.LemmaAttribute x = lemma_attribute_move x
next a.AttributeValue x = attribute_value_move x
next a.MoreLemmaAttributes x = more_lemma_attributes_move x
next (a.Listing l) x = becomes (list_parts l)
next a.MoreBuiltins x = more_builtins_move x
next a.Function x = function_move x
next a.Number x = single (is_numeral x)
next a.Attributes x = attributes_move x
next a.Attribute x = single (is_attribute x)
next a.MoreAttributes x = more_attributes_move x
next a.MoreFunctions x = more_functions_move x
next a.MoreEquations x = more_equations_move x
next a.SecondWord x = second_word_move x
next (a.MoreWords k j) x = more_words_move k j x
next (a.Either l i) x = either_move l i x
next (a.Joined l y) x = joined_move l y x
next (a.JoinedTraces y) x = joined_traces_move y x
next a.JoinedQuote x = joined_quote_move x
next a.FactList x = fact_list_move x
next (a.Facts y) x = facts_move y x
next (a.MoreFacts y) x = more_facts_move y x
next a.Arrow x = arrow_move x
next a.Kind x = kind_move x
next (a.Traces y) x = single (is_word (traces_word y) x)
next a.Below x = below_move x
next a.BelowSolved x = or_block (a.Items ∷ []) x
next a.BelowBy x = or_block (a.Method ∷ a.Items ∷ []) x
next a.BelowMethod x = or_block (a.Behind ∷ a.Items ∷ []) x
next a.Proof x = proof_move x
next a.Behind x = behind_move x
next a.Case x = single (is_word (codes "case") x)
next a.Cases x = cases_move x
next a.Method x = single (is_step x)
