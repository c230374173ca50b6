-- What the code's values stand for.
use Rattle.std.specs.Prelude.{List, [], ◌∷◌, map, reverse}
use Rattle.sp_lex.specs.Views.{sign_of}
use Rattle.sp_await.specs.declared.awaited.OneToken as rust_token
use Rattle.sp_await.specs.declared.awaited.OneToken.TheVariants as token
use Rattle.sp_await.specs.declared.awaited.TermPart as rust_term
use Rattle.sp_await.specs.declared.awaited.TermPart.TheVariants as term
use Rattle.sp_await.specs.declared.awaited.FormulaPart as rust_formula
use Rattle.sp_await.specs.declared.awaited.FormulaPart.TheVariants as formula
use Rattle.sp_await.specs.declared.awaited.ListPart as rust_listing
use Rattle.sp_await.specs.declared.awaited.ListPart.TheVariants as listing
use Rattle.sp_await.specs.declared.awaited.ProofPart as rust_proof
use Rattle.sp_await.specs.declared.awaited.ProofPart.TheVariants as proof
use Rattle.sp_await.specs.declared.awaited.ItemPart as rust_item
use Rattle.sp_await.specs.declared.awaited.ItemPart.TheVariants as item
use Rattle.sp_await.specs.declared.awaited.WordPart as rust_word
use Rattle.sp_await.specs.declared.awaited.WordPart.TheVariants as words
use Rattle.sp_await.specs.declared.awaited.Awaited as rust_part
use Rattle.sp_await.specs.declared.awaited.Awaited.TheVariants as a
use Rattle.sp_await.specs.declared.keywords.NamedItem as rust_named
use Rattle.sp_await.specs.declared.keywords.NamedItem.TheVariants as named_item
use Rattle.sp_await.specs.declared.keywords.ListItem as rust_list
use Rattle.sp_await.specs.declared.keywords.ListItem.TheVariants as list_item
use Rattle.sp_await.specs.declared.keywords.Keyword as rust_keyword
use Rattle.sp_await.specs.declared.keywords.Keyword.TheVariants as key
use Rattle.sp_await.specs.declared.keywords.TraceKind as rust_kind
use Rattle.sp_await.specs.declared.keywords.TraceKind.TheVariants as traces
use Rattle.sp_await.specs.declared.moves.Expansion.{Expansion}
use Rattle.sp_await.specs.declared.moves.Expansion.TheVariants.{Zero, One, Two, Three, Four, Five, Six}
use Rattle.sp_await.specs.declared.moves.Move as rust
use Rattle.sp_await.specs.declared.moves.Move.TheVariants as v
use Rattle.sp_await.specs.Keywords as spec
use Rattle.sp_await.specs.Parts.{Awaited}
use Rattle.sp_await.specs.Parts as p
use Rattle.sp_await.specs.Table.{Move, takes, becomes, opens, stuck}

abbrev pub named_of : rust_named.NamedItem → spec.NamedItem
named_of named_item.Rule = spec.Rule
named_of named_item.Restriction = spec.Restriction
named_of named_item.Lemma = spec.Lemma

abbrev pub list_of : rust_list.ListItem → spec.ListItem
list_of list_item.Builtins = spec.Builtins
list_of list_item.Functions = spec.Functions
list_of list_item.Equations = spec.Equations
list_of list_item.Heuristic = spec.Heuristic

abbrev pub keyword_of : rust_keyword.Keyword → spec.Keyword
keyword_of (key.Names named) = spec.names (named_of named)
keyword_of (key.Lists list) = spec.lists (list_of list)
keyword_of key.Neither = spec.neither

abbrev pub kind_of : rust_kind.TraceKind → spec.TraceKind
kind_of traces.All = spec.All
kind_of traces.Exists = spec.Exists

abbrev pub one_token_of : rust_token.OneToken → Awaited
one_token_of (token.Exactly x) = p.Exactly (sign_of x)
one_token_of token.Name = p.Name
one_token_of token.Sort = p.Sort
one_token_of token.FactName = p.FactName
one_token_of token.Begin = p.Begin
one_token_of token.Modulo = p.Modulo
one_token_of token.Number = p.Number
one_token_of token.Attribute = p.Attribute
one_token_of token.Annotation = p.Annotation
one_token_of (token.Traces kind) = p.Traces (kind_of kind)
one_token_of token.Case = p.Case
one_token_of token.Method = p.Method

abbrev pub term_part_of : rust_term.TermPart → Awaited
term_part_of term.Sorted = p.Sorted
term_part_of term.Variable = p.Variable
term_part_of (term.Term n) = p.Term n
term_part_of (term.Applied n) = p.Applied n
term_part_of (term.Tuple n x) = p.Tuple n (sign_of x)
term_part_of (term.MoreTuple n x) = p.MoreTuple n (sign_of x)
term_part_of (term.Arguments n) = p.Arguments n
term_part_of (term.MoreArguments n) = p.MoreArguments n
term_part_of (term.Fact n) = p.Fact n
term_part_of (term.Opened n) = p.Opened n
term_part_of term.Annotations = p.Annotations
term_part_of term.MoreAnnotations = p.MoreAnnotations
term_part_of term.Binders = p.Binders

abbrev pub formula_part_of : rust_formula.FormulaPart → Awaited
formula_part_of (formula.Negation n k) = p.Negation n k
formula_part_of (formula.Unit n k) = p.Unit n k
formula_part_of (formula.Side n k) = p.Side n k
formula_part_of (formula.Order n k) = p.Order n k
formula_part_of (formula.Bare n k) = p.Bare n k
formula_part_of (formula.Named n k) = p.Named n k
formula_part_of (formula.Shown n k) = p.Shown n k
formula_part_of (formula.Truth n k) = p.Truth n k
formula_part_of (formula.Both n k) = p.Both n k
formula_part_of (formula.Closing n k) = p.Closing n k
formula_part_of (formula.More n) = p.More n
formula_part_of (formula.Twice n) = p.Twice n
formula_part_of formula.Quoted = p.Quoted

abbrev pub item_part_of : rust_item.ItemPart → Awaited
item_part_of item.Theory = p.Theory
item_part_of item.Items = p.Items
item_part_of (item.Item first) = p.Item (keyword_of first)
item_part_of (item.Headed named) = p.Headed (named_of named)
item_part_of (item.Body named) = p.Body (named_of named)
item_part_of item.Balanced = p.Balanced
item_part_of item.Let = p.Let
item_part_of item.MoreBindings = p.MoreBindings
item_part_of item.LemmaAttribute = p.LemmaAttribute
item_part_of item.AttributeValue = p.AttributeValue
item_part_of item.MoreLemmaAttributes = p.MoreLemmaAttributes
item_part_of item.FactList = p.FactList
item_part_of (item.Facts x) = p.Facts (sign_of x)
item_part_of (item.MoreFacts x) = p.MoreFacts (sign_of x)
item_part_of item.Arrow = p.Arrow
item_part_of item.Kind = p.Kind

abbrev pub list_part_of : rust_listing.ListPart → Awaited
list_part_of (listing.Listing list) = p.Listing (list_of list)
list_part_of listing.MoreBuiltins = p.MoreBuiltins
list_part_of listing.Function = p.Function
list_part_of listing.Attributes = p.Attributes
list_part_of listing.MoreAttributes = p.MoreAttributes
list_part_of listing.MoreFunctions = p.MoreFunctions
list_part_of listing.MoreEquations = p.MoreEquations

abbrev pub word_part_of : rust_word.WordPart → Awaited
word_part_of words.SecondWord = p.SecondWord
word_part_of (words.MoreWords last before) = p.MoreWords (keyword_of last) (keyword_of before)
word_part_of (words.Either list named) = p.Either (list_of list) (named_of named)
word_part_of (words.Joined list kind) = p.Joined (list_of list) (kind_of kind)
word_part_of (words.JoinedTraces kind) = p.JoinedTraces (kind_of kind)
word_part_of words.JoinedQuote = p.JoinedQuote

abbrev pub proof_part_of : rust_proof.ProofPart → Awaited
proof_part_of proof.Below = p.Below
proof_part_of proof.BelowSolved = p.BelowSolved
proof_part_of proof.BelowBy = p.BelowBy
proof_part_of proof.BelowMethod = p.BelowMethod
proof_part_of proof.Proof = p.Proof
proof_part_of proof.Behind = p.Behind
proof_part_of proof.Cases = p.Cases

abbrev pub awaited_of : rust_part.Awaited → Awaited
awaited_of (a.Token part) = one_token_of part
awaited_of (a.Term part) = term_part_of part
awaited_of (a.Formula part) = formula_part_of part
awaited_of (a.Item part) = item_part_of part
awaited_of (a.List part) = list_part_of part
awaited_of (a.Words part) = word_part_of part
awaited_of (a.Proof part) = proof_part_of part

abbrev pub expansion_of : Expansion → List rust_part.Awaited
expansion_of Zero = []
expansion_of (One p) = p ∷ []
expansion_of (Two p q) = p ∷ q ∷ []
expansion_of (Three p q r) = p ∷ q ∷ r ∷ []
expansion_of (Four p q r s) = p ∷ q ∷ r ∷ s ∷ []
expansion_of (Five p q r s t) = p ∷ q ∷ r ∷ s ∷ t ∷ []
expansion_of (Six p q r s t u) = p ∷ q ∷ r ∷ s ∷ t ∷ u ∷ []

abbrev pub all_of : List rust_part.Awaited → List Awaited
all_of parts = map awaited_of parts

abbrev pub move_of : rust.Move → Move
move_of (v.Takes expansion) = takes (all_of (expansion_of expansion))
move_of (v.Becomes expansion) = becomes (all_of (expansion_of expansion))
move_of (v.Opens expansion) = opens (all_of (expansion_of expansion))
move_of v.Stuck = stuck

-- the parts, the first one first, which is the last in memory
abbrev pub parts_of : List rust_part.Awaited → List Awaited
parts_of parts = all_of (reverse parts)
