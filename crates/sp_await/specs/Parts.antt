-- The parts that a text still has to have at a place of it. The numbers are the nesting; where there are two, the nesting of a unit of a
-- formula and the brackets behind its beginning that hold nothing but what was read since, so that they may hold a term or a formula.
use Rattle.std.specs.Prelude.{ℕ}
use Rattle.sp_spec_text.specs.Signs.{Sign}
use Rattle.sp_await.specs.Keywords.{NamedItem, ListItem, Keyword, TraceKind}

pub data Awaited : Type 0 where
  Exactly : Sign → Awaited  -- this sign
  Name : Awaited
  Sort : Awaited  -- the word of a sort
  FactName : Awaited  -- the name of a fact
  Sorted : Awaited  -- behind the name of a variable: `:` and a sort, or nothing
  Variable : Awaited
  Term : ℕ → Awaited
  Applied : ℕ → Awaited  -- behind a name in a term
  Tuple : ℕ → Sign → Awaited  -- terms up to this sign
  MoreTuple : ℕ → Sign → Awaited  -- behind a term of such a tuple
  Arguments : ℕ → Awaited  -- behind the bracket of a fact or of an application
  MoreArguments : ℕ → Awaited  -- behind such an argument
  Fact : ℕ → Awaited
  Opened : ℕ → Awaited  -- the arguments of a fact, from the bracket on, and its annotations
  Annotations : Awaited  -- the annotations of a fact, or none
  Annotation : Awaited
  MoreAnnotations : Awaited  -- behind an annotation
  Binders : Awaited  -- behind a variable of a quantifier
  Negation : ℕ → ℕ → Awaited  -- a unit, or `not` and a unit
  Unit : ℕ → ℕ → Awaited
  Side : ℕ → ℕ → Awaited  -- behind a term
  Order : ℕ → ℕ → Awaited  -- behind a variable
  Bare : ℕ → ℕ → Awaited  -- behind a name that stands alone
  Named : ℕ → ℕ → Awaited  -- behind a name that may name a fact
  Shown : ℕ → ℕ → Awaited  -- behind what may be a fact or a term
  Truth : ℕ → ℕ → Awaited  -- behind `T` or `F`
  Both : ℕ → ℕ → Awaited  -- behind what is a term and a unit
  Closing : ℕ → ℕ → Awaited  -- behind a unit, up to the last of the brackets
  More : ℕ → Awaited  -- behind a unit, up to the end of the implication
  Twice : ℕ → Awaited  -- behind an implication
  Quoted : Awaited  -- a formula behind its opening quote, and its closing quote
  Theory : Awaited
  Begin : Awaited  -- the word `begin`
  Items : Awaited  -- items, and the word `end`
  Item : Keyword → Awaited  -- behind the first word of an item: its remainder, items, and the word `end`
  Modulo : Awaited  -- the word `modulo`
  Headed : NamedItem → Awaited  -- behind the name of an item
  Body : NamedItem → Awaited  -- behind the colon of such an item
  Balanced : Awaited  -- any tokens up to the bracket `]` that closes
  Let : Awaited  -- bindings, or none
  MoreBindings : Awaited  -- behind a binding: others, and the word `in`
  LemmaAttribute : Awaited
  AttributeValue : Awaited  -- behind the word of an attribute: `=` and a name, or nothing
  MoreLemmaAttributes : Awaited  -- behind such an attribute
  Listing : ListItem → Awaited  -- behind the colon of a list: its remainder, items, and the word `end`
  MoreBuiltins : Awaited  -- behind a name of builtins: others, items, and the word `end`
  Function : Awaited  -- the declaration of a function
  Number : Awaited  -- the word of a number
  Attributes : Awaited  -- the attributes of a function, or none
  Attribute : Awaited  -- the word of an attribute
  MoreAttributes : Awaited  -- behind an attribute
  MoreFunctions : Awaited  -- behind the declaration of a function: others, items, and the word `end`
  MoreEquations : Awaited  -- behind an equation: others, items, and the word `end`
  SecondWord : Awaited  -- behind the first word of a heuristic: others, items, and the word `end`
  MoreWords : Keyword → Keyword → Awaited  -- behind others, of which the last, or the one before it, may be the first word of an item
  Either : ListItem → NamedItem → Awaited  -- behind such words and a colon, where the last word may begin a list, and the one before it an item with a name
  Joined : ListItem → TraceKind → Awaited  -- behind `all` or `exists` there, which begins the list or the kind of a lemma
  JoinedTraces : TraceKind → Awaited  -- behind a dash there, in a name of builtins or the kind of a lemma
  JoinedQuote : Awaited  -- behind `traces` or `trace` there
  FactList : Awaited  -- facts in brackets
  Facts : Sign → Awaited  -- facts up to this sign
  MoreFacts : Sign → Awaited  -- behind a fact of such a list
  Arrow : Awaited
  Kind : Awaited  -- the kind of a lemma, and the quote behind it
  Traces : TraceKind → Awaited  -- the word `traces` or `trace`
  Below : Awaited  -- behind a lemma: its proof or none, items, and the word `end`
  BelowSolved : Awaited  -- behind the word `SOLVED` there, which is a proof or the word of a block of text
  BelowBy : Awaited  -- behind the word `by` there
  BelowMethod : Awaited  -- behind the word of a method there
  Proof : Awaited
  Behind : Awaited  -- behind a method
  Case : Awaited  -- the word `case`
  Cases : Awaited  -- behind a case
  Method : Awaited  -- the method behind `by`
