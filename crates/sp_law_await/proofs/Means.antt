-- Each part of a text in the grammar.
use Rattle.std.proofs.Common.{◌≡◌, ℕ, ◌⊎◌, Bool, true, false, if◌then◌else◌, nat_lt, ◌<◌, ltb-true, List, [], ◌∷◌, Option, codes, refl, sym, subst}
use Rattle.sp_spec_text.specs.Signs as s
use Rattle.sp_spec_text.specs.Token.{Lexeme, word, sign, block}
use Rattle.sp_spec_text.specs.Plain.{plain_to_quote}
use Rattle.sp_spec.specs.Rule.{Fact}
use Rattle.sp_spec.specs.Formula.{Written, Formula}
use Rattle.sp_spec.specs.Theory as g
use Rattle.sp_spec_text.specs.Names.{IsName, names_fact}
use Rattle.sp_spec_text.specs.Numerals.{is_numeral}
use Rattle.sp_spec_text.specs.Lists.{AreParts, AreItems, AreListed}
use Rattle.sp_spec_text.specs.Bindings.{Binding}
use Rattle.sp_spec_text.specs.Formulas.{SpellsVariable, SpellsTerm, SpellsTuple, SpellsArguments, SpellsAnnotation, SpellsAnnotations, SpellsFact, SpellsUnit, SpellsNegation}
use Rattle.sp_spec_text.specs.Written.{WrittenProof, WrittenCases, Attribute, Item}
use Rattle.sp_spec_text.specs.Proofs.{is_method, SpellsMethod, SpellsProof, SpellsCases, SpellsMore}
use Rattle.sp_spec_text.specs.Theories.{SpellsFacts, SpellsArrow, SpellsBuiltin, SpellsAttribute, SpellsFunction, SpellsEquation, SpellsModulo, SpellsBalanced, SpellsRuleAttributes, SpellsBindings, SpellsLet, SpellsQuoted, SpellsKind, SpellsLemmaAttribute, SpellsLemmaAttributes, SpellsProofPart, SpellsItems}
use Rattle.sp_await.specs.Keywords.{NamedItem, Rule, Restriction, Lemma, ListItem, Builtins, Functions, Equations, Heuristic, Keyword, names, lists, TraceKind, kind_word, traces_word}
use Rattle.sp_await.specs.Parts.{Awaited}
use Rattle.sp_await.specs.Parts as a
use Rattle.sp_await.specs.Table.{Move, takes, becomes, opens, stuck, single, nests}
use Rattle.sp_law_await.proofs.Meaning.{Spelled, OneSign, OneWord, OneName, OneSort, ThisWord, SortPart, AfterPart, AppliedOf, TupleBehind, ArgumentsBehind, OpenedArguments, AfterBinder, MoreOf, TwiceOf, ClosedOf, SideOf, OrderOf, BareOf, ShownOf, NamedOf, StartOf}

-- items, and the word `end`
abbrev pub ItemsOf : List Lexeme → List Lexeme → Type 0
ItemsOf tokens rest = (items : List Item) × SpellsItems tokens items (word (codes "end") ∷ rest)

-- one or more parts, and items
pub record Listed {A : Type 0} (R : List Lexeme → A → List Lexeme → Type 0) (tokens rest : List Lexeme) : Type 0 where
  pub parts : List A
  pub mid : List Lexeme
  pub listed : AreListed R tokens parts mid
  pub items : ItemsOf mid rest

-- behind such a part
pub data ListedBehind {A : Type 0} (R : List Lexeme → A → List Lexeme → Type 0) : List Lexeme → List Lexeme → Type 0 where
  no_more_parts : {tokens rest : List Lexeme} → ItemsOf tokens rest → ListedBehind R tokens rest
  more_parts : {tokens rest : List Lexeme} → Listed R tokens rest → ListedBehind R (sign s.Comma ∷ tokens) rest

-- behind a name of builtins
pub data BuiltinBehind : List Lexeme → List Lexeme → Type 0 where
  with_dash : {b : List ℕ} {tokens mid rest : List Lexeme} → SpellsBuiltin tokens b mid → ListedBehind SpellsBuiltin mid rest → BuiltinBehind (sign s.Dash ∷ tokens) rest
  no_dash : {tokens rest : List Lexeme} → ListedBehind SpellsBuiltin tokens rest → BuiltinBehind tokens rest

-- behind the arity of a function
pub data AttributesOf : List Lexeme → List Lexeme → Type 0 where
  no_attribute : {rest : List Lexeme} → AttributesOf rest rest
  attributes : {each : List Bool} {tokens rest : List Lexeme} → AreParts SpellsAttribute s.Comma s.CloseList tokens each rest → AttributesOf (sign s.OpenList ∷ tokens) rest

pub data TheoryOf : List Lexeme → List Lexeme → Type 0 where
  theory_of : {w : List ℕ} {items : List Item} {tokens rest : List Lexeme} → IsName w → SpellsItems tokens items (word (codes "end") ∷ rest) → TheoryOf (word (codes "theory") ∷ word w ∷ word (codes "begin") ∷ tokens) rest

abbrev pub KindOf : List Lexeme → List Lexeme → Type 0
KindOf tokens rest = (k : g.TraceKind) × SpellsKind tokens k (sign s.Quote ∷ rest)

-- behind a lemma
pub data BelowOf : List Lexeme → List Lexeme → Type 0 where
  below : {p : Option WrittenProof} {items : List Item} {tokens mid rest : List Lexeme} → SpellsProofPart tokens p mid → SpellsItems mid items (word (codes "end") ∷ rest) → BelowOf tokens rest

-- behind the word of a method there, whichever it is
pub record BelowMethodOf (tokens rest : List Lexeme) : Type 0 where
  pub at : (w : List ℕ) → is_method w ≡ true → BelowOf (word w ∷ tokens) rest

-- behind a method
pub data BehindOf : List Lexeme → List Lexeme → Type 0 where
  lone : {p : WrittenProof} {tokens rest : List Lexeme} → SpellsProof tokens p rest → BehindOf tokens rest
  among : {cs : WrittenCases} {tokens rest : List Lexeme} → SpellsCases tokens cs rest → BehindOf tokens rest

-- ---- items with names

-- behind a binding
pub data BindingsBehind : List Lexeme → List Lexeme → Type 0 where
  no_binding : {rest : List Lexeme} → BindingsBehind (word (codes "in") ∷ rest) rest
  a_binding : {bs : List Binding} {tokens rest : List Lexeme} → SpellsBindings tokens bs rest → BindingsBehind tokens rest

-- behind the word of an attribute
pub data ValueOf : List Lexeme → List Lexeme → Type 0 where
  no_value : {rest : List Lexeme} → ValueOf rest rest
  value : {tokens rest : List Lexeme} → OneName tokens rest → ValueOf (sign s.Equals ∷ tokens) rest

-- behind the colon
pub data BodyOf : NamedItem → List Lexeme → List Lexeme → Type 0 where
  rule_body : {bs : List Binding} {premises actions conclusions : List (Fact Written)} {tokens facts mid behind after rest : List Lexeme} → SpellsLet tokens bs facts → SpellsFacts facts premises mid → SpellsArrow mid actions behind
      → SpellsFacts behind conclusions after → ItemsOf after rest → BodyOf Rule tokens rest
  restriction_body : {f : Formula} {tokens mid rest : List Lexeme} → SpellsQuoted tokens f mid → ItemsOf mid rest → BodyOf Restriction (sign s.Quote ∷ tokens) rest
  lemma_body : {k : g.TraceKind} {f : Formula} {tokens body mid rest : List Lexeme} → SpellsKind tokens k (sign s.Quote ∷ body) → SpellsQuoted body f mid → BelowOf mid rest → BodyOf Lemma tokens rest

-- behind the name
pub data HeadedOf : NamedItem → List Lexeme → List Lexeme → Type 0 where
  rule_headed : {tokens body rest : List Lexeme} → SpellsRuleAttributes tokens (sign s.Colon ∷ body) → BodyOf Rule body rest → HeadedOf Rule tokens rest
  restriction_headed : {tokens rest : List Lexeme} → BodyOf Restriction tokens rest → HeadedOf Restriction (sign s.Colon ∷ tokens) rest
  lemma_headed : {each : List Attribute} {tokens body rest : List Lexeme} → SpellsLemmaAttributes tokens each (sign s.Colon ∷ body) → BodyOf Lemma body rest → HeadedOf Lemma tokens rest

-- ---- lists

-- words of a heuristic, or none, and items
pub data WordsThen : List Lexeme → List Lexeme → Type 0 where
  no_more_words : {tokens rest : List Lexeme} → ItemsOf tokens rest → WordsThen tokens rest
  another_word : {w : List ℕ} {tokens rest : List Lexeme} → IsName w → WordsThen tokens rest → WordsThen (word w ∷ tokens) rest

-- a word, and such
pub data WordsOf : List Lexeme → List Lexeme → Type 0 where
  words_of : {w : List ℕ} {tokens rest : List Lexeme} → IsName w → WordsThen tokens rest → WordsOf (word w ∷ tokens) rest

-- behind the colon
abbrev pub ListOf : ListItem → List Lexeme → List Lexeme → Type 0
ListOf Builtins tokens rest = Listed SpellsBuiltin tokens rest
ListOf Functions tokens rest = Listed SpellsFunction tokens rest
ListOf Equations tokens rest = Listed SpellsEquation tokens rest
ListOf Heuristic tokens rest = WordsOf tokens rest

-- ---- behind the first word of an item, and behind words of a heuristic

pub data BegunOf : Keyword → List Lexeme → List Lexeme → Type 0 where
  begun_block : {k : Keyword} {tokens rest : List Lexeme} → ItemsOf tokens rest → BegunOf k (block ∷ tokens) rest
  begun_rule : {w : List ℕ} {tokens mid rest : List Lexeme} → SpellsModulo tokens (word w ∷ mid) → IsName w → HeadedOf Rule mid rest → BegunOf (names Rule) tokens rest
  begun_restriction : {w : List ℕ} {tokens rest : List Lexeme} → IsName w → HeadedOf Restriction tokens rest → BegunOf (names Restriction) (word w ∷ tokens) rest
  begun_lemma : {w : List ℕ} {tokens rest : List Lexeme} → IsName w → HeadedOf Lemma tokens rest → BegunOf (names Lemma) (word w ∷ tokens) rest
  begun_list : {l : ListItem} {tokens rest : List Lexeme} → ListOf l tokens rest → BegunOf (lists l) (sign s.Colon ∷ tokens) rest

-- behind words of which the last is the first word of an item, or the one before it
pub data WordsBehind : Keyword → Keyword → List Lexeme → List Lexeme → Type 0 where
  of_words : {k j : Keyword} {tokens rest : List Lexeme} → WordsThen tokens rest → WordsBehind k j tokens rest
  of_last : {k j : Keyword} {tokens rest : List Lexeme} → BegunOf k tokens rest → WordsBehind k j tokens rest
  of_name : {k : Keyword} {i : NamedItem} {tokens rest : List Lexeme} → HeadedOf i tokens rest → WordsBehind k (names i) tokens rest

-- a quote, and a lemma's formula
pub data QuotedBelow : List Lexeme → List Lexeme → Type 0 where
  quoted_below : {f : Formula} {tokens mid rest : List Lexeme} → SpellsQuoted tokens f mid → BelowOf mid rest → QuotedBelow (sign s.Quote ∷ tokens) rest

-- the word behind the dash of a kind, and such
pub data TracesBelow (y : TraceKind) : List Lexeme → List Lexeme → Type 0 where
  traces_below : {tokens rest : List Lexeme} → QuotedBelow tokens rest → TracesBelow y (word (traces_word y) ∷ tokens) rest

-- a name of builtins
pub data BuiltinNamed : List Lexeme → List Lexeme → Type 0 where
  builtin_named : {w : List ℕ} {tokens rest : List Lexeme} → IsName w → BuiltinBehind tokens rest → BuiltinNamed (word w ∷ tokens) rest

abbrev pub Means : Awaited → List Lexeme → List Lexeme → Type 0
Means (a.Exactly y) tokens rest = OneSign y tokens rest
Means a.Name tokens rest = OneName tokens rest
Means a.Sort tokens rest = OneSort tokens rest
Means a.FactName tokens rest = OneWord names_fact tokens rest
Means a.Sorted tokens rest = SortPart tokens rest
Means a.Variable tokens rest = Spelled SpellsVariable tokens rest
Means (a.Term n) tokens rest = Spelled (SpellsTerm n) tokens rest
Means (a.Applied n) tokens rest = AppliedOf n tokens rest
Means (a.Tuple n y) tokens rest = Spelled (SpellsTuple n y) tokens rest
Means (a.MoreTuple n y) tokens rest = TupleBehind n y tokens rest
Means (a.Arguments n) tokens rest = Spelled (SpellsArguments n) tokens rest
Means (a.MoreArguments n) tokens rest = ArgumentsBehind n tokens rest
Means (a.Fact n) tokens rest = Spelled (SpellsFact n) tokens rest
Means (a.Opened n) tokens rest = OpenedArguments n tokens rest
Means a.Annotations tokens rest = SpellsAnnotations tokens rest
Means a.Annotation tokens rest = Spelled SpellsAnnotation tokens rest
Means a.MoreAnnotations tokens rest = AfterPart SpellsAnnotation s.CloseList tokens rest
Means a.Binders tokens rest = AfterBinder tokens rest
Means (a.Negation n k) tokens rest = StartOf SpellsNegation n k tokens rest
Means (a.Unit n k) tokens rest = StartOf SpellsUnit n k tokens rest
Means (a.Side n k) tokens rest = SideOf n k tokens rest
Means (a.Order n k) tokens rest = OrderOf n k tokens rest
Means (a.Bare n k) tokens rest = BareOf n k tokens rest
Means (a.Named n k) tokens rest = NamedOf n k tokens rest
Means (a.Shown n k) tokens rest = ShownOf n k tokens rest
Means (a.Truth n k) tokens rest = NamedOf n k tokens rest ⊎ ClosedOf n k tokens rest
Means (a.Both n k) tokens rest = SideOf n k tokens rest ⊎ ClosedOf n k tokens rest
Means (a.Closing n k) tokens rest = ClosedOf n k tokens rest
Means (a.More n) tokens rest = MoreOf n tokens rest
Means (a.Twice n) tokens rest = TwiceOf n tokens rest
Means a.Quoted tokens rest = Spelled SpellsQuoted tokens rest
Means a.Theory tokens rest = TheoryOf tokens rest
Means a.Begin tokens rest = ThisWord (codes "begin") tokens rest
Means a.Items tokens rest = ItemsOf tokens rest
Means (a.Item k) tokens rest = BegunOf k tokens rest
Means a.Modulo tokens rest = ThisWord (codes "modulo") tokens rest
Means (a.Headed i) tokens rest = HeadedOf i tokens rest
Means (a.Body i) tokens rest = BodyOf i tokens rest
Means a.Balanced tokens rest = SpellsBalanced tokens rest
Means a.Let tokens rest = Spelled SpellsLet tokens rest
Means a.MoreBindings tokens rest = BindingsBehind tokens rest
Means a.LemmaAttribute tokens rest = Spelled SpellsLemmaAttribute tokens rest
Means a.AttributeValue tokens rest = ValueOf tokens rest
Means a.MoreLemmaAttributes tokens rest = AfterPart SpellsLemmaAttribute s.CloseList tokens rest
Means (a.Listing l) tokens rest = ListOf l tokens rest
Means a.MoreBuiltins tokens rest = BuiltinBehind tokens rest
Means a.Function tokens rest = Spelled SpellsFunction tokens rest
Means a.Number tokens rest = OneWord is_numeral tokens rest
Means a.Attributes tokens rest = AttributesOf tokens rest
Means a.Attribute tokens rest = Spelled SpellsAttribute tokens rest
Means a.MoreAttributes tokens rest = AfterPart SpellsAttribute s.CloseList tokens rest
Means a.MoreFunctions tokens rest = ListedBehind SpellsFunction tokens rest
Means a.MoreEquations tokens rest = ListedBehind SpellsEquation tokens rest
Means a.SecondWord tokens rest = WordsThen tokens rest
Means (a.MoreWords k j) tokens rest = WordsBehind k j tokens rest
Means (a.Either l i) tokens rest = ListOf l tokens rest ⊎ BodyOf i tokens rest
Means (a.Joined l y) tokens rest = ListOf l (word (kind_word y) ∷ tokens) rest ⊎ BodyOf Lemma (word (kind_word y) ∷ tokens) rest
Means (a.JoinedTraces y) tokens rest = BuiltinNamed tokens rest ⊎ TracesBelow y tokens rest
Means a.JoinedQuote tokens rest = BuiltinBehind tokens rest ⊎ QuotedBelow tokens rest
Means a.FactList tokens rest = Spelled SpellsFacts tokens rest
Means (a.Facts y) tokens rest = Spelled (AreItems (SpellsFact 0) y) tokens rest
Means (a.MoreFacts y) tokens rest = AfterPart (SpellsFact 0) y tokens rest
Means a.Arrow tokens rest = Spelled SpellsArrow tokens rest
Means a.Kind tokens rest = KindOf tokens rest
Means (a.Traces y) tokens rest = ThisWord (traces_word y) tokens rest
Means a.Below tokens rest = BelowOf tokens rest
Means a.BelowSolved tokens rest = BelowOf (word (codes "SOLVED") ∷ tokens) rest
Means a.BelowBy tokens rest = BelowOf (word (codes "by") ∷ tokens) rest
Means a.BelowMethod tokens rest = BelowMethodOf tokens rest
Means a.Proof tokens rest = Spelled SpellsProof tokens rest
Means a.Behind tokens rest = BehindOf tokens rest
Means a.Case tokens rest = ThisWord (codes "case") tokens rest
Means a.Cases tokens rest = Spelled SpellsMore tokens rest
Means a.Method tokens rest = Spelled SpellsMethod tokens rest

pub data MeansAll : List Awaited → List Lexeme → List Lexeme → Type 0 where
  nothing : {rest : List Lexeme} → MeansAll [] rest rest
  and_then : {part : Awaited} {parts : List Awaited} {tokens mid rest : List Lexeme} → Means part tokens mid → MeansAll parts mid rest → MeansAll (part ∷ parts) tokens rest

-- what the move leads to, the grammar has
abbrev pub Sound : Awaited → Lexeme → Move → Type 0
Sound part x (takes parts) = (tokens rest : List Lexeme) → MeansAll parts tokens rest → Means part (x ∷ tokens) rest
Sound part x (becomes parts) = (tokens rest : List Lexeme) → MeansAll parts (x ∷ tokens) rest → Means part (x ∷ tokens) rest
Sound part x (opens parts) = (tokens rest : List Lexeme) → MeansAll parts (plain_to_quote (x ∷ tokens)) rest → Means part (x ∷ tokens) rest
Sound part x stuck = Unit {0}

pub by_if : {A : Type 0} (P : A → Type 0) (b : Bool) (m o : A) → (b ≡ true → P m) → (b ≡ false → P o) → P (if b then m else o)
by_if P true m o f g = f refl
by_if P false m o f g = g refl

pub by_nests : (P : Move → Type 0) (n : ℕ) (m : Move) → P stuck → (n < 128 → P m) → P (nests n m)
by_nests P n m p f = by_if P (nat_lt n 128) m stuck (λ e. f (ltb-true n 128 e)) (λ e. p)

pub nothing_is : {tokens rest : List Lexeme} → MeansAll [] tokens rest → tokens ≡ rest
nothing_is nothing = refl

pub one_is : {part : Awaited} {tokens rest : List Lexeme} → MeansAll (part ∷ []) tokens rest → Means part tokens rest
one_is {part} {tokens} (and_then h n) = subst (λ (r : List Lexeme). Means part tokens r) (nothing_is n) h

pub by_single : (part : Awaited) (x : Lexeme) (b : Bool) → (b ≡ true → (rest : List Lexeme) → Means part (x ∷ rest) rest) → Sound part x (single b)
by_single part x true f = λ tokens rest h. subst (λ (l : List Lexeme). Means part (x ∷ l) rest) (sym (nothing_is h)) (f refl rest)
by_single part x false f = tt
