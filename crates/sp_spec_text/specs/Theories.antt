-- The grammar of theories, line by line: which tokens spell which theory. `SpellsX tokens x rest` says that the tokens
-- begin with a spelling of x, and that the rest follows. Facts and formulas stand in Formulas.antt, proofs in
-- Proofs.antt; a token that no line names, and a sign of logic outside of formulas, are in no theory. Source: Tamarin manual, "Syntax description".
use Rattle.std.specs.Prelude.{◌≡◌, ℕ, Bool, true, false, List, [], ◌∷◌, ◌++◌, Option, Some, None, codes}
use Rattle.sp_spec_text.specs.Signs as s
use Rattle.sp_spec_text.specs.Token.{Lexeme, word, sign, block}
use Rattle.sp_spec_text.specs.Lex.{is_end}
use Rattle.sp_spec_text.specs.Plain.{plain_to_quote}
use Rattle.sp_spec.specs.Term.{Term}
use Rattle.sp_spec.specs.Signature.{Symbol}
use Rattle.sp_spec.specs.Rule.{Fact}
use Rattle.sp_spec.specs.Formula.{Written, Formula}
use Rattle.sp_spec.specs.Theory.{TraceKind, all_traces, exists_trace, Restriction, Lemma}
use Rattle.sp_spec.specs.Written.{WrittenRule}
use Rattle.sp_spec_text.specs.Names.{IsName, privacy_of, is_one_so}
use Rattle.sp_spec_text.specs.Attributes.{attribute_of, is_restriction}
use Rattle.sp_spec_text.specs.Numerals.{is_numeral, value, counted}
use Rattle.sp_spec_text.specs.Lists.{AreParts, AreItems, AreListed}
use Rattle.sp_spec_text.specs.Shapes.{rule_of}
use Rattle.sp_spec_text.specs.Formulas.{SpellsVariable, SpellsTerm, SpellsFact, SpellsFormula}
use Rattle.sp_spec_text.specs.Bindings.{Binding}
use Rattle.sp_spec_text.specs.Written.{WrittenProof, Attribute, hiding, ranked_by, Item, builtins_item, functions_item, equations_item, heuristic_item, block_item, rule_item, restriction_item, lemma_item, WrittenText}
use Rattle.sp_spec_text.specs.Proofs.{SpellsProof}

-- facts: `[` fact,* `]`
pub data SpellsFacts : List Lexeme → List (Fact Written) → List Lexeme → Type 0 where
  facts : {fs : List (Fact Written)} {tokens rest : List Lexeme} → AreItems (SpellsFact 0) s.CloseList tokens fs rest → SpellsFacts (sign s.OpenList ∷ tokens) fs rest

-- arrow: `-->` ; `--[` fact,* `]->`
pub data SpellsArrow : List Lexeme → List (Fact Written) → List Lexeme → Type 0 where
  unlabelled : {rest : List Lexeme} → SpellsArrow (sign s.Arrow ∷ rest) [] rest
  labelled : {fs : List (Fact Written)} {tokens rest : List Lexeme} → AreItems (SpellsFact 0) s.CloseArrow tokens fs rest → SpellsArrow (sign s.OpenArrow ∷ tokens) fs rest

-- bname: names joined by `-`
pub data SpellsBuiltin : List Lexeme → List ℕ → List Lexeme → Type 0 where
  single : {w : List ℕ} {rest : List Lexeme} → IsName w → SpellsBuiltin (word w ∷ rest) w rest
  joined : {w b : List ℕ} {tokens rest : List Lexeme} → IsName w → SpellsBuiltin tokens b rest → SpellsBuiltin (word w ∷ sign s.Dash ∷ tokens) (w ++ (codes "-" ++ b)) rest

-- `private`, `public`, `constructor` or `destructor`; whether the symbol is private
pub data SpellsAttribute : List Lexeme → Bool → List Lexeme → Type 0 where
  attribute : {w : List ℕ} {private : Bool} {rest : List Lexeme} → privacy_of w ≡ Some private → SpellsAttribute (word w ∷ rest) private rest

-- fdecl: name `/` number (`[` attribute,+ `]`)?
pub data SpellsFunction : List Lexeme → Symbol → List Lexeme → Type 0 where
  plain : {w k : List ℕ} {rest : List Lexeme} → IsName w → is_numeral k ≡ true → SpellsFunction (word w ∷ sign s.Slash ∷ word k ∷ rest) (record { name = w; arity = counted (value 0 k); private = false }) rest
  with_attributes : {w k : List ℕ} {each : List Bool} {tokens rest : List Lexeme} → IsName w → is_numeral k ≡ true → AreParts SpellsAttribute s.Comma s.CloseList tokens each rest
      → SpellsFunction (word w ∷ sign s.Slash ∷ word k ∷ sign s.OpenList ∷ tokens) (record { name = w; arity = counted (value 0 k); private = is_one_so each }) rest

-- term `=` term
pub data SpellsEquation : List Lexeme → Term Written × Term Written → List Lexeme → Type 0 where
  equation : {x y : Term Written} {tokens mid rest : List Lexeme} → SpellsTerm 0 tokens x (sign s.Equals ∷ mid) → SpellsTerm 0 mid y rest → SpellsEquation tokens (x, y) rest

-- (`(` `modulo` name `)`)?
pub data SpellsModulo : List Lexeme → List Lexeme → Type 0 where
  no_modulo : {rest : List Lexeme} → SpellsModulo rest rest
  modulo : {w : List ℕ} {rest : List Lexeme} → IsName w → SpellsModulo (sign s.Open ∷ word (codes "modulo") ∷ word w ∷ sign s.Close ∷ rest) rest

abbrev pub is_list_bracket : Lexeme → Bool
is_list_bracket (sign s.OpenList) = true
is_list_bracket (sign s.CloseList) = true
is_list_bracket _ = false

-- any tokens up to the bracket `]` that closes; brackets among them come in pairs, and the word `end` ends the text
pub data SpellsBalanced : List Lexeme → List Lexeme → Type 0 where
  closed : {rest : List Lexeme} → SpellsBalanced (sign s.CloseList ∷ rest) rest
  nested : {tokens mid rest : List Lexeme} → SpellsBalanced tokens mid → SpellsBalanced mid rest → SpellsBalanced (sign s.OpenList ∷ tokens) rest
  passed : {x : Lexeme} {tokens rest : List Lexeme} → is_list_bracket x ≡ false → is_end x ≡ false → SpellsBalanced tokens rest → SpellsBalanced (x ∷ tokens) rest

-- (`[` balanced `]`)?, which says nothing of a rule
pub data SpellsRuleAttributes : List Lexeme → List Lexeme → Type 0 where
  no_rule_attribute : {rest : List Lexeme} → SpellsRuleAttributes rest rest
  rule_attributes : {tokens rest : List Lexeme} → SpellsBalanced tokens rest → SpellsRuleAttributes (sign s.OpenList ∷ tokens) rest

-- var `=` term
pub data SpellsBinding : List Lexeme → Binding → List Lexeme → Type 0 where
  binding : {v : Written} {t : Term Written} {tokens mid rest : List Lexeme} → SpellsVariable tokens v (sign s.Equals ∷ mid) → SpellsTerm 0 mid t rest → SpellsBinding tokens (record { variable = v; value = t }) rest

-- (var `=` term)+ `in`
pub data SpellsBindings : List Lexeme → List Binding → List Lexeme → Type 0 where
  last_binding : {b : Binding} {tokens rest : List Lexeme} → SpellsBinding tokens b (word (codes "in") ∷ rest) → SpellsBindings tokens (b ∷ []) rest
  next_binding : {b : Binding} {bs : List Binding} {tokens mid rest : List Lexeme} → SpellsBinding tokens b mid → SpellsBindings mid bs rest → SpellsBindings tokens (b ∷ bs) rest

-- (`let` (var `=` term)+ `in`)?
pub data SpellsLet : List Lexeme → List Binding → List Lexeme → Type 0 where
  no_let : {rest : List Lexeme} → SpellsLet rest [] rest
  let_in : {bs : List Binding} {tokens rest : List Lexeme} → SpellsBindings tokens bs rest → SpellsLet (word (codes "let") ∷ tokens) bs rest

-- `rule` modulo? name attributes? `:`
pub data SpellsRuleHead : List Lexeme → List ℕ → List Lexeme → Type 0 where
  rule_head : {w : List ℕ} {tokens attributes rest : List Lexeme} → SpellsModulo tokens (word w ∷ attributes) → IsName w → SpellsRuleAttributes attributes (sign s.Colon ∷ rest)
      → SpellsRuleHead (word (codes "rule") ∷ tokens) w rest

-- rule: head let? facts arrow facts
pub data SpellsRule : List Lexeme → List Binding → WrittenRule → List Lexeme → Type 0 where
  rule : {w : List ℕ} {bs : List Binding} {premises actions conclusions : List (Fact Written)} {tokens body facts mid behind rest : List Lexeme} → SpellsRuleHead tokens w body → SpellsLet body bs facts
      → SpellsFacts facts premises mid → SpellsArrow mid actions behind → SpellsFacts behind conclusions rest → SpellsRule tokens bs (rule_of w premises actions conclusions) rest

-- a formula behind its opening quote, and its closing quote; the signs of logic in it are read as the text beside them
abbrev pub SpellsQuoted : List Lexeme → Formula → List Lexeme → Type 0
SpellsQuoted tokens f rest = SpellsFormula 0 (plain_to_quote tokens) f (sign s.Quote ∷ rest)

-- restriction: (`restriction` `axiom`) name `:` `"` formula `"`
pub data SpellsRestriction : List Lexeme → Restriction → List Lexeme → Type 0 where
  restriction : {k w : List ℕ} {f : Formula} {tokens rest : List Lexeme} → is_restriction k ≡ true → IsName w → SpellsQuoted tokens f rest
      → SpellsRestriction (word k ∷ word w ∷ sign s.Colon ∷ sign s.Quote ∷ tokens) (record { name = w; formula = f }) rest

-- (`all-traces` `exists-trace`)?
pub data SpellsKind : List Lexeme → TraceKind → List Lexeme → Type 0 where
  no_kind : {rest : List Lexeme} → SpellsKind rest all_traces rest
  all_kind : {rest : List Lexeme} → SpellsKind (word (codes "all") ∷ sign s.Dash ∷ word (codes "traces") ∷ rest) all_traces rest
  exists_kind : {rest : List Lexeme} → SpellsKind (word (codes "exists") ∷ sign s.Dash ∷ word (codes "trace") ∷ rest) exists_trace rest

-- attr: name ; `hide_lemma` `=` name ; `heuristic` `=` name
pub data SpellsLemmaAttribute : List Lexeme → Attribute → List Lexeme → Type 0 where
  by_word : {w : List ℕ} {rest : List Lexeme} → IsName w → SpellsLemmaAttribute (word w ∷ rest) (attribute_of w) rest
  hides : {w : List ℕ} {rest : List Lexeme} → IsName w → SpellsLemmaAttribute (word (codes "hide_lemma") ∷ sign s.Equals ∷ word w ∷ rest) (hiding w) rest
  ranks : {w : List ℕ} {rest : List Lexeme} → IsName w → SpellsLemmaAttribute (word (codes "heuristic") ∷ sign s.Equals ∷ word w ∷ rest) (ranked_by w) rest

-- (`[` attr,+ `]`)?
pub data SpellsLemmaAttributes : List Lexeme → List Attribute → List Lexeme → Type 0 where
  no_lemma_attribute : {rest : List Lexeme} → SpellsLemmaAttributes rest [] rest
  lemma_attributes : {each : List Attribute} {tokens rest : List Lexeme} → AreParts SpellsLemmaAttribute s.Comma s.CloseList tokens each rest → SpellsLemmaAttributes (sign s.OpenList ∷ tokens) each rest

-- lemma: `lemma` name attributes? `:` kind? `"` formula `"`
pub data SpellsLemma : List Lexeme → Lemma → List Attribute → List Lexeme → Type 0 where
  lemma : {w : List ℕ} {each : List Attribute} {kind : TraceKind} {f : Formula} {tokens mid body rest : List Lexeme} → IsName w → SpellsLemmaAttributes tokens each (sign s.Colon ∷ mid)
      → SpellsKind mid kind (sign s.Quote ∷ body) → SpellsQuoted body f rest → SpellsLemma (word (codes "lemma") ∷ word w ∷ tokens) (record { name = w; kind = kind; formula = f }) each rest

-- name+
pub data SpellsWords : List Lexeme → List (List ℕ) → List Lexeme → Type 0 where
  one_word : {w : List ℕ} {rest : List Lexeme} → IsName w → SpellsWords (word w ∷ rest) (w ∷ []) rest
  more_words : {w : List ℕ} {ws : List (List ℕ)} {tokens rest : List Lexeme} → IsName w → SpellsWords tokens ws rest → SpellsWords (word w ∷ tokens) (w ∷ ws) rest

-- proof?
pub data SpellsProofPart : List Lexeme → Option WrittenProof → List Lexeme → Type 0 where
  no_proof : {rest : List Lexeme} → SpellsProofPart rest None rest
  a_proof : {p : WrittenProof} {tokens rest : List Lexeme} → SpellsProof tokens p rest → SpellsProofPart tokens (Some p) rest

-- an item without a proof: `builtins` `:` bname,+ ; `functions` `:` fdecl,+ ; `equations` `:` (term `=` term),+ ; `heuristic` `:` name+ ; name block ;
-- rule ; restriction. The words of a heuristic end where the next item begins.
pub data SpellsDeclaration : List Lexeme → Item → List Lexeme → Type 0 where
  builtins : {bs : List (List ℕ)} {tokens rest : List Lexeme} → AreListed SpellsBuiltin tokens bs rest → SpellsDeclaration (word (codes "builtins") ∷ sign s.Colon ∷ tokens) (builtins_item bs) rest
  functions : {ss : List Symbol} {tokens rest : List Lexeme} → AreListed SpellsFunction tokens ss rest → SpellsDeclaration (word (codes "functions") ∷ sign s.Colon ∷ tokens) (functions_item ss) rest
  equations : {es : List (Term Written × Term Written)} {tokens rest : List Lexeme} → AreListed SpellsEquation tokens es rest → SpellsDeclaration (word (codes "equations") ∷ sign s.Colon ∷ tokens) (equations_item es) rest
  heuristic : {ws : List (List ℕ)} {tokens rest : List Lexeme} → SpellsWords tokens ws rest → SpellsDeclaration (word (codes "heuristic") ∷ sign s.Colon ∷ tokens) (heuristic_item ws) rest
  text_block : {w : List ℕ} {rest : List Lexeme} → IsName w → SpellsDeclaration (word w ∷ block ∷ rest) (block_item w) rest
  a_rule : {bs : List Binding} {r : WrittenRule} {tokens rest : List Lexeme} → SpellsRule tokens bs r rest → SpellsDeclaration tokens (rule_item bs r) rest
  a_restriction : {r : Restriction} {tokens rest : List Lexeme} → SpellsRestriction tokens r rest → SpellsDeclaration tokens (restriction_item r) rest

-- item*, each of these, or a lemma and proof?
pub data SpellsItems : List Lexeme → List Item → List Lexeme → Type 0 where
  no_item : {rest : List Lexeme} → SpellsItems rest [] rest
  declaration_first : {x : Item} {items : List Item} {tokens mid rest : List Lexeme} → SpellsDeclaration tokens x mid → SpellsItems mid items rest → SpellsItems tokens (x ∷ items) rest
  lemma_first : {l : Lemma} {each : List Attribute} {p : Option WrittenProof} {items : List Item} {tokens behind mid rest : List Lexeme} → SpellsLemma tokens l each behind → SpellsProofPart behind p mid → SpellsItems mid items rest → SpellsItems tokens (lemma_item l each p ∷ items) rest

-- theory: `theory` name `begin` item* `end`
pub data SpellsTheory : List Lexeme → WrittenText → Type 0 where
  theory : {w : List ℕ} {items : List Item} {tokens : List Lexeme} → IsName w → SpellsItems tokens items (word (codes "end") ∷ [])
      → SpellsTheory (word (codes "theory") ∷ word w ∷ word (codes "begin") ∷ tokens) (record { name = w; items = items })
