-- The items of a text have names as a text may have them: so have the symbols that its builtins and functions declare.
use Rattle.std.proofs.Common.{ℕ, Bool, true, false, if◌then◌else◌, List, [], ◌∷◌, ◌++◌, Option, Some, None, refl}
use Rattle.std.specs.List.{flat_map}
use Rattle.sp_spec.specs.Lists.{Every}
use Rattle.sp_spec.proofs.Lists.{every_append}
use Rattle.sp_spec.specs.Term.{Term}
use Rattle.sp_spec.specs.Signature.{Symbol, pair_symbols}
use Rattle.sp_spec.specs.Formula.{Written}
use Rattle.sp_spec_text.specs.Lex.{skip}
use Rattle.sp_spec_text.specs.Token.{Lexeme}
use Rattle.sp_spec_text.specs.Names.{is_reserved, IsNameWord}
use Rattle.sp_spec_printed.specs.StepLines.{HaveNames}
use Rattle.sp_spec_text.specs.Written.{Item, builtins_item, functions_item, equations_item, heuristic_item, block_item, rule_item, restriction_item, lemma_item, builtins_in, functions_in}
use Rattle.sp_spec_text.specs.Theories as t
use Rattle.sp_spec_text.specs.Theories.{SpellsBuiltin, SpellsAttribute, SpellsFunction, SpellsEquation, SpellsWords, SpellsDeclaration}
use Rattle.sp_spec_text.specs.Declared.{Builtin, hashing, symmetric_encryption, asymmetric_encryption, signing, revealing_signing, builtin_of, symbols_of, builtin_symbols, is_named, new_symbols, declared_symbols, all_symbols}
use Rattle.sp_spec_printed.proofs.SymbolNames.{pairs_have_names}
use Rattle.sp_law_printed_log.proofs.TokenWords.{Spoken}
use Rattle.sp_spec_text.specs.Bindings.{with_values}
use Rattle.sp_law_printed_log.proofs.SpelledNames.{Spelled, part_named, listed_named, term_named, IsNamedWritten, rule_named, IsNamedRestriction, restriction_named, IsNamedLemma}

abbrev pub IsNamedSymbol : Symbol → Type 0
IsNamedSymbol s = IsNameWord s.name

-- Of builtins, equations, heuristics and blocks of text nothing is said: what they are called, and the names in them, are printed of no execution. Of a rule it
-- is said where values stand for bound names.
abbrev pub IsNamedItem : Item → Type 0
IsNamedItem (builtins_item bs) = Unit {0}
IsNamedItem (functions_item ss) = HaveNames ss
IsNamedItem (equations_item es) = Unit {0}
IsNamedItem (heuristic_item ws) = Unit {0}
IsNamedItem (block_item w) = Unit {0}
IsNamedItem (rule_item bs r) = IsNamedWritten (with_values bs r)
IsNamedItem (restriction_item r) = IsNamedRestriction r
IsNamedItem (lemma_item l as' p) = IsNamedLemma l

-- ---- declarations

builtin_behind : {b : List ℕ} {tokens rest : List Lexeme} → SpellsBuiltin tokens b rest → Every Spoken tokens → Every Spoken rest
builtin_behind (t.single n) k = k.1
builtin_behind (t.joined n h) k = builtin_behind h k.1.1

pub attribute_behind : {private : Bool} {tokens rest : List Lexeme} → SpellsAttribute tokens private rest → Every Spoken tokens → Every Spoken rest
attribute_behind (t.attribute e) k = k.1

function_named : {s : Symbol} {tokens rest : List Lexeme} → SpellsFunction tokens s rest → Every Spoken tokens → Spelled (IsNamedSymbol s) rest
function_named (t.plain n e) k = record { says = (n, k.0); behind = k.1.1.1 }
function_named (t.with_attributes n e attributes) k =
    let a = part_named (λ (b : Bool). Unit {0}) (λ ts b us h j. record { says = tt; behind = attribute_behind h j }) attributes k.1.1.1.1 in
    record { says = (n, k.0); behind = a.behind }

equation_behind : {e : Term Written × Term Written} {tokens rest : List Lexeme} → SpellsEquation tokens e rest → Every Spoken tokens → Every Spoken rest
equation_behind (t.equation h i) k = (term_named i (term_named h k).behind.1).behind

pub words_behind : {ws : List (List ℕ)} {tokens rest : List Lexeme} → SpellsWords tokens ws rest → Every Spoken tokens → Every Spoken rest
words_behind (t.one_word n) k = k.1
words_behind (t.more_words n h) k = words_behind h k.1

pub declaration_named : {x : Item} {tokens rest : List Lexeme} → SpellsDeclaration tokens x rest → Every Spoken tokens → Spelled (IsNamedItem x) rest
declaration_named (t.builtins h) k =
    let b = listed_named (λ (b : List ℕ). Unit {0}) (λ ts b us i j. record { says = tt; behind = builtin_behind i j }) h k.1.1 in
    record { says = tt; behind = b.behind }
declaration_named (t.functions h) k =
    let f = listed_named IsNamedSymbol (λ ts s us. function_named) h k.1.1 in
    record { says = f.says; behind = f.behind }
declaration_named (t.equations h) k =
    let e = listed_named (λ (e : Term Written × Term Written). Unit {0}) (λ ts e us i j. record { says = tt; behind = equation_behind i j }) h k.1.1 in
    record { says = tt; behind = e.behind }
declaration_named (t.heuristic h) k = record { says = tt; behind = words_behind h k.1.1 }
declaration_named (t.text_block n) k = record { says = tt; behind = k.1.1 }
declaration_named (t.a_rule h) k = let r = rule_named h k in record { says = r.says; behind = r.behind }
declaration_named (t.a_restriction h) k = let r = restriction_named h k in record { says = r.says; behind = r.behind }

-- ---- symbols

builtin_named : (b : Builtin) → HaveNames (symbols_of b)
unfolding is_reserved skip
builtin_named hashing = ((refl, (refl, refl)), tt)
builtin_named symmetric_encryption = ((refl, (refl, refl)), ((refl, (refl, refl)), tt))
builtin_named asymmetric_encryption = ((refl, (refl, refl)), ((refl, (refl, refl)), ((refl, (refl, refl)), tt)))
builtin_named signing = ((refl, (refl, refl)), ((refl, (refl, refl)), ((refl, (refl, refl)), ((refl, (refl, refl)), tt))))
builtin_named revealing_signing = ((refl, (refl, refl)), ((refl, (refl, refl)), ((refl, (refl, refl)), ((refl, (refl, refl)), ((refl, (refl, refl)), tt)))))

known_named : (o : Option Builtin) → HaveNames (builtin_symbols o)
known_named None = tt
known_named (Some b) = builtin_named b

builtins_named : (bs : List (List ℕ)) → HaveNames (flat_map (λ b. builtin_symbols (builtin_of b)) bs)
builtins_named [] = tt
builtins_named (b ∷ bs) =
    every_append IsNamedSymbol (builtin_symbols (builtin_of b)) (flat_map (λ c. builtin_symbols (builtin_of c)) bs) (known_named (builtin_of b)) (builtins_named bs)

every_new : (P : Symbol → Type 0) (before symbols : List Symbol) → Every P symbols → Every P (new_symbols before symbols)
every_new P before [] e = tt
every_new P before (s ∷ symbols) e = by_test (is_named s.name before) (every_new P before symbols e.1) (every_new P (before ++ s ∷ []) symbols e.1)
  where
    by_test : (b : Bool) → Every P (new_symbols before symbols) → Every P (new_symbols (before ++ s ∷ []) symbols)
        → Every P (if b then new_symbols before symbols else s ∷ new_symbols (before ++ s ∷ []) symbols)
    by_test true passing keeping = passing
    by_test false passing keeping = (e.0, keeping)

functions_named : (items : List Item) → Every IsNamedItem items → HaveNames (functions_in items)
functions_named [] e = tt
functions_named (builtins_item bs ∷ items) e = functions_named items e.1
functions_named (functions_item ss ∷ items) e = every_append IsNamedSymbol ss (functions_in items) e.0 (functions_named items e.1)
functions_named (equations_item es ∷ items) e = functions_named items e.1
functions_named (heuristic_item ws ∷ items) e = functions_named items e.1
functions_named (block_item w ∷ items) e = functions_named items e.1
functions_named (rule_item bs r ∷ items) e = functions_named items e.1
functions_named (restriction_item r ∷ items) e = functions_named items e.1
functions_named (lemma_item l as' p ∷ items) e = functions_named items e.1

pub symbols_named : (items : List Item) → Every IsNamedItem items → HaveNames (all_symbols items)
symbols_named items e =
    every_append IsNamedSymbol pair_symbols (new_symbols pair_symbols (declared_symbols items)) pairs_have_names
    (every_new IsNamedSymbol pair_symbols (declared_symbols items)
    (every_append IsNamedSymbol (flat_map (λ b. builtin_symbols (builtin_of b)) (builtins_in items)) (functions_in items) (builtins_named (builtins_in items)) (functions_named items e)))
