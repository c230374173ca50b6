-- The items of the grammar that are lists are in the table.
use Rattle.std.proofs.Common.{◌≡◌, ℕ, Bool, true, List, [], ◌∷◌, refl}
use Rattle.sp_spec_text.specs.Signs.{Sign}
use Rattle.sp_spec_text.specs.Signs as s
use Rattle.sp_spec_text.specs.Token.{Lexeme, word}
use Rattle.sp_spec.specs.Term.{Term}
use Rattle.sp_spec.specs.Signature.{Symbol}
use Rattle.sp_spec.specs.Formula.{Written}
use Rattle.sp_spec_text.specs.Lists.{AreParts, last, next as next_part, AreListed, alone, and_more}
use Rattle.sp_spec_text.specs.Numerals.{is_numeral}
use Rattle.sp_spec_text.specs.Theories as g
use Rattle.sp_spec_text.specs.Theories.{SpellsBuiltin, SpellsAttribute, SpellsFunction, SpellsEquation, SpellsWords}
use Rattle.sp_await.specs.Keywords.{ListItem, Builtins, Functions, Equations, Heuristic, Keyword, neither, keyword_of}
use Rattle.sp_await.specs.Parts.{Awaited}
use Rattle.sp_await.specs.Parts as a
use Rattle.sp_await.specs.Table.{next, becomes, is_sign, list_parts}
use Rattle.sp_law_await.specs.Language.{Has, by_token, by_parts, HasAll, all_had, and_all}
use Rattle.sp_law_await.proofs.Tokens.{is_some_of}
use Rattle.sp_law_await.proofs.Had.{no_move, one_had, become_all}
use Rattle.sp_law_await.proofs.CompleteParts.{Without, without, Apart, apart, has_name, has_term}
use Rattle.sp_law_await.proofs.CompleteWords.{more_of_items, second_of_items}

-- ---- what stands behind the last part

-- items begin with a word
behind_of_items : (part : Awaited) → ((w : List ℕ) → next part (word w) ≡ becomes (a.Items ∷ [])) → (tokens : List Lexeme) {rest : List Lexeme} → Has a.Items tokens rest → Has part tokens rest
behind_of_items part e [] h = elim h [ ]
behind_of_items part e (word w ∷ tokens) h = by_parts (e w) (one_had {part = a.Items} h)
behind_of_items part e (x ∷ tokens) h = absurd (no_move a.Items x refl h)

items_without : (y : Sign) (tokens : List Lexeme) {rest : List Lexeme} → Has a.Items tokens rest → Without (is_sign y) tokens
items_without y [] h = elim h [ ]
items_without y (word w ∷ tokens) h = without refl
items_without y (x ∷ tokens) h = absurd (no_move a.Items x refl h)

items_apart : (tokens : List Lexeme) {rest : List Lexeme} → Has a.Items tokens rest → Apart tokens
items_apart [] h = elim h [ ]
items_apart (word w ∷ tokens) h = apart refl refl refl
items_apart (x ∷ tokens) h = absurd (no_move a.Items x refl h)

builtin_left : {b : List ℕ} {tokens mid rest : List Lexeme} → SpellsBuiltin tokens b mid → Has a.MoreBuiltins mid rest → HasAll (a.Name ∷ a.MoreBuiltins ∷ []) tokens rest
builtin_left (g.single e) m = and_all (has_name e) (one_had m)
builtin_left (g.joined e h) m = and_all (has_name e) (one_had (by_token refl (builtin_left h m)))

pub builtins_left : {bs : List (List ℕ)} {tokens mid rest : List Lexeme} → AreListed SpellsBuiltin tokens bs mid → Has a.Items mid rest → HasAll (a.Name ∷ a.MoreBuiltins ∷ []) tokens rest
builtins_left {mid = mid} (alone h) i = builtin_left h (behind_of_items a.MoreBuiltins (λ w. refl) mid i)
builtins_left (and_more h k) i = builtin_left h (by_token refl (builtins_left k i))

has_number : {k : List ℕ} {rest : List Lexeme} → is_numeral k ≡ true → Has a.Number (word k ∷ rest) rest
has_number e = by_token (rw e refl) all_had

has_attribute : {private : Bool} {tokens rest : List Lexeme} → SpellsAttribute tokens private rest → Has a.Attribute tokens rest
has_attribute (g.attribute e) = by_token (rw (is_some_of e) refl) all_had

attributes_left : {each : List Bool} {tokens rest : List Lexeme} → AreParts SpellsAttribute s.Comma s.CloseList tokens each rest → HasAll (a.Attribute ∷ a.MoreAttributes ∷ []) tokens rest
attributes_left (last h) = and_all (has_attribute h) (one_had (by_token refl all_had))
attributes_left (next_part h k) = and_all (has_attribute h) (one_had (by_token refl (attributes_left k)))

no_attributes : {tokens : List Lexeme} → Without (is_sign s.OpenList) tokens → Has a.Attributes tokens tokens
no_attributes (without e) = by_parts (rw e refl) all_had

has_function : {f : Symbol} {tokens rest : List Lexeme} → SpellsFunction tokens f rest → Without (is_sign s.OpenList) rest → Has a.Function tokens rest
has_function (g.plain e i) d = by_token (rw e refl) (and_all {part = a.Exactly s.Slash} (by_token refl all_had) (and_all (has_number i) (one_had (no_attributes d))))
has_function (g.with_attributes e i h) d = by_token (rw e refl) (and_all {part = a.Exactly s.Slash} (by_token refl all_had) (and_all (has_number i) (one_had {part = a.Attributes} (by_token refl (attributes_left h)))))

pub functions_left : {fs : List Symbol} {tokens mid rest : List Lexeme} → AreListed SpellsFunction tokens fs mid → Has a.Items mid rest → HasAll (a.Function ∷ a.MoreFunctions ∷ []) tokens rest
functions_left {mid = mid} (alone h) i = and_all (has_function h (items_without s.OpenList mid i)) (one_had (behind_of_items a.MoreFunctions (λ w. refl) mid i))
functions_left (and_more h k) i = and_all (has_function h (without refl)) (one_had (by_token refl (functions_left k i)))

equation_left : {e : Term Written × Term Written} {tokens mid rest : List Lexeme} → SpellsEquation tokens e mid → Apart mid → Has a.MoreEquations mid rest → HasAll (a.Term 0 ∷ a.Exactly s.Equals ∷ a.Term 0 ∷ a.MoreEquations ∷ []) tokens rest
equation_left (g.equation h k) d m = and_all (has_term h (apart refl refl refl)) (and_all (by_token refl all_had) (and_all (has_term k d) (one_had m)))

pub equations_left : {es : List (Term Written × Term Written)} {tokens mid rest : List Lexeme} → AreListed SpellsEquation tokens es mid → Has a.Items mid rest → HasAll (a.Term 0 ∷ a.Exactly s.Equals ∷ a.Term 0 ∷ a.MoreEquations ∷ []) tokens rest
equations_left {mid = mid} (alone h) i = equation_left h (items_apart mid i) (behind_of_items a.MoreEquations (λ w. refl) mid i)
equations_left (and_more h k) i = equation_left h (apart refl refl refl) (by_token refl (equations_left k i))

-- ---- words of a heuristic

more_words_had : (k j : Keyword) {ws : List (List ℕ)} {tokens mid rest : List Lexeme} → SpellsWords tokens ws mid → Has a.Items mid rest → Has (a.MoreWords k j) tokens rest
more_words_had k j {mid = mid} (g.one_word {w = w} n) i = by_token (rw n refl) (one_had {part = a.MoreWords (keyword_of w) k} (more_of_items (keyword_of w) k mid i))
more_words_had k j (g.more_words {w = w} n h) i = by_token (rw n refl) (one_had {part = a.MoreWords (keyword_of w) k} (more_words_had (keyword_of w) k h i))

second_word_had : {ws : List (List ℕ)} {tokens mid rest : List Lexeme} → SpellsWords tokens ws mid → Has a.Items mid rest → Has a.SecondWord tokens rest
second_word_had {mid = mid} (g.one_word {w = w} n) i = by_token (rw n refl) (one_had {part = a.MoreWords (keyword_of w) neither} (more_of_items (keyword_of w) neither mid i))
second_word_had (g.more_words {w = w} n h) i = by_token (rw n refl) (one_had {part = a.MoreWords (keyword_of w) neither} (more_words_had (keyword_of w) neither h i))

pub words_left : {ws : List (List ℕ)} {tokens mid rest : List Lexeme} → SpellsWords tokens ws mid → Has a.Items mid rest → HasAll (a.Name ∷ a.SecondWord ∷ []) tokens rest
words_left {mid = mid} (g.one_word n) i = and_all {part = a.Name} (has_name n) (one_had {part = a.SecondWord} (second_of_items mid i))
words_left (g.more_words n h) i = and_all {part = a.Name} (has_name n) (one_had {part = a.SecondWord} (second_word_had h i))

-- ---- behind the colon

pub listing_had : (l : ListItem) (tokens : List Lexeme) {rest : List Lexeme} → HasAll (list_parts l) tokens rest → Has (a.Listing l) tokens rest
listing_had Builtins tokens h = become_all (a.Listing Builtins) (λ x. refl) tokens h
listing_had Functions tokens h = become_all (a.Listing Functions) (λ x. refl) tokens h
listing_had Equations tokens h = become_all (a.Listing Equations) (λ x. refl) tokens h
listing_had Heuristic tokens h = become_all (a.Listing Heuristic) (λ x. refl) tokens h
