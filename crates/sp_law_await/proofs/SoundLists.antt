-- What the table says of items that are lists, the grammar says.
use Rattle.std.proofs.Common.{◌≡◌, ℕ, true, not, is_some, List, [], ◌∷◌, subst}
use Rattle.sp_spec_text.specs.Signs as s
use Rattle.sp_spec_text.specs.Token.{Lexeme, word, sign}
use Rattle.sp_spec_text.specs.Names.{IsName, is_reserved, privacy_of}
use Rattle.sp_spec_text.specs.Numerals.{is_numeral}
use Rattle.sp_spec_text.specs.Lists.{alone, and_more}
use Rattle.sp_spec_text.specs.Theories as g
use Rattle.sp_spec_text.specs.Theories.{SpellsBuiltin, SpellsAttribute, SpellsFunction, SpellsEquation}
use Rattle.sp_await.specs.Keywords.{ListItem, Builtins, Functions, Equations, Heuristic}
use Rattle.sp_await.specs.Parts as a
use Rattle.sp_await.specs.Table.{next, takes, becomes, stuck, list_parts, more_builtins_move, function_move, attributes_move, more_attributes_move, more_functions_move, more_equations_move}
use Rattle.sp_law_await.proofs.Meaning.{Spelled, one_sign, one_word, AfterPart}
use Rattle.sp_law_await.proofs.Tokens.{name_is, some_is}
use Rattle.sp_law_await.proofs.Means.{Listed, ListedBehind, no_more_parts, more_parts, BuiltinBehind, with_dash, no_dash, BuiltinNamed, builtin_named, AttributesOf, no_attribute, attributes, WordsOf, words_of, MeansAll, nothing, and_then, Sound, by_if, nothing_is, one_is, by_single}
use Rattle.sp_law_await.proofs.SoundParts.{parts_of, another_part, no_other_part, applied_term}

-- ---- parts of lists

listed_of : {A : Type 0} (R : List Lexeme → A → List Lexeme → Type 0) (x : A) {tokens mid rest : List Lexeme} → R tokens x mid → ListedBehind R mid rest → Listed R tokens rest
listed_of R x {mid = mid} h (no_more_parts i) = record { parts = x ∷ []; mid = mid; listed = alone h; items = i }
listed_of R x h (more_parts l) = record { parts = x ∷ l.parts; mid = l.mid; listed = and_more h l.listed; items = l.items }

pub builtin_listed : {w : List ℕ} {tokens rest : List Lexeme} → IsName w → BuiltinBehind tokens rest → Listed SpellsBuiltin (word w ∷ tokens) rest
builtin_listed e (with_dash h k) = listed_of SpellsBuiltin _ (g.joined e h) k
builtin_listed e (no_dash k) = listed_of SpellsBuiltin _ (g.single e) k

pub dashed : {w : List ℕ} {tokens rest : List Lexeme} → IsName w → BuiltinBehind tokens rest → BuiltinBehind (sign s.Dash ∷ word w ∷ tokens) rest
dashed e (with_dash h k) = with_dash (g.joined e h) k
dashed e (no_dash k) = with_dash (g.single e) k

name_behind_dash : {tokens rest : List Lexeme} → MeansAll (a.Name ∷ a.MoreBuiltins ∷ []) tokens rest → BuiltinBehind (sign s.Dash ∷ tokens) rest
name_behind_dash (and_then (one_word e) (and_then k nothing)) = dashed (name_is e) k

name_behind_comma : {tokens rest : List Lexeme} → MeansAll (a.Name ∷ a.MoreBuiltins ∷ []) tokens rest → BuiltinBehind (sign s.Comma ∷ tokens) rest
name_behind_comma (and_then (one_word e) (and_then k nothing)) = no_dash (more_parts (builtin_listed (name_is e) k))

pub sound_more_builtins : (x : Lexeme) → Sound a.MoreBuiltins x (more_builtins_move x)
sound_more_builtins (sign s.Dash) = λ ts r h. name_behind_dash h
sound_more_builtins (sign s.Comma) = λ ts r h. name_behind_comma h
sound_more_builtins _ = λ ts r h. no_dash (no_more_parts (one_is h))

-- with its arity, and attributes or none
function_of : {w k : List ℕ} {tokens rest : List Lexeme} → IsName w → is_numeral k ≡ true → AttributesOf tokens rest → Spelled SpellsFunction (word w ∷ sign s.Slash ∷ word k ∷ tokens) rest
function_of e d no_attribute = (_, g.plain e d)
function_of e d (attributes h) = (_, g.with_attributes e d h)

a_function : {w : List ℕ} {tokens rest : List Lexeme} → IsName w → MeansAll (a.Exactly s.Slash ∷ a.Number ∷ a.Attributes ∷ []) tokens rest → Spelled SpellsFunction (word w ∷ tokens) rest
a_function e (and_then one_sign (and_then (one_word d) (and_then k nothing))) = function_of e d k

pub sound_function : (x : Lexeme) → Sound a.Function x (function_move x)
sound_function (word w) = by_if (Sound a.Function (word w)) (not (is_reserved w)) (takes (a.Exactly s.Slash ∷ a.Number ∷ a.Attributes ∷ [])) stuck (λ e ts r h. a_function (name_is e) h) (λ e. tt)
sound_function _ = tt

pub sound_number : (x : Lexeme) → Sound a.Number x (next a.Number x)
sound_number (word w) = by_single a.Number (word w) (is_numeral w) (λ e rest. one_word e)
sound_number _ = tt

pub sound_attribute : (x : Lexeme) → Sound a.Attribute x (next a.Attribute x)
sound_attribute (word w) = by_single a.Attribute (word w) (is_some (privacy_of w)) (λ e rest. ((some_is (privacy_of w) e).0, g.attribute (some_is (privacy_of w) e).1))
sound_attribute _ = tt

some_attributes : {tokens rest : List Lexeme} → MeansAll (a.Attribute ∷ a.MoreAttributes ∷ []) tokens rest → AttributesOf (sign s.OpenList ∷ tokens) rest
some_attributes (and_then h (and_then k nothing)) = attributes (parts_of SpellsAttribute h.0 h.1 k).1

attributes_end : {tokens rest : List Lexeme} → tokens ≡ rest → AttributesOf tokens rest
attributes_end {tokens} e = subst (λ (r : List Lexeme). AttributesOf tokens r) e no_attribute

pub sound_attributes : (x : Lexeme) → Sound a.Attributes x (attributes_move x)
sound_attributes (sign s.OpenList) = λ ts r h. some_attributes h
sound_attributes _ = λ ts r h. attributes_end (nothing_is h)

another_attribute : {tokens rest : List Lexeme} → MeansAll (a.Attribute ∷ a.MoreAttributes ∷ []) tokens rest → AfterPart SpellsAttribute s.CloseList (sign s.Comma ∷ tokens) rest
another_attribute (and_then h (and_then k nothing)) = another_part SpellsAttribute h k

pub sound_more_attributes : (x : Lexeme) → Sound a.MoreAttributes x (more_attributes_move x)
sound_more_attributes (sign s.Comma) = λ ts r h. another_attribute h
sound_more_attributes (sign s.CloseList) = λ ts r h. no_other_part SpellsAttribute (nothing_is h)
sound_more_attributes _ = tt

functions_listed : {tokens rest : List Lexeme} → MeansAll (a.Function ∷ a.MoreFunctions ∷ []) tokens rest → Listed SpellsFunction tokens rest
functions_listed (and_then h (and_then k nothing)) = listed_of SpellsFunction h.0 h.1 k

pub sound_more_functions : (x : Lexeme) → Sound a.MoreFunctions x (more_functions_move x)
sound_more_functions (sign s.Comma) = λ ts r h. more_parts (functions_listed h)
sound_more_functions _ = λ ts r h. no_more_parts (one_is h)

equations_listed : {tokens rest : List Lexeme} → MeansAll (a.Term 0 ∷ a.Exactly s.Equals ∷ a.Term 0 ∷ a.MoreEquations ∷ []) tokens rest → Listed SpellsEquation tokens rest
equations_listed (and_then h (and_then one_sign (and_then i (and_then k nothing)))) = listed_of SpellsEquation _ (g.equation h.1 i.1) k

pub sound_more_equations : (x : Lexeme) → Sound a.MoreEquations x (more_equations_move x)
sound_more_equations (sign s.Comma) = λ ts r h. more_parts (equations_listed h)
sound_more_equations _ = λ ts r h. no_more_parts (one_is h)

-- ---- what stands behind the colon

builtins_listed : {tokens rest : List Lexeme} → MeansAll (a.Name ∷ a.MoreBuiltins ∷ []) tokens rest → Listed SpellsBuiltin tokens rest
builtins_listed (and_then (one_word e) (and_then k nothing)) = builtin_listed (name_is e) k

words_listed : {tokens rest : List Lexeme} → MeansAll (a.Name ∷ a.SecondWord ∷ []) tokens rest → WordsOf tokens rest
words_listed (and_then (one_word e) (and_then k nothing)) = words_of (name_is e) k

pub sound_listing : (l : ListItem) (x : Lexeme) → Sound (a.Listing l) x (becomes (list_parts l))
sound_listing Builtins x = λ ts r h. builtins_listed h
sound_listing Functions x = λ ts r h. functions_listed h
sound_listing Equations x = λ ts r h. equations_listed h
sound_listing Heuristic x = λ ts r h. words_listed h

-- ---- what stands behind a name with which a list begins

pub function_first : {w : List ℕ} {tokens rest : List Lexeme} → IsName w → MeansAll (a.Exactly s.Slash ∷ a.Number ∷ a.Attributes ∷ a.MoreFunctions ∷ []) tokens rest → Listed SpellsFunction (word w ∷ tokens) rest
function_first e (and_then one_sign (and_then (one_word d) (and_then k (and_then m nothing)))) = let f = function_of e d k in listed_of SpellsFunction f.0 f.1 m

pub equation_first : {w : List ℕ} {tokens rest : List Lexeme} → IsName w → MeansAll (a.Applied 0 ∷ a.Exactly s.Equals ∷ a.Term 0 ∷ a.MoreEquations ∷ []) tokens rest → Listed SpellsEquation (word w ∷ tokens) rest
equation_first e (and_then h (and_then one_sign (and_then i (and_then k nothing)))) = listed_of SpellsEquation _ (g.equation (applied_term e h).1 i.1) k

pub builtin_name : {tokens rest : List Lexeme} → MeansAll (a.Name ∷ a.MoreBuiltins ∷ []) tokens rest → BuiltinNamed tokens rest
builtin_name (and_then (one_word e) (and_then k nothing)) = builtin_named (name_is e) k
