-- Symbols from their parts, and each part that may be missing; what a part reads is what the grammar spells.
use Rattle.std.proofs.Common.{◌≡◌, ℕ, Bool, true, false, true≢false, List, ◌∷◌, Some, None, refl, sym, ap, subst, ◌∙◌}
use Rattle.std.proofs.Math.Bool.{or_assoc}
use Rattle.std.specs.Prelude.{◌||◌}
use Rattle.sp_spec_text.specs.Signs as s
use Rattle.sp_spec_text.specs.Token.{Lexeme, word, sign}
use Rattle.sp_spec.specs.Signature.{Symbol}
use Rattle.sp_spec_text.specs.Names.{privacy_of, is_one_so}
use Rattle.sp_spec_text.specs.Numerals.{is_numeral, value, counted}
use Rattle.sp_spec_text.specs.Lists.{IsNotFirst, IsNoWord, NoReading, AreParts, last, next}
use Rattle.sp_spec_text.specs.Theories as g
use Rattle.sp_spec_text.specs.Theories.{SpellsAttribute, SpellsFunction}
use Rattle.sp_read_parts.specs.Parts.{IsNameFirst, name}
use Rattle.sp_read_parts.proofs.One.{One, parts_one}
use Rattle.sp_read_listings.specs.Listings.{IsArity, arity, AreAttributes, attributes, IsPrivacy, unsaid, said_so, IsFunction, function}

-- ---- arities

pub arity_one : {tokens r q : List Lexeme} {x y : List ℕ × ℕ} → IsArity tokens x r → IsArity tokens y q → (x ≡ y) × (r ≡ q)
arity_one (arity h e) (arity k f) = (refl, refl)

pub arities_one : One IsArity
arities_one = record { one = arity_one }

pub arity_at : {w k : List ℕ} {n : ℕ} {tokens mid behind rest : List Lexeme} → IsNameFirst tokens w mid → mid ≡ sign s.Slash ∷ behind → behind ≡ word k ∷ rest → is_numeral k ≡ true → n ≡ counted (value 0 k) → IsArity tokens (w, n) rest
arity_at (name h) e f i j = rw (e, f, j) (arity h i)

pub arity_no_name : {tokens : List Lexeme} → NoReading IsNameFirst tokens → NoReading IsArity tokens
arity_no_name n = record { none = λ x r h. at h n }
  where
    at : {ts r : List Lexeme} {x : List ℕ × ℕ} → IsArity ts x r → NoReading IsNameFirst ts → ⊥
    at (arity {w = w} {k = k} {rest = r} h e) n = n.none w (sign s.Slash ∷ word k ∷ r) (name h)

pub arity_no_slash : {w : List ℕ} {tokens mid : List Lexeme} → IsNameFirst tokens w mid → IsNotFirst (sign s.Slash) mid → NoReading IsArity tokens
arity_no_slash i d = record { none = λ x r h. at h i d }
  where
    at : {ts mid r : List Lexeme} {w : List ℕ} {x : List ℕ × ℕ} → IsArity ts x r → IsNameFirst ts w mid → IsNotFirst (sign s.Slash) mid → ⊥
    at (arity {k = k} {rest = r} h e) (name i) d = d (word k ∷ r) refl

pub arity_no_word : {w : List ℕ} {tokens mid behind : List Lexeme} → IsNameFirst tokens w mid → mid ≡ sign s.Slash ∷ behind → IsNoWord behind → NoReading IsArity tokens
arity_no_word i f d = record { none = λ x r h. at h i f d }
  where
    at : {ts mid behind r : List Lexeme} {w : List ℕ} {x : List ℕ × ℕ} → IsArity ts x r → IsNameFirst ts w mid → mid ≡ sign s.Slash ∷ behind → IsNoWord behind → ⊥
    at (arity {k = k} {rest = r} h e) (name i) f d = d k r cc

pub arity_no_number : {w k : List ℕ} {tokens mid behind rest : List Lexeme} → IsNameFirst tokens w mid → mid ≡ sign s.Slash ∷ behind → behind ≡ word k ∷ rest → is_numeral k ≡ false → NoReading IsArity tokens
arity_no_number i f j n = record { none = λ x r h. at h i f j n }
  where
    at : {ts mid behind rest r : List Lexeme} {w k : List ℕ} {x : List ℕ × ℕ} → IsArity ts x r → IsNameFirst ts w mid → mid ≡ sign s.Slash ∷ behind → behind ≡ word k ∷ rest → is_numeral k ≡ false → ⊥
    at {k = c} (arity {k = k} h e) (name i) f j n = let l : k ≡ c = cc in true≢false (sym (subst (λ (d : List ℕ). is_numeral d ≡ true) l e) ∙ n)

pub ruleset arities = (arity_at, arity_no_name, arity_no_slash, arity_no_word, arity_no_number)

-- ---- attributes

some_so : {a b : Bool} (w : List ℕ) → privacy_of w ≡ Some a → privacy_of w ≡ Some b → a ≡ b
some_so w e f = let d = sym e ∙ f in cc

pub attribute_one : {tokens r q : List Lexeme} {a b : Bool} → SpellsAttribute tokens a r → SpellsAttribute tokens b q → (a ≡ b) × (r ≡ q)
attribute_one (g.attribute {w = w} e) (g.attribute f) = (some_so w e f, refl)

attributes' : One SpellsAttribute
attributes' = record { one = attribute_one }

pub attribute_at : {w : List ℕ} {p : Bool} {tokens rest : List Lexeme} → tokens ≡ word w ∷ rest → Some p ≡ privacy_of w → SpellsAttribute tokens p rest
attribute_at e f = rw e (g.attribute (sym f))

pub attribute_no_word : {tokens : List Lexeme} → IsNoWord tokens → NoReading SpellsAttribute tokens
attribute_no_word d = record { none = λ p r h. at h d }
  where
    at : {ts r : List Lexeme} {p : Bool} → SpellsAttribute ts p r → IsNoWord ts → ⊥
    at (g.attribute {w = w} {rest = r} e) d = d w r refl

pub attribute_unknown : {w : List ℕ} {tokens rest : List Lexeme} → tokens ≡ word w ∷ rest → None ≡ privacy_of w → NoReading SpellsAttribute tokens
attribute_unknown e f = record { none = λ p r h. at h e f }
  where
    at : {ts rest r : List Lexeme} {w : List ℕ} {p : Bool} → SpellsAttribute ts p r → ts ≡ word w ∷ rest → None ≡ privacy_of w → ⊥
    at {w = c} (g.attribute {w = w} {private = p} h) e f = let i : c ≡ w = cc in let j : None ≡ Some p = f ∙ (ap privacy_of i ∙ h) in cc

pub ruleset an_attribute = (attribute_at, attribute_no_word, attribute_unknown)

pub attributes_one : {tokens r q : List Lexeme} {a b : Bool} → AreAttributes tokens a r → AreAttributes tokens b q → (a ≡ b) × (r ≡ q)
attributes_one (attributes h) (attributes k) = let o = parts_one attributes' (λ e. cc) h k in (ap is_one_so o.0, o.1)

-- what is read from the rest on goes on with what was found
pub record Marked (tokens : List Lexeme) (found : Bool) (rest : List Lexeme) : Type 0 where
  pub goes : (p : Bool) (r : List Lexeme) → AreAttributes rest p r → AreAttributes tokens (found || p) r
  pub stops : NoReading AreAttributes rest → NoReading AreAttributes tokens

pub marked_none : (tokens : List Lexeme) → Marked tokens false tokens
marked_none tokens = record { goes = λ p r h. h; stops = λ n. n }

or_none : (a b : Bool) → (a || (b || false)) ≡ (a || b)
or_none true b = refl
or_none false true = refl
or_none false false = refl

one_more : {rest mid after r : List Lexeme} {a p : Bool} → SpellsAttribute rest a mid → mid ≡ sign s.Comma ∷ after → AreAttributes after p r → AreAttributes rest (a || p) r
one_more {rest} {a = a} h e (attributes k) = attributes (next (subst (λ (ts : List Lexeme). SpellsAttribute rest a ts) e h) k)

parts_behind : {ts r mid after : List Lexeme} {each : List Bool} {a : Bool} → AreParts SpellsAttribute s.Comma s.CloseList ts each r → SpellsAttribute ts a mid → mid ≡ sign s.Comma ∷ after → NoReading AreAttributes after → ⊥
parts_behind (last k) h e n = let i = (attribute_one h k).1 in cc
parts_behind {after = after} (next {xs = ps} {mid = m} {rest = r} k l) h e n =
    let i = (attribute_one h k).1 in
    let f : m ≡ after = cc in
    n.none (is_one_so ps) r (attributes (subst (λ (us : List Lexeme). AreParts SpellsAttribute s.Comma s.CloseList us ps r) f l))

none_behind : {rest mid after : List Lexeme} {a : Bool} → SpellsAttribute rest a mid → mid ≡ sign s.Comma ∷ after → NoReading AreAttributes after → NoReading AreAttributes rest
none_behind h e n = record { none = λ p r k. at k h e n }
  where
    at : {ts r mid after : List Lexeme} {p a : Bool} → AreAttributes ts p r → SpellsAttribute ts a mid → mid ≡ sign s.Comma ∷ after → NoReading AreAttributes after → ⊥
    at (attributes k) h e n = parts_behind k h e n

pub marked_more : {tokens rest mid after : List Lexeme} {found a : Bool} → Marked tokens found rest → SpellsAttribute rest a mid → mid ≡ sign s.Comma ∷ after → Marked tokens (found || a) after
marked_more {tokens} {found = b} {a = a} g h e = record {
  goes = λ p r k. subst (λ (c : Bool). AreAttributes tokens c r) (sym (or_assoc b a p)) (g.goes (a || p) r (one_more h e k));
  stops = λ n. g.stops (none_behind h e n);
}

last_one : {rest mid end : List Lexeme} {a : Bool} → SpellsAttribute rest a mid → mid ≡ sign s.CloseList ∷ end → AreAttributes rest (a || false) end
last_one {rest} {a = a} h e = attributes (last (subst (λ (ts : List Lexeme). SpellsAttribute rest a ts) e h))

pub marked_last : {tokens rest mid end : List Lexeme} {found a : Bool} → Marked tokens found rest → SpellsAttribute rest a mid → mid ≡ sign s.CloseList ∷ end → AreAttributes tokens (found || a) end
marked_last {tokens} {end = end} {found = b} {a = a} g h e = subst (λ (c : Bool). AreAttributes tokens c end) (or_none b a) (g.goes (a || false) end (last_one h e))

parts_begin : {ts r : List Lexeme} {each : List Bool} → AreParts SpellsAttribute s.Comma s.CloseList ts each r → NoReading SpellsAttribute ts → ⊥
parts_begin (last {x = x} {rest = r} k) n = n.none x (sign s.CloseList ∷ r) k
parts_begin (next {x = x} {mid = m} k l) n = n.none x (sign s.Comma ∷ m) k

pub marked_no_attribute : {tokens rest : List Lexeme} {found : Bool} → Marked tokens found rest → NoReading SpellsAttribute rest → NoReading AreAttributes tokens
marked_no_attribute g n = g.stops (record { none = λ p r h. at h n })
  where
    at : {ts r : List Lexeme} {p : Bool} → AreAttributes ts p r → NoReading SpellsAttribute ts → ⊥
    at (attributes k) n = parts_begin k n

parts_go_on : {ts r mid : List Lexeme} {each : List Bool} {a : Bool} → AreParts SpellsAttribute s.Comma s.CloseList ts each r → SpellsAttribute ts a mid → IsNotFirst (sign s.CloseList) mid → IsNotFirst (sign s.Comma) mid → ⊥
parts_go_on (last {rest = r} k) h c d = c r (attribute_one h k).1
parts_go_on (next {mid = m} k l) h c d = d m (attribute_one h k).1

pub marked_no_sign : {tokens rest mid : List Lexeme} {found a : Bool} → Marked tokens found rest → SpellsAttribute rest a mid → IsNotFirst (sign s.CloseList) mid → IsNotFirst (sign s.Comma) mid → NoReading AreAttributes tokens
marked_no_sign g h c d = g.stops (record { none = λ p r k. at k h c d })
  where
    at : {ts r mid : List Lexeme} {p a : Bool} → AreAttributes ts p r → SpellsAttribute ts a mid → IsNotFirst (sign s.CloseList) mid → IsNotFirst (sign s.Comma) mid → ⊥
    at (attributes k) h c d = parts_go_on k h c d

pub ruleset several_attributes = (marked_none, marked_more, marked_last, marked_no_attribute, marked_no_sign)

-- ---- attributes that may stand there

pub privacy_one : {tokens r q : List Lexeme} {a b : Bool} → IsPrivacy tokens a r → IsPrivacy tokens b q → (a ≡ b) × (r ≡ q)
privacy_one (unsaid d) (unsaid e) = (refl, refl)
privacy_one (unsaid d) (said_so {tokens = ts} h) = absurd (d ts refl)
privacy_one (said_so {tokens = ts} h) (unsaid d) = absurd (d ts refl)
privacy_one (said_so h) (said_so k) = attributes_one h k

pub said_so_at : {p : Bool} {tokens inside rest : List Lexeme} → tokens ≡ sign s.OpenList ∷ inside → AreAttributes inside p rest → IsPrivacy tokens p rest
said_so_at e h = rw e (said_so h)

pub privacy_no_attributes : {tokens inside : List Lexeme} → tokens ≡ sign s.OpenList ∷ inside → NoReading AreAttributes inside → NoReading IsPrivacy tokens
privacy_no_attributes e n = record { none = λ p r h. at h e n }
  where
    at : {ts inside r : List Lexeme} {p : Bool} → IsPrivacy ts p r → ts ≡ sign s.OpenList ∷ inside → NoReading AreAttributes inside → ⊥
    at {inside = i} (unsaid d) e n = d i e
    at {inside = i} (said_so {private = p} {tokens = ts} {rest = r} h) e n = let f : ts ≡ i = cc in n.none p r (subst (λ (us : List Lexeme). AreAttributes us p r) f h)

pub ruleset privacies = (unsaid, said_so_at, privacy_no_attributes)

-- ---- symbols

abbrev declares : List ℕ × ℕ → Bool → Symbol
declares x p = record { name = x.0; arity = x.1; private = p }

pub function_one : {tokens r q : List Lexeme} {f k : Symbol} → IsFunction tokens f r → IsFunction tokens k q → (f ≡ k) × (r ≡ q)
function_one (function {x = x} {private = p} h i) (function {x = y} {private = c} {rest = q} j k) =
    let a = arity_one h j in
    let b = privacy_one i (subst (λ (ts : List Lexeme). IsPrivacy ts c q) (sym a.1) k) in
    let e : declares x p ≡ declares y c = rw (a.0, b.0) refl in
    (e, b.1)

pub functions_one : One IsFunction
functions_one = record { one = function_one }

pub function_at : {w : List ℕ} {n : ℕ} {p : Bool} {tokens mid rest : List Lexeme} → IsArity tokens (w, n) mid → IsPrivacy mid p rest → IsFunction tokens (record { name = w; arity = n; private = p }) rest
function_at h k = function h k

pub function_no_arity : {tokens : List Lexeme} → NoReading IsArity tokens → NoReading IsFunction tokens
function_no_arity n = record { none = λ f r h. at h n }
  where
    at : {ts r : List Lexeme} {f : Symbol} → IsFunction ts f r → NoReading IsArity ts → ⊥
    at (function {x = x} {mid = m} h k) n = n.none x m h

pub function_no_privacy : {x : List ℕ × ℕ} {tokens mid : List Lexeme} → IsArity tokens x mid → NoReading IsPrivacy mid → NoReading IsFunction tokens
function_no_privacy h n = record { none = λ f r k. at k h n }
  where
    at : {ts mid r : List Lexeme} {f : Symbol} {x : List ℕ × ℕ} → IsFunction ts f r → IsArity ts x mid → NoReading IsPrivacy mid → ⊥
    at (function {private = p} {rest = r} i k) h n = n.none p r (subst (λ (us : List Lexeme). IsPrivacy us p r) (sym (arity_one h i).1) k)

pub ruleset declared_symbols = (function_at, function_no_arity, function_no_privacy)

-- ---- as the grammar spells them

pub function_spelled : {tokens rest : List Lexeme} {f : Symbol} → IsFunction tokens f rest → SpellsFunction tokens f rest
function_spelled (function (arity h e) (unsaid d)) = g.plain h e
function_spelled (function (arity h e) (said_so (attributes k))) = g.with_attributes h e k

pub function_taken : {tokens rest : List Lexeme} {f : Symbol} → SpellsFunction tokens f rest → IsNotFirst (sign s.OpenList) rest → IsFunction tokens f rest
function_taken (g.plain h e) d = function (arity h e) (unsaid d)
function_taken (g.with_attributes h e k) d = function (arity h e) (said_so (attributes k))
