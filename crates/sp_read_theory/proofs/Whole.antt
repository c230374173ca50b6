-- Whole texts.
use Rattle.std.proofs.Common.{◌≡◌, ℕ, ◌≤◌, List, ◌∷◌, length, drop, codes, refl, sym, ap, subst, ◌∙◌, arith}
use Rattle.std.proofs.lemmas.List.{drop-map}
use Rattle.sp_lex.specs.declared.token.Token as lexer
use Rattle.sp_spec_text.specs.Bytes.{FaultKind}
use Rattle.sp_lex.specs.Views.{token_of, tokens_of}
use Rattle.sp_spec_text.specs.Token.{Lexeme, word, Token}
use Rattle.sp_spec_text.specs.Lex.{AreTokens, IsFault, lexemes}
use Rattle.sp_spec_text.specs.Ends.{is_any, behind_all}
use Rattle.sp_lex.proofs.One.{tokens_one, not_both}
use Rattle.sp_lex.proofs.Places.{places_in_order}
use Rattle.sp_spec_text.specs.Lists.{IsNotFirst, NoReading}
use Rattle.sp_spec_text.specs.Written.{Item, WrittenText}
use Rattle.sp_spec_text.specs.Spans.{Span}
use Rattle.sp_spec_text.specs.Theories.{SpellsTheory, theory}
use Rattle.sp_read_parts.specs.Parts.{IsNameFirst, name}
use Rattle.sp_read_parts.proofs.Sequence.{Fixed, fixed_none, fixed_one, Then, no_first, no_second, Becomes, no_whole}
use Rattle.sp_read_rules.proofs.RuleHeads.{names}
use Rattle.sp_read_theory.specs.Items.{IsOpening, opening, AreItemsToEnd, NoItems, NoTheory}
use Rattle.sp_spec_text.specs.Spans.{AreSpans, Rise}
use Rattle.sp_spec_text.specs.Texts.{IsTextOf, IsNoText, ArePlaces}
use Rattle.sp_read_theory.specs.Views.{seen_from}
use Rattle.sp_read_theory.proofs.OneTheory.{theory_one}
use Rattle.sp_read_lemmas.proofs.Suffix.{three_further}
use Rattle.sp_read_theory.proofs.Spans.{spans_one, rise, rising, dropped}

-- ---- the opening

pub opening_at : {w : List ℕ} {tokens mid behind rest : List Lexeme} → tokens ≡ word (codes "theory") ∷ mid → IsNameFirst mid w behind → behind ≡ word (codes "begin") ∷ rest → IsOpening tokens w rest
opening_at e (name h) f = rw (e, f) (opening h)

opening_parts : Becomes IsOpening (Then (Fixed (word (codes "theory"))) (Then IsNameFirst (Fixed (word (codes "begin")))))
opening_parts = record { part = λ ts x r h. (tt, (x, tt)); reads = λ ts x r h. at h }
  where
    at : {ts r : List Lexeme} {x : List ℕ} → IsOpening ts x r → Then (Fixed (word (codes "theory"))) (Then IsNameFirst (Fixed (word (codes "begin")))) ts (tt, (x, tt)) r
    at (opening {w = w} {rest = r} h) = record { mid = word w ∷ word (codes "begin") ∷ r; first = refl; second = record { mid = word (codes "begin") ∷ r; first = name h; second = refl } }

pub opening_no_theory : {tokens : List Lexeme} → IsNotFirst (word (codes "theory")) tokens → NoReading IsOpening tokens
opening_no_theory d = no_whole opening_parts (no_first (fixed_none d))

pub opening_no_name : {tokens mid : List Lexeme} → tokens ≡ word (codes "theory") ∷ mid → NoReading IsNameFirst mid → NoReading IsOpening tokens
opening_no_name e n = no_whole opening_parts (no_second {x = tt} fixed_one e (no_first n))

pub opening_no_begin : {w : List ℕ} {tokens mid behind : List Lexeme} → tokens ≡ word (codes "theory") ∷ mid → IsNameFirst mid w behind → IsNotFirst (word (codes "begin")) behind → NoReading IsOpening tokens
opening_no_begin e h d = no_whole opening_parts (no_second {x = tt} fixed_one e (no_second names h (fixed_none d)))

pub ruleset openings = (opening_at, opening_no_theory, opening_no_name, opening_no_begin)

pub opening_one : {tokens r q : List Lexeme} {w u : List ℕ} → IsOpening tokens w r → IsOpening tokens u q → (w ≡ u) × (r ≡ q)
opening_one (opening h) (opening k) = (refl, refl)

-- ---- tokens

pub theory_at : {w : List ℕ} {items : List Item} {tokens body : List Lexeme} → IsOpening tokens w body → AreItemsToEnd body items → SpellsTheory tokens (record { name = w; items = items })
theory_at (opening h) k = theory h k

pub theory_no_opening : {tokens : List Lexeme} → NoReading IsOpening tokens → NoTheory tokens
theory_no_opening n = record { none = λ t h. at h n }
  where
    at : {tokens : List Lexeme} {t : WrittenText} → SpellsTheory tokens t → NoReading IsOpening tokens → ⊥
    at (theory {w = w} {tokens = ts} h k) n = n.none w ts (opening h)

pub theory_no_items : {w : List ℕ} {tokens body : List Lexeme} → IsOpening tokens w body → NoItems body → NoTheory tokens
theory_no_items i n = record { none = λ t h. at h i n }
  where
    at : {w : List ℕ} {tokens body : List Lexeme} {t : WrittenText} → SpellsTheory tokens t → IsOpening tokens w body → NoItems body → ⊥
    at (theory {items = xs} h k) i n = n.none xs (subst (λ (ts : List Lexeme). AreItemsToEnd ts xs) (opening_one (opening h) i).1 k)

pub ruleset wholes = (theory_at, theory_no_opening, theory_no_items)

-- the items stand behind three tokens
opening_size : {w : List ℕ} {tokens body : List Lexeme} → IsOpening tokens w body → (xs : List lexer.Token) (i : ℕ) → i ≤ length xs → tokens ≡ seen_from xs 0 → body ≡ seen_from xs i → i ≡ 3
opening_size (opening {w = w} h) xs i le e f = three_further xs i le (sym e ∙ ap (λ (ts : List Lexeme). word (codes "theory") ∷ word w ∷ word (codes "begin") ∷ ts) f)

pub all_spans : {w : List ℕ} {items : List Item} {spans : List Span} (xs : List lexer.Token) (i : ℕ) → i ≤ length xs → IsOpening (seen_from xs 0) w (seen_from xs i) → AreSpans (tokens_of (drop i xs)) items spans → AreSpans (drop 3 (tokens_of xs)) items spans
all_spans {items = items} {spans = spans} xs i le h k =
    let e = opening_size h xs i le refl refl in
    let f : AreSpans (tokens_of (drop 3 xs)) items spans = subst (λ (j : ℕ). AreSpans (tokens_of (drop j xs)) items spans) e k in
    subst (λ (ts : List Token). AreSpans ts items spans) (sym (drop-map token_of 3 xs)) f

-- ---- texts

pub text_of : {text : List ℕ} {ts : List Token} {t : WrittenText} → AreTokens (length text) text ts → SpellsTheory (lexemes ts) t → IsTextOf text t
text_of {ts = ts} h k = record { tokens = ts; cut = h; spells = k }

pub text_no_theory : {text : List ℕ} {ts : List Token} → AreTokens (length text) text ts → NoTheory (lexemes ts) → IsNoText text
text_no_theory h n = record { none = λ t k. n.none t (subst (λ (us : List Token). SpellsTheory (lexemes us) t) (tokens_one k.cut h) k.spells) }

pub text_no_tokens : {text : List ℕ} {place : ℕ} {kind : FaultKind} → IsFault (length text) text place kind → IsNoText text
text_no_tokens h = record { none = λ t k. not_both k.cut h }

pub text_places : {text : List ℕ} {ts : List Token} {t : WrittenText} {spans : List Span} {b : ℕ} → AreTokens (length text) text ts → AreSpans (drop 3 ts) t.items spans → b ≡ behind_all ts → ArePlaces text t spans b
text_places {ts = ts} h k e = record { tokens = ts; cut = h; spans_are = k; end_is = e }

pub text_one : {text : List ℕ} {t u : WrittenText} → IsTextOf text t → IsTextOf text u → t ≡ u
text_one {u = u} h k = theory_one h.spells (subst (λ (us : List Token). SpellsTheory (lexemes us) u) (tokens_one k.cut h.cut) k.spells)

pub places_one : {text : List ℕ} {t : WrittenText} {ss rs : List Span} {a b : ℕ} → ArePlaces text t ss a → ArePlaces text t rs b → (ss ≡ rs) × (a ≡ b)
places_one {t = t} {rs = rs} {b = b} h k =
    let e = tokens_one k.cut h.cut in
    let f : b ≡ behind_all h.tokens = subst (λ (us : List Token). b ≡ behind_all us) e k.end_is in
    (spans_one h.spans_are (subst (λ (us : List Token). AreSpans (drop 3 us) t.items rs) e k.spans_are), h.end_is ∙ sym f)

-- ---- the order of the places

items_spelled : {tokens : List Lexeme} {t : WrittenText} → SpellsTheory tokens t → AreItemsToEnd (drop 3 tokens) t.items
items_spelled (theory h k) = k

pub places_ordered : {text : List ℕ} {ts : List Token} {t : WrittenText} {spans : List Span} {b : ℕ} → AreTokens (length text) text ts → SpellsTheory (lexemes ts) t → AreSpans (drop 3 ts) t.items spans → b ≡ behind_all ts → Rise text 0 spans b × (b ≤ length text)
places_ordered {text} {ts} {t} {spans} h k s e =
    let o = places_in_order is_any 0 0 h (omega arith) (omega arith) in
    let r = rising 0 0 h (omega arith) (omega arith) in
    let i : AreItemsToEnd (lexemes (drop 3 ts)) t.items = subst (λ (us : List Lexeme). AreItemsToEnd us t.items) (drop-map (λ (t : Token). t.lexeme) 3 ts) (items_spelled k) in
    (subst (λ (a : ℕ). Rise text 0 spans a) (sym e) (rise text s i refl (dropped 3 ts r.0)), rw e o.1)

pub ruleset texts = (text_of, text_no_theory, text_no_tokens, text_places, places_ordered)
