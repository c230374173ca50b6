-- Where the items of a text and their proofs stand is fixed by the tokens, and the spans rise.
use Rattle.std.proofs.Common.{◌≡◌, ℕ, ◌+◌, ◌≤◌, Bool, true, false, cond, List, [], ◌∷◌, ◌++◌, Option, Some, None, length, drop, refl, sym, subst, ◌∙◌, arith}
use Rattle.std.specs.Prelude.{◌==◌}
use Rattle.std.proofs.lemmas.List.{take-append-drop}
use Rattle.sp_spec_text.specs.Token.{Lexeme, Token}
use Rattle.sp_spec_text.specs.Lex.{AreTokens, no_more, last, next, lexemes}
use Rattle.sp_spec_text.specs.Ends.{place_behind, is_any}
use Rattle.sp_lex.proofs.Places.{next_shorter}
use Rattle.sp_spec_text.specs.Written.{WrittenProof, Item}
use Rattle.sp_spec_text.specs.Spans.{Span}
use Rattle.sp_read_proof.proofs.One.{proof_one}
use Rattle.sp_spec_text.specs.Theories as g
use Rattle.sp_spec_text.specs.Theories.{SpellsProofPart, SpellsItems}
use Rattle.sp_read_listings.specs.Heuristics.{the_end}
use Rattle.sp_spec_text.specs.Spans.{IsBehind, EndsAt, EndsWith, AreSpans, no_span, past_declaration, past_lemma, is_feed, goes_on, Rise}
use Rattle.sp_read_listings.proofs.Follows.{StartsWord, declaration_word, lemma_starts, items_word}
use Rattle.sp_read_lemmas.proofs.LemmaParts.{lemma_one}
use Rattle.sp_read_theory.proofs.Declared.{declaration_rest, declaration_not_lemma}
use Rattle.sp_read_lemmas.proofs.Suffix.{end_one, behind_one}

-- ---- one span for each lemma

abbrev made : ℕ → ℕ → Span
made a b = record { from = a; to = b }

same_span : (s t : Span) → s.from ≡ t.from → s.to ≡ t.to → s ≡ t
same_span s t e f = let g : made s.from s.to ≡ made t.from t.to = rw (e, f) refl in g

-- the proof that is spelled fixes what follows it
pub proof_rest : {tokens x y : List Lexeme} {p : Option WrittenProof} → SpellsProofPart tokens p x → SpellsProofPart tokens p y → x ≡ y
proof_rest g.no_proof g.no_proof = refl
proof_rest (g.a_proof h) (g.a_proof k) = (proof_one h k).1

-- and so the place where it ends
ends_one : (behind us vs : List Token) {s t : Span} (p : Option WrittenProof) → EndsAt behind us p s → EndsAt behind vs p t → s.from ≡ t.from → lexemes us ≡ lexemes vs → (s.to ≡ t.to) × (us ≡ vs)
ends_one behind us vs None h k e f = (h.1 ∙ e ∙ sym k.1, h.0 ∙ sym k.0)
ends_one behind us vs (Some p) h k e f = behind_one h k f

pub spans_word : {tokens : List Token} {x : Item} {items : List Item} {ss : List Span} → AreSpans tokens (x ∷ items) ss → StartsWord (lexemes tokens)
spans_word (past_declaration h e k) = declaration_word h
spans_word (past_lemma l b c e h) = lemma_starts l

no_spans : {us vs : List Token} {ss ts : List Span} → AreSpans us [] ss → AreSpans vs [] ts → ss ≡ ts
no_spans no_span no_span = refl

pub spans_one : {tokens : List Token} {items : List Item} {ss ts : List Span} → AreSpans tokens items ss → AreSpans tokens items ts → ss ≡ ts
spans_one no_span no_span = refl
spans_one (past_declaration {items = []} r e h) (past_declaration q f k) = no_spans h k
spans_one {ts = ts} (past_declaration {items = x ∷ xs} r e h) (past_declaration q f k) =
    let o = end_one e f (declaration_rest r q (spans_word h) (spans_word k)) in
    spans_one h (subst (λ (us : List Token). AreSpans us (x ∷ xs) ts) (sym o) k)
spans_one (past_declaration r e h) (past_lemma l b c f k) = absurd (declaration_not_lemma r l)
spans_one (past_lemma l b c f k) (past_declaration r e h) = absurd (declaration_not_lemma r l)
spans_one (past_lemma {p = p} {items = xs} {span = s} {behind = y} {mid = m} l b c e h) (past_lemma {span = t} {spans = ts} {mid = n} o d i f k) =
    let u = behind_one b d (lemma_one l o).1 in
    let i' = subst (λ (us : List Token). SpellsProofPart (lexemes us) p (lexemes n)) (sym u.1) i in
    let f' = subst (λ (us : List Token). EndsAt us n p t) (sym u.1) f in
    let v = ends_one y m n p e f' u.0 (proof_rest c i') in
    let w = spans_one h (subst (λ (us : List Token). AreSpans us xs ts) (sym v.1) k) in
    let x : s ≡ t = same_span s t u.0 v.0 in
    rw (x, w) refl

-- ---- the spans rise

-- the tokens end one behind the other, the first of them at this place or further on, the last at the end or before
pub data Rising (end : ℕ) : ℕ → List Token → Type 0 where
  rising_none : {low : ℕ} → Rising end low []
  rising_more : {low : ℕ} {t : Token} {ts : List Token} → low ≤ t.end → t.end ≤ end → Rising end (t.end + 1) ts → Rising end low (t ∷ ts)

pub rising_from : {end low more : ℕ} {ts : List Token} → Rising end more ts → low ≤ more → Rising end low ts
rising_from rising_none le = rising_none
rising_from (rising_more a b h) le = rising_more (omega (arith, a, le)) b h

rising_first : {end low : ℕ} {t : Token} {ts : List Token} → Rising end low (t ∷ ts) → (low ≤ t.end) × (t.end ≤ end) × Rising end (t.end + 1) ts
rising_first (rising_more a b h) = (a, b, h)

pub rising_end : {end : ℕ} (before : List Token) {low : ℕ} {ts : List Token} → Rising end low (before ++ ts) → Rising end low ts
rising_end [] h = h
rising_end (t ∷ before) h = let o = rising_first h in rising_from (rising_end before o.2) (omega (arith, o.0))

rising_ends : {end low : ℕ} {tokens ts : List Token} → EndsWith tokens ts → Rising end low tokens → Rising end low ts
rising_ends {end} {low} e h = rising_end e.0 (subst (λ (us : List Token). Rising end low us) e.1 h)

rising_behind : {end low place : ℕ} {tokens ts : List Token} → IsBehind tokens ts place → Rising end low tokens → (low ≤ place) × (place ≤ end) × Rising end (place + 1) ts
rising_behind {end} {low} {place} {ts = ts} b h =
    let o = rising_first (rising_end b.before (subst (λ (us : List Token). Rising end low us) b.are h)) in
    (omega (arith, o.0, b.place_is), omega (arith, o.1, b.place_is), subst (λ (p : ℕ). Rising end (p + 1) ts) (sym b.place_is) o.2)

feed_above : (q f : Bool) (a : ℕ) → cond q a (cond f (a + 1) a) ≤ a + 1
feed_above true f a = omega arith
feed_above false true a = omega arith
feed_above false false a = omega arith

goes_above : (text : List ℕ) (s : Span) → goes_on text s ≤ s.to + 1
goes_above text s = feed_above (s.to == s.from) (is_feed (drop s.to text)) s.to

-- behind its proof
ends_above : {end : ℕ} (behind ts : List Token) (p : Option WrittenProof) (s : Span) → EndsAt behind ts p s → Rising end (s.from + 1) behind → (s.from ≤ s.to) × Rising end (s.to + 1) ts
ends_above {end} behind ts None s e h = (omega (arith, e.1), subst (λ (a : ℕ). Rising end (a + 1) ts) (sym e.1) (subst (λ (us : List Token). Rising end (s.from + 1) us) (sym e.0) h))
ends_above behind ts (Some p) s e h = let o = rising_behind e h in (omega (arith, o.0), o.2)

last_above : {end low : ℕ} (ts : List Token) → lexemes ts ≡ the_end → Rising end low ts → low ≤ end
last_above [] e h = absurd (let none : ⊥ = cc in none)
last_above (t ∷ ts) e h = let o = rising_first h in omega (arith, o.0, o.1)

first_above : {end low : ℕ} (ts : List Token) → StartsWord (lexemes ts) → Rising end low ts → low ≤ end
first_above [] w h = let e = w.are in absurd (let none : ⊥ = cc in none)
first_above (t ∷ ts) w h = let o = rising_first h in omega (arith, o.0, o.1)

none_rise : {end : ℕ} (text : List ℕ) {tokens : List Token} {spans : List Span} {low : ℕ} → AreSpans tokens [] spans → low ≤ end → Rise text low spans end
none_rise text no_span le = le

pub rise : {end : ℕ} (text : List ℕ) {tokens : List Token} {items : List Item} {spans : List Span} {after : List Lexeme} {low : ℕ} → AreSpans tokens items spans → SpellsItems (lexemes tokens) items after → after ≡ the_end → Rising end low tokens → Rise text low spans end
rise text {tokens = ts} no_span g.no_item e h = last_above ts e h
rise text {tokens = ts} (past_declaration {items = []} r b s) (g.declaration_first q i) e h = none_rise text s (first_above ts (declaration_word r) h)
rise text {after = after} (past_declaration {items = x ∷ xs} r b s) (g.declaration_first q i) e h =
    let o = declaration_rest r q (spans_word s) (items_word i e) in
    rise text s (subst (λ (us : List Lexeme). SpellsItems us (x ∷ xs) after) (sym o) i) e (rising_ends b h)
rise text (past_declaration r b s) (g.lemma_first o d i) e h = absurd (declaration_not_lemma r o)
rise text (past_lemma l b c f k) (g.declaration_first q i) e h = absurd (declaration_not_lemma q l)
rise text {after = after} (past_lemma {p = p} {items = xs} {span = s} {behind = y} {mid = m} l b c f k) (g.lemma_first {mid = n} o d i) e h =
    let u = rising_behind b h in
    let v = ends_above y m p s f u.2 in
    let d' = subst (λ (us : List Lexeme). SpellsProofPart us p n) (sym (lemma_one l o).1) d in
    let j = subst (λ (us : List Lexeme). SpellsItems us xs after) (sym (proof_rest c d')) i in
    (u.0, v.0, rise text k j e (rising_from v.1 (goes_above text s)))

-- ---- the tokens of a text

pub rising : {size : ℕ} {bytes : List ℕ} {ts : List Token} (low b : ℕ) → AreTokens size bytes ts → low + length bytes ≤ size + 1 → b + length bytes ≤ size → Rising (place_behind is_any b ts) low ts × (b ≤ place_behind is_any b ts)
rising low b (no_more e) le in_text = (rising_none, omega arith)
rising low b (last {t = t} n e) le in_text =
    let k = n.end in
    let lt = next_shorter n in
    (rising_more (omega arith) (omega arith) rising_none, omega arith)
rising low b (next {t = t} n e h) le in_text =
    let k = n.end in
    let lt = next_shorter n in
    let o = rising (t.end + 1) t.end h (omega arith) (omega arith) in
    (rising_more (omega arith) o.1 o.0, omega (arith, k, lt, o.1, in_text))

pub dropped : {end low : ℕ} (n : ℕ) (ts : List Token) → Rising end low ts → Rising end low (drop n ts)
dropped {end} {low} n ts h = rising_end _ (subst (λ (us : List Token). Rising end low us) (sym (take-append-drop n ts)) h)
