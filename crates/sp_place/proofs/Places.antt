-- Where a text is refused, and that it is refused at one place.
use Rattle.std.proofs.Common.{◌≡◌, ◌⊎◌, inl, inr, ℕ, List, [], ◌∷◌, ◌++◌, length, Option, Some, None, refl, sym, ap, subst, ◌∙◌, append_assoc, append-nil}
use Rattle.sp_spec_text.specs.Bytes.{FaultKind}
use Rattle.sp_lex.specs.declared.token.LexFault.{LexFault}
use Rattle.sp_spec_text.specs.Token.{Lexeme, Token}
use Rattle.sp_spec_text.specs.Lex.{AreTokens, AreTokensBefore, lexemes}
use Rattle.sp_lex.specs.Views.{IsScanned}
use Rattle.sp_lex.proofs.One.{tokens_one, before_one, not_both}
use Rattle.sp_spec_text.specs.Written.{WrittenText}
use Rattle.sp_spec_text.specs.Theories.{SpellsTheory}
use Rattle.sp_spec_text.specs.Texts.{IsTextOf, IsNoText}
use Rattle.sp_place.specs.Refused.{Begin, StopsAt, whole, broken, IsFirstWrong, IsRefusedAt}
use Rattle.sp_place.specs.Runs.{IsLeft}

-- ---- texts that are refused

-- a text with a fault says nothing
fault_nothing : {text : List ℕ} {tokens : List Token} {place : ℕ} {kind : FaultKind} → AreTokensBefore (length text) text tokens place kind → IsNoText text
fault_nothing {tokens = ts} h = record { none = λ t x. not_both x.cut (record { tokens = ts; before = h }) }

-- a text says nothing whose tokens spell nothing
spells_nothing : {text : List ℕ} {tokens : List Token} → AreTokens (length text) text tokens → ((t : WrittenText) → SpellsTheory (lexemes tokens) t → ⊥) → IsNoText text
spells_nothing h f = record { none = λ t x. f t (subst (λ (ts : List Token). SpellsTheory (lexemes ts) t) (tokens_one x.cut h) x.spells) }

-- what begins with a wrong token spells nothing
begins_so : (before behind : List Token) (w : Token) (more : List Lexeme) → lexemes (before ++ w ∷ behind) ++ more ≡ lexemes (before ++ w ∷ []) ++ (lexemes behind ++ more)
begins_so [] behind w more = refl
begins_so (t ∷ before) behind w more = ap (λ (xs : List Lexeme). t.lexeme ∷ xs) (begins_so before behind w more)

wrong_begins : {tokens : List Token} {place : ℕ} (w : IsFirstWrong tokens place) → Begin (lexemes tokens) → ⊥
wrong_begins w b =
    w.ends (
      lexemes w.behind ++ b.0,
      b.1,
      subst (λ (xs : List Lexeme). SpellsTheory xs b.1) (ap (λ (ts : List Token). lexemes ts ++ b.0) w.are ∙ begins_so w.before w.behind w.wrong b.0) b.2,
    )

spelled_begins : {tokens : List Lexeme} {t : WrittenText} → SpellsTheory tokens t → Begin tokens
spelled_begins {tokens} {t} h = ([], t, subst (λ (xs : List Lexeme). SpellsTheory xs t) (sym (append-nil tokens)) h)

pub refused_wrong : {text : List ℕ} {tokens : List Token} {place : ℕ} (fault : Option LexFault) → IsScanned text tokens fault → IsFirstWrong tokens place → IsRefusedAt text place
refused_wrong {text} {tokens} None h w = record {
  nothing = spells_nothing h (λ t i. wrong_begins w (spelled_begins i));
  tokens = tokens;
  stop = length text;
  stops = whole h;
  first = inl w;
}
refused_wrong {tokens = tokens} (Some f) h w = record { nothing = fault_nothing h; tokens = tokens; stop = f.place; stops = broken h; first = inl w }

pub refused_fault : {text : List ℕ} {tokens : List Token} {place : ℕ} {kind : FaultKind} → AreTokensBefore (length text) text tokens place kind → Begin (lexemes tokens) → IsRefusedAt text place
refused_fault {tokens = tokens} {place = place} h b = record { nothing = fault_nothing h; tokens = tokens; stop = place; stops = broken h; first = inr (b, refl) }

pub refused_end : {text : List ℕ} {tokens : List Token} → AreTokens (length text) text tokens → IsLeft tokens → IsRefusedAt text (length text)
refused_end {text} {tokens} h l = record { nothing = spells_nothing h l.none; tokens = tokens; stop = length text; stops = whole h; first = inr (l.begins, refl) }

pub text_said : {text : List ℕ} {tokens : List Token} → AreTokens (length text) text tokens → (t : WrittenText) × SpellsTheory (lexemes tokens) t → (t : WrittenText) × IsTextOf text t
text_said {tokens = tokens} h s = (s.0, record { tokens = tokens; cut = h; spells = s.1 })

pub said_begins : (tokens : List Token) → (t : WrittenText) × SpellsTheory (lexemes tokens) t → Begin (lexemes tokens)
said_begins tokens s = spelled_begins s.1

-- ---- one place

stops_one : {text : List ℕ} {ts us : List Token} {p q : ℕ} → StopsAt text ts p → StopsAt text us q → (ts ≡ us) × (p ≡ q)
stops_one (whole h) (whole k) = (tokens_one h k, refl)
stops_one (whole h) (broken {tokens = us} k) = absurd (not_both h (record { tokens = us; before = k }))
stops_one (broken {tokens = ts} h) (whole k) = absurd (not_both k (record { tokens = ts; before = h }))
stops_one (broken h) (broken k) = let o = before_one h k in (o.0, o.1)

-- the tokens that begin are closed downwards
begin_less : (before behind : List Token) (w : Token) → Begin (lexemes (before ++ w ∷ behind)) → Begin (lexemes (before ++ w ∷ []))
begin_less before behind w b = (lexemes behind ++ b.0, b.1, subst (λ (xs : List Lexeme). SpellsTheory xs b.1) (begins_so before behind w b.0) b.2)

-- of two tokens at which tokens begin a text no more, neither stands before the other
wrong_one : (gone before other behind after : List Token) (w v : Token) → before ++ w ∷ behind ≡ other ++ v ∷ after → Begin (lexemes (gone ++ before)) → (Begin (lexemes (gone ++ (before ++ w ∷ []))) → ⊥) → Begin (lexemes (gone ++ other))
    → (Begin (lexemes (gone ++ (other ++ v ∷ []))) → ⊥) → w ≡ v
wrong_one gone [] [] behind after w v e b c d f = cc
wrong_one gone [] (o ∷ other) behind after w v e b c d f =
    let i : w ≡ o = cc in
    absurd (c (subst (λ (t : Token). Begin (lexemes (gone ++ t ∷ []))) (sym i) (begin_less gone other o d)))
wrong_one gone (t ∷ before) [] behind after w v e b c d f =
    let i : t ≡ v = cc in
    absurd (f (subst (λ (u : Token). Begin (lexemes (gone ++ u ∷ []))) i (begin_less gone before t b)))
wrong_one gone (t ∷ before) (o ∷ other) behind after w v e b c d f =
    let i : t ≡ o = cc in
    let j : before ++ w ∷ behind ≡ other ++ v ∷ after = cc in
    let shift : (us : List Token) → gone ++ t ∷ us ≡ (gone ++ t ∷ []) ++ us = λ us. sym (append_assoc gone (t ∷ []) us) in
    wrong_one (gone ++ t ∷ []) before other behind after w v j
    (subst (λ (us : List Token). Begin (lexemes us)) (shift before) b)
    (λ x. c (subst (λ (us : List Token). Begin (lexemes us)) (sym (shift (before ++ w ∷ []))) x))
    (subst (λ (us : List Token). Begin (lexemes us)) (shift other) (subst (λ (u : Token). Begin (lexemes (gone ++ u ∷ other))) (sym i) d))
    (λ x. f (subst (λ (u : Token). Begin (lexemes (gone ++ u ∷ (other ++ v ∷ [])))) i (subst (λ (us : List Token). Begin (lexemes us)) (sym (shift (other ++ v ∷ []))) x)))

first_one : {tokens : List Token} {p q : ℕ} → IsFirstWrong tokens p → IsFirstWrong tokens q → p ≡ q
first_one u v =
    let i = wrong_one [] u.before v.before u.behind v.behind u.wrong v.wrong (sym u.are ∙ v.are) u.begins u.ends v.begins v.ends in
    u.place_is ∙ ap (λ (t : Token). t.start) i ∙ sym v.place_is

place_one : {tokens : List Token} {p q stop : ℕ} → IsFirstWrong tokens p ⊎ (Begin (lexemes tokens) × (p ≡ stop)) → IsFirstWrong tokens q ⊎ (Begin (lexemes tokens) × (q ≡ stop)) → p ≡ q
place_one (inl u) (inl v) = first_one u v
place_one (inl u) (inr v) = absurd (wrong_begins u v.0)
place_one (inr u) (inl v) = absurd (wrong_begins v u.0)
place_one (inr u) (inr v) = u.1 ∙ sym v.1

pub refusals_one : {text : List ℕ} {p q : ℕ} → IsRefusedAt text p → IsRefusedAt text q → p ≡ q
refusals_one {p = p} {q = q} u v =
    let o = stops_one u.stops v.stops in
    place_one u.first (subst (λ (ts : List Token). IsFirstWrong ts q ⊎ (Begin (lexemes ts) × (q ≡ u.stop))) (sym o.0) (subst (λ (s : ℕ). IsFirstWrong v.tokens q ⊎ (Begin (lexemes v.tokens) × (q ≡ s))) (sym o.1) v.first))

pub ruleset places = (refused_wrong, refused_fault, refused_end, text_said, said_begins)
