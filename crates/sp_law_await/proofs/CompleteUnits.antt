-- What begins a unit of the grammar is in the table, with what stands behind it.
use Rattle.std.proofs.Common.{◌≡◌, ℕ, zero, suc, ◌+◌, ◌<◌, ◌⊎◌, inl, inr, nat_lt, lt-ltb, Bool, true, false, List, [], ◌∷◌, codes, refl, sym, ap, subst, bytes_eq}
use Rattle.sp_spec_text.specs.Signs as s
use Rattle.sp_spec_text.specs.Token.{Lexeme, word, sign}
use Rattle.sp_spec.specs.Term.{Term, Terms}
use Rattle.sp_spec.specs.Formula.{Written}
use Rattle.sp_spec_text.specs.Names.{IsName, is_reserved, names_fact}
use Rattle.sp_spec_text.specs.Formulas as g
use Rattle.sp_spec_text.specs.Formulas.{SpellsVariable, SpellsTerm, SpellsTuple, SpellsArguments}
use Rattle.sp_spec_text.proofs.Words.{all_reserved, ex_reserved}
use Rattle.sp_await.specs.Parts as a
use Rattle.sp_await.specs.Table.{next, stuck, deep, is_sign, is_quantifier, is_truth}
use Rattle.sp_law_await.specs.Language.{Has, by_token, by_parts, HasAll, all_had, and_all}
use Rattle.sp_law_await.proofs.Tokens.{either_word, same_word, is_some_of, reserved_is}
use Rattle.sp_law_await.proofs.Meaning.{MoreOf, no_more, more_and, more_or, more_then, TwiceOf, once, twice, ClosedOf}
use Rattle.sp_law_await.proofs.SoundTheory.{has_means}
use Rattle.sp_law_await.proofs.Had.{taken, become, no_move, none_left, one_of, one_had}
use Rattle.sp_law_await.proofs.CompleteParts.{Without, without, Apart, apart, no_mark, has_name, has_sort, angle, brace, has_term, has_tuple, has_arguments}
use Rattle.std.proofs.lemmas.Bool.{false_from_ne_true}

-- ---- what may follow

-- a token stands there, and the first is no sign by which a variable, a term or a fact goes on
pub data Untailed : List Lexeme → Type 0 where
  untailed : {x : Lexeme} {tokens : List Lexeme} → is_sign s.Colon x ≡ false → is_sign s.Open x ≡ false → is_sign s.OpenBrace x ≡ false → is_sign s.Less x ≡ false → is_sign s.Equals x ≡ false → Untailed (x ∷ tokens)

pub no_colon : {tokens : List Lexeme} → Untailed tokens → Without (is_sign s.Colon) tokens
no_colon (untailed c o b l e) = without c

pub untailed_apart : {tokens : List Lexeme} → Untailed tokens → Apart tokens
untailed_apart (untailed c o b l e) = apart c o b

more_begins : {n : ℕ} {tokens rest : List Lexeme} → MoreOf n tokens rest → Untailed rest → Untailed tokens
more_begins (no_more d) u = u
more_begins (more_and h m) u = untailed refl refl refl refl refl
more_begins (more_or h m) u = untailed refl refl refl refl refl
more_begins (more_then lt h m) u = untailed refl refl refl refl refl

twice_begins : {n : ℕ} {tokens rest : List Lexeme} → TwiceOf n tokens rest → Untailed rest → Untailed tokens
twice_begins (once d) u = u
twice_begins (twice h m) u = untailed refl refl refl refl refl

closed_begins : (n k : ℕ) {tokens rest : List Lexeme} → ClosedOf n k tokens rest → Untailed rest → Untailed tokens
closed_begins n zero e u = subst Untailed (sym e) u
closed_begins n (suc k) c u = more_begins c.more (twice_begins c.twice (untailed refl refl refl refl refl))

pub more_left : {n : ℕ} {tokens rest : List Lexeme} → Has (a.More n) tokens rest → Untailed rest → Untailed tokens
more_left h u = more_begins (has_means h) u

pub closing_left : {n : ℕ} (k : ℕ) {tokens rest : List Lexeme} → Has (a.Closing n k) tokens rest → Untailed rest → Untailed tokens
closing_left {n} k h u = closed_begins n k (has_means h) u

pub closing_none : {n : ℕ} {tokens : List Lexeme} → Untailed tokens → Has (a.Closing n zero) tokens tokens
closing_none (untailed c o b l e) = by_parts refl all_had

-- ---- behind what is a term, and maybe a unit

both_equals : {n k : ℕ} {x : Lexeme} {tokens rest : List Lexeme} → is_sign s.Equals x ≡ true → Has (a.Side n k) (x ∷ tokens) rest → Has (a.Both n k) (x ∷ tokens) rest
both_equals {n} {k} e h = by_parts (rw e refl) (one_had {part = a.Side n k} h)

side_stuck : {n k : ℕ} {x : Lexeme} {tokens rest : List Lexeme} → is_sign s.Equals x ≡ false → is_sign s.Close x ≡ false → Has (a.Side n k) (x ∷ tokens) rest → ⊥
side_stuck {n} {k} {x} e c h = no_move (a.Side n k) x (rw (e, c) refl) h

side_zero : {n : ℕ} {x : Lexeme} {tokens rest : List Lexeme} → is_sign s.Equals x ≡ false → is_sign s.Close x ≡ true → Has (a.Side n zero) (x ∷ tokens) rest → ⊥
side_zero {n} {x} e c h = no_move (a.Side n zero) x (rw (e, c) refl) h

side_again : {n k : ℕ} {x : Lexeme} {tokens rest : List Lexeme} → is_sign s.Equals x ≡ false → is_sign s.Close x ≡ true → Has (a.Side n (suc k)) (x ∷ tokens) rest → Has (a.Side n k) tokens rest
side_again {n} {k} {x} e c h = one_of (taken (a.Side n (suc k)) x {parts = a.Side n k ∷ []} (rw (e, c) refl) h)

both_again : {n k : ℕ} {x : Lexeme} {tokens rest : List Lexeme} → is_sign s.Equals x ≡ false → is_sign s.Close x ≡ true → Has (a.Both n k) tokens rest → Has (a.Both n (suc k)) (x ∷ tokens) rest
both_again {n} {k} e c h = by_token (rw (e, c) refl) (one_had {part = a.Both n k} h)

both_of_side : {n : ℕ} (k : ℕ) (tokens : List Lexeme) {rest : List Lexeme} → Has (a.Side n k) tokens rest → Has (a.Both n k) tokens rest
both_of_side k [] h = elim h [ ]
both_of_side {n} zero (x ∷ tokens) {rest} h = at (is_sign s.Equals x) refl (is_sign s.Close x) refl
  where
    at : (b : Bool) → is_sign s.Equals x ≡ b → (c : Bool) → is_sign s.Close x ≡ c → Has (a.Both n zero) (x ∷ tokens) rest
    at true e c d = both_equals e h
    at false e true d = absurd (side_zero e d h)
    at false e false d = absurd (side_stuck e d h)
both_of_side {n} (suc k) (x ∷ tokens) {rest} h = at (is_sign s.Equals x) refl (is_sign s.Close x) refl (λ i. both_of_side k tokens i)
  where
    at : (b : Bool) → is_sign s.Equals x ≡ b → (c : Bool) → is_sign s.Close x ≡ c → (Has (a.Side n k) tokens rest → Has (a.Both n k) tokens rest) → Has (a.Both n (suc k)) (x ∷ tokens) rest
    at true e c d f = both_equals e h
    at false e true d f = both_again e d (f (side_again e d h))
    at false e false d f = absurd (side_stuck e d h)

closed_parts : {n m k : ℕ} {tokens rest : List Lexeme} → HasAll (a.More m ∷ a.Twice m ∷ a.Exactly s.Close ∷ a.Closing n k ∷ []) (sign s.Close ∷ tokens) rest → Has (a.Closing n k) tokens rest
closed_parts {n} {m} {k} {tokens} {rest} (and_all {mid = b} h (and_all {mid = c} i (and_all {mid = d} j l))) =
    let e : sign s.Close ∷ tokens ≡ b = none_left (become (a.More m) (sign s.Close) {parts = []} refl h) in
    let f : sign s.Close ∷ tokens ≡ c = none_left (become (a.Twice m) (sign s.Close) {parts = []} refl (subst (λ (ts : List Lexeme). Has (a.Twice m) ts c) (sym e) i)) in
    let o : tokens ≡ d = none_left (taken (a.Exactly s.Close) (sign s.Close) {parts = []} refl (subst (λ (ts : List Lexeme). Has (a.Exactly s.Close) ts d) (sym f) j)) in
    subst (λ (ts : List Lexeme). Has (a.Closing n k) ts rest) (sym o) (one_of l)

closing_again : {n k : ℕ} {tokens rest : List Lexeme} → Has (a.Closing n (suc k)) (sign s.Close ∷ tokens) rest → Has (a.Closing n k) tokens rest
closing_again {n} {k} h = closed_parts (become (a.Closing n (suc k)) (sign s.Close) refl h)

equals_tails : {tokens : List Lexeme} → Untailed (sign s.Equals ∷ tokens) → ⊥
equals_tails (untailed c o b l e) = let none : ⊥ = cc in none

both_of_closing : {n : ℕ} (k : ℕ) (tokens : List Lexeme) {rest : List Lexeme} → Has (a.Closing n k) tokens rest → Untailed rest → Has (a.Both n k) tokens rest
both_of_closing k [] h u = elim h [ ]
both_of_closing k (sign s.Equals ∷ tokens) h u = absurd (equals_tails (closing_left k h u))
both_of_closing {n} zero (x ∷ tokens) h u = by_parts refl (one_had {part = a.Closing n zero} h)
both_of_closing (suc k) (sign s.Close ∷ tokens) h u = both_again refl refl (both_of_closing k tokens (closing_again h) u)
both_of_closing {n} (suc k) (x ∷ tokens) h u = by_parts refl (one_had {part = a.Closing n (suc k)} h)

pub truth_of_closing : {n k : ℕ} {tokens rest : List Lexeme} → Has (a.Closing n k) tokens rest → Untailed rest → Has (a.Truth n k) tokens rest
truth_of_closing {n} {k} {tokens} {rest} h u = at (closing_left k h u) (both_of_closing k tokens h u)
  where
    at : {ts : List Lexeme} → Untailed ts → Has (a.Both n k) ts rest → Has (a.Truth n k) ts rest
    at (untailed c o b l e) h = by_parts (rw (c, o, l, b) refl) (one_had {part = a.Both n k} h)

-- ---- words

no_quantifier : (w : List ℕ) → IsName w → is_quantifier (word w) ≡ false
no_quantifier w n = false_from_ne_true (is_quantifier (word w)) (λ h. at (either_word w (codes "All") (codes "Ex") h))
  where
    at : (w ≡ codes "All") ⊎ (w ≡ codes "Ex") → ⊥
    at (inl e) = reserved_is all_reserved e n
    at (inr e) = reserved_is ex_reserved e n

pub unit_word : {n k : ℕ} {w : List ℕ} {tokens rest : List Lexeme} → IsName w → (names_fact w ≡ true → Has (a.Named n k) tokens rest) → (names_fact w ≡ false → Has (a.Bare n k) tokens rest) → Has (a.Truth n k) tokens rest → Has (a.Unit n k) (word w ∷ tokens) rest
unit_word {n} {k} {w} {tokens} {rest} i named bare h = at (is_truth (word w)) refl (names_fact w) refl
  where
    at : (b : Bool) → is_truth (word w) ≡ b → (c : Bool) → names_fact w ≡ c → Has (a.Unit n k) (word w ∷ tokens) rest
    at true e c d = by_token (rw (no_quantifier w i, e) refl) (one_had {part = a.Truth n k} h)
    at false e true d = by_token (rw (no_quantifier w i, e, d) refl) (one_had {part = a.Named n k} (named d))
    at false e false d = by_token (rw (no_quantifier w i, e, d, i) refl) (one_had {part = a.Bare n k} (bare d))

not_stuck : (n k : ℕ) → next (a.Unit n k) (word (codes "not")) ≡ stuck
unfolding is_reserved
not_stuck n k = refl

pub negation_of_unit : {n k : ℕ} (tokens : List Lexeme) {rest : List Lexeme} → Has (a.Unit n k) tokens rest → Has (a.Negation n k) tokens rest
negation_of_unit [] h = elim h [ ]
negation_of_unit {n} {k} (word w ∷ tokens) {rest} h = at (bytes_eq w (codes "not")) refl
  where
    at : (b : Bool) → bytes_eq w (codes "not") ≡ b → Has (a.Negation n k) (word w ∷ tokens) rest
    at true e = absurd (no_move (a.Unit n k) (word (codes "not")) (not_stuck n k) (subst (λ (u : List ℕ). Has (a.Unit n k) (word u ∷ tokens) rest) (same_word w (codes "not") e) h))
    at false e = by_parts (rw e refl) (one_had {part = a.Unit n k} h)
negation_of_unit {n} {k} (x ∷ tokens) h = by_parts refl (one_had {part = a.Unit n k} h)

-- ---- variables and terms at the beginning of a unit

pub data GoesOn : List Lexeme → Type 0 where
  with_less : {tokens : List Lexeme} → GoesOn (sign s.Less ∷ tokens)
  with_equals : {tokens : List Lexeme} → GoesOn (sign s.Equals ∷ tokens)
  with_close : {tokens : List Lexeme} → GoesOn (sign s.Close ∷ tokens)

order_of_side : {n k : ℕ} {tokens rest : List Lexeme} → GoesOn tokens → Has (a.Side n k) tokens rest → Has (a.Order n k) tokens rest
order_of_side {n} {k} with_less h = absurd (no_move (a.Side n k) (sign s.Less) refl h)
order_of_side {n} {k} with_equals h = by_parts refl (one_had {part = a.Side n k} h)
order_of_side {n} {k} with_close h = by_parts refl (one_had {part = a.Side n k} h)

bare_of_order : {n k : ℕ} {tokens rest : List Lexeme} → GoesOn tokens → Has (a.Order n k) tokens rest → Has (a.Bare n k) tokens rest
bare_of_order {n} {k} with_less h = by_parts refl (one_had {part = a.Order n k} h)
bare_of_order {n} {k} with_equals h = by_parts refl (one_had {part = a.Order n k} h)
bare_of_order {n} {k} with_close h = by_parts refl (one_had {part = a.Order n k} h)

named_of_bare : {n k : ℕ} {tokens rest : List Lexeme} → GoesOn tokens → Has (a.Bare n k) tokens rest → Has (a.Named n k) tokens rest
named_of_bare {n} {k} with_less h = by_parts refl (one_had {part = a.Bare n k} h)
named_of_bare {n} {k} with_equals h = by_parts refl (one_had {part = a.Bare n k} h)
named_of_bare {n} {k} with_close h = by_parts refl (one_had {part = a.Bare n k} h)

truth_of_order : {n k : ℕ} {tokens rest : List Lexeme} → GoesOn tokens → Has (a.Order n k) tokens rest → Has (a.Truth n k) tokens rest
truth_of_order {n} {k} with_less h = by_parts refl (one_had {part = a.Named n k} (named_of_bare with_less (bare_of_order with_less h)))
truth_of_order {n} {k} (with_equals {tokens = ts}) h = by_parts refl (one_had {part = a.Both n k} (both_of_side k (sign s.Equals ∷ ts) (one_of (become (a.Order n k) (sign s.Equals) {parts = a.Side n k ∷ []} refl h))))
truth_of_order {n} {k} (with_close {tokens = ts}) h = by_parts refl (one_had {part = a.Both n k} (both_of_side k (sign s.Close ∷ ts) (one_of (become (a.Order n k) (sign s.Close) {parts = a.Side n k ∷ []} refl h))))

pub unit_of_variable : {n k : ℕ} {tokens mid rest : List Lexeme} {v : Written} → SpellsVariable tokens v mid → GoesOn mid → Has (a.Order n k) mid rest → Has (a.Unit n k) tokens rest
unit_of_variable {n} {k} (g.marked {x = y} e i) c h = by_token (rw (no_mark y s.Open e refl, no_mark y s.Less e refl, is_some_of e) refl) (and_all {part = a.Name} (has_name i) (one_had {part = a.Order n k} h))
unit_of_variable (g.unmarked i) c h = unit_word i (λ d. named_of_bare c (bare_of_order c h)) (λ d. bare_of_order c h) (truth_of_order c h)
unit_of_variable {n} {k} {rest = rest} (g.sorted {k = v} {rest = ts} i e) c h =
    let bare : Has (a.Bare n k) (sign s.Colon ∷ word v ∷ ts) rest = by_token refl (and_all (has_sort e) (one_had h)) in
    let named : Has (a.Named n k) (sign s.Colon ∷ word v ∷ ts) rest = by_parts refl (one_had bare) in
    unit_word i (λ d. named) (λ d. bare) (by_parts refl (one_had named))

pub opens : (n k : ℕ) {m : ℕ} → deep n k ≡ m → m < 128 → nat_lt (deep n k) 128 ≡ true
opens n k {m} e lt = subst (λ (i : ℕ). nat_lt i 128 ≡ true) (sym e) (lt-ltb m 128 lt)

goes_apart : {tokens : List Lexeme} → GoesOn tokens → Apart tokens
goes_apart with_less = apart refl refl refl
goes_apart with_equals = apart refl refl refl
goes_apart with_close = apart refl refl refl

shown_of_side : {n k : ℕ} {tokens rest : List Lexeme} → GoesOn tokens → Has (a.Side n k) tokens rest → Has (a.Shown n k) tokens rest
shown_of_side {n} {k} with_less h = by_parts refl (one_had {part = a.Side n k} h)
shown_of_side {n} {k} with_equals h = by_parts refl (one_had {part = a.Side n k} h)
shown_of_side {n} {k} with_close h = by_parts refl (one_had {part = a.Side n k} h)

unit_of_application : {n k m : ℕ} {w : List ℕ} {tokens mid rest : List Lexeme} {xs : Terms Written} → IsName w → deep n k ≡ m → m < 128 → SpellsArguments (m + 1) tokens xs mid → GoesOn mid → Has (a.Side n k) mid rest
    → Has (a.Unit n k) (word w ∷ sign s.Open ∷ tokens) rest
unit_of_application {n} {k} {tokens = ts} {mid = mid} {rest = rest} i e lt h c l =
    let arguments : Has (a.Arguments (deep n k + 1)) ts mid = subst (λ (d : ℕ). Has (a.Arguments (d + 1)) ts mid) (sym e) (has_arguments h) in
    let named : Has (a.Named n k) (sign s.Open ∷ ts) rest = by_token (rw (opens n k e lt) refl) (and_all arguments (one_had {part = a.Shown n k} (shown_of_side c l))) in
    unit_word i (λ d. named) (λ d. by_token (rw (opens n k e lt) refl) (and_all arguments (one_had {part = a.Side n k} l))) (by_parts refl (one_had named))

unit_of_braced : {n k m : ℕ} {w : List ℕ} {tokens mid behind rest : List Lexeme} {x y : Term Written} → IsName w → deep n k ≡ m → m < 128 → SpellsTuple (m + 1) s.CloseBrace tokens x mid → SpellsTerm (m + 1) mid y behind → GoesOn behind
    → Has (a.Side n k) behind rest → Has (a.Unit n k) (word w ∷ sign s.OpenBrace ∷ tokens) rest
unit_of_braced {n} {k} {tokens = ts} {mid = mid} {behind = behind} {rest = rest} i e lt h j c l =
    let tuple : Has (a.Tuple (deep n k + 1) s.CloseBrace) ts mid = subst (λ (d : ℕ). Has (a.Tuple (d + 1) s.CloseBrace) ts mid) (sym e) (has_tuple brace h) in
    let key : Has (a.Term (deep n k + 1)) mid behind = subst (λ (d : ℕ). Has (a.Term (d + 1)) mid behind) (sym e) (has_term j (goes_apart c)) in
    let bare : Has (a.Bare n k) (sign s.OpenBrace ∷ ts) rest = by_token (rw (opens n k e lt) refl) (and_all tuple (and_all key (one_had {part = a.Side n k} l))) in
    let named : Has (a.Named n k) (sign s.OpenBrace ∷ ts) rest = by_parts refl (one_had bare) in
    unit_word i (λ d. named) (λ d. bare) (by_parts refl (one_had named))

unit_of_tuple : {n k m : ℕ} {tokens mid rest : List Lexeme} {x : Term Written} → deep n k ≡ m → m < 128 → SpellsTuple (m + 1) s.Greater tokens x mid → Has (a.Side n k) mid rest → Has (a.Unit n k) (sign s.Less ∷ tokens) rest
unit_of_tuple {n} {k} {tokens = ts} {mid = mid} e lt h l =
    by_token (rw (opens n k e lt) refl) (and_all {part = a.Tuple (deep n k + 1) s.Greater} (subst (λ (d : ℕ). Has (a.Tuple (d + 1) s.Greater) ts mid) (sym e) (has_tuple angle h)) (one_had {part = a.Side n k} l))

pub unit_of_term : {m : ℕ} {tokens mid rest : List Lexeme} {x : Term Written} → SpellsTerm m tokens x mid → (n k : ℕ) → deep n k ≡ m → GoesOn mid → Has (a.Side n k) mid rest → Has (a.Unit n k) tokens rest
unit_of_term g.fixed n k e c h = by_token refl (one_had {part = a.Side n k} h)
unit_of_term (g.variable v) n k e c h = unit_of_variable v c (order_of_side c h)
unit_of_term (g.brackets {tokens = ts} lt t) n k e c h =
    by_token (rw (opens n k e lt) refl) (one_had {part = a.Negation n (suc k)} (negation_of_unit ts (unit_of_term t n (suc k) (ap (λ (i : ℕ). i + 1) e) with_close (by_token refl (one_had {part = a.Side n k} h)))))
unit_of_term (g.tuple lt t) n k e c h = unit_of_tuple e lt t h
unit_of_term (g.application i lt t) n k e c h = unit_of_application i e lt t c h
unit_of_term (g.braced i lt t y) n k e c h = unit_of_braced i e lt t y c h
