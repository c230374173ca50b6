-- What is read before a byte that stands firm doesn't depend on what stands behind that byte.
use Rattle.std.proofs.Common.{◌≡◌, ◌⊎◌, inl, inr, ℕ, ◌+◌, ◌-◌, Bool, true, false, cond, not, List, [], ◌∷◌, ◌++◌, length, drop, codes, Option, Some, None, refl, sym, ap, ap₂, subst, ◌∙◌, append_assoc, length-append, arith}
use Rattle.std.specs.Prelude.{◌&&◌, ◌||◌, ◌==◌, nat_lt, nat_le}
use Rattle.std.specs.Str.{bytes_eq}
use Rattle.std.specs.Char.{is_ascii_alphanumeric}
use Rattle.std.proofs.lemmas.Bool.Decides.{nat_tests}
use Rattle.std.proofs.lemmas.List.{append_cancel_right}
use Rattle.std.proofs.Math.Bool.{and-false}
use Rattle.std.proofs.lemmas.Bool.{and_parts}
use Rattle.sp_spec_text.specs.Bytes.{Class, FaultKind, NoConstant, Mark, Opens, Closes, Neither}
use Rattle.sp_spec_text.specs.Bytes as class
use Rattle.sp_spec_text.specs.Signs.{Sign, Wide}
use Rattle.sp_spec_text.specs.Signs as s
use Rattle.sp_spec_text.specs.Token.{Lexeme, word, constant, sign, solve, wide, block}
use Rattle.sp_spec_text.specs.Lex.{is_blank, is_constant_byte, is_in, is_first, is_digit, skip, begins, before, by_mark, comment_mark, after_comment, nothing, past, past_comment, gap, Skips, no_gap, gap_then, Piece, token, no_token, close_constant, short_sign, short_piece, first_short, first_sign, long_sign, long_piece, first_long, first_wide, after_block, close_block, piece, is_token, is_quoted, bracket, to_closing, closed_by, is_end, is_solve, is_solve_word, NoBracket, other, open_comment, Reads, as_it_is, bare, goal}
use Rattle.sp_spec_text.proofs.Rests.{before_rest}
use Rattle.sp_spec_text.proofs.Closing.{closes}
use Rattle.sp_lex.proofs.Gaps.{skips_one, skips_closed}
use Rattle.sp_law_reread.proofs.Ends.{Ends, ends_all, ends_more, behind_ends, ends_behind, not_behind, skip_ends, comment_behind, block_behind, closing_ends, gap_behind, skips_ends, piece_behind, goal_ends, reads_ends}

-- Whether it belongs to what stands before it doesn't depend on what follows, no line ends with it, and no comment and no longer sign has it
-- behind its first byte; and it is no bracket.
pub record Firm (c : ℕ) : Type 0 where
  pub same : (k : Class) (r q : List ℕ) → is_in k c r ≡ is_in k c q
  pub no_gap_here : (r : List ℕ) → gap (c ∷ r) ≡ nothing
  pub no_dash : (45 == c) ≡ false
  pub no_equals : (61 == c) ≡ false
  pub no_bracket : (quoted : Bool) → bracket quoted c ≡ Neither

-- either way the same
pub choice : {A : Type 0} (t : Bool) {x y u v a b : A} → (x ≡ a → u ≡ b) → (y ≡ a → v ≡ b) → cond t x y ≡ a → cond t u v ≡ b
choice true f g e = f e
choice false f g e = g e

-- ---- words, constants and lines

ahead_same : (m : List ℕ) (c : ℕ) (r q : List ℕ) → is_first is_digit (m ++ c ∷ r) ≡ is_first is_digit (m ++ c ∷ q)
ahead_same [] c r q = refl
ahead_same (d ∷ m) c r q = refl

in_same : (k : Class) (b : ℕ) (m : List ℕ) (c : ℕ) (r q : List ℕ) → is_in k b (m ++ c ∷ r) ≡ is_in k b (m ++ c ∷ q)
in_same class.Constant b m c r q = refl
in_same class.Line b m c r q = refl
in_same class.Word b m c r q = rw (ahead_same m c r q) refl

-- nothing stands before itself
none_before : (tail z : List ℕ) → z ≡ tail ++ z → tail ≡ []
none_before tail z e = sym (append_cancel_right [] tail z e)

too_far : (c : ℕ) (tail r : List ℕ) → Ends r (tail ++ c ∷ r) → ⊥
too_far c tail r e = omega (arith, ap length e.1, length-append e.0 (tail ++ c ∷ r), length-append tail (c ∷ r))

pub skip_local : {c : ℕ} → Firm c → (k : Class) (m tail r q : List ℕ) → skip k (m ++ c ∷ r) ≡ tail ++ c ∷ r → skip k (m ++ c ∷ q) ≡ tail ++ c ∷ q
unfolding skip
skip_local {c} f k [] tail r q h = by_test (is_in k c r) (is_in k c q) (f.same k r q) h
  where
    by_test : (t u : Bool) → t ≡ u → cond t (skip k r) (c ∷ r) ≡ tail ++ c ∷ r → cond u (skip k q) (c ∷ q) ≡ tail ++ c ∷ q
    by_test true u e h = absurd (too_far c tail r (subst (λ (x : List ℕ). Ends r x) h (skip_ends k r)))
    by_test false true e h = absurd (let none : ⊥ = cc in none)
    by_test false false e h = ap (λ (x : List ℕ). x ++ c ∷ q) (sym (none_before tail (c ∷ r) h))
skip_local {c} f k (b ∷ m) tail r q h =
    let g : cond (is_in k b (m ++ c ∷ q)) (skip k (m ++ c ∷ r)) (b ∷ m ++ c ∷ r) ≡ tail ++ c ∷ r = rw (in_same k b m c q r) h in
    choice (is_in k b (m ++ c ∷ q)) (λ e. skip_local f k m tail r q e) (λ e. ap (λ (x : List ℕ). x ++ c ∷ q) (append_cancel_right (b ∷ m) tail (c ∷ r) e)) g

-- ---- comments

pub marks : (m : Mark) {A : Type 0} {x y w u v o a b : A} → (x ≡ a → u ≡ b) → (y ≡ a → v ≡ b) → (w ≡ a → o ≡ b) → by_mark m x y w ≡ a → by_mark m u v o ≡ b
marks Opens f g h e = f e
marks Closes f g h e = g e
marks Neither f g h e = h e

some_same : (m tail r q : List ℕ) (c : ℕ) → Some (m ++ c ∷ r) ≡ Some (tail ++ c ∷ r) → Some (m ++ c ∷ q) ≡ Some (tail ++ c ∷ q)
some_same m tail r q c e = let f : m ++ c ∷ r ≡ tail ++ c ∷ r = cc in ap (λ (x : List ℕ). Some (x ++ c ∷ q)) (append_cancel_right m tail (c ∷ r) f)

pub comment_local : (depth : ℕ) (c : ℕ) (m tail r q : List ℕ) → after_comment depth (m ++ c ∷ r) ≡ Some (tail ++ c ∷ r) → after_comment depth (m ++ c ∷ q) ≡ Some (tail ++ c ∷ q)
unfolding after_comment
comment_local depth c [] tail r q h = absurd (not_behind [] tail (c ∷ r) (omega arith) (comment_behind depth (c ∷ r) (tail ++ c ∷ r) h))
comment_local depth c (a ∷ []) tail r q h = absurd (not_behind (a ∷ []) tail (c ∷ r) (omega arith) (comment_behind depth (a ∷ c ∷ r) (tail ++ c ∷ r) h))
comment_local depth c (a ∷ b ∷ m) tail r q h =
    marks (comment_mark a b)
    (λ e. comment_local (depth + 1) c m tail r q e)
    (λ e. choice (depth == 0) (λ d. some_same m tail r q c d) (λ d. comment_local (depth - 1) c m tail r q d) e)
    (λ e. comment_local depth c (b ∷ m) tail r q e) h

-- ---- blanks and comments

past_same : {x y u v : List ℕ} → (x ≡ y → u ≡ v) → past x ≡ past y → past u ≡ past v
past_same {x} {y} f e = let g : x ≡ y = cc in ap past (f g)

comment_same : (o p : Option (List ℕ)) {x y : List ℕ} → (o ≡ Some x → p ≡ Some y) → past_comment o ≡ past x → past_comment p ≡ past y
comment_same None p f e = absurd (let none : ⊥ = cc in none)
comment_same (Some a) p {x} f e = let g : a ≡ x = cc in ap past_comment (f (ap Some g))

absent : {A : Type 0} {x : List ℕ} → nothing ≡ past x → A
absent e = absurd (let none : ⊥ = cc in none)

cut_same : (m tail r q : List ℕ) (c : ℕ) → m ++ c ∷ r ≡ tail ++ c ∷ r → m ++ c ∷ q ≡ tail ++ c ∷ q
cut_same m tail r q c e = ap (λ (x : List ℕ). x ++ c ∷ q) (append_cancel_right m tail (c ∷ r) e)

pub gap_local : {c : ℕ} → Firm c → (m tail r q : List ℕ) → gap (m ++ c ∷ r) ≡ past (tail ++ c ∷ r) → gap (m ++ c ∷ q) ≡ past (tail ++ c ∷ q)
unfolding gap
gap_local {c} f [] tail r q h = absurd (not_behind [] tail (c ∷ r) (omega arith) (gap_behind (c ∷ r) (tail ++ c ∷ r) h))
gap_local {c} f (a ∷ []) tail r q h =
    choice (is_blank a) (past_same (cut_same [] tail r q c))
    (choice (begins (codes "//") (a ∷ c ∷ r)) (past_same (λ e. absurd (too_far c tail r (subst (λ (x : List ℕ). Ends r x) e (skip_ends class.Line r)))))
    (choice (begins (codes "/*") (a ∷ c ∷ r)) (comment_same (after_comment 0 r) (after_comment 0 q) (λ e. absurd (too_far c tail r (behind_ends (comment_behind 0 r (tail ++ c ∷ r) e))))) (λ e. absent e))) h
gap_local {c} f (a ∷ b ∷ m) tail r q h =
    choice (is_blank a) (past_same (cut_same (b ∷ m) tail r q c))
    (choice (begins (codes "//") (a ∷ b ∷ m)) (past_same (skip_local f class.Line m tail r q))
    (choice (begins (codes "/*") (a ∷ b ∷ m)) (comment_same (after_comment 0 (m ++ c ∷ r)) (after_comment 0 (m ++ c ∷ q)) (comment_local 0 c m tail r q)) (λ e. absent e))) h

-- no blank and no comment, by the tests alone
not_comment : {A : Type 0} (o : Option (List ℕ)) → past_comment o ≡ nothing → A
not_comment None e = absurd (let none : ⊥ = cc in none)
not_comment (Some x) e = absurd (let none : ⊥ = cc in none)

tests : (t u v : Bool) (x y d w : List ℕ) (o p : Option (List ℕ)) → cond t (past x) (cond u (past y) (cond v (past_comment o) nothing)) ≡ nothing → cond t (past d) (cond u (past w) (cond v (past_comment p) nothing)) ≡ nothing
tests true u v x y d w o p e = absurd (let none : ⊥ = cc in none)
tests false true v x y d w o p e = absurd (let none : ⊥ = cc in none)
tests false false true x y d w o p e = not_comment o e
tests false false false x y d w o p e = refl

pub nothing_local : {c : ℕ} → Firm c → (m r q : List ℕ) → gap (m ++ c ∷ r) ≡ nothing → gap (m ++ c ∷ q) ≡ nothing
unfolding gap
nothing_local f [] r q h = f.no_gap_here q
nothing_local {c} f (a ∷ []) r q h =
    tests (is_blank a) (begins (codes "//") (a ∷ c ∷ r)) (begins (codes "/*") (a ∷ c ∷ r)) (c ∷ r) (skip class.Line r) (c ∷ q) (skip class.Line q) (after_comment 0 r) (after_comment 0 q) h
nothing_local {c} f (a ∷ b ∷ m) r q h =
    let x = m ++ c ∷ r in
    let y = m ++ c ∷ q in
    tests (is_blank a) (begins (codes "//") (a ∷ b ∷ m)) (begins (codes "/*") (a ∷ b ∷ m)) (b ∷ x) (skip class.Line x) (b ∷ y) (skip class.Line y) (after_comment 0 x) (after_comment 0 y) h

pub skips_local : {c : ℕ} {bytes from : List ℕ} → Firm c → (m tail r q : List ℕ) → Skips bytes from → bytes ≡ m ++ c ∷ r → from ≡ tail ++ c ∷ r → Skips (m ++ c ∷ q) (tail ++ c ∷ q)
skips_local {c} f m tail r q (no_gap g) e d =
    let same : m ++ c ∷ q ≡ tail ++ c ∷ q = cut_same m tail r q c (sym e ∙ d) in
    subst (λ (x : List ℕ). Skips (m ++ c ∷ q) x) same (no_gap (nothing_local f m r q (subst (λ (x : List ℕ). gap x ≡ nothing) e g)))
skips_local {c} f m tail r q (gap_then {bytes = bytes} {mid = mid} {rest = from} g h) e d =
    let o = skips_ends h in
    let middle : mid ≡ (o.0 ++ tail) ++ c ∷ r = o.1 ∙ ap (λ (x : List ℕ). o.0 ++ x) d ∙ sym (append_assoc o.0 tail (c ∷ r)) in
    let one : gap (m ++ c ∷ r) ≡ past ((o.0 ++ tail) ++ c ∷ r) = ap gap (sym e) ∙ g ∙ ap past middle in
    gap_then (gap_local f m (o.0 ++ tail) r q one) (skips_local f (o.0 ++ tail) tail r q h middle d)

-- ---- tokens

token_same : (x : Lexeme) {y : Lexeme} {a b u v : List ℕ} → (a ≡ b → u ≡ v) → token x a ≡ token y b → token x u ≡ token y v
token_same x {y} {a} {b} {u} {v} f e = let g : a ≡ b = cc in let h : x ≡ y = cc in rw (h, f g) refl

no_piece : {A : Type 0} {kind : FaultKind} {x : Lexeme} {rest : List ℕ} → no_token kind ≡ token x rest → A
no_piece e = absurd (let none : ⊥ = cc in none)

short_same : (o : Option Sign) {x : Lexeme} {a b u v : List ℕ} → (a ≡ b → u ≡ v) → short_piece o a ≡ token x b → short_piece o u ≡ token x v
short_same None f e = no_piece e
short_same (Some y) f e = token_same (sign y) f e

no_signs : (t u v w o : Bool) (a b c d e p : Piece) → cond (t && false) a (cond (u && false) b (cond (v && false) c (cond (w && false) d (cond (o && false) e p)))) ≡ p
no_signs t u v w o a b c d e p = rw (and-false t, and-false u, and-false v, and-false w, and-false o) refl

-- before a byte that stands firm only a sign of one byte is cut off
sign_firm : {c : ℕ} → Firm c → (b : ℕ) (r : List ℕ) → first_sign (b ∷ c ∷ r) ≡ first_short (b ∷ c ∷ r)
unfolding first_sign
sign_firm {c} f b r =
    let at : (y : Sign) → Piece = λ y. token (sign y) (drop 1 r) in
    rw (f.no_dash, f.no_equals) (no_signs (45 == b) (93 == b) (45 == b) (61 == b) (60 == b) (at s.OpenArrow) (at s.CloseArrow) (at s.Arrow) (at s.Implies) (at s.Iff) (first_short (b ∷ c ∷ r)))

sign_local : {c : ℕ} → Firm c → (b : ℕ) (m tail r q : List ℕ) (x : Lexeme) → first_sign (b ∷ m ++ c ∷ r) ≡ token x (tail ++ c ∷ r) → first_sign (b ∷ m ++ c ∷ q) ≡ token x (tail ++ c ∷ q)
unfolding first_sign
sign_local {c} f b [] tail r q x h = sign_firm f b q ∙ short_same (short_sign b) (cut_same [] tail r q c) (sym (sign_firm f b r) ∙ h)
sign_local {c} f b (d ∷ []) tail r q x h =
    let far : (y : Sign) → token (sign y) r ≡ token x (tail ++ c ∷ r) → token (sign y) q ≡ token x (tail ++ c ∷ q) =
    λ y. token_same (sign y) (λ e. absurd (too_far c tail r (subst (λ (z : List ℕ). Ends r z) e ([], refl)))) in
    let z = b ∷ d ∷ c ∷ [] in
    choice (begins (codes "--[") z) (far s.OpenArrow)
    (choice (begins (codes "]->") z) (far s.CloseArrow)
    (choice (begins (codes "-->") z) (far s.Arrow)
    (choice (begins (codes "==>") z) (far s.Implies)
    (choice (begins (codes "<=>") z) (far s.Iff) (short_same (short_sign b) (cut_same (d ∷ []) tail r q c)))))) h
sign_local {c} f b (d ∷ e ∷ m) tail r q x h =
    let long : (y : Sign) → token (sign y) (m ++ c ∷ r) ≡ token x (tail ++ c ∷ r) → token (sign y) (m ++ c ∷ q) ≡ token x (tail ++ c ∷ q) = λ y. token_same (sign y) (cut_same m tail r q c) in
    let z = b ∷ d ∷ e ∷ [] in
    choice (begins (codes "--[") z) (long s.OpenArrow)
    (choice (begins (codes "]->") z) (long s.CloseArrow)
    (choice (begins (codes "-->") z) (long s.Arrow)
    (choice (begins (codes "==>") z) (long s.Implies)
    (choice (begins (codes "<=>") z) (long s.Iff) (short_same (short_sign b) (cut_same (d ∷ e ∷ m) tail r q c)))))) h

-- what stands before the rest is the same
same_before : (m tail z w : List ℕ) → Ends (m ++ z) (tail ++ z) → before (m ++ z) (tail ++ z) ≡ before (m ++ w) (tail ++ w)
same_before m tail z w e =
    let f : m ≡ e.0 ++ tail = append_cancel_right m (e.0 ++ tail) z (e.1 ∙ sym (append_assoc e.0 tail z)) in
    let at : (x : List ℕ) → m ++ x ≡ e.0 ++ (tail ++ x) = λ x. ap (λ (y : List ℕ). y ++ x) f ∙ append_assoc e.0 tail x in
    ap (λ (y : List ℕ). before y (tail ++ z)) (at z) ∙ before_rest e.0 (tail ++ z) ∙ sym (before_rest e.0 (tail ++ w)) ∙ sym (ap (λ (y : List ℕ). before y (tail ++ w)) (at w))

word_local : {c : ℕ} → Firm c → (b : ℕ) (m tail r q : List ℕ) (x : Lexeme) → token (word (before (b ∷ m ++ c ∷ r) (skip class.Word (m ++ c ∷ r)))) (skip class.Word (m ++ c ∷ r)) ≡ token x (tail ++ c ∷ r)
    → token (word (before (b ∷ m ++ c ∷ q) (skip class.Word (m ++ c ∷ q)))) (skip class.Word (m ++ c ∷ q)) ≡ token x (tail ++ c ∷ q)
word_local {c} f b m tail r q x h =
    let e : skip class.Word (m ++ c ∷ r) ≡ tail ++ c ∷ r = cc in
    let d : word (before (b ∷ m ++ c ∷ r) (skip class.Word (m ++ c ∷ r))) ≡ x = cc in
    let g : skip class.Word (m ++ c ∷ q) ≡ tail ++ c ∷ q = skip_local f class.Word m tail r q e in
    let ends : Ends (b ∷ m ++ c ∷ r) (tail ++ c ∷ r) = ends_more b (subst (λ (y : List ℕ). Ends (m ++ c ∷ r) y) e (skip_ends class.Word (m ++ c ∷ r))) in
    let same : word (before (b ∷ m ++ c ∷ q) (tail ++ c ∷ q)) ≡ x = ap word (sym (same_before (b ∷ m) tail (c ∷ r) (c ∷ q) ends)) ∙ ap (λ (y : List ℕ). word (before (b ∷ m ++ c ∷ r) y)) (sym e) ∙ d in
    ap (λ (y : List ℕ). token (word (before (b ∷ m ++ c ∷ q) y)) y) g ∙ ap (λ (y : Lexeme). token y (tail ++ c ∷ q)) same

-- a constant ends behind its quote
closed_is : (t d : Bool) (y : Lexeme) (a : List ℕ) {x : Lexeme} {b : List ℕ} → cond (t && d) (token y a) (no_token NoConstant) ≡ token x b → (t ≡ true) × (d ≡ true) × (y ≡ x) × (a ≡ b)
closed_is true true y a e = (refl, refl, cc, cc)
closed_is true false y a e = no_piece e
closed_is false d y a e = no_piece e

shorter_same : (d : ℕ) (tail m z w : List ℕ) → nat_lt (length (d ∷ tail ++ z)) (length (m ++ z)) ≡ true → nat_lt (length (d ∷ tail ++ w)) (length (m ++ w)) ≡ true
shorter_same d tail m z w h =
    let a = length-append tail z in
    let b = length-append tail w in
    let e = length-append m z in
    let f = length-append m w in
    grind (arith, nat_tests)

closed_local : {c : ℕ} → Firm c → (m tail r q : List ℕ) (x : Lexeme) → close_constant (m ++ c ∷ r) (skip class.Constant (m ++ c ∷ r)) ≡ token x (tail ++ c ∷ r)
    → close_constant (m ++ c ∷ q) (skip class.Constant (m ++ c ∷ q)) ≡ token x (tail ++ c ∷ q)
closed_local {c} f m tail r q x h = by_rest (skip class.Constant (m ++ c ∷ r)) refl h
  where
    by_rest : (rest : List ℕ) → skip class.Constant (m ++ c ∷ r) ≡ rest → close_constant (m ++ c ∷ r) rest ≡ token x (tail ++ c ∷ r) → close_constant (m ++ c ∷ q) (skip class.Constant (m ++ c ∷ q)) ≡ token x (tail ++ c ∷ q)
    by_rest [] e h =
        let i = closed_is (nat_lt 0 (length (m ++ c ∷ r))) false (constant (before (m ++ c ∷ r) [])) [] h in
        absurd (let none : ⊥ = cc in none)
    by_rest (d ∷ rest) e h =
        let i = closed_is (nat_lt (length (d ∷ rest)) (length (m ++ c ∷ r))) (d == 39) (constant (before (m ++ c ∷ r) (d ∷ rest))) rest h in
        let at : d ∷ rest ≡ d ∷ tail ++ c ∷ r = ap (λ (y : List ℕ). d ∷ y) i.3 in
        let g : skip class.Constant (m ++ c ∷ q) ≡ d ∷ tail ++ c ∷ q = skip_local f class.Constant m (d ∷ tail) r q (e ∙ at) in
        let ends : Ends (m ++ c ∷ r) (d ∷ tail ++ c ∷ r) = subst (λ (y : List ℕ). Ends (m ++ c ∷ r) y) (e ∙ at) (skip_ends class.Constant (m ++ c ∷ r)) in
        let same : constant (before (m ++ c ∷ q) (d ∷ tail ++ c ∷ q)) ≡ x = ap constant (sym (same_before m (d ∷ tail) (c ∷ r) (c ∷ q) ends)) ∙ ap (λ (y : List ℕ). constant (before (m ++ c ∷ r) y)) (sym at) ∙ i.2 in
        let lt : nat_lt (length (d ∷ tail ++ c ∷ r)) (length (m ++ c ∷ r)) ≡ true = subst (λ (y : List ℕ). nat_lt (length y) (length (m ++ c ∷ r)) ≡ true) at i.0 in
        let lt' = shorter_same d tail m (c ∷ r) (c ∷ q) lt in
        ap (λ (y : List ℕ). close_constant (m ++ c ∷ q) y) g ∙ (rw (lt', i.1) (ap (λ (y : Lexeme). token y (tail ++ c ∷ q)) same))

-- ---- blocks of text, and signs of logic

block_local : (c : ℕ) (m tail r q : List ℕ) → after_block (m ++ c ∷ r) ≡ Some (tail ++ c ∷ r) → after_block (m ++ c ∷ q) ≡ Some (tail ++ c ∷ q)
unfolding after_block
block_local c [] tail r q h = absurd (not_behind [] tail (c ∷ r) (omega arith) (block_behind (c ∷ r) (tail ++ c ∷ r) h))
block_local c (a ∷ []) tail r q h = absurd (not_behind (a ∷ []) tail (c ∷ r) (omega arith) (block_behind (a ∷ c ∷ r) (tail ++ c ∷ r) h))
block_local c (a ∷ b ∷ m) tail r q h = choice (a == 42 && b == 125) (λ e. some_same m tail r q c e) (λ e. block_local c (b ∷ m) tail r q e) h

block_same : (o p : Option (List ℕ)) {x : Lexeme} {a b : List ℕ} → (o ≡ Some a → p ≡ Some b) → close_block o ≡ token x a → close_block p ≡ token x b
block_same None p f e = no_piece e
block_same (Some rest) p {x} {a} {b} f e =
    let g : rest ≡ a = cc in
    let h : block ≡ x = cc in
    ap close_block (f (ap Some g)) ∙ ap (λ (y : Lexeme). token y b) h

closed_block : (o : Option (List ℕ)) {x : Lexeme} {a : List ℕ} → close_block o ≡ token x a → o ≡ Some a
closed_block None e = no_piece e
closed_block (Some rest) {x} {a} e = let g : rest ≡ a = cc in ap Some g

block_piece_local : (c : ℕ) (m tail r q : List ℕ) (x : Lexeme) → close_block (after_block (drop 1 (m ++ c ∷ r))) ≡ token x (tail ++ c ∷ r) → close_block (after_block (drop 1 (m ++ c ∷ q))) ≡ token x (tail ++ c ∷ q)
block_piece_local c [] tail r q x h = absurd (too_far c tail r (behind_ends (block_behind r (tail ++ c ∷ r) (closed_block (after_block r) h))))
block_piece_local c (d ∷ m) tail r q x h = block_same (after_block (m ++ c ∷ r)) (after_block (m ++ c ∷ q)) (block_local c m tail r q) h

long_same : (o : Option Wide) {x : Lexeme} {a b u v : List ℕ} → (a ≡ b → u ≡ v) → long_piece o a ≡ token x b → long_piece o u ≡ token x v
long_same None f e = no_piece e
long_same (Some y) f e = token_same (wide y) f e

long_ends : (o : Option Wide) (a : List ℕ) {x : Lexeme} {b : List ℕ} → long_piece o a ≡ token x b → a ≡ b
long_ends None a e = no_piece e
long_ends (Some y) a e = cc

-- a sign of three bytes doesn't end before its second byte, nor before its third
long_far : (b c : ℕ) (tail r : List ℕ) (x : Lexeme) → first_long (b ∷ c ∷ r) ≡ token x (tail ++ c ∷ r) → ⊥
long_far b c tail [] x h = no_piece h
long_far b c tail (d ∷ r) x h = omega (arith, ap length (long_ends (long_sign b c d) r h), length-append tail (c ∷ d ∷ r))

wide_local : (c b : ℕ) (m tail r q : List ℕ) (x : Lexeme) → first_wide (b ∷ m ++ c ∷ r) ≡ token x (tail ++ c ∷ r) → first_wide (b ∷ m ++ c ∷ q) ≡ token x (tail ++ c ∷ q)
unfolding first_wide
wide_local c b [] tail r q x h =
    choice (begins (194 ∷ 172 ∷ []) (b ∷ c ∷ []))
    (token_same (wide s.Not) (λ e. absurd (too_far c tail r (subst (λ (z : List ℕ). Ends r z) e ([], refl)))))
    (λ e. absurd (long_far b c tail r x e)) h
wide_local c b (d ∷ []) tail r q x h =
    choice (begins (194 ∷ 172 ∷ []) (b ∷ d ∷ []))
    (token_same (wide s.Not) (cut_same [] tail r q c))
    (λ e. absurd (too_far c tail r (subst (λ (z : List ℕ). Ends r z) (long_ends (long_sign b d c) r e) ([], refl)))) h
wide_local c b (d ∷ e ∷ m) tail r q x h =
    choice (begins (194 ∷ 172 ∷ []) (b ∷ d ∷ []))
    (token_same (wide s.Not) (cut_same (e ∷ m) tail r q c))
    (long_same (long_sign b d e) (cut_same m tail r q c)) h

pub piece_local : {c : ℕ} → Firm c → (m tail r q : List ℕ) (x : Lexeme) → piece (m ++ c ∷ r) ≡ token x (tail ++ c ∷ r) → piece (m ++ c ∷ q) ≡ token x (tail ++ c ∷ q)
unfolding piece
piece_local {c} f [] tail r q x h = absurd (not_behind [] tail (c ∷ r) (omega arith) (piece_behind (c ∷ r) x (tail ++ c ∷ r) h))
piece_local {c} f (b ∷ m) tail r q x h =
    choice (is_ascii_alphanumeric b) (word_local f b m tail r q x)
    (choice (b == 39) (closed_local f m tail r q x) (behind_tests f b m tail r q x)) h
  where
    behind_tests : {c : ℕ} → Firm c → (b : ℕ) (m tail r q : List ℕ) (x : Lexeme)
        → cond (begins (codes "{*") (b ∷ m ++ c ∷ r)) (close_block (after_block (drop 1 (m ++ c ∷ r)))) (cond (b == 194 || b == 226) (first_wide (b ∷ m ++ c ∷ r)) (first_sign (b ∷ m ++ c ∷ r))) ≡ token x (tail ++ c ∷ r)
        → cond (begins (codes "{*") (b ∷ m ++ c ∷ q)) (close_block (after_block (drop 1 (m ++ c ∷ q)))) (cond (b == 194 || b == 226) (first_wide (b ∷ m ++ c ∷ q)) (first_sign (b ∷ m ++ c ∷ q))) ≡ token x (tail ++ c ∷ q)
    behind_tests {c} f b [] tail r q x h =
        choice (begins (codes "{*") (b ∷ c ∷ [])) (block_piece_local c [] tail r q x) (choice (b == 194 || b == 226) (wide_local c b [] tail r q x) (sign_local f b [] tail r q x)) h
    behind_tests {c} f b (d ∷ m) tail r q x h =
        choice (begins (codes "{*") (b ∷ d ∷ [])) (block_piece_local c (d ∷ m) tail r q x) (choice (b == 194 || b == 226) (wide_local c b (d ∷ m) tail r q x) (sign_local f b (d ∷ m) tail r q x)) h

-- ---- the text of a goal

-- a constant that goes on with these bytes isn't closed
abbrev pub IsOpen : List ℕ → Type 0
IsOpen q = is_first (λ b. b == 39) (skip class.Constant q) ≡ false

-- a constant ends before a byte, whatever stands behind that
record StopsBefore (c : ℕ) (m : List ℕ) : Type 0 where
  left : List ℕ
  stops : (z : List ℕ) → skip class.Constant (m ++ c ∷ z) ≡ left ++ c ∷ z

-- or goes on behind it, and no bracket before that counts
record RunsThrough (c : ℕ) (m : List ℕ) : Type 0 where
  runs : (z : List ℕ) → skip class.Constant (m ++ c ∷ z) ≡ skip class.Constant z
  counts : (depth : ℕ) (z : List ℕ) → to_closing true depth (m ++ c ∷ z) ≡ to_closing true depth z

one_counts : (b depth : ℕ) (z : List ℕ) → is_constant_byte b ≡ true → to_closing true depth (b ∷ z) ≡ to_closing true depth z
unfolding to_closing
one_counts b depth z e = ap (λ (t : Bool). to_closing t depth z) (and_parts (nat_le 32 b && nat_le b 126) (not (b == 39)) e).1

one_runs : (b : ℕ) (z : List ℕ) → is_constant_byte b ≡ true → skip class.Constant (b ∷ z) ≡ skip class.Constant z
unfolding skip
one_runs b z e = rw e refl

one_stops : (b : ℕ) (z : List ℕ) → is_constant_byte b ≡ false → skip class.Constant (b ∷ z) ≡ b ∷ z
unfolding skip
one_stops b z e = rw e refl

stops_or_runs : (c : ℕ) (m : List ℕ) → StopsBefore c m ⊎ RunsThrough c m
stops_or_runs c [] = at (is_constant_byte c) refl
  where
    at : (t : Bool) → is_constant_byte c ≡ t → StopsBefore c [] ⊎ RunsThrough c []
    at true e = inr (record { runs = λ z. one_runs c z e; counts = λ depth z. one_counts c depth z e })
    at false e = inl (record { left = []; stops = λ z. one_stops c z e })
stops_or_runs c (b ∷ m) = at (is_constant_byte b) refl (stops_or_runs c m)
  where
    at : (t : Bool) → is_constant_byte b ≡ t → StopsBefore c m ⊎ RunsThrough c m → StopsBefore c (b ∷ m) ⊎ RunsThrough c (b ∷ m)
    at true e (inl s) = inl (record { left = s.left; stops = λ z. one_runs b (m ++ c ∷ z) e ∙ s.stops z })
    at true e (inr t) = inr (record { runs = λ z. one_runs b (m ++ c ∷ z) e ∙ t.runs z; counts = λ depth z. one_counts b depth (m ++ c ∷ z) e ∙ t.counts depth z })
    at false e h = inl (record { left = b ∷ m; stops = λ z. one_stops b (m ++ c ∷ z) e })

shorter_is : (left m z : List ℕ) → nat_lt (length (left ++ z)) (length (m ++ z)) ≡ nat_lt (length left) (length m)
shorter_is left m z =
    let a = length-append left z in
    let b = length-append m z in
    grind (arith, nat_tests)

first_is : (p : ℕ → Bool) (left : List ℕ) (c : ℕ) (z : List ℕ) → is_first p (left ++ c ∷ z) ≡ is_first p (left ++ c ∷ [])
first_is p [] c z = refl
first_is p (d ∷ left) c z = refl

closes_before : {c : ℕ} {m : List ℕ} (s : StopsBefore c m) (z : List ℕ)
    → is_token (close_constant (m ++ c ∷ z) (skip class.Constant (m ++ c ∷ z))) ≡ (nat_lt (length s.left) (length m) && is_first (λ b. b == 39) (s.left ++ c ∷ []))
closes_before {c} {m} s z =
    ap (λ (rest : List ℕ). is_token (close_constant (m ++ c ∷ z) rest)) (s.stops z) ∙ closes (m ++ c ∷ z) (s.left ++ c ∷ z)
    ∙ ap₂ (λ (t u : Bool). t && u) (shorter_is s.left m (c ∷ z)) (first_is (λ b. b == 39) s.left c z)

open_through : {c : ℕ} {m : List ℕ} (t : RunsThrough c m) (q : List ℕ) → IsOpen q → is_token (close_constant (m ++ c ∷ q) (skip class.Constant (m ++ c ∷ q))) ≡ false
open_through {c} {m} t q o =
    closes (m ++ c ∷ q) (skip class.Constant (m ++ c ∷ q))
    ∙ ap (λ (u : Bool). nat_lt (length (skip class.Constant (m ++ c ∷ q))) (length (m ++ c ∷ q)) && u) (ap (is_first (λ b. b == 39)) (t.runs q) ∙ o)
    ∙ and-false (nat_lt (length (skip class.Constant (m ++ c ∷ q))) (length (m ++ c ∷ q)))

-- no bracket that closes is found where a constant runs through the byte
unquoted : {c : ℕ} (k : Bool) (depth : ℕ) (m tail r : List ℕ) → RunsThrough c m → to_closing k depth (m ++ c ∷ r) ≡ Some (tail ++ c ∷ r) → to_closing false depth (m ++ c ∷ r) ≡ Some (tail ++ c ∷ r)
unquoted {c} true depth m tail r u d = absurd (too_far c tail r (closing_ends true depth r (tail ++ c ∷ r) (sym (u.counts depth r) ∙ d)))
unquoted false depth m tail r u d = d

-- up to the bracket that closes, before a byte that stands firm
closing_local : {c : ℕ} → Firm c → (quoted : Bool) (depth : ℕ) (m tail r q : List ℕ) → IsOpen q → to_closing quoted depth (m ++ c ∷ r) ≡ Some (tail ++ c ∷ r) → to_closing quoted depth (m ++ c ∷ q) ≡ Some (tail ++ c ∷ q)
unfolding to_closing
closing_local {c} f quoted depth [] tail r q o h = absurd (too_far c tail r (closing_ends (is_quoted quoted c r) depth r (tail ++ c ∷ r) (passed (bracket quoted c) _ _ (f.no_bracket quoted) h)))
  where
    passed : (m : Mark) {A : Type 0} (x y : A) {z a : A} → m ≡ Neither → by_mark m x y z ≡ a → z ≡ a
    passed Opens x y e g = absurd (let none : ⊥ = cc in none)
    passed Closes x y e g = absurd (let none : ⊥ = cc in none)
    passed Neither x y e g = g
closing_local {c} f true depth (b ∷ m) tail r q o h = closing_local f (not (b == 39)) depth m tail r q o h
closing_local {c} f false depth (b ∷ m) tail r q o h =
    marks (bracket false b)
    (λ e. closing_local f false (depth + 1) m tail r q o e)
    (λ e. choice (depth == 0) (λ d. some_same (b ∷ m) tail r q c d) (λ d. closing_local f false (depth - 1) m tail r q o d) e)
    (λ e. at (stops_or_runs c m) (λ k d. closing_local f k depth m tail r q o d) e) h
  where
    at : StopsBefore c m ⊎ RunsThrough c m → ((k : Bool) → to_closing k depth (m ++ c ∷ r) ≡ Some (tail ++ c ∷ r) → to_closing k depth (m ++ c ∷ q) ≡ Some (tail ++ c ∷ q))
        → to_closing (b == 39 && is_token (close_constant (m ++ c ∷ r) (skip class.Constant (m ++ c ∷ r)))) depth (m ++ c ∷ r) ≡ Some (tail ++ c ∷ r)
        → to_closing (b == 39 && is_token (close_constant (m ++ c ∷ q) (skip class.Constant (m ++ c ∷ q)))) depth (m ++ c ∷ q) ≡ Some (tail ++ c ∷ q)
    at (inl s) again e =
        let same = closes_before s r ∙ sym (closes_before s q) in
        again (b == 39 && is_token (close_constant (m ++ c ∷ q) (skip class.Constant (m ++ c ∷ q)))) (subst (λ (t : Bool). to_closing (b == 39 && t) depth (m ++ c ∷ r) ≡ Some (tail ++ c ∷ r)) same e)
    at (inr t) again e =
        let free : (b == 39 && is_token (close_constant (m ++ c ∷ q) (skip class.Constant (m ++ c ∷ q)))) ≡ false = ap (λ (u : Bool). b == 39 && u) (open_through t q o) ∙ and-false (b == 39) in
        subst (λ (k : Bool). to_closing k depth (m ++ c ∷ q) ≡ Some (tail ++ c ∷ q)) (sym free)
        (again false (unquoted (b == 39 && is_token (close_constant (m ++ c ∷ r) (skip class.Constant (m ++ c ∷ r)))) depth m tail r t e))

goal_local : {c : ℕ} → Firm c → (m tail r q : List ℕ) (x : Lexeme) → IsOpen q → closed_by (m ++ c ∷ r) (to_closing false 0 (m ++ c ∷ r)) ≡ token x (tail ++ c ∷ r)
    → closed_by (m ++ c ∷ q) (to_closing false 0 (m ++ c ∷ q)) ≡ token x (tail ++ c ∷ q)
goal_local {c} f m tail r q x o h = by_rest (to_closing false 0 (m ++ c ∷ r)) refl h
  where
    by_rest : (rest : Option (List ℕ)) → to_closing false 0 (m ++ c ∷ r) ≡ rest → closed_by (m ++ c ∷ r) rest ≡ token x (tail ++ c ∷ r)
        → closed_by (m ++ c ∷ q) (to_closing false 0 (m ++ c ∷ q)) ≡ token x (tail ++ c ∷ q)
    by_rest None e h = no_piece h
    by_rest (Some []) e h = absurd (let none : [] ≡ tail ++ c ∷ r = cc in let long = ap length none in omega (arith, long, length-append tail (c ∷ r)))
    by_rest (Some (d ∷ rest)) e h =
        let is : rest ≡ tail ++ c ∷ r = cc in
        let kind : solve (before (m ++ c ∷ r) (d ∷ rest)) ≡ x = cc in
        let at : to_closing false 0 (m ++ c ∷ r) ≡ Some ((d ∷ tail) ++ c ∷ r) = e ∙ ap (λ (z : List ℕ). Some (d ∷ z)) is in
        let there = closing_local f false 0 m (d ∷ tail) r q o at in
        let ends = closing_ends false 0 (m ++ c ∷ r) ((d ∷ tail) ++ c ∷ r) at in
        let same : solve (before (m ++ c ∷ q) ((d ∷ tail) ++ c ∷ q)) ≡ x =
        ap solve (sym (same_before m (d ∷ tail) (c ∷ r) (c ∷ q) ends)) ∙ ap (λ (z : List ℕ). solve (before (m ++ c ∷ r) (d ∷ z))) (sym is) ∙ kind in
        ap (λ (z : Option (List ℕ)). closed_by (m ++ c ∷ q) z) there ∙ ap (λ (y : Lexeme). token y (tail ++ c ∷ q)) same

-- ---- what is read

-- behind blanks and comments these bytes end with those
record Stops (rest to : List ℕ) : Type 0 where
  from : List ℕ
  skips : Skips rest from
  ends : Ends from to

no_bracket_local : {c : ℕ} {rest : List ℕ} → Firm c → (tail r q : List ℕ) → rest ≡ tail ++ c ∷ r → NoBracket rest → Stops rest (c ∷ r) → NoBracket (tail ++ c ∷ q)
no_bracket_local {c} f tail r q is (other {mid = mid} s n) stop =
    let same : mid ≡ stop.ends.0 ++ c ∷ r = skips_one s stop.skips ∙ stop.ends.1 in
    other (skips_local f tail stop.ends.0 r q s is same)
    (first_is (λ b. b == 40) stop.ends.0 c q ∙ sym (first_is (λ b. b == 40) stop.ends.0 c r) ∙ ap (is_first (λ b. b == 40)) (sym same) ∙ n)
no_bracket_local f tail r q is (open_comment u) stop = absurd (skips_closed stop.skips u)

reads_local : {c : ℕ} {bytes : List ℕ} {p : Piece} → Firm c → (m tail r q : List ℕ) (x : Lexeme) → IsOpen q → Reads bytes p → bytes ≡ m ++ c ∷ r → p ≡ token x (tail ++ c ∷ r) → Stops (tail ++ c ∷ r) (c ∷ r)
    → Reads (m ++ c ∷ q) (token x (tail ++ c ∷ q))
reads_local f m tail r q x o (as_it_is e d) is to stop = as_it_is (piece_local f m tail r q x (ap piece (sym is) ∙ e ∙ to)) (ap is_solve_word (sym to) ∙ d)
reads_local {c} f m tail r q x o (bare {rest = rest} {x = y} e t n) is to stop =
    let one : y ≡ x = cc in
    let same : rest ≡ tail ++ c ∷ r = cc in
    bare (piece_local f m tail r q x (ap piece (sym is) ∙ e ∙ to)) (ap is_solve (sym one) ∙ t) (no_bracket_local f tail r q same n (subst (λ (z : List ℕ). Stops z (c ∷ r)) (sym same) stop))
reads_local {c} f m tail r q x o (goal {rest = rest} {inside = i} {x = y} e t h k) is to stop =
    let u = goal_ends i x (tail ++ c ∷ r) (k ∙ to) in
    let inner = u.0 ++ tail in
    let inside_is : i ≡ inner ++ c ∷ r = u.1 ∙ sym (append_assoc u.0 tail (c ∷ r)) in
    let v = skips_ends h in
    let outer = v.0 ++ 40 ∷ inner in
    let rest_is : rest ≡ outer ++ c ∷ r = v.1 ∙ ap (λ (z : List ℕ). v.0 ++ 40 ∷ z) inside_is ∙ sym (append_assoc v.0 (40 ∷ inner) (c ∷ r)) in
    goal (piece_local f m outer r q y (ap piece (sym is) ∙ e ∙ ap (token y) rest_is)) t (skips_local f outer (40 ∷ inner) r q h rest_is (ap (λ (z : List ℕ). 40 ∷ z) inside_is))
    (goal_local f inner tail r q x o (ap (λ (z : List ℕ). closed_by z (to_closing false 0 z)) (sym inside_is) ∙ k ∙ to))

-- ---- tokens up to a place

-- no goal, nor the word that begins one
abbrev pub BeginsNoGoal : Lexeme → Type 0
BeginsNoGoal (word w) = bytes_eq w (codes "solve") ≡ false
BeginsNoGoal (constant c) = Unit {0}
BeginsNoGoal (sign x) = Unit {0}
BeginsNoGoal (solve t) = ⊥
BeginsNoGoal (wide x) = Unit {0}
BeginsNoGoal block = Unit {0}

-- the bytes are cut into these, and then those bytes follow, behind blanks and comments
pub data Reaches (to : List ℕ) : List ℕ → List Lexeme → Type 0 where
  reached : {bytes : List ℕ} → Skips bytes to → Reaches to bytes []
  past_token : {bytes from mid : List ℕ} {x : Lexeme} {xs : List Lexeme} → Skips bytes from → Reads from (token x mid) → is_end x ≡ false → Reaches to mid xs → Reaches to bytes (x ∷ xs)

pub reaches_ends : {to bytes : List ℕ} {xs : List Lexeme} → Reaches to bytes xs → Ends bytes to
reaches_ends (reached s) = skips_ends s
reaches_ends (past_token s p n h) = ends_behind (skips_ends s) (ends_behind (reads_ends p refl) (reaches_ends h))

reaches_stops : {to bytes : List ℕ} {xs : List Lexeme} → Reaches to bytes xs → Stops bytes to
reaches_stops {to} (reached s) = record { from = to; skips = s; ends = ends_all to }
reaches_stops (past_token {from = from} s p n h) = record { from = from; skips = s; ends = ends_behind (reads_ends p refl) (reaches_ends h) }

pub reaches_local : {c : ℕ} {to bytes : List ℕ} {xs : List Lexeme} → Firm c → (m r q : List ℕ) → IsOpen q → Reaches to bytes xs → to ≡ c ∷ r → bytes ≡ m ++ c ∷ r → Reaches (c ∷ q) (m ++ c ∷ q) xs
reaches_local f m r q still_open (reached s) d e = reached (skips_local f m [] r q s e d)
reaches_local {c} {to} f m r q still_open (past_token {from = from} {mid = mid} {x = x} s p n h) d e =
    let o = reaches_ends h in
    let i = reads_ends p refl in
    let middle : mid ≡ o.0 ++ c ∷ r = o.1 ∙ ap (λ (y : List ℕ). o.0 ++ y) d in
    let first : from ≡ (i.0 ++ o.0) ++ c ∷ r = i.1 ∙ ap (λ (y : List ℕ). i.0 ++ y) middle ∙ sym (append_assoc i.0 o.0 (c ∷ r)) in
    let stop : Stops (o.0 ++ c ∷ r) (c ∷ r) = subst (λ (y : List ℕ). Stops (o.0 ++ c ∷ r) y) d (subst (λ (y : List ℕ). Stops y to) middle (reaches_stops h)) in
    past_token (skips_local f m (i.0 ++ o.0) r q s e first) (reads_local f (i.0 ++ o.0) o.0 r q x still_open p first (ap (token x) middle) stop) n (reaches_local f o.0 r q still_open h d middle)
