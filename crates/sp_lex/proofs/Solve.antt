-- The text behind `solve(`, byte by byte, and what begins a token.
use Rattle.std.proofs.Common.{◌≡◌, ◌≢◌, ℕ, ◌+◌, ◌-◌, ◌≤◌, Bool, true, false, List, [], ◌∷◌, length, Option, Some, refl, sym, ap, subst, ◌∙◌, arith}
use Rattle.std.specs.Prelude.{◌==◌}
use Rattle.std.proofs.lemmas.Bool.{ne_eqb}
use Rattle.sp_spec_text.specs.Bytes.{Opens, Closes, Neither}
use Rattle.sp_spec_text.specs.Token.{Lexeme}
use Rattle.sp_spec_text.specs.Lex.{is_first, piece, Piece, token, no_token, is_quoted, bracket, to_closing, solve_piece, is_solve, is_solve_word, Skips, IsUnclosed, NoBracket, other, open_comment, Reads, as_it_is, bare, goal}
use Rattle.sp_lex.proofs.Gaps.{LeavesMost, leaves_none, leaves_some, leaves_more, either, any_mark, skips_one, skips_closed}

closing_at : (quoted : Bool) (depth : ℕ) {b : ℕ} {rest after : List ℕ} {total : Option (List ℕ)} → to_closing quoted depth rest ≡ total → rest ≡ b ∷ after → to_closing quoted depth (b ∷ after) ≡ total
closing_at quoted depth h e = ap (λ (x : List ℕ). to_closing quoted depth x) (sym e) ∙ h

pub closing_opens : (quoted : Bool) (depth : ℕ) {b : ℕ} {rest after : List ℕ} {total : Option (List ℕ)} → to_closing quoted depth rest ≡ total → rest ≡ b ∷ after → bracket quoted b ≡ Opens → to_closing quoted (depth + 1) after ≡ total
unfolding to_closing
closing_opens quoted depth h e m = rw m at (closing_at quoted depth h e)

pub closing_closes : (quoted : Bool) (depth : ℕ) {b : ℕ} {rest after : List ℕ} {total : Option (List ℕ)} → to_closing quoted depth rest ≡ total → rest ≡ b ∷ after → bracket quoted b ≡ Closes → depth ≢ 0 → to_closing quoted (depth - 1) after ≡ total
unfolding to_closing
closing_closes quoted depth h e m ne = rw (m, ne_eqb depth 0 ne) at (closing_at quoted depth h e)

pub closing_ends : (quoted : Bool) {b : ℕ} {rest after : List ℕ} {total : Option (List ℕ)} → to_closing quoted 0 rest ≡ total → rest ≡ b ∷ after → bracket quoted b ≡ Closes → Some rest ≡ total
unfolding to_closing
closing_ends quoted h e m = ap Some e ∙ (rw m at (closing_at quoted 0 h e))

pub closing_goes : (quoted : Bool) (depth : ℕ) {b : ℕ} {rest after : List ℕ} {total : Option (List ℕ)} → to_closing quoted depth rest ≡ total → rest ≡ b ∷ after → bracket quoted b ≡ Neither → to_closing (is_quoted quoted b after) depth after ≡ total
unfolding to_closing
closing_goes quoted depth h e m = rw m at (closing_at quoted depth h e)

pub ruleset closings = (closing_opens, closing_closes, closing_ends, closing_goes)

pub closing_leaves : (quoted : Bool) (depth : ℕ) (bytes : List ℕ) → LeavesMost (length bytes) (to_closing quoted depth bytes)
unfolding to_closing
closing_leaves quoted depth [] = leaves_none
closing_leaves quoted depth (b ∷ bytes) =
    let one : length bytes ≤ length (b ∷ bytes) = omega arith in
    any_mark (bracket quoted b)
    (leaves_more (closing_leaves quoted (depth + 1) bytes) one)
    (either (depth == 0) (leaves_some (b ∷ bytes) (omega arith)) (leaves_more (closing_leaves quoted (depth - 1) bytes) one))
    (leaves_more (closing_leaves (is_quoted quoted b bytes) depth bytes) one)

-- ---- a bracket behind blanks and comments

pub bracket_at : {text mid inside : List ℕ} → Skips text mid → mid ≡ 40 ∷ inside → Skips text (40 ∷ inside)
bracket_at {text} h e = subst (λ (m : List ℕ). Skips text m) e h

pub bracket_other : {text mid after : List ℕ} {b : ℕ} → Skips text mid → mid ≡ b ∷ after → b ≢ 40 → NoBracket text
bracket_other {b = b} h e d = other h (rw e (ne_eqb b 40 d))

pub bracket_nil : {text mid : List ℕ} → Skips text mid → mid ≡ [] → NoBracket text
bracket_nil h e = other h (rw e refl)

pub ruleset brackets = (bracket_at, bracket_other, bracket_nil, open_comment)

bracket_or_not : {text inside : List ℕ} → Skips text (40 ∷ inside) → NoBracket text → ⊥
bracket_or_not {inside = i} h (other k d) = let e = skips_one k h in let f : is_first (λ b. b == 40) (40 ∷ i) ≡ false = rw e at d in cc
bracket_or_not h (open_comment k) = skips_closed h k

-- ---- one token begins here, or one fault

pub reads_as_it_is : {bytes : List ℕ} {p : Piece} → p ≡ piece bytes → is_solve_word p ≡ false → Reads bytes p
reads_as_it_is e d = as_it_is (sym e) d

pub reads_bare : {bytes rest : List ℕ} {x : Lexeme} → token x rest ≡ piece bytes → is_solve x ≡ true → NoBracket rest → Reads bytes (token x rest)
reads_bare e t n = bare (sym e) t n

pub reads_goal : {bytes rest inside : List ℕ} {x : Lexeme} {p : Piece} → token x rest ≡ piece bytes → is_solve x ≡ true → Skips rest (40 ∷ inside) → p ≡ solve_piece inside → Reads bytes p
reads_goal e t h f = goal (sym e) t h (sym f)

pub ruleset readings = (reads_as_it_is, reads_bare, reads_goal)

same_rest : (bytes : List ℕ) {r q : List ℕ} {x y : Lexeme} → piece bytes ≡ token x r → piece bytes ≡ token y q → r ≡ q
same_rest bytes {r} {q} {x} {y} e f = let d : token x r ≡ token y q = sym e ∙ f in cc

as_it_is_or_solve : (bytes : List ℕ) {rest : List ℕ} {p : Piece} {x : Lexeme} → piece bytes ≡ p → is_solve_word p ≡ false → piece bytes ≡ token x rest → is_solve x ≡ true → ⊥
as_it_is_or_solve bytes {rest} {p} {x} e d f t = let g : is_solve_word p ≡ is_solve x = ap is_solve_word (sym e ∙ f) in cc

pub reads_one : {bytes : List ℕ} {p q : Piece} → Reads bytes p → Reads bytes q → p ≡ q
reads_one (as_it_is e d) (as_it_is f g) = sym e ∙ f
reads_one {bytes} (as_it_is e d) (bare f t n) = absurd (as_it_is_or_solve bytes e d f t)
reads_one {bytes} (as_it_is e d) (goal f t h g) = absurd (as_it_is_or_solve bytes e d f t)
reads_one {bytes} (bare f t n) (as_it_is e d) = absurd (as_it_is_or_solve bytes e d f t)
reads_one (bare e t n) (bare f u m) = sym e ∙ f
reads_one {bytes} (bare e t n) (goal {inside = i} f u h g) = absurd (bracket_or_not (subst (λ (r : List ℕ). Skips r (40 ∷ i)) (same_rest bytes f e) h) n)
reads_one {bytes} (goal f t h g) (as_it_is e d) = absurd (as_it_is_or_solve bytes e d f t)
reads_one {bytes} (goal {inside = i} f u h g) (bare e t n) = absurd (bracket_or_not (subst (λ (r : List ℕ). Skips r (40 ∷ i)) (same_rest bytes f e) h) n)
reads_one {bytes} (goal {inside = i} e t h d) (goal {inside = j} f u k g) =
    let o = skips_one (subst (λ (r : List ℕ). Skips r (40 ∷ i)) (same_rest bytes e f) h) k in
    let s : i ≡ j = cc in
    sym d ∙ ap solve_piece s ∙ g
