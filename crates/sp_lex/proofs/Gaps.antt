-- What stands between tokens, step by step.
use Rattle.std.proofs.Common.{◌≡◌, ◌≢◌, ℕ, ◌+◌, ◌-◌, ◌<◌, ◌≤◌, Bool, true, false, cond, List, [], ◌∷◌, length, drop, Option, Some, None, refl, sym, ap, subst, ◌∙◌, length-drop, arith}
use Rattle.std.specs.Prelude.{◌==◌}
use Rattle.std.proofs.lemmas.Bool.{ne_eqb}
use Rattle.sp_spec_text.specs.Bytes as class
use Rattle.sp_spec_text.specs.Bytes.{Mark}
use Rattle.sp_spec_text.specs.Bytes.{Opens, Closes, Neither}
use Rattle.sp_spec_text.specs.Lex.{skip, by_mark, comment_mark, after_comment, Step, nothing, past, unclosed, past_comment, gap, Skips, no_gap, gap_then, IsUnclosed, first, behind}
use Rattle.sp_lex.proofs.Pieces.{skip_shorter}

-- ---- comments in brackets

comment_at : (depth : ℕ) {a b : ℕ} {rest after behind : List ℕ} {total : Option (List ℕ)} → after_comment depth rest ≡ total → rest ≡ a ∷ after → after ≡ b ∷ behind → after_comment depth (a ∷ b ∷ behind) ≡ total
comment_at depth {a} {b} {rest} {after} {behind} h e f =
    let k : a ∷ b ∷ behind ≡ rest = cc in ap (λ (x : List ℕ). after_comment depth x) k ∙ h

pub comment_opens : (depth : ℕ) {a b : ℕ} {rest after behind : List ℕ} {total : Option (List ℕ)} → after_comment depth rest ≡ total → rest ≡ a ∷ after → after ≡ b ∷ behind → comment_mark a b ≡ Opens → after_comment (depth + 1) behind ≡ total
unfolding after_comment
comment_opens depth h e f m = rw m at (comment_at depth h e f)

pub comment_closes : (depth : ℕ) {a b : ℕ} {rest after behind : List ℕ} {total : Option (List ℕ)} → after_comment depth rest ≡ total → rest ≡ a ∷ after → after ≡ b ∷ behind → comment_mark a b ≡ Closes → depth ≢ 0 → after_comment (depth - 1) behind ≡ total
unfolding after_comment
comment_closes depth h e f m ne = rw (m, ne_eqb depth 0 ne) at (comment_at depth h e f)

pub comment_ends : {a b : ℕ} {rest after behind : List ℕ} {total : Option (List ℕ)} → after_comment 0 rest ≡ total → rest ≡ a ∷ after → after ≡ b ∷ behind → comment_mark a b ≡ Closes → Some behind ≡ total
unfolding after_comment
comment_ends h e f m = rw m at (comment_at 0 h e f)

pub comment_goes : (depth : ℕ) {a b : ℕ} {rest after behind : List ℕ} {total : Option (List ℕ)} → after_comment depth rest ≡ total → rest ≡ a ∷ after → after ≡ b ∷ behind → comment_mark a b ≡ Neither → after_comment depth after ≡ total
unfolding after_comment
comment_goes depth {after = after} h e f m = rw f (rw m at (comment_at depth h e f))

pub ruleset comments = (comment_closes, comment_ends, comment_opens, comment_goes)

-- no more bytes are left than these
pub record LeavesMost (n : ℕ) (o : Option (List ℕ)) : Type 0 where
  pub most : (rest : List ℕ) → o ≡ Some rest → length rest ≤ n

pub leaves_none : {n : ℕ} → LeavesMost n None
leaves_none = record { most = λ r e. absurd cc }

pub leaves_some : {n : ℕ} (rest : List ℕ) → length rest ≤ n → LeavesMost n (Some rest)
leaves_some rest le = record { most = λ r e. let f : rest ≡ r = cc in omega (arith, ap length f) }

pub leaves_more : {n m : ℕ} {o : Option (List ℕ)} → LeavesMost n o → n ≤ m → LeavesMost m o
leaves_more l le = record { most = λ r e. let k = l.most r e in omega arith }

pub either : (t : Bool) {n : ℕ} {x y : Option (List ℕ)} → LeavesMost n x → LeavesMost n y → LeavesMost n (cond t x y)
either true h k = h
either false h k = k

pub any_mark : (m : Mark) {n : ℕ} {x y z : Option (List ℕ)} → LeavesMost n x → LeavesMost n y → LeavesMost n z → LeavesMost n (by_mark m x y z)
any_mark Opens x y z = x
any_mark Closes x y z = y
any_mark Neither x y z = z

comment_leaves : (depth : ℕ) (bytes : List ℕ) → LeavesMost (length bytes) (after_comment depth bytes)
unfolding after_comment
comment_leaves depth [] = leaves_none
comment_leaves depth (a ∷ []) = leaves_none
comment_leaves depth (a ∷ b ∷ bytes) =
    let two : length bytes ≤ length (a ∷ b ∷ bytes) = omega arith in
    let one : length (b ∷ bytes) ≤ length (a ∷ b ∷ bytes) = omega arith in
    any_mark (comment_mark a b)
    (leaves_more (comment_leaves (depth + 1) bytes) two)
    (either (depth == 0) (leaves_some bytes two) (leaves_more (comment_leaves (depth - 1) bytes) two))
    (leaves_more (comment_leaves depth (b ∷ bytes)) one)

-- ---- blanks and comments

record StepLeaves (n : ℕ) (s : Step) : Type 0 where
  most : (rest : List ℕ) → s ≡ past rest → length rest ≤ n

step_past : {n : ℕ} (rest : List ℕ) → length rest ≤ n → StepLeaves n (past rest)
step_past rest le = record { most = λ r e. let f : rest ≡ r = cc in omega (arith, ap length f) }

step_nothing : {n : ℕ} → StepLeaves n nothing
step_nothing = record { most = λ r e. absurd cc }

step_comment : {n : ℕ} (o : Option (List ℕ)) → LeavesMost n o → StepLeaves n (past_comment o)
step_comment None l = record { most = λ r e. absurd cc }
step_comment (Some rest) l = step_past rest (l.most rest refl)

step_either : (t : Bool) {n : ℕ} {x y : Step} → StepLeaves n x → StepLeaves n y → StepLeaves n (cond t x y)
step_either true h k = h
step_either false h k = k

gap_leaves : (bytes : List ℕ) → StepLeaves (length bytes) (gap bytes)
unfolding gap
gap_leaves bytes =
    let n = length bytes in
    let one : length (drop 1 bytes) ≤ n = rw length-drop (omega arith) in
    let two : length (drop 2 bytes) ≤ n = rw length-drop (omega arith) in
    let line : length (skip class.Line (drop 2 bytes)) ≤ n = let k = skip_shorter class.Line (drop 2 bytes) in omega arith in
    step_either _ (step_past (drop 1 bytes) one)
    (step_either _ (step_past (skip class.Line (drop 2 bytes)) line)
    (step_either _ (step_comment (after_comment 0 (drop 2 bytes)) (leaves_more (comment_leaves 0 (drop 2 bytes)) two)) step_nothing))

pub skips_shorter : {bytes rest : List ℕ} → Skips bytes rest → length rest ≤ length bytes
skips_shorter (no_gap e) = omega arith
skips_shorter {bytes} (gap_then {mid = m} e h) = let k = (gap_leaves bytes).most m e in let l = skips_shorter h in omega arith

-- one rest follows them, or one comment is not closed
pub skips_one : {bytes m n : List ℕ} → Skips bytes m → Skips bytes n → m ≡ n
skips_one (no_gap e) (no_gap f) = refl
skips_one (no_gap e) (gap_then f k) = absurd cc
skips_one (gap_then e h) (no_gap f) = absurd cc
skips_one {n = n} (gap_then {mid = a} e h) (gap_then {mid = b} f k) = let q : b ≡ a = cc in skips_one h (subst (λ (m : List ℕ). Skips m n) q k)

pub skips_closed : {bytes m p : List ℕ} → Skips bytes m → IsUnclosed bytes p → ⊥
skips_closed (no_gap e) (first f) = cc
skips_closed (no_gap e) (behind f k) = cc
skips_closed (gap_then e h) (first f) = cc
skips_closed (gap_then {mid = a} e h) (behind {mid = b} {rest = p} f k) = let q : b ≡ a = cc in skips_closed h (subst (λ (m : List ℕ). IsUnclosed m p) q k)

pub unclosed_one : {bytes p q : List ℕ} → IsUnclosed bytes p → IsUnclosed bytes q → p ≡ q
unclosed_one (first e) (first f) = refl
unclosed_one (first e) (behind f k) = absurd cc
unclosed_one (behind e h) (first f) = absurd cc
unclosed_one {q = q} (behind {mid = a} e h) (behind {mid = b} f k) = let d : b ≡ a = cc in unclosed_one h (subst (λ (m : List ℕ). IsUnclosed m q) d k)

-- these were passed before the rest
pub record Skipped (text rest : List ℕ) : Type 0 where
  pub goes : (r : List ℕ) → Skips rest r → Skips text r
  pub opens : (r : List ℕ) → IsUnclosed rest r → IsUnclosed text r
  pub shorter : length rest ≤ length text

pub skipped_none : (text : List ℕ) → Skipped text text
skipped_none text = record { goes = λ r h. h; opens = λ r h. h; shorter = omega arith }

pub skipped_more : {text rest after : List ℕ} → Skipped text rest → past after ≡ gap rest → length after < length rest → Skipped text after
skipped_more s e lt = record { goes = λ r h. s.goes r (gap_then (sym e) h); opens = λ r h. s.opens r (behind (sym e) h); shorter = let k = s.shorter in omega arith }

pub skipped_end : {text rest : List ℕ} → Skipped text rest → nothing ≡ gap rest → Skips text rest
skipped_end {rest = rest} s e = s.goes rest (no_gap (sym e))

pub skipped_open : {text rest : List ℕ} → Skipped text rest → unclosed ≡ gap rest → IsUnclosed text rest
skipped_open {rest = rest} s e = s.opens rest (first (sym e))

pub ruleset gaps = (skipped_none, skipped_more, skipped_end, skipped_open)
