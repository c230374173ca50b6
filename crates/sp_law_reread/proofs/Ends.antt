-- What is left behind blanks, comments and tokens is an end of the bytes before.
use Rattle.std.proofs.Common.{◌≡◌, ℕ, zero, suc, ◌+◌, ◌-◌, ◌<◌, ◌≤◌, Bool, true, false, cond, List, [], ◌∷◌, ◌++◌, length, drop, Option, Some, None, refl, sym, ap, subst, ◌∙◌, append_assoc, length-append, arith}
use Rattle.std.specs.Prelude.{◌&&◌, ◌==◌, nat_lt}
use Rattle.std.specs.Char.{is_ascii_alphanumeric}
use Rattle.sp_spec_text.specs.Bytes.{Class, FaultKind, Mark, Opens, Closes, Neither}
use Rattle.sp_spec_text.specs.Bytes as class
use Rattle.sp_spec_text.specs.Signs.{Sign, Wide}
use Rattle.sp_spec_text.specs.Signs as s
use Rattle.sp_spec_text.specs.Token.{Lexeme, word, constant, sign, solve, wide, block, Token}
use Rattle.sp_spec_text.specs.Lex.{is_in, is_first, skip, before, by_mark, comment_mark, after_comment, Step, nothing, past, past_comment, gap, Skips, no_gap, gap_then, Piece, token, no_token, short_sign, short_piece, first_sign, long_sign, long_piece, first_long, first_wide, after_block, close_block, piece, is_quoted, bracket, to_closing, closed_by, Reads, as_it_is, bare, goal, IsNext}

-- the bytes end with these
abbrev pub Ends : List ℕ → List ℕ → Type 0
Ends bytes rest = (front : List ℕ) × (bytes ≡ front ++ rest)

pub ends_all : (bytes : List ℕ) → Ends bytes bytes
ends_all bytes = ([], refl)

pub ends_more : (b : ℕ) {bytes rest : List ℕ} → Ends bytes rest → Ends (b ∷ bytes) rest
ends_more b e = (b ∷ e.0, ap (λ (xs : List ℕ). b ∷ xs) e.1)

pub ends_behind : {bytes mid rest : List ℕ} → Ends bytes mid → Ends mid rest → Ends bytes rest
ends_behind {rest = rest} e f = (e.0 ++ f.0, e.1 ∙ ap (λ (xs : List ℕ). e.0 ++ xs) f.1 ∙ sym (append_assoc e.0 f.0 rest))

pub ends_drop : (n : ℕ) (bytes : List ℕ) → Ends bytes (drop n bytes)
ends_drop zero bytes = ends_all bytes
ends_drop (suc n) [] = ends_all []
ends_drop (suc n) (b ∷ bytes) = ends_more b (ends_drop n bytes)

pub skip_ends : (k : Class) (bytes : List ℕ) → Ends bytes (skip k bytes)
unfolding skip
skip_ends k [] = ends_all []
skip_ends k (b ∷ bytes) = by_test (is_in k b bytes) (skip_ends k bytes)
  where
    by_test : (t : Bool) → Ends bytes (skip k bytes) → Ends (b ∷ bytes) (cond t (skip k bytes) (b ∷ bytes))
    by_test true e = ends_more b e
    by_test false e = ends_all (b ∷ bytes)

-- ---- with at least this many bytes before

pub record Behind (n : ℕ) (bytes rest : List ℕ) : Type 0 where
  pub front : List ℕ
  pub are : bytes ≡ front ++ rest
  pub long : n ≤ length front

pub behind_ends : {n : ℕ} {bytes rest : List ℕ} → Behind n bytes rest → Ends bytes rest
behind_ends b = (b.front, b.are)

pub behind_more : {n : ℕ} (b : ℕ) {bytes rest : List ℕ} → Behind n bytes rest → Behind n (b ∷ bytes) rest
behind_more b h = let l = h.long in record { front = b ∷ h.front; are = ap (λ (xs : List ℕ). b ∷ xs) h.are; long = omega arith }

behind_one : (b : ℕ) {bytes rest : List ℕ} → Ends bytes rest → Behind 1 (b ∷ bytes) rest
behind_one b e = record { front = b ∷ e.0; are = ap (λ (xs : List ℕ). b ∷ xs) e.1; long = omega arith }

-- no bytes stand behind themselves
pub not_behind : {n : ℕ} (xs ys zs : List ℕ) → length xs < n → Behind n (xs ++ zs) (ys ++ zs) → ⊥
not_behind xs ys zs lt h =
    let l = h.long in
    omega (arith, l, lt, ap length h.are, length-append xs zs, length-append h.front (ys ++ zs), length-append ys zs)

-- ---- comments, and the text up to a bracket

record Gives (n : ℕ) (bytes : List ℕ) (o : Option (List ℕ)) : Type 0 where
  is : (rest : List ℕ) → o ≡ Some rest → Behind n bytes rest

gives_none : {n : ℕ} {bytes : List ℕ} → Gives n bytes None
gives_none = record { is = λ r e. absurd (let none : ⊥ = cc in none) }

gives_some : {n : ℕ} {bytes : List ℕ} (rest : List ℕ) → Behind n bytes rest → Gives n bytes (Some rest)
gives_some {n} {bytes} rest h = record { is = λ r e. let f : rest ≡ r = cc in subst (λ (q : List ℕ). Behind n bytes q) f h }

gives_more : {n : ℕ} (b : ℕ) {bytes : List ℕ} {o : Option (List ℕ)} → Gives n bytes o → Gives n (b ∷ bytes) o
gives_more b g = record { is = λ r e. behind_more b (g.is r e) }

either : (t : Bool) {n : ℕ} {bytes : List ℕ} {x y : Option (List ℕ)} → Gives n bytes x → Gives n bytes y → Gives n bytes (cond t x y)
either true h k = h
either false h k = k

any_mark : (m : Mark) {n : ℕ} {bytes : List ℕ} {x y z : Option (List ℕ)} → Gives n bytes x → Gives n bytes y → Gives n bytes z → Gives n bytes (by_mark m x y z)
any_mark Opens x y z = x
any_mark Closes x y z = y
any_mark Neither x y z = z

comment_gives : (depth : ℕ) (bytes : List ℕ) → Gives 2 bytes (after_comment depth bytes)
unfolding after_comment
comment_gives depth [] = gives_none
comment_gives depth (a ∷ []) = gives_none
comment_gives depth (a ∷ b ∷ bytes) =
    any_mark (comment_mark a b)
    (gives_more a (gives_more b (comment_gives (depth + 1) bytes)))
    (either (depth == 0) (gives_some bytes (record { front = a ∷ b ∷ []; are = refl; long = omega arith })) (gives_more a (gives_more b (comment_gives (depth - 1) bytes))))
    (gives_more a (comment_gives depth (b ∷ bytes)))

pub comment_behind : (depth : ℕ) (bytes rest : List ℕ) → after_comment depth bytes ≡ Some rest → Behind 2 bytes rest
comment_behind depth bytes rest e = (comment_gives depth bytes).is rest e

block_gives : (bytes : List ℕ) → Gives 2 bytes (after_block bytes)
unfolding after_block
block_gives [] = gives_none
block_gives (a ∷ []) = gives_none
block_gives (a ∷ b ∷ bytes) =
    either (a == 42 && b == 125) (gives_some bytes (record { front = a ∷ b ∷ []; are = refl; long = omega arith })) (gives_more a (block_gives (b ∷ bytes)))

pub block_behind : (bytes rest : List ℕ) → after_block bytes ≡ Some rest → Behind 2 bytes rest
block_behind bytes rest e = (block_gives bytes).is rest e

closing_gives : (quoted : Bool) (depth : ℕ) (bytes : List ℕ) → Gives 0 bytes (to_closing quoted depth bytes)
unfolding to_closing
closing_gives quoted depth [] = gives_none
closing_gives quoted depth (b ∷ bytes) =
    any_mark (bracket quoted b)
    (gives_more b (closing_gives quoted (depth + 1) bytes))
    (either (depth == 0) (gives_some (b ∷ bytes) (record { front = []; are = refl; long = omega arith })) (gives_more b (closing_gives quoted (depth - 1) bytes)))
    (gives_more b (closing_gives (is_quoted quoted b bytes) depth bytes))

pub closing_ends : (quoted : Bool) (depth : ℕ) (bytes rest : List ℕ) → to_closing quoted depth bytes ≡ Some rest → Ends bytes rest
closing_ends quoted depth bytes rest e = behind_ends ((closing_gives quoted depth bytes).is rest e)

-- ---- blanks and comments

record Passes (bytes : List ℕ) (s : Step) : Type 0 where
  is : (rest : List ℕ) → s ≡ past rest → Behind 1 bytes rest

passes_past : {bytes : List ℕ} (rest : List ℕ) → Behind 1 bytes rest → Passes bytes (past rest)
passes_past {bytes} rest h = record { is = λ r e. let f : rest ≡ r = cc in subst (λ (q : List ℕ). Behind 1 bytes q) f h }

passes_nothing : {bytes : List ℕ} → Passes bytes nothing
passes_nothing = record { is = λ r e. absurd (let none : ⊥ = cc in none) }

passes_comment : {n : ℕ} {bytes : List ℕ} (all : List ℕ) (o : Option (List ℕ)) → Gives n bytes o → ((rest : List ℕ) → Ends bytes rest → Behind 1 all rest) → Passes all (past_comment o)
passes_comment all None g f = record { is = λ r e. absurd (let none : ⊥ = cc in none) }
passes_comment all (Some rest) g f = passes_past rest (f rest (behind_ends (g.is rest refl)))

passes_either : (t : Bool) {bytes : List ℕ} {x y : Step} → Passes bytes x → Passes bytes y → Passes bytes (cond t x y)
passes_either true h k = h
passes_either false h k = k

gap_passes : (bytes : List ℕ) → Passes bytes (gap bytes)
unfolding gap
gap_passes [] = passes_nothing
gap_passes (a ∷ []) =
    passes_either _ (passes_past [] (behind_one a (ends_all [])))
    (passes_either _ (passes_past (skip class.Line []) (behind_one a (skip_ends class.Line [])))
    (passes_either _ (passes_comment (a ∷ []) (after_comment 0 []) (comment_gives 0 []) (λ r e. behind_one a e)) passes_nothing))
gap_passes (a ∷ b ∷ bytes) =
    passes_either _ (passes_past (b ∷ bytes) (behind_one a (ends_all (b ∷ bytes))))
    (passes_either _ (passes_past (skip class.Line bytes) (behind_one a (ends_more b (skip_ends class.Line bytes))))
    (passes_either _ (passes_comment (a ∷ b ∷ bytes) (after_comment 0 bytes) (comment_gives 0 bytes) (λ r e. behind_one a (ends_more b e))) passes_nothing))

pub gap_behind : (bytes rest : List ℕ) → gap bytes ≡ past rest → Behind 1 bytes rest
gap_behind bytes rest e = (gap_passes bytes).is rest e

pub skips_ends : {bytes rest : List ℕ} → Skips bytes rest → Ends bytes rest
skips_ends {rest = rest} (no_gap e) = ends_all rest
skips_ends {bytes} (gap_then {mid = m} e s) = ends_behind (behind_ends (gap_behind bytes m e)) (skips_ends s)

-- ---- tokens

record Leads (n : ℕ) (bytes : List ℕ) (p : Piece) : Type 0 where
  is : (x : Lexeme) (rest : List ℕ) → p ≡ token x rest → Behind n bytes rest

leads_token : {n : ℕ} {bytes : List ℕ} (x : Lexeme) (rest : List ℕ) → Behind n bytes rest → Leads n bytes (token x rest)
leads_token {n} {bytes} x rest h = record { is = λ y r e. let f : rest ≡ r = cc in subst (λ (q : List ℕ). Behind n bytes q) f h }

leads_none : {n : ℕ} {bytes : List ℕ} {kind : FaultKind} → Leads n bytes (no_token kind)
leads_none = record { is = λ y r e. absurd (let none : ⊥ = cc in none) }

leads_either : (t : Bool) {n : ℕ} {bytes : List ℕ} {x y : Piece} → Leads n bytes x → Leads n bytes y → Leads n bytes (cond t x y)
leads_either true h k = h
leads_either false h k = k

leads_short : (o : Option Sign) (b : ℕ) (bytes : List ℕ) → Leads 1 (b ∷ bytes) (short_piece o bytes)
leads_short None b bytes = leads_none
leads_short (Some x) b bytes = leads_token (sign x) bytes (behind_one b (ends_all bytes))

sign_leads : (b : ℕ) (bytes : List ℕ) → Leads 1 (b ∷ bytes) (first_sign (b ∷ bytes))
unfolding first_sign
sign_leads b bytes =
    let long : (x : Sign) → Leads 1 (b ∷ bytes) (token (sign x) (drop 3 (b ∷ bytes))) = λ x. leads_token (sign x) (drop 2 bytes) (behind_one b (ends_drop 2 bytes)) in
    leads_either _ (long s.OpenArrow) (leads_either _ (long s.CloseArrow) (leads_either _ (long s.Arrow) (leads_either _ (long s.Implies) (leads_either _ (long s.Iff) (leads_short (short_sign b) b bytes)))))

long_leads : (o : Option Wide) (b c d : ℕ) (bytes : List ℕ) → Leads 1 (b ∷ c ∷ d ∷ bytes) (long_piece o bytes)
long_leads None b c d bytes = leads_none
long_leads (Some x) b c d bytes = leads_token (wide x) bytes (behind_one b (ends_more c (ends_more d (ends_all bytes))))

first_long_leads : (b : ℕ) (bytes : List ℕ) → Leads 1 (b ∷ bytes) (first_long (b ∷ bytes))
first_long_leads b [] = leads_none
first_long_leads b (c ∷ []) = leads_none
first_long_leads b (c ∷ d ∷ bytes) = long_leads (long_sign b c d) b c d bytes

wide_leads : (b : ℕ) (bytes : List ℕ) → Leads 1 (b ∷ bytes) (first_wide (b ∷ bytes))
unfolding first_wide
wide_leads b bytes = leads_either _ (leads_token (wide s.Not) (drop 1 bytes) (behind_one b (ends_drop 1 bytes))) (first_long_leads b bytes)

block_leads : (b : ℕ) (bytes : List ℕ) (o : Option (List ℕ)) → Gives 2 (drop 1 bytes) o → Leads 1 (b ∷ bytes) (close_block o)
block_leads b bytes None g = leads_none
block_leads b bytes (Some rest) g = leads_token block rest (behind_one b (ends_behind (ends_drop 1 bytes) (behind_ends (g.is rest refl))))

piece_leads : (bytes : List ℕ) → Leads 1 bytes (piece bytes)
unfolding piece first_sign
piece_leads [] = leads_none
piece_leads (b ∷ bytes) =
    let w = skip class.Word bytes in
    let c = skip class.Constant bytes in
    let quoted = leads_either (nat_lt (length c) (length bytes) && is_first (λ b. b == 39) c)
    (leads_token (constant (before bytes c)) (drop 1 c) (behind_one b (ends_behind (skip_ends class.Constant bytes) (ends_drop 1 c)))) leads_none in
    leads_either (is_ascii_alphanumeric b) (leads_token (word (before (b ∷ bytes) w)) w (behind_one b (skip_ends class.Word bytes)))
    (leads_either (b == 39) quoted (leads_either _ (block_leads b bytes (after_block (drop 1 bytes)) (block_gives (drop 1 bytes))) (leads_either _ (wide_leads b bytes) (sign_leads b bytes))))

pub piece_behind : (bytes : List ℕ) (x : Lexeme) (rest : List ℕ) → piece bytes ≡ token x rest → Behind 1 bytes rest
piece_behind bytes x rest e = (piece_leads bytes).is x rest e

closed_leads : (bytes : List ℕ) (o : Option (List ℕ)) → Gives 0 bytes o → Leads 0 bytes (closed_by bytes o)
closed_leads bytes None g = leads_none
closed_leads bytes (Some rest) g = leads_token (solve (before bytes rest)) (drop 1 rest) (record { front = (ends_behind (behind_ends (g.is rest refl)) (ends_drop 1 rest)).0; are = (ends_behind (behind_ends (g.is rest refl)) (ends_drop 1 rest)).1; long = omega arith })

pub goal_ends : (bytes : List ℕ) (x : Lexeme) (rest : List ℕ) → closed_by bytes (to_closing false 0 bytes) ≡ token x rest → Ends bytes rest
goal_ends bytes x rest e = behind_ends ((closed_leads bytes (to_closing false 0 bytes) (closing_gives false 0 bytes)).is x rest e)

pub reads_ends : {bytes rest : List ℕ} {p : Piece} {x : Lexeme} → Reads bytes p → p ≡ token x rest → Ends bytes rest
reads_ends {bytes} {rest} {x = x} (as_it_is e d) f = behind_ends (piece_behind bytes x rest (e ∙ f))
reads_ends {bytes} {rest} {x = x} (bare e t n) f = behind_ends (piece_behind bytes x rest (e ∙ f))
reads_ends {bytes} {rest} {x = y} (goal {rest = r} {inside = i} {x = x} e t h k) f =
    ends_behind (behind_ends (piece_behind bytes x r e)) (ends_behind (skips_ends h) (ends_more 40 (goal_ends i y rest (k ∙ f))))

pub next_ends : {size : ℕ} {bytes rest : List ℕ} {t : Token} → IsNext size bytes t rest → Ends bytes rest
next_ends n = ends_behind (skips_ends n.skips) (reads_ends n.reads refl)
