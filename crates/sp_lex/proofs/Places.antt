-- Tokens stand in the text, one behind the other.
use Rattle.std.proofs.Common.{◌≡◌, ℕ, ◌+◌, ◌<◌, ◌≤◌, Bool, true, false, cond, List, [], ◌∷◌, length, drop, Option, Some, None, refl, ap, subst, length-drop, arith}
use Rattle.std.specs.Prelude.{◌&&◌, ◌||◌, ◌==◌, nat_lt}
use Rattle.std.specs.Char.{is_ascii_alphanumeric}
use Rattle.sp_spec_text.specs.Signs.{Sign, Wide}
use Rattle.sp_spec_text.specs.Bytes.{FaultKind}
use Rattle.sp_spec_text.specs.Bytes as class
use Rattle.sp_spec_text.specs.Signs as s
use Rattle.sp_spec_text.specs.Token.{Lexeme, word, constant, sign, solve, wide, block, Token}
use Rattle.sp_spec_text.specs.Lex.{skip, Piece, token, no_token, short_sign, short_piece, first_short, first_sign, long_sign, long_piece, first_long, first_wide, after_block, close_block, piece, before, is_first, to_closing, closed_by, Reads, as_it_is, bare, goal, IsNext, AreTokens, no_more, last, next}
use Rattle.sp_spec_text.specs.Ends.{place_behind, is_any}
use Rattle.sp_lex.proofs.Pieces.{skip_shorter}
use Rattle.sp_lex.proofs.Gaps.{LeavesMost, skips_shorter}
use Rattle.sp_lex.proofs.Blocks.{block_leaves}
use Rattle.sp_lex.proofs.Solve.{closing_leaves}

-- fewer than these bytes are left
record Leaves (n : ℕ) (p : Piece) : Type 0 where
  less : (x : Lexeme) (rest : List ℕ) → p ≡ token x rest → length rest < n

leaves_token : {n : ℕ} (x : Lexeme) (rest : List ℕ) → length rest < n → Leaves n (token x rest)
leaves_token x rest lt = record { less = λ y r e. let f : rest ≡ r = cc in omega (arith, ap length f) }

leaves_none : {n : ℕ} {kind : FaultKind} → Leaves n (no_token kind)
leaves_none = record { less = λ y r e. absurd cc }

either : (t : Bool) {n : ℕ} {x y : Piece} → Leaves n x → Leaves n y → Leaves n (cond t x y)
either true h k = h
either false h k = k

short_leaves : (o : Option Sign) (bytes : List ℕ) (n : ℕ) → length bytes < n → Leaves n (short_piece o bytes)
short_leaves None bytes n lt = leaves_none
short_leaves (Some x) bytes n lt = leaves_token (sign x) bytes lt

dropped : (k : ℕ) (b : ℕ) (bytes : List ℕ) → length (drop (k + 1) (b ∷ bytes)) < length (b ∷ bytes)
dropped k b bytes = rw length-drop (omega arith)

drop_less : (k : ℕ) (bytes : List ℕ) (n : ℕ) → length bytes < n → length (drop k bytes) < n
drop_less k bytes n lt = rw length-drop (omega arith)

sign_leaves : (b : ℕ) (bytes : List ℕ) → Leaves (length (b ∷ bytes)) (first_sign (b ∷ bytes))
unfolding first_sign
sign_leaves b bytes =
    let n = length (b ∷ bytes) in
    let three : length (drop 3 (b ∷ bytes)) < n = dropped 2 b bytes in
    let sign_of : (x : Sign) → Leaves n (token (sign x) (drop 3 (b ∷ bytes))) = λ x. leaves_token (sign x) (drop 3 (b ∷ bytes)) three in
    let last : Leaves n (first_short (b ∷ bytes)) = short_leaves (short_sign b) bytes n (omega arith) in
    either _ (sign_of s.OpenArrow) (either _ (sign_of s.CloseArrow) (either _ (sign_of s.Arrow) (either _ (sign_of s.Implies) (either _ (sign_of s.Iff) last))))

long_leaves : (o : Option Wide) (bytes : List ℕ) (n : ℕ) → length bytes < n → Leaves n (long_piece o bytes)
long_leaves None bytes n lt = leaves_none
long_leaves (Some x) bytes n lt = leaves_token (wide x) bytes lt

first_long_leaves : (bytes : List ℕ) → Leaves (length bytes) (first_long bytes)
first_long_leaves [] = leaves_none
first_long_leaves (a ∷ []) = leaves_none
first_long_leaves (a ∷ b ∷ []) = leaves_none
first_long_leaves (a ∷ b ∷ c ∷ bytes) = long_leaves (long_sign a b c) bytes (length (a ∷ b ∷ c ∷ bytes)) (omega arith)

wide_leaves : (b : ℕ) (bytes : List ℕ) → Leaves (length (b ∷ bytes)) (first_wide (b ∷ bytes))
unfolding first_wide
wide_leaves b bytes = either _ (leaves_token (wide s.Not) (drop 2 (b ∷ bytes)) (dropped 1 b bytes)) (first_long_leaves (b ∷ bytes))

block_piece_leaves : {n : ℕ} (bytes : List ℕ) (o : Option (List ℕ)) → LeavesMost (length bytes) o → length bytes < n → Leaves n (close_block o)
block_piece_leaves bytes None l lt = leaves_none
block_piece_leaves bytes (Some rest) l lt = let k = l.most rest refl in leaves_token block rest (omega arith)

piece_leaves : (bytes : List ℕ) → Leaves (length bytes) (piece bytes)
unfolding piece first_sign
piece_leaves [] = leaves_none
piece_leaves (b ∷ bytes) =
    let n = length (b ∷ bytes) in
    let constants : length (drop 1 (skip class.Constant bytes)) < n = drop_less 1 (skip class.Constant bytes) n (let k = skip_shorter class.Constant bytes in omega arith) in
    let words : length (skip class.Word bytes) < n = let k = skip_shorter class.Word bytes in omega arith in
    let w = skip class.Word bytes in
    let c = skip class.Constant bytes in
    let quoted = either (nat_lt (length c) (length bytes) && is_first (λ b. b == 39) c) (leaves_token (constant (before bytes c)) (drop 1 c) constants) leaves_none in
    let inside = drop 2 (b ∷ bytes) in
    let blocks = block_piece_leaves {n = n} inside (after_block inside) (block_leaves inside) (dropped 1 b bytes) in
    either (is_ascii_alphanumeric b) (leaves_token (word (before (b ∷ bytes) w)) w words)
    (either (b == 39) quoted (either _ blocks (either (b == 194 || b == 226) (wide_leaves b bytes) (sign_leaves b bytes))))

solve_leaves : {n : ℕ} (bytes : List ℕ) (o : Option (List ℕ)) → LeavesMost (length bytes) o → length bytes < n → Leaves n (closed_by bytes o)
solve_leaves bytes None l lt = leaves_none
solve_leaves bytes (Some rest) l lt = let k = l.most rest refl in leaves_token (solve (before bytes rest)) (drop 1 rest) (drop_less 1 rest _ (omega arith))

reads_leaves : {bytes : List ℕ} {p : Piece} → Reads bytes p → Leaves (length bytes) p
reads_leaves {bytes} (as_it_is e d) = subst (λ (p : Piece). Leaves (length bytes) p) e (piece_leaves bytes)
reads_leaves {bytes} (bare e t n) = subst (λ (p : Piece). Leaves (length bytes) p) e (piece_leaves bytes)
reads_leaves {bytes} (goal {rest = r} {inside = i} {x = x} e t h f) =
    let k = (piece_leaves bytes).less x r e in
    let l = skips_shorter h in
    subst (λ (p : Piece). Leaves (length bytes) p) f (solve_leaves i (to_closing false 0 i) (closing_leaves false 0 i) (omega arith))

-- fewer bytes follow the next token
pub next_shorter : {size : ℕ} {bytes rest : List ℕ} {t : Token} → IsNext size bytes t rest → length rest < length bytes
next_shorter {rest = rest} {t = t} n =
    let h = (reads_leaves n.reads).less t.lexeme rest refl in
    let k = skips_shorter n.skips in
    omega arith

chosen : (t : Bool) (a b c : ℕ) → a ≤ c → b ≤ c → cond t a b ≤ c
chosen true a b c h k = h
chosen false a b c h k = k

-- the last token that passes a test ends before the last of all, and that in the text
pub places_in_order : {size : ℕ} {bytes : List ℕ} {ts : List Token} (p : Lexeme → Bool) (a b : ℕ) → AreTokens size bytes ts → a ≤ b → b + length bytes ≤ size → (place_behind p a ts ≤ place_behind is_any b ts) × (place_behind is_any b ts ≤ size)
places_in_order p a b (no_more e) le in_text = (le, omega arith)
places_in_order p a b (last {t = t} n e) le in_text = let k = n.end in let lt = next_shorter n in (chosen (p t.lexeme) t.end a t.end (omega arith) (omega arith), omega arith)
places_in_order p a b (next {t = t} n e h) le in_text =
    let k = n.end in
    let lt = next_shorter n in
    places_in_order p (cond (p t.lexeme) t.end a) t.end h (chosen (p t.lexeme) t.end a t.end (omega arith) (omega arith)) (omega arith)
