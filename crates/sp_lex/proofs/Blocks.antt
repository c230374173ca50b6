-- The text behind `{*`, byte by byte.
use Rattle.std.proofs.Common.{◌≡◌, ℕ, ◌<◌, ◌≤◌, Bool, true, false, cond, List, [], ◌∷◌, length, Option, Some, None, refl, sym, ap, ◌∙◌, arith}
use Rattle.std.specs.Prelude.{◌==◌, ◌&&◌}
use Rattle.sp_spec_text.specs.Lex.{after_block}
use Rattle.sp_lex.proofs.Gaps.{LeavesMost, leaves_none, leaves_some, leaves_more, either}

-- the two bytes are `*}`
abbrev pub closes : ℕ → ℕ → Bool
closes a b = a == 42 && b == 125

block_at : {a b : ℕ} {rest after behind : List ℕ} {total : Option (List ℕ)} → after_block rest ≡ total → rest ≡ a ∷ after → after ≡ b ∷ behind → after_block (a ∷ b ∷ behind) ≡ total
block_at {a} {b} {rest} {after} {behind} h e f =
    let k : a ∷ b ∷ behind ≡ rest = cc in ap (λ (x : List ℕ). after_block x) k ∙ h

pub block_ends : {a b : ℕ} {rest after behind : List ℕ} {total : Option (List ℕ)} → after_block rest ≡ total → rest ≡ a ∷ after → after ≡ b ∷ behind → closes a b ≡ true → Some behind ≡ total
unfolding after_block
block_ends h e f m = rw m at (block_at h e f)

pub block_goes : {a b : ℕ} {rest after behind : List ℕ} {total : Option (List ℕ)} → after_block rest ≡ total → rest ≡ a ∷ after → after ≡ b ∷ behind → closes a b ≡ false → after_block after ≡ total
unfolding after_block
block_goes {after = after} h e f m = rw f (rw m at (block_at h e f))

pub ruleset blocks = (block_ends, block_goes)

pub block_leaves : (bytes : List ℕ) → LeavesMost (length bytes) (after_block bytes)
unfolding after_block
block_leaves [] = leaves_none
block_leaves (a ∷ []) = leaves_none
block_leaves (a ∷ b ∷ bytes) =
    let two : length bytes ≤ length (a ∷ b ∷ bytes) = omega arith in
    let one : length (b ∷ bytes) ≤ length (a ∷ b ∷ bytes) = omega arith in
    either (closes a b) (leaves_some bytes two) (leaves_more (block_leaves (b ∷ bytes)) one)
