-- A text is its first line, and those behind the line feed.
use Rattle.std.proofs.Common.{◌≡◌, ℕ, ◌≤◌, Bool, true, false, cond, List, [], ◌∷◌, length, Some, None, refl, sym, ap, ◌∙◌, arith}
use Rattle.std.specs.Prelude.{◌==◌}
use Rattle.sp_spec_text.specs.Lex.{before}
use Rattle.sp_spec_text.specs.Blanks.{lines, onto_first}
use Rattle.sp_spec_text.proofs.Rests.{before_self, before_more}
use Rattle.sp_read_steps.specs.Reading.{to_feed, then_lines}

feed_shorter : (text : List ℕ) → length (to_feed text) ≤ length text
unfolding to_feed
feed_shorter [] = omega arith
feed_shorter (b ∷ bytes) = by_test (b == 10) (feed_shorter bytes)
  where
    by_test : (t : Bool) → length (to_feed bytes) ≤ length bytes → length (cond t (b ∷ bytes) (to_feed bytes)) ≤ length (b ∷ bytes)
    by_test true h = omega arith
    by_test false h = omega arith

pub cut_last : (text : List ℕ) → to_feed text ≡ [] → lines text ≡ then_lines (before text []) None
unfolding to_feed lines
cut_last [] h = refl
cut_last (c ∷ text) h = by_test (c == 10) h (λ k. cut_last text k)
  where
    by_test : (t : Bool) → cond t (c ∷ text) (to_feed text) ≡ [] → (to_feed text ≡ [] → lines text ≡ then_lines (before text []) None)
        → cond t ([] ∷ lines text) (onto_first c (lines text)) ≡ then_lines (before (c ∷ text) []) None
    by_test true k f = absurd (let none : ⊥ = cc in none)
    by_test false k f = rw (before_more c text [] (omega arith)) (ap (onto_first c) (f k))

pub cut_more : (text behind : List ℕ) (b : ℕ) → to_feed text ≡ b ∷ behind → lines text ≡ then_lines (before text (b ∷ behind)) (Some behind)
unfolding to_feed lines
cut_more [] behind b h = absurd (let none : ⊥ = cc in none)
cut_more (c ∷ text) behind b h = by_test (c == 10) h (λ k. cut_more text behind b k)
  where
    by_test : (t : Bool) → cond t (c ∷ text) (to_feed text) ≡ b ∷ behind → (to_feed text ≡ b ∷ behind → lines text ≡ then_lines (before text (b ∷ behind)) (Some behind))
        → cond t ([] ∷ lines text) (onto_first c (lines text)) ≡ then_lines (before (c ∷ text) (b ∷ behind)) (Some behind)
    by_test true k f =
        let e : text ≡ behind = cc in
        let d : before (c ∷ text) (b ∷ behind) ≡ [] = ap (before (c ∷ text)) (sym k) ∙ before_self (c ∷ text) in
        ap (λ (w : List ℕ). w ∷ lines text) (sym d) ∙ ap (λ (w : List ℕ). before (c ∷ text) (b ∷ behind) ∷ lines w) e
    by_test false k f =
        let l : length (b ∷ behind) ≤ length text = omega (arith, feed_shorter text, ap length k) in
        rw (before_more c text (b ∷ behind) l) (ap (onto_first c) (f k))

pub ruleset cuts = (cut_last, cut_more)
