-- What stands behind the first word of a text.
use Rattle.std.proofs.Common.{◌≡◌, ◌+◌, ◌==◌, ℕ, suc, Bool, true, false, List, [], ◌∷◌, drop, not, refl, ap, ◌∙◌, if◌then◌else◌, cond, arith}
use Rattle.std.specs.List.{position_or_len, after_first}
use Rattle.sp_graph.specs.Graph.{behind_word}

-- either the byte is the blank that ends the word, or the rest goes on
step : (ends : Bool) (c : ℕ) (cs rest : List ℕ) (n : ℕ) → rest ≡ drop (n + 1) cs
    → (if ends then cs else rest) ≡ drop (cond (not ends) (1 + n) 0 + 1) (c ∷ cs)
step true c cs rest n e = refl
step false c cs rest n e = e ∙ ap (λ k. drop k (c ∷ cs)) (let k : suc (n + 1) ≡ 1 + n + 1 = omega arith in k)

pub word_passed : (text : List ℕ) → behind_word text ≡ after_first (λ b. b == 32) text
word_passed [] = refl
word_passed (c ∷ cs) = step (c == 32) c cs (behind_word cs) (position_or_len (λ b. b == 32) cs) (word_passed cs)
