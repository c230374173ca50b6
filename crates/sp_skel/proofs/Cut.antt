-- Texts are cut into words from the left, byte by byte.
use Rattle.std.proofs.Common.{◌≡◌, ℕ, suc, Bool, true, false, if◌then◌else◌, List, [], ◌∷◌, ◌++◌, length, Option, Some, None, refl, sym, ap, append_assoc}
use Rattle.std.specs.Prelude.{◌&&◌, ◌==◌, not}
use Rattle.sp_spec_text.specs.Blanks.{onto_first}
use Rattle.sp_skel.specs.MoveTexts.{words_from}

-- with these bytes before the first
abbrev pub joined : List ℕ → List (List ℕ) → List (List ℕ)
joined w [] = w ∷ []
joined w (v ∷ others) = (w ++ v) ∷ others

-- how much is left
abbrev pub left : Option (List ℕ) → ℕ
left None = 0
left (Some text) = suc (length text)

joined_onto : (w : List ℕ) (b : ℕ) (ws : List (List ℕ)) → joined w (onto_first b ws) ≡ joined (w ++ b ∷ []) ws
joined_onto w b [] = refl
joined_onto w b (v ∷ ws) = ap (λ (x : List ℕ). x ∷ ws) (sym (append_assoc w (b ∷ []) v))

begun_onto : (b : ℕ) (ws : List (List ℕ)) → joined [] (onto_first b ws) ≡ onto_first b ws
begun_onto b [] = refl
begun_onto b (v ∷ ws) = refl

pub begun : (quoted : Bool) (text : List ℕ) → joined [] (words_from quoted text) ≡ words_from quoted text
unfolding words_from
begun quoted [] = refl
begun quoted (b ∷ bytes) = at (b == 32 && not quoted)
  where
    at : (t : Bool) → joined [] (if t then [] ∷ words_from quoted bytes else onto_first b (words_from (if b == 39 then not quoted else quoted) bytes))
        ≡ (if t then [] ∷ words_from quoted bytes else onto_first b (words_from (if b == 39 then not quoted else quoted) bytes))
    at true = refl
    at false = begun_onto b (words_from (if b == 39 then not quoted else quoted) bytes)
