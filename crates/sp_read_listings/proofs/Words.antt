-- The words of a heuristic, which are read up to where the next item begins.
use Rattle.std.proofs.Common.{◌≡◌, ℕ, true, false, true≢false, List, [], ◌∷◌, ◌++◌, refl, sym, ap, ◌∙◌, append_assoc}
use Rattle.sp_spec_text.specs.Token.{Lexeme}
use Rattle.sp_spec_text.specs.Lists.{NoReading}
use Rattle.sp_spec_text.specs.Theories as g
use Rattle.sp_spec_text.specs.Theories.{SpellsWords}
use Rattle.sp_read_parts.specs.Parts.{IsNameFirst, name}
use Rattle.sp_read_parts.proofs.One.{One}
use Rattle.sp_read_listings.specs.Heuristics.{begins_item, AreWords, last_word, one_more}
use Rattle.sp_read_listings.proofs.Listed.{Onward, onward_none}

pub words_last : {tokens rest ahead : List Lexeme} {found : List (List ℕ)} {w : List ℕ} → Onward AreWords tokens found rest → IsNameFirst rest w ahead → begins_item ahead ≡ true → AreWords tokens (found ++ w ∷ []) ahead
words_last {ahead = a} {w = w} g h e = g.goes (w ∷ []) a (at h e)
  where
    at : {ts r : List Lexeme} {w : List ℕ} → IsNameFirst ts w r → begins_item r ≡ true → AreWords ts (w ∷ []) r
    at (name h) e = last_word h e

-- behind a name, where no item begins
no_words : {rest ahead : List Lexeme} {w : List ℕ} → IsNameFirst rest w ahead → begins_item ahead ≡ false → NoReading AreWords ahead → NoReading AreWords rest
no_words h e n = record { none = λ ws r k. at k h e n }
  where
    at : {ts r ahead : List Lexeme} {ws : List (List ℕ)} {w : List ℕ} → AreWords ts ws r → IsNameFirst ts w ahead → begins_item ahead ≡ false → NoReading AreWords ahead → ⊥
    at (last_word k b) (name h) e n = true≢false (sym b ∙ e)
    at (one_more {ws = ws} {rest = r} k b i) (name h) e n = n.none ws r i

pub words_more : {tokens rest ahead : List Lexeme} {found : List (List ℕ)} {w : List ℕ} → Onward AreWords tokens found rest → IsNameFirst rest w ahead → begins_item ahead ≡ false → Onward AreWords tokens (found ++ w ∷ []) ahead
words_more {w = w} g h e = record {
  goes = λ ws r k. rw append_assoc (g.goes (w ∷ ws) r (at h e k));
  stops = λ n. g.stops (no_words h e n);
}
  where
    at : {ts r ahead : List Lexeme} {ws : List (List ℕ)} {w : List ℕ} → IsNameFirst ts w ahead → begins_item ahead ≡ false → AreWords ahead ws r → AreWords ts (w ∷ ws) r
    at (name h) e k = one_more h e k

pub words_no_name : {tokens rest : List Lexeme} {found : List (List ℕ)} → Onward AreWords tokens found rest → NoReading IsNameFirst rest → NoReading AreWords tokens
words_no_name g n = g.stops (record { none = λ ws r k. at k n })
  where
    at : {ts r : List Lexeme} {ws : List (List ℕ)} → AreWords ts ws r → NoReading IsNameFirst ts → ⊥
    at (last_word {w = w} {rest = r} h e) n = n.none w r (name h)
    at (one_more {w = w} {tokens = ts} h e k) n = n.none w ts (name h)

pub ruleset words = (onward_none, words_last, words_no_name)

words_one : {tokens r q : List Lexeme} {ws us : List (List ℕ)} → AreWords tokens ws r → AreWords tokens us q → (ws ≡ us) × (r ≡ q)
words_one (last_word h a) (last_word k b) = (refl, refl)
words_one (last_word h a) (one_more k b l) = absurd (true≢false (sym a ∙ b))
words_one (one_more h a l) (last_word k b) = absurd (true≢false (sym b ∙ a))
words_one (one_more {w = w} h a i) (one_more k b j) = let o = words_one i j in (ap (λ (vs : List (List ℕ)). w ∷ vs) o.0, o.1)

pub words' : One AreWords
words' = record { one = words_one }

pub words_spelled : {tokens rest : List Lexeme} {ws : List (List ℕ)} → AreWords tokens ws rest → SpellsWords tokens ws rest
words_spelled (last_word h e) = g.one_word h
words_spelled (one_more h e k) = g.more_words h (words_spelled k)

no_words_none : {tokens r : List Lexeme} {ws : List (List ℕ)} → SpellsWords tokens ws r → ws ≡ [] → ⊥
no_words_none (g.one_word h) e = cc
no_words_none (g.more_words h k) e = cc

tail_of_words : {w u : List ℕ} {ws us : List (List ℕ)} → w ∷ ws ≡ u ∷ us → ws ≡ us
tail_of_words e = cc

words_behind : {ts us r q : List Lexeme} {ws vs : List (List ℕ)} → SpellsWords ts ws r → SpellsWords us vs q → ts ≡ us → ws ≡ vs → r ≡ q
words_behind (g.one_word h) (g.one_word k) e f = cc
words_behind (g.one_word h) (g.more_words k l) e f = absurd (no_words_none l (sym (tail_of_words f)))
words_behind (g.more_words k l) (g.one_word h) e f = absurd (no_words_none l (tail_of_words f))
words_behind (g.more_words {tokens = ts} h i) (g.more_words {tokens = us} k l) e f = let d : ts ≡ us = cc in words_behind i l d (tail_of_words f)

-- as many words leave one rest
pub words_rest : {tokens r q : List Lexeme} {ws : List (List ℕ)} → SpellsWords tokens ws r → SpellsWords tokens ws q → r ≡ q
words_rest h k = words_behind h k refl refl
