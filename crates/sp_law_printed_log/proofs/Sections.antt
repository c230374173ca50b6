-- A text of sections, each a line and the block of lines below it: of the lines that begin as a verdict's does, each is the first of a section.
use Rattle.std.proofs.Common.{◌≡◌, ℕ, true, false, List, [], ◌∷◌, ◌++◌, inl, inr, refl, sym, ap, ◌∙◌, append_assoc}
use Rattle.sp_spec.specs.Lists.{Member, Every}
use Rattle.sp_spec_text.specs.Names.{IsWord}
use Rattle.sp_spec_text.specs.Blanks.{lines}
use Rattle.sp_law_printed_log.proofs.NoFeeds.{NoFeed, line_cut}
use Rattle.sp_law_printed_log.proofs.WordSplits.{in_word, word_bytes, split_word}

-- A line that doesn't begin with a word, a blank and a bracket.
pub record IsNoVerdict (line : List ℕ) : Type 0 where
  pub none : (name rest : List ℕ) → IsWord name → line ≡ name ++ 32 ∷ 40 ∷ rest → ⊥

-- what begins with a word and another byte that stands in no word
pub behind_word : (w : List ℕ) (a : ℕ) (xs : List ℕ) → Every (λ (b : ℕ). in_word b ≡ true) w → in_word a ≡ false → (a ≡ 32 → ⊥) → IsNoVerdict (w ++ a ∷ xs)
behind_word w a xs h n other = record { none = λ name rest k e. other (split_word w name a 32 xs (40 ∷ rest) h (word_bytes name k) n refl e).byte }

-- and what begins with a word, a blank and no bracket
pub behind_blank : (w : List ℕ) (a : ℕ) (xs : List ℕ) → Every (λ (b : ℕ). in_word b ≡ true) w → (a ≡ 40 → ⊥) → IsNoVerdict (w ++ 32 ∷ a ∷ xs)
behind_blank w a xs h other = record { none = λ name rest k e. let s = (split_word w name 32 32 (a ∷ xs) (40 ∷ rest) h (word_bytes name k) refl refl e).others in other cc }

-- a line with nothing on it
pub nothing_there : IsNoVerdict []
nothing_there = record { none = λ name rest k e. at name (32 ∷ 40 ∷ rest) k e }
  where
    at : (name rest : List ℕ) → IsWord name → [] ≡ name ++ rest → ⊥
    at [] rest k e = k
    at (b ∷ name) rest k e = cc

-- the lines before one that begins so
pub record Passed (others : List (List ℕ)) (line : List ℕ) (below : List (List ℕ)) : Type 0 where
  pub above : List (List ℕ)
  pub are : others ≡ above ++ line ∷ below

module _ (name rest : List ℕ) (named : IsWord name) (line : List ℕ) (line_is : line ≡ name ++ 32 ∷ 40 ∷ rest) where
  pub pass : (xs ys above below : List (List ℕ)) → Every IsNoVerdict xs → xs ++ ys ≡ above ++ line ∷ below → Passed ys line below
  pass [] ys above below h e = record { above = above; are = e }
  pass (x ∷ xs) ys [] below h e = absurd (h.0.none name rest named (let same : x ≡ line = cc in same ∙ line_is))
  pass (x ∷ xs) ys (a ∷ above) below h e = pass xs ys above below h.1 cc

module _ {A : Type 0} (first : A → List ℕ) (block : A → List (List ℕ)) where
  abbrev pub section_lines : List A → List (List ℕ)
  section_lines [] = []
  section_lines (o ∷ os) = first o ∷ (block o ++ section_lines os)

  -- the section that the line begins
  pub record Begins (os : List A) (line : List ℕ) (below : List (List ℕ)) : Type 0 where
    pub section : A
    pub among : Member section os
    pub line_is : line ≡ first section
    pub behind : List (List ℕ)
    pub below_is : below ≡ block section ++ behind

  later : (o : A) (os : List A) (line : List ℕ) (below : List (List ℕ)) → Begins os line below → Begins (o ∷ os) line below
  later o os line below b = record { section = b.section; among = inr b.among; line_is = b.line_is; behind = b.behind; below_is = b.below_is }

  pub begins : (name rest : List ℕ) → IsWord name → (line : List ℕ) → line ≡ name ++ 32 ∷ 40 ∷ rest
      → (os : List A) → Every (λ (o : A). Every IsNoVerdict (block o)) os → (tail : List (List ℕ)) → Every IsNoVerdict tail
      → (above below : List (List ℕ)) → section_lines os ++ tail ≡ above ++ line ∷ below → Begins os line below
  begins name rest named line is [] h tail k above below e = absurd (at tail above k e)
    where
      at : (tail above : List (List ℕ)) → Every IsNoVerdict tail → tail ≡ above ++ line ∷ below → ⊥
      at [] [] h e = cc
      at [] (a ∷ above) h e = cc
      at (x ∷ tail) [] h e = h.0.none name rest named (let same : x ≡ line = cc in same ∙ is)
      at (x ∷ tail) (a ∷ above) h e = at tail above h.1 cc
  begins name rest named line is (o ∷ os) h tail k [] below e =
      record { section = o; among = inl refl; line_is = cc; behind = section_lines os ++ tail; below_is = let b : (block o ++ section_lines os) ++ tail ≡ below = cc in sym b ∙ append_assoc (block o) (section_lines os) tail }
  begins name rest named line is (o ∷ os) h tail k (a ∷ above) below e =
      let b : (block o ++ section_lines os) ++ tail ≡ above ++ line ∷ below = cc in
      let p = pass name rest named line is (block o) (section_lines os ++ tail) above below h.0 (sym (append_assoc (block o) (section_lines os) tail) ∙ b) in
      later o os line below (begins name rest named line is os h.1 tail k p.above below p.are)

  -- the text of the sections: each first line with its line feed, and the text of its block
  module _ (text : A → List ℕ) where
    abbrev pub sections_text : List A → List ℕ
    sections_text [] = []
    sections_text (o ∷ os) = (first o ++ 10 ∷ []) ++ (text o ++ sections_text os)

    -- the first line is one, and the block's lines are those of its text
    pub record IsCut (o : A) : Type 0 where
      pub no_feed : NoFeed (first o)
      pub block_is : (behind : List ℕ) → lines (text o ++ behind) ≡ block o ++ lines behind

    pub sections_cut : (os : List A) → Every IsCut os → (behind : List ℕ) → lines (sections_text os ++ behind) ≡ section_lines os ++ lines behind
    sections_cut [] h behind = refl
    sections_cut (o ∷ os) h behind =
        let others = text o ++ sections_text os in
        let one : sections_text (o ∷ os) ++ behind ≡ first o ++ 10 ∷ (others ++ behind) =
        append_assoc (first o ++ 10 ∷ []) others behind ∙ append_assoc (first o) (10 ∷ []) (others ++ behind) in
        ap lines one ∙ line_cut (first o) (others ++ behind) h.0.no_feed
        ∙ ap (λ (ls : List (List ℕ)). first o ∷ ls)
        (ap lines (append_assoc (text o) (sections_text os) behind) ∙ h.0.block_is (sections_text os ++ behind)
        ∙ ap (λ (ls : List (List ℕ)). block o ++ ls) (sections_cut os h.1 behind) ∙ sym (append_assoc (block o) (section_lines os) (lines behind)))
