-- A text is that of one line, and lines are cut at their ends.
use Rattle.std.proofs.Common.{◌≡◌, ℕ, List, [], ◌∷◌, ◌++◌, map, reverse, codes, refl, sym, ap, ◌∙◌, append_assoc, arith}
use Rattle.std.proofs.lemmas.List.{append_cancel_left, append_cancel_right, reverse-append}
use Rattle.sp_spec.specs.Lists.{Every}
use Rattle.sp_spec.specs.Term.{Ground}
use Rattle.sp_spec.specs.Signature.{Symbol}
use Rattle.sp_spec.specs.Execution.{use_rule, put_in}
use Rattle.sp_spec_text.specs.Blanks.{lines}
use Rattle.sp_spec_printed.specs.Printed.{term_text, step_text}
use Rattle.sp_spec_printed.specs.StepLines.{HaveNames, IsWritable}
use Rattle.sp_read_steps.proofs.One.{step_one}
use Rattle.sp_read_steps.proofs.StepTexts.{step_of_text}
use Rattle.sp_law_printed_log.proofs.NoFeeds.{NoFeed, line_cut, no_feed_in, no_feed_append, no_feed_term}
use Rattle.sp_law_printed_log.proofs.ReadBack.{writable_is_over, steps_are_read_back_lem}
use Rattle.sp_spec_log_lines.specs.Line.{Way, as_public, as_own, as_made, along_chain, Line, rule_line, send_line, learn_line, way_text, line_text}
use Rattle.sp_spec_log_lines.specs.Block.{lines_text}
use Rattle.sp_spec_log_lines.specs.Told.{IsWritableLine, IsLogLine}
use Rattle.sp_law_log_lines.specs.Laws.{LogLinesAreReadBack}

-- ---- the words for how a message was learnt

-- what stands behind a message that was learnt
abbrev pub way_tail : Way → List ℕ
way_tail way = codes " (" ++ (way_text way ++ codes ")")

-- the third byte from the end tells which it is
abbrev mark : Way → ℕ
mark as_public = 117
mark as_own = 119
mark as_made = 100
mark along_chain = 105

abbrev next : Way → ℕ
next as_public = 98
next as_own = 110
next as_made = 101
next along_chain = 110

abbrev front : Way → List ℕ
front as_public = codes " (p"
front as_own = codes " (o"
front as_made = codes " (ma"
front along_chain = codes " (cha"

tail_is : (way : Way) → way_tail way ≡ front way ++ mark way ∷ next way ∷ 41 ∷ []
tail_is as_public = refl
tail_is as_own = refl
tail_is as_made = refl
tail_is along_chain = refl

marks_apart : (x y : Way) → mark x ≡ mark y → x ≡ y
marks_apart as_public as_public e = refl
marks_apart as_public as_own e = absurd (omega (arith, e))
marks_apart as_public as_made e = absurd (omega (arith, e))
marks_apart as_public along_chain e = absurd (omega (arith, e))
marks_apart as_own as_public e = absurd (omega (arith, e))
marks_apart as_own as_own e = refl
marks_apart as_own as_made e = absurd (omega (arith, e))
marks_apart as_own along_chain e = absurd (omega (arith, e))
marks_apart as_made as_public e = absurd (omega (arith, e))
marks_apart as_made as_own e = absurd (omega (arith, e))
marks_apart as_made as_made e = refl
marks_apart as_made along_chain e = absurd (omega (arith, e))
marks_apart along_chain as_public e = absurd (omega (arith, e))
marks_apart along_chain as_own e = absurd (omega (arith, e))
marks_apart along_chain as_made e = absurd (omega (arith, e))
marks_apart along_chain along_chain e = refl

third_last : (a b : List ℕ) (x y z u v w : ℕ) → a ++ x ∷ y ∷ z ∷ [] ≡ b ++ u ∷ v ∷ w ∷ [] → x ≡ u
third_last a b x y z u v w e =
    let turned : z ∷ y ∷ x ∷ reverse a ≡ w ∷ v ∷ u ∷ reverse b =
    sym (reverse-append a (x ∷ y ∷ z ∷ [])) ∙ ap reverse e ∙ reverse-append b (u ∷ v ∷ w ∷ []) in
    cc

behind : (t : List ℕ) (way : Way) → t ++ way_tail way ≡ (t ++ front way) ++ mark way ∷ next way ∷ 41 ∷ []
behind t way = ap (λ (xs : List ℕ). t ++ xs) (tail_is way) ∙ sym (append_assoc t (front way) (mark way ∷ next way ∷ 41 ∷ []))

ways_one : (t u : List ℕ) (x y : Way) → t ++ way_tail x ≡ u ++ way_tail y → x ≡ y
ways_one t u x y e =
    marks_apart x y
    (third_last (t ++ front x) (u ++ front y) (mark x) (next x) 41 (mark y) (next y) 41 (sym (behind t x) ∙ e ∙ behind u y))

-- ---- one line

abbrev first_byte : List ℕ → ℕ
first_byte [] = 0
first_byte (b ∷ bytes) = b

module _ (symbols : List Symbol) (named : HaveNames symbols) where
  message_one : (m n : Ground) → IsWritable symbols m → IsWritable symbols n → term_text m ≡ term_text n → m ≡ n
  message_one m n w k e =
      let same = step_one (step_of_text symbols named (codes "in " ++ term_text m) (put_in m) refl w)
      (step_of_text symbols named (codes "in " ++ term_text m) (put_in n) (ap (λ (xs : List ℕ). codes "in " ++ xs) e) k) in
      cc

  rules_one : (text : List ℕ) (r q : List ℕ) (given other : List (List ℕ × Ground)) → IsLogLine symbols text (rule_line r given) → IsLogLine symbols text (rule_line q other)
      → rule_line r given ≡ rule_line q other
  rules_one text r q given other h k =
      let same = step_one (step_of_text symbols named text (use_rule r given) h.text_is h.writable) (step_of_text symbols named text (use_rule q other) k.text_is k.writable) in
      cc

  learnt_one : (text : List ℕ) (m n : Ground) (x y : Way) → IsLogLine symbols text (learn_line m x) → IsLogLine symbols text (learn_line n y) → learn_line m x ≡ learn_line n y
  learnt_one text m n x y h k =
      let rest : term_text m ++ way_tail x ≡ term_text n ++ way_tail y =
      append_cancel_left (codes "learn ") (term_text m ++ way_tail x) (term_text n ++ way_tail y) (sym h.text_is ∙ k.text_is) in
      let way = ways_one (term_text m) (term_text n) x y rest in
      let texts : term_text m ≡ term_text n =
      append_cancel_right (term_text m) (term_text n) (way_tail y) (ap (λ (z : Way). term_text m ++ way_tail z) (sym way) ∙ rest) in
      let message = message_one m n h.writable k.writable texts in
      cc

  line_one : (text : List ℕ) (x y : Line) → IsLogLine symbols text x → IsLogLine symbols text y → x ≡ y
  line_one text (rule_line r given) (rule_line q other) h k = rules_one text r q given other h k
  line_one text (rule_line r given) (send_line n) h k = let e : 114 ≡ 115 = ap first_byte (sym h.text_is ∙ k.text_is) in absurd (omega (arith, e))
  line_one text (rule_line r given) (learn_line n y) h k = let e : 114 ≡ 108 = ap first_byte (sym h.text_is ∙ k.text_is) in absurd (omega (arith, e))
  line_one text (send_line m) (rule_line q other) h k = let e : 115 ≡ 114 = ap first_byte (sym h.text_is ∙ k.text_is) in absurd (omega (arith, e))
  line_one text (send_line m) (send_line n) h k =
      ap send_line (message_one m n h.writable k.writable (append_cancel_left (codes "send ") (term_text m) (term_text n) (sym h.text_is ∙ k.text_is)))
  line_one text (send_line m) (learn_line n y) h k = let e : 115 ≡ 108 = ap first_byte (sym h.text_is ∙ k.text_is) in absurd (omega (arith, e))
  line_one text (learn_line m x) (rule_line q other) h k = let e : 108 ≡ 114 = ap first_byte (sym h.text_is ∙ k.text_is) in absurd (omega (arith, e))
  line_one text (learn_line m x) (send_line n) h k = let e : 108 ≡ 115 = ap first_byte (sym h.text_is ∙ k.text_is) in absurd (omega (arith, e))
  line_one text (learn_line m x) (learn_line n y) h k = learnt_one text m n x y h k

  -- ---- lines are cut

  message_no_feed : (m : Ground) → IsWritable symbols m → NoFeed (term_text m)
  message_no_feed m w = let r = writable_is_over symbols m w in no_feed_term symbols named m r.0 r.1

  way_no_feed : (way : Way) → NoFeed (way_tail way)
  way_no_feed as_public = no_feed_in (codes " (pub)") refl
  way_no_feed as_own = no_feed_in (codes " (own)") refl
  way_no_feed as_made = no_feed_in (codes " (made)") refl
  way_no_feed along_chain = no_feed_in (codes " (chain)") refl

  one_cut : (x : Line) → IsWritableLine symbols x → (behind : List ℕ) → lines (line_text x ++ 10 ∷ behind) ≡ line_text x ∷ lines behind
  one_cut (rule_line r given) w behind =
      ap lines (sym (append_assoc (step_text (use_rule r given)) (codes "\n") behind)) ∙ steps_are_read_back_lem.cut symbols named (use_rule r given ∷ []) (w, tt) behind
  one_cut (send_line m) w behind = line_cut (line_text (send_line m)) behind (no_feed_append (codes "send ") (term_text m) (no_feed_in (codes "send ") refl) (message_no_feed m w))
  one_cut (learn_line m way) w behind =
      line_cut (line_text (learn_line m way)) behind
      (no_feed_append (codes "learn ") (term_text m ++ way_tail way) (no_feed_in (codes "learn ") refl)
      (no_feed_append (term_text m) (way_tail way) (message_no_feed m w) (way_no_feed way)))

  pub lines_cut : (xs : List Line) → Every (IsWritableLine symbols) xs → (behind : List ℕ) → lines (lines_text xs ++ behind) ≡ map line_text xs ++ lines behind
  lines_cut [] w behind = refl
  lines_cut (x ∷ xs) w behind =
      ap lines (append_assoc (line_text x) (codes "\n" ++ lines_text xs) behind) ∙ one_cut x w.0 (lines_text xs ++ behind)
      ∙ ap (λ (others : List (List ℕ)). line_text x ∷ others) (lines_cut xs w.1 behind)

pub log_lines_are_read_back_lem : LogLinesAreReadBack
log_lines_are_read_back_lem = record { one = line_one; cut = lines_cut }
