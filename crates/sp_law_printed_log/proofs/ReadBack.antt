-- Steps that may be written are read back from their lines, one for each: a step's text has no line feed, and no blank at its ends.
use Rattle.std.proofs.Common.{◌≡◌, ℕ, Bool, true, false, cond, List, [], ◌∷◌, ◌++◌, map, reverse, codes, refl, sym, ap, subst, ◌∙◌, append_assoc, append-nil}
use Rattle.std.specs.Prelude.{decimal}
use Rattle.std.proofs.lemmas.List.{reverse-append, reverse-reverse}
use Rattle.sp_spec_text.specs.Lex.{is_blank}
use Rattle.sp_spec.specs.Lists.{Every}
use Rattle.sp_spec.specs.Term.{var, constant, name, app, none, more, Ground, Grounds, count, AllMadeOf}
use Rattle.sp_spec.specs.Signature.{Symbol, IsOver, AreOver}
use Rattle.sp_spec.specs.Execution.{Step, make_fresh, use_rule, take_out, put_in, know_public, make_own, apply_symbol}
use Rattle.sp_spec_printed.specs.Printed.{is_pair, text_at, row_text, term_text, more_given_text, given_text, step_text}
use Rattle.sp_spec_text.specs.Names.{IsWord}
use Rattle.sp_spec_printed.specs.StepLines.{HaveNames, IsWritable, AreWritable, IsGiven, IsWritableStep, AreSteps, no_line, step_line}
use Rattle.sp_spec_text.specs.Blanks.{unblanked, trimmed, lines}
use Rattle.sp_spec_printed.proofs.SymbolNames.{symbol_named}
use Rattle.sp_law_printed_log.specs.Block.{steps_text}
use Rattle.sp_law_printed_log.specs.Shown.{shown_names, no_variable, HasNames}
use Rattle.sp_law_printed_log.specs.Laws.{StepsAreReadBack}
use Rattle.sp_law_printed_log.proofs.NoFeeds.{NoFeed, NoBlank, line_cut, no_feed_in, no_feed_append, no_feed_byte, word_no_blank, decimal_no_blank, no_feed_word, no_feed_quotable, no_feed_at, no_feed_row}

-- ---- what may be written is over the symbols, of names that may be shown

mutual
  pub writable_is_over : (symbols : List Symbol) (t : Ground) → IsWritable symbols t → IsOver symbols t × HasNames shown_names t
  writable_is_over symbols (var x) w = absurd w
  writable_is_over symbols (constant c) w = (tt, w)
  writable_is_over symbols (name n) w = (tt, w.0)
  writable_is_over symbols (app f ts) w = let r = writable_are_over symbols ts w.1 in ((w.0, r.0), r.1)

  pub writable_are_over : (symbols : List Symbol) (ts : Grounds) → AreWritable symbols ts → AreOver symbols ts × AllMadeOf shown_names no_variable ts
  writable_are_over symbols none w = (tt, tt)
  writable_are_over symbols (more t ts) w = let r = writable_is_over symbols t w.0 in let q = writable_are_over symbols ts w.1 in ((r.0, q.0), (r.1, q.1))

-- ---- texts without a line feed whose last byte is no blank

record IsLineText (bytes : List ℕ) : Type 0 where
  no_feed : NoFeed bytes
  front : List ℕ
  last : ℕ
  parts : bytes ≡ front ++ last ∷ []
  solid : is_blank last ≡ false

line_behind : (xs ys : List ℕ) → NoFeed xs → IsLineText ys → IsLineText (xs ++ ys)
line_behind xs ys h t = record {
  no_feed = no_feed_append xs ys h t.no_feed;
  front = xs ++ t.front;
  last = t.last;
  parts = ap (λ (zs : List ℕ). xs ++ zs) t.parts ∙ sym (append_assoc xs t.front (t.last ∷ []));
  solid = t.solid;
}

line_last : (b : ℕ) → is_blank b ≡ false → IsLineText (b ∷ [])
line_last b h = record { no_feed = (no_feed_byte b h, tt); front = []; last = b; parts = refl; solid = h }

line_no_blank : (b : ℕ) (bytes : List ℕ) → NoBlank (b ∷ bytes) → IsLineText (b ∷ bytes)
line_no_blank b [] h = line_last b h.0
line_no_blank b (c ∷ bytes) h = line_behind (b ∷ []) (c ∷ bytes) (no_feed_byte b h.0, tt) (line_no_blank c bytes h.1)

line_word : (w : List ℕ) → IsWord w → IsLineText w
line_word [] h = absurd h
line_word (b ∷ w) h = line_no_blank b w (word_no_blank (b ∷ w) h)

-- a symbol over terms, a pair or another
line_over : (is_two : Bool) (f first in_pair in_row : List ℕ) → NoFeed f → NoFeed first → NoFeed in_pair → NoFeed in_row
    → IsLineText (cond is_two (codes "<" ++ (first ++ (in_pair ++ codes ">"))) (f ++ (codes "(" ++ (first ++ (in_row ++ codes ")")))))
line_over true f first in_pair in_row h k l m =
    line_behind (codes "<") (first ++ (in_pair ++ codes ">")) (refl, tt) (line_behind first (in_pair ++ codes ">") k (line_behind in_pair (codes ">") l (line_last 62 refl)))
line_over false f first in_pair in_row h k l m =
    line_behind f (codes "(" ++ (first ++ (in_row ++ codes ")"))) h
    (line_behind (codes "(") (first ++ (in_row ++ codes ")")) (refl, tt) (line_behind first (in_row ++ codes ")") k (line_behind in_row (codes ")") m (line_last 41 refl))))

-- a symbol that is one word, over terms
line_app : (symbols : List Symbol) → HaveNames symbols → (f : List ℕ) → IsWord f → (ts : Grounds) → AreOver symbols ts → AllMadeOf shown_names no_variable ts → IsLineText (term_text (app f ts))
line_app symbols s f w none o n = line_word f w
line_app symbols s f w (more t ts) o n =
    line_over (is_pair f (more t ts)) f (text_at false t) (row_text true ts) (row_text false ts) (no_feed_word f w)
    (no_feed_at symbols s false t o.0 n.0) (no_feed_row symbols s true ts o.1 n.1) (no_feed_row symbols s false ts o.1 n.1)

line_term : (symbols : List Symbol) → HaveNames symbols → (t : Ground) → IsOver symbols t → HasNames shown_names t → IsLineText (term_text t)
line_term symbols s (var x) o n = absurd o
line_term symbols s (constant c) o n = line_behind (codes "'" ++ c) (codes "'") (refl, no_feed_quotable c n) (line_last 39 refl)
line_term symbols s (name k) o n = line_no_blank 126 (110 ∷ decimal k) (refl, (refl, decimal_no_blank k))
line_term symbols s (app f ts) o n = line_app symbols s f (symbol_named symbols f (count ts) s o.0) ts o.1 n

line_writable : (symbols : List Symbol) → HaveNames symbols → (t : Ground) → IsWritable symbols t → IsLineText (term_text t)
line_writable symbols s t w = let r = writable_is_over symbols t w in line_term symbols s t r.0 r.1

-- ---- steps

-- a value of a rule's variable, before what stands behind it
line_value : (x text : List ℕ) → IsWord x → IsLineText text → IsLineText (x ++ (codes " = " ++ text))
line_value x text w t = line_behind x (codes " = " ++ text) (no_feed_word x w) (line_behind (codes " = ") text (no_feed_in (codes " = ") refl) t)

line_more_given : (symbols : List Symbol) → HaveNames symbols → (front : List ℕ) → IsLineText front → (given : List (List ℕ × Ground)) → Every (IsGiven symbols) given
    → IsLineText (front ++ more_given_text given)
line_more_given symbols s front t [] w = subst IsLineText (sym (append-nil front)) t
line_more_given symbols s front t (g ∷ given) w =
    let value = line_more_given symbols s (term_text g.1) (line_writable symbols s g.1 w.0.1) given w.1 in
    line_behind front (more_given_text (g ∷ given)) t.no_feed
    (line_behind (codes ", ") (g.0 ++ (codes " = " ++ (term_text g.1 ++ more_given_text given))) (no_feed_in (codes ", ") refl)
    (line_value g.0 (term_text g.1 ++ more_given_text given) w.0.0.1 value))

line_given : (symbols : List Symbol) → HaveNames symbols → (given : List (List ℕ × Ground)) → Every (IsGiven symbols) given → IsLineText (codes ":" ++ given_text given)
line_given symbols s [] w = line_last 58 refl
line_given symbols s (g ∷ given) w =
    line_behind (codes ": ") (g.0 ++ (codes " = " ++ (term_text g.1 ++ more_given_text given))) (no_feed_in (codes ": ") refl)
    (line_value g.0 (term_text g.1 ++ more_given_text given) w.0.0.1 (line_more_given symbols s (term_text g.1) (line_writable symbols s g.1 w.0.1) given w.1))

line_step : (symbols : List Symbol) → HaveNames symbols → (s : Step) → IsWritableStep symbols s → IsLineText (step_text s)
line_step symbols h (make_fresh t) w = line_behind (codes "fresh ") (term_text t) (no_feed_in (codes "fresh ") refl) (line_writable symbols h t w)
line_step symbols h (use_rule r given) w =
    line_behind (codes "rule ") (r ++ (codes ":" ++ given_text given)) (no_feed_in (codes "rule ") refl)
    (line_behind r (codes ":" ++ given_text given) (no_feed_word r w.0.1) (line_given symbols h given w.1))
line_step symbols h (take_out t) w = line_behind (codes "out ") (term_text t) (no_feed_in (codes "out ") refl) (line_writable symbols h t w)
line_step symbols h (put_in t) w = line_behind (codes "in ") (term_text t) (no_feed_in (codes "in ") refl) (line_writable symbols h t w)
line_step symbols h (know_public t) w = line_behind (codes "pub ") (term_text t) (no_feed_in (codes "pub ") refl) (line_writable symbols h t w)
line_step symbols h (make_own t) w = line_behind (codes "own ") (term_text t) (no_feed_in (codes "own ") refl) (line_writable symbols h t w)
line_step symbols h (apply_symbol f ts) w =
    let r = writable_are_over symbols ts w.1 in line_behind (codes "make ") (term_text (app f ts)) (no_feed_in (codes "make ") refl) (line_app symbols h f w.0.1 ts r.0 r.1)

-- ---- nothing is trimmed

unblanked_step : (symbols : List Symbol) (s : Step) → IsWritableStep symbols s → unblanked (step_text s) ≡ step_text s
unfolding unblanked
unblanked_step symbols (make_fresh t) w = refl
unblanked_step symbols (use_rule r given) w = refl
unblanked_step symbols (take_out t) w = refl
unblanked_step symbols (put_in t) w = refl
unblanked_step symbols (know_public t) w = refl
unblanked_step symbols (make_own t) w = refl
unblanked_step symbols (apply_symbol f ts) w = refl

unblanked_solid : (b : ℕ) (bytes : List ℕ) → is_blank b ≡ false → unblanked (b ∷ bytes) ≡ b ∷ bytes
unfolding unblanked
unblanked_solid b bytes h = ap (λ (t : Bool). cond t (unblanked bytes) (b ∷ bytes)) h

unblanked_behind : (bytes : List ℕ) → IsLineText bytes → unblanked (reverse bytes) ≡ reverse bytes
unblanked_behind bytes t =
    let turned : reverse bytes ≡ t.last ∷ reverse t.front = ap reverse t.parts ∙ reverse-append t.front (t.last ∷ []) in
    subst (λ (xs : List ℕ). unblanked xs ≡ xs) (sym turned) (unblanked_solid t.last (reverse t.front) t.solid)

trimmed_step : (symbols : List Symbol) → HaveNames symbols → (s : Step) → IsWritableStep symbols s → trimmed (step_text s) ≡ step_text s
trimmed_step symbols h s w =
    ap (λ (xs : List ℕ). reverse (unblanked (reverse xs))) (unblanked_step symbols s w) ∙ ap reverse (unblanked_behind (step_text s) (line_step symbols h s w))
    ∙ reverse-reverse (step_text s)

-- ---- the lines of steps

steps_cut : (symbols : List Symbol) → HaveNames symbols → (steps : List Step) → Every (IsWritableStep symbols) steps → (behind : List ℕ)
    → lines (steps_text steps ++ behind) ≡ map step_text steps ++ lines behind
steps_cut symbols h [] w behind = refl
steps_cut symbols h (s ∷ steps) w behind =
    ap lines (append_assoc (step_text s) (codes "\n" ++ steps_text steps) behind) ∙ line_cut (step_text s) (steps_text steps ++ behind) (line_step symbols h s w.0).no_feed
    ∙ ap (λ (others : List (List ℕ)). step_text s ∷ others) (steps_cut symbols h steps w.1 behind)

steps_read : (symbols : List Symbol) → HaveNames symbols → (steps : List Step) → Every (IsWritableStep symbols) steps → AreSteps symbols (map step_text steps) steps
steps_read symbols h [] w = no_line
steps_read symbols h (s ∷ steps) w = step_line (record { text = trimmed_step symbols h s w.0; writable = w.0 }) (steps_read symbols h steps w.1)

pub steps_are_read_back_lem : StepsAreReadBack
steps_are_read_back_lem = record { cut = steps_cut; read = steps_read }
