-- The lines of the block of an execution that was found: none of them begins as a verdict's does.
use Rattle.std.proofs.Common.{◌≡◌, ℕ, Bool, true, false, List, [], ◌∷◌, ◌++◌, map, codes, refl, sym, ap, subst, append-nil, arith, ◌∙◌, append_assoc, cond}
use Rattle.std.specs.Prelude.{◌==◌, decimal}
use Rattle.std.specs.Char.{is_ascii_alphanumeric}
use Rattle.sp_spec.specs.Lists.{Every}
use Rattle.sp_spec.proofs.Lists.{every_append}
use Rattle.sp_spec.specs.Signature.{Symbol}
use Rattle.sp_spec.specs.Term.{Ground, Grounds, var, constant, name, app, none, more, count}
use Rattle.sp_spec.specs.Rule.{Action}
use Rattle.sp_spec.specs.Execution.{Step, make_fresh, use_rule, take_out, put_in, know_public, make_own, apply_symbol, Trace}
use Rattle.sp_spec_printed.specs.Printed.{is_pair, text_at, row_text, term_text, arguments_text, given_text, step_text, action_text, more_actions_text, entry_text, entries_text, trace_block}
use Rattle.sp_spec_text.specs.Names.{IsWord}
use Rattle.sp_spec_printed.specs.StepLines.{HaveNames, IsWritable, IsWritableStep}
use Rattle.sp_spec_text.specs.Blanks.{lines}
use Rattle.sp_spec_printed.proofs.SymbolNames.{symbol_named}
use Rattle.sp_law_printed_log.specs.Block.{steps_text}
use Rattle.sp_law_printed_log.specs.Shown.{IsShownAction, IsShownTrace}
use Rattle.sp_law_printed_log.specs.Laws.{StepsAreReadBack}
use Rattle.sp_law_printed_log.proofs.NoFeeds.{NoFeed, line_cut, no_feed_in}
use Rattle.sp_law_printed_log.proofs.WordSplits.{in_word, word_bytes}
use Rattle.sp_law_printed_log.proofs.Sections.{IsNoVerdict, nothing_there, behind_word, behind_blank}

-- ---- lines of traces

abbrev pub more_actions_line : List (Action ⊥) → List ℕ
more_actions_line [] = []
more_actions_line (a ∷ entry) = codes ", " ++ (action_text a ++ more_actions_line entry)

abbrev pub entry_line : List (Action ⊥) → List ℕ
entry_line [] = []
entry_line (a ∷ entry) = action_text a ++ more_actions_line entry

more_line_text : (entry : List (Action ⊥)) → more_actions_text entry ≡ more_actions_line entry ++ 10 ∷ []
more_line_text [] = refl
more_line_text (a ∷ entry) =
    ap (λ (xs : List ℕ). codes ", " ++ (action_text a ++ xs)) (more_line_text entry) ∙ ap (λ (xs : List ℕ). codes ", " ++ xs) (sym (append_assoc (action_text a) (more_actions_line entry) (10 ∷ [])))

line_text : (entry : List (Action ⊥)) → entry_text entry ≡ entry_line entry ++ 10 ∷ []
line_text [] = refl
line_text (a ∷ entry) = ap (λ (xs : List ℕ). action_text a ++ xs) (more_line_text entry) ∙ sym (append_assoc (action_text a) (more_actions_line entry) (10 ∷ []))

module _ (symbols : List Symbol) (named : HaveNames symbols) (no_feed : (a : Action ⊥) → IsShownAction symbols a → NoFeed (action_text a)) where
  more_no_feed : (entry : List (Action ⊥)) → Every (IsShownAction symbols) entry → NoFeed (more_actions_line entry)
  more_no_feed [] h = tt
  more_no_feed (a ∷ entry) h = (refl, (refl, every_append (λ (b : ℕ). (b == 10) ≡ false) (action_text a) (more_actions_line entry) (no_feed a h.0) (more_no_feed entry h.1)))

  entry_no_feed : (entry : List (Action ⊥)) → Every (IsShownAction symbols) entry → NoFeed (entry_line entry)
  entry_no_feed [] h = tt
  entry_no_feed (a ∷ entry) h = every_append (λ (b : ℕ). (b == 10) ≡ false) (action_text a) (more_actions_line entry) (no_feed a h.0) (more_no_feed entry h.1)

  pub entries_cut : (trace : Trace) → IsShownTrace symbols trace → (behind : List ℕ) → lines (entries_text trace ++ behind) ≡ map entry_line trace ++ lines behind
  entries_cut [] h behind = refl
  entries_cut (entry ∷ trace) h behind =
      let one : entries_text (entry ∷ trace) ++ behind ≡ entry_line entry ++ 10 ∷ (entries_text trace ++ behind) =
      ap (λ (xs : List ℕ). (xs ++ entries_text trace) ++ behind) (line_text entry)
      ∙ append_assoc (entry_line entry ++ 10 ∷ []) (entries_text trace) behind ∙ append_assoc (entry_line entry) (10 ∷ []) (entries_text trace ++ behind) in
      ap lines one ∙ line_cut (entry_line entry) (entries_text trace ++ behind) (entry_no_feed entry h.0) ∙ ap (λ (ls : List (List ℕ)). entry_line entry ∷ ls) (entries_cut trace h.1 behind)

  pub entry_no_verdict : (entry : List (Action ⊥)) → Every (IsShownAction symbols) entry → IsNoVerdict (entry_line entry)
  entry_no_verdict [] h = nothing_there
  entry_no_verdict (a ∷ entry) h =
      let inside = arguments_text a.args ++ codes ")" in
      subst IsNoVerdict (sym (append_assoc a.symbol (40 ∷ inside) (more_actions_line entry)))
      (behind_word a.symbol 40 (inside ++ more_actions_line entry) (word_bytes a.symbol h.0.0.1) refl (λ e. omega (arith, e)))

-- ---- lines of steps

-- a text that doesn't begin with a bracket
record Opens (text : List ℕ) : Type 0 where
  byte : ℕ
  others : List ℕ
  are : text ≡ byte ∷ others
  no_bracket : byte ≡ 40 → ⊥

word_opens : (w rest : List ℕ) → IsWord w → Opens (w ++ rest)
word_opens [] rest h = absurd h
word_opens (b ∷ w) rest h = record {
  byte = b;
  others = w ++ rest;
  are = refl;
  no_bracket = λ e. let t : is_ascii_alphanumeric b ≡ true = h.0 in let f : is_ascii_alphanumeric b ≡ false = ap is_ascii_alphanumeric e in cc;
}

-- a symbol that is one word, over terms
app_opens : (f : List ℕ) → IsWord f → (ts : Grounds) → Opens (term_text (app f ts))
app_opens f w none = subst Opens (append-nil f) (word_opens f [] w)
app_opens f w (more t ts) = by_test (is_pair f (more t ts))
  where
    by_test : (b : Bool) → Opens (cond b (codes "<" ++ (text_at false t ++ (row_text true ts ++ codes ">"))) (f ++ (codes "(" ++ (text_at false t ++ (row_text false ts ++ codes ")")))))
    by_test true = record { byte = 60; others = text_at false t ++ (row_text true ts ++ codes ">"); are = refl; no_bracket = λ e. omega (arith, e) }
    by_test false = word_opens f (codes "(" ++ (text_at false t ++ (row_text false ts ++ codes ")"))) w

module _ (symbols : List Symbol) (named : HaveNames symbols) where
  term_opens : (t : Ground) → IsWritable symbols t → Opens (term_text t)
  term_opens (var x) h = absurd h
  term_opens (constant c) h = record { byte = 39; others = c ++ codes "'"; are = refl; no_bracket = λ e. omega (arith, e) }
  term_opens (name n) h = record { byte = 126; others = 110 ∷ decimal n; are = refl; no_bracket = λ e. omega (arith, e) }
  term_opens (app f ts) h = app_opens f (symbol_named symbols f (count ts) named h.0) ts

  -- behind a word and a blank
  behind_step : (w text : List ℕ) → Every (λ (b : ℕ). in_word b ≡ true) w → Opens text → IsNoVerdict (w ++ 32 ∷ text)
  behind_step w text h o = subst (λ (xs : List ℕ). IsNoVerdict (w ++ 32 ∷ xs)) (sym o.are) (behind_blank w o.byte o.others h o.no_bracket)

  pub step_no_verdict : (s : Step) → IsWritableStep symbols s → IsNoVerdict (step_text s)
  step_no_verdict (make_fresh t) h = behind_step (codes "fresh") (term_text t) (refl, (refl, (refl, (refl, (refl, tt))))) (term_opens t h)
  step_no_verdict (use_rule r given) h = behind_step (codes "rule") (r ++ (codes ":" ++ given_text given)) (refl, (refl, (refl, (refl, tt)))) (word_opens r (codes ":" ++ given_text given) h.0.1)
  step_no_verdict (take_out t) h = behind_step (codes "out") (term_text t) (refl, (refl, (refl, tt))) (term_opens t h)
  step_no_verdict (put_in t) h = behind_step (codes "in") (term_text t) (refl, (refl, tt)) (term_opens t h)
  step_no_verdict (know_public t) h = behind_step (codes "pub") (term_text t) (refl, (refl, (refl, tt))) (term_opens t h)
  step_no_verdict (make_own t) h = behind_step (codes "own") (term_text t) (refl, (refl, (refl, tt))) (term_opens t h)
  step_no_verdict (apply_symbol f ts) h = behind_step (codes "make") (term_text (app f ts)) (refl, (refl, (refl, (refl, tt)))) (app_opens f h.0.1 ts)

  pub steps_no_verdict : (steps : List Step) → Every (IsWritableStep symbols) steps → Every IsNoVerdict (map step_text steps)
  steps_no_verdict [] h = tt
  steps_no_verdict (s ∷ steps) h = (step_no_verdict s h.0, steps_no_verdict steps h.1)

-- ---- the block

-- between two lines those of the steps, and behind them those of the trace
abbrev pub block_lines : List Step → Trace → List (List ℕ)
block_lines steps trace = codes "execution:" ∷ (map step_text steps ++ codes "trace:" ∷ (map entry_line trace ++ codes "end of trace" ∷ []))

module _ (symbols : List Symbol) (named : HaveNames symbols) (steps : List Step) (trace : Trace) (writable : Every (IsWritableStep symbols) steps) (shown : IsShownTrace symbols trace) where
  pub block_cut : StepsAreReadBack → ((a : Action ⊥) → IsShownAction symbols a → NoFeed (action_text a)) → (behind : List ℕ)
      → lines ((codes "execution:\n" ++ (steps_text steps ++ trace_block trace)) ++ behind) ≡ block_lines steps trace ++ lines behind
  block_cut read no_feed behind =
      let end = codes "end of trace" ++ 10 ∷ behind in
      let last : lines end ≡ codes "end of trace" ∷ lines behind = line_cut (codes "end of trace") behind (no_feed_in (codes "end of trace") refl) in
      let entries : lines (entries_text trace ++ end) ≡ map entry_line trace ++ lines end = entries_cut symbols named no_feed trace shown end in
      let told : lines (codes "trace:" ++ 10 ∷ (entries_text trace ++ end)) ≡ codes "trace:" ∷ lines (entries_text trace ++ end) =
      line_cut (codes "trace:") (entries_text trace ++ end) (no_feed_in (codes "trace:") refl) in
      let all = steps_text steps ++ (codes "trace:\n" ++ (entries_text trace ++ end)) in
      let first : lines (codes "execution:" ++ 10 ∷ all) ≡ codes "execution:" ∷ lines all = line_cut (codes "execution:") all (no_feed_in (codes "execution:") refl) in
      let shape : (codes "execution:\n" ++ (steps_text steps ++ trace_block trace)) ++ behind ≡ codes "execution:" ++ 10 ∷ all =
      ap (λ (xs : List ℕ). codes "execution:\n" ++ xs) (append_assoc (steps_text steps) (trace_block trace) behind
      ∙ ap (λ (xs : List ℕ). steps_text steps ++ (codes "trace:\n" ++ xs)) (append_assoc (entries_text trace) (codes "end of trace\n") behind)) in
      let behind_steps : lines (codes "trace:\n" ++ (entries_text trace ++ end)) ≡ codes "trace:" ∷ (map entry_line trace ++ codes "end of trace" ∷ lines behind) =
      told ∙ ap (λ (ls : List (List ℕ)). codes "trace:" ∷ ls) (entries ∙ ap (λ (ls : List (List ℕ)). map entry_line trace ++ ls) last) in
      ap lines shape ∙ first
      ∙ ap (λ (ls : List (List ℕ)). codes "execution:" ∷ ls)
      (read.cut symbols named steps writable (codes "trace:\n" ++ (entries_text trace ++ end)) ∙ ap (λ (ls : List (List ℕ)). map step_text steps ++ ls) behind_steps
      ∙ ap (λ (ls : List (List ℕ)). map step_text steps ++ codes "trace:" ∷ ls) (sym (append_assoc (map entry_line trace) (codes "end of trace" ∷ []) (lines behind)))
      ∙ sym (append_assoc (map step_text steps) (codes "trace:" ∷ (map entry_line trace ++ codes "end of trace" ∷ [])) (lines behind)))

  entries_no_verdict : ((a : Action ⊥) → IsShownAction symbols a → NoFeed (action_text a)) → (entries : Trace) → IsShownTrace symbols entries → Every IsNoVerdict (map entry_line entries)
  entries_no_verdict no_feed [] h = tt
  entries_no_verdict no_feed (e ∷ entries) h = (entry_no_verdict symbols named no_feed e h.0, entries_no_verdict no_feed entries h.1)

  pub block_no_verdict : ((a : Action ⊥) → IsShownAction symbols a → NoFeed (action_text a)) → Every IsNoVerdict (block_lines steps trace)
  block_no_verdict no_feed =
      let end_word : IsNoVerdict (codes "end of trace") = behind_blank (codes "end") 111 (codes "f trace") (refl, (refl, (refl, tt))) (λ e. omega (arith, e)) in
      let trace_word : IsNoVerdict (codes "trace:") = behind_word (codes "trace") 58 [] (refl, (refl, (refl, (refl, (refl, tt))))) refl (λ e. omega (arith, e)) in
      let first_word : IsNoVerdict (codes "execution:") = behind_word (codes "execution") 58 [] (refl, (refl, (refl, (refl, (refl, (refl, (refl, (refl, (refl, tt))))))))) refl (λ e. omega (arith, e)) in
      let behind = every_append IsNoVerdict (map entry_line trace) (codes "end of trace" ∷ []) (entries_no_verdict no_feed trace shown) (end_word, tt) in
      (first_word, every_append IsNoVerdict (map step_text steps) (codes "trace:" ∷ (map entry_line trace ++ codes "end of trace" ∷ [])) (steps_no_verdict symbols named steps writable) (trace_word, behind))
