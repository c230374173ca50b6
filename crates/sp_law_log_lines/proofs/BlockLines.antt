-- The lines of the block of a log that was found: none of them begins as a verdict's does.
use Rattle.std.proofs.Common.{◌≡◌, ℕ, true, List, [], ◌∷◌, ◌++◌, map, codes, refl, sym, ap, ◌∙◌, append_assoc, arith}
use Rattle.sp_spec.specs.Lists.{Every}
use Rattle.sp_spec.proofs.Lists.{every_append}
use Rattle.sp_spec.specs.Signature.{Symbol}
use Rattle.sp_spec.specs.Term.{Ground}
use Rattle.sp_spec.specs.Rule.{Action}
use Rattle.sp_spec.specs.Execution.{Trace, use_rule, put_in}
use Rattle.sp_spec_text.specs.Blanks.{lines}
use Rattle.sp_spec_text.specs.Lex.{skip}
use Rattle.sp_spec_printed.specs.Printed.{term_text, action_text, trace_block}
use Rattle.sp_spec_printed.specs.StepLines.{HaveNames, IsWritable}
use Rattle.sp_law_printed_log.specs.Shown.{IsShownAction, IsShownTrace}
use Rattle.sp_law_printed_log.proofs.NoFeeds.{NoFeed, line_cut, no_feed_in}
use Rattle.sp_law_printed_log.proofs.WordSplits.{in_word, word_bytes, split_word}
use Rattle.sp_law_printed_log.proofs.ReadBack.{steps_are_read_back_lem}
use Rattle.sp_law_printed_log.proofs.Sections.{IsNoVerdict, behind_word}
use Rattle.sp_law_printed_log.proofs.BlockLines.{entry_line, block_cut, block_no_verdict, step_no_verdict}
use Rattle.sp_spec_log_lines.specs.Line.{Line, rule_line, send_line, learn_line, line_text}
use Rattle.sp_spec_log_lines.specs.Block.{lines_text}
use Rattle.sp_spec_log_lines.specs.Told.{IsWritableLine}
use Rattle.sp_law_log_lines.proofs.ReadBack.{way_tail, lines_cut}

-- between two lines those of the entries, and behind them those of the trace; and those of its trace alone
abbrev trace_lines : Trace → List (List ℕ)
trace_lines trace = codes "trace:" ∷ (map entry_line trace ++ codes "end of trace" ∷ [])

abbrev pub log_block_lines : List Line → Trace → List (List ℕ)
log_block_lines xs trace = codes "log:" ∷ (map line_text xs ++ trace_lines trace)

-- a text that doesn't begin with a bracket
abbrev NoBracket : List ℕ → Type 0
NoBracket text = (rest : List ℕ) → text ≡ 40 ∷ rest → ⊥

-- behind a word and a blank
behind_line : (w text : List ℕ) → Every (λ (b : ℕ). in_word b ≡ true) w → NoBracket text → IsNoVerdict (w ++ 32 ∷ text)
behind_line w text h opens = record {
  none = λ name rest k e. opens rest (split_word w name 32 32 text (40 ∷ rest) h (word_bytes name k) refl refl e).others;
}

before_more : (b : ℕ) (xs ys : List ℕ) → NoBracket xs → (b ≡ 40 → ⊥) → NoBracket (xs ++ b ∷ ys)
before_more b [] ys opens other rest e = other cc
before_more b (x ∷ xs) ys opens other rest e = opens xs (let first : x ≡ 40 = cc in ap (λ (y : ℕ). y ∷ xs) first)

module _ (symbols : List Symbol) (named : HaveNames symbols) where
  message_no_bracket : (m : Ground) → IsWritable symbols m → NoBracket (term_text m)
  unfolding skip
  message_no_bracket m w rest e = (step_no_verdict symbols named (put_in m) w).none (codes "in") rest (refl, refl) (ap (λ (xs : List ℕ). codes "in " ++ xs) e)

  line_no_verdict : (x : Line) → IsWritableLine symbols x → IsNoVerdict (line_text x)
  line_no_verdict (rule_line r given) w = step_no_verdict symbols named (use_rule r given) w
  line_no_verdict (send_line m) w = behind_line (codes "send") (term_text m) (refl, (refl, (refl, (refl, tt)))) (message_no_bracket m w)
  line_no_verdict (learn_line m way) w =
      behind_line (codes "learn") (term_text m ++ way_tail way) (refl, (refl, (refl, (refl, (refl, tt)))))
      (before_more 32 (term_text m) _ (message_no_bracket m w) (λ e. omega (arith, e)))

  pub lines_no_verdict : (xs : List Line) → Every (IsWritableLine symbols) xs → Every IsNoVerdict (map line_text xs)
  lines_no_verdict [] w = tt
  lines_no_verdict (x ∷ xs) w = (line_no_verdict x w.0, lines_no_verdict xs w.1)

  module _ (no_feed : (a : Action ⊥) → IsShownAction symbols a → NoFeed (action_text a)) (xs : List Line) (trace : Trace)
      (writable : Every (IsWritableLine symbols) xs) (shown : IsShownTrace symbols trace) where
    -- the trace stands below as it stands below an execution without steps
    trace_cut : (behind : List ℕ) → lines (trace_block trace ++ behind) ≡ trace_lines trace ++ lines behind
    trace_cut behind =
        let whole = block_cut symbols named [] trace tt shown steps_are_read_back_lem no_feed behind in
        let first = line_cut (codes "execution:") (trace_block trace ++ behind) (no_feed_in (codes "execution:") refl) in
        let both : codes "execution:" ∷ lines (trace_block trace ++ behind) ≡ codes "execution:" ∷ (trace_lines trace ++ lines behind) = sym first ∙ whole in
        cc

    pub log_block_cut : (behind : List ℕ) → lines ((codes "log:\n" ++ (lines_text xs ++ trace_block trace)) ++ behind) ≡ log_block_lines xs trace ++ lines behind
    log_block_cut behind =
        ap (λ (ys : List ℕ). lines (codes "log:\n" ++ ys)) (append_assoc (lines_text xs) (trace_block trace) behind)
        ∙ line_cut (codes "log:") (lines_text xs ++ (trace_block trace ++ behind)) (no_feed_in (codes "log:") refl)
        ∙ ap (λ (ls : List (List ℕ)). codes "log:" ∷ ls)
        (lines_cut symbols named xs writable (trace_block trace ++ behind) ∙ ap (λ (ls : List (List ℕ)). map line_text xs ++ ls) (trace_cut behind)
        ∙ sym (append_assoc (map line_text xs) (trace_lines trace) (lines behind)))

    pub log_block_no_verdict : Every IsNoVerdict (log_block_lines xs trace)
    log_block_no_verdict =
        let first_word : IsNoVerdict (codes "log:") = behind_word (codes "log") 58 [] (refl, (refl, (refl, tt))) refl (λ e. omega (arith, e)) in
        let rest = (block_no_verdict symbols named [] trace tt shown no_feed).1 in
        (first_word, every_append IsNoVerdict (map line_text xs) (trace_lines trace) (lines_no_verdict xs writable) rest)
