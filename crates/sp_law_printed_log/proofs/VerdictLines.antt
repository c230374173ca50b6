-- The line of a verdict fixes the lemma's name, its kind, what it is read over, and the verdict.
use Rattle.std.proofs.Common.{◌≡◌, ℕ, zero, suc, Bool, true, false, List, [], ◌∷◌, ◌++◌, codes, refl, sym, ap, ◌∙◌, append_assoc, arith}
use Rattle.std.specs.Prelude.{decimal}
use Rattle.sp_spec.specs.Theory.{TraceKind, all_traces, exists_trace}
use Rattle.sp_spec_printed.specs.Kind.{kind_text, reading_text, kind_read}
use Rattle.sp_spec_printed.specs.Verdict.{Clause, clause_move, clause_instance, clause_cases, Verdict, verified, falsified, incomplete, rejected, clause_text, falsified_text, verdict_text, summary_line}
use Rattle.sp_spec_text.specs.Names.{IsWord}
use Rattle.sp_law_printed_log.proofs.NoFeeds.{NoFeed, no_feed_append, no_feed_in, no_feed_word, without_blank, decimal_no_blank}
use Rattle.sp_law_printed_log.proofs.WordSplits.{word_bytes, split_word}

-- ---- the line of a summary, without its line feed

abbrev counted_words : ℕ → List ℕ
counted_words n = codes " (" ++ (decimal n ++ codes " steps)")

abbrev pub verdict_words : TraceKind → Verdict → ℕ → List ℕ
verdict_words kind verified n = codes "verified" ++ counted_words n
verdict_words kind falsified n = falsified_text kind ++ counted_words n
verdict_words kind incomplete n = codes "analysis incomplete" ++ counted_words n
verdict_words kind (rejected step clause) n = codes "rejected at step " ++ (decimal step ++ (codes " (" ++ (clause_text clause ++ codes ")")))

abbrev pub verdict_line : List ℕ → TraceKind → Bool → Verdict → ℕ → List ℕ
verdict_line name kind marked verdict n = name ++ 32 ∷ 40 ∷ (kind_read kind marked ++ (codes "): " ++ verdict_words kind verdict n))

counted_text : (front : List ℕ) (n : ℕ) → front ++ (codes " (" ++ (decimal n ++ codes " steps)\n")) ≡ (front ++ counted_words n) ++ 10 ∷ []
counted_text front n =
    ap (λ (xs : List ℕ). front ++ (codes " (" ++ xs)) (sym (append_assoc (decimal n) (codes " steps)") (10 ∷ []))) ∙ sym (append_assoc front (counted_words n) (10 ∷ []))

rejected_text : (step : ℕ) (clause : Clause)
    → codes "rejected at step " ++ (decimal step ++ (codes " (" ++ (clause_text clause ++ codes ")\n"))) ≡ (codes "rejected at step " ++ (decimal step ++ (codes " (" ++ (clause_text clause ++ codes ")")))) ++ 10 ∷ []
rejected_text step clause =
    ap (λ (xs : List ℕ). codes "rejected at step " ++ (decimal step ++ (codes " (" ++ xs))) (sym (append_assoc (clause_text clause) (codes ")") (10 ∷ [])))
    ∙ ap (λ (xs : List ℕ). codes "rejected at step " ++ xs) (sym (append_assoc (decimal step) (codes " (" ++ (clause_text clause ++ codes ")")) (10 ∷ [])))

words_text : (kind : TraceKind) (verdict : Verdict) (n : ℕ) → verdict_text kind verdict n ≡ verdict_words kind verdict n ++ 10 ∷ []
words_text kind verified n = counted_text (codes "verified") n
words_text kind falsified n = counted_text (falsified_text kind) n
words_text kind incomplete n = counted_text (codes "analysis incomplete") n
words_text kind (rejected step clause) n = rejected_text step clause

pub summary_cut : (name : List ℕ) (kind : TraceKind) (marked : Bool) (verdict : Verdict) (n : ℕ) → summary_line name kind marked verdict n ≡ verdict_line name kind marked verdict n ++ 10 ∷ []
summary_cut name kind marked verdict n =
    ap (λ (xs : List ℕ). name ++ (codes " (" ++ (kind_read kind marked ++ (codes "): " ++ xs)))) (words_text kind verdict n)
    ∙ ap (λ (xs : List ℕ). name ++ (codes " (" ++ xs)) (sym (append_assoc (kind_read kind marked) (codes "): " ++ verdict_words kind verdict n) (10 ∷ [])))
    ∙ sym (append_assoc name (codes " (" ++ (kind_read kind marked ++ (codes "): " ++ verdict_words kind verdict n))) (10 ∷ []))

-- ---- which verdict a line tells

-- the byte at a place, and 0 behind the end
abbrev byte_at : ℕ → List ℕ → ℕ
byte_at k [] = 0
byte_at zero (b ∷ bytes) = b
byte_at (suc k) (b ∷ bytes) = byte_at k bytes

pub record Tells (name other : List ℕ) (kind wanted : TraceKind) (marked read : Bool) (verdict said : Verdict) : Type 0 where
  pub name_is : name ≡ other
  pub kind_is : kind ≡ wanted
  pub reading_is : marked ≡ read
  pub verdict_is : verdict ≡ said

module _ (name other : List ℕ) (is_word : IsWord name) (is_other : IsWord other) where
  behind : (xs ys : List ℕ) → name ++ 32 ∷ 40 ∷ xs ≡ other ++ 32 ∷ 40 ∷ ys → (name ≡ other) × (xs ≡ ys)
  behind xs ys e =
      let s = split_word name other 32 32 (40 ∷ xs) (40 ∷ ys) (word_bytes name is_word) (word_bytes other is_other) refl refl e in
      let o : 40 ∷ xs ≡ 40 ∷ ys = s.others in
      (s.words, cc)

  pub tells_verified : (kind : TraceKind) (marked : Bool) (verdict : Verdict) (n k : ℕ)
      → name ++ (codes " (all-traces): verified (" ++ (decimal n ++ codes " steps)")) ≡ verdict_line other kind marked verdict k
      → Tells other name kind all_traces marked false verdict verified
  tells_verified kind marked verdict n k e =
      at kind marked verdict (behind (codes "all-traces): verified (" ++ (decimal n ++ codes " steps)")) (kind_read kind marked ++ (codes "): " ++ verdict_words kind verdict k)) e)
    where
      at : (kind : TraceKind) (marked : Bool) (verdict : Verdict)
          → (name ≡ other) × (codes "all-traces): verified (" ++ (decimal n ++ codes " steps)") ≡ kind_read kind marked ++ (codes "): " ++ verdict_words kind verdict k))
          → Tells other name kind all_traces marked false verdict verified
      at all_traces false verified s = record { name_is = sym s.0; kind_is = refl; reading_is = refl; verdict_is = refl }
      at all_traces false falsified s = let f : 118 ≡ 102 = ap (byte_at 13) s.1 in absurd (omega (arith, f))
      at all_traces false incomplete s = let f : 118 ≡ 97 = ap (byte_at 13) s.1 in absurd (omega (arith, f))
      at all_traces false (rejected step clause) s = let f : 118 ≡ 114 = ap (byte_at 13) s.1 in absurd (omega (arith, f))
      at all_traces true verdict s = let f : 41 ≡ 44 = ap (byte_at 10) s.1 in absurd (omega (arith, f))
      at exists_trace true verdict s = let f : 97 ≡ 101 = ap (byte_at 0) s.1 in absurd (omega (arith, f))
      at exists_trace false verdict s = let f : 97 ≡ 101 = ap (byte_at 0) s.1 in absurd (omega (arith, f))

  pub tells_attack : (kind : TraceKind) (marked : Bool) (verdict : Verdict) (n k : ℕ)
      → name ++ (codes " (all-traces): falsified - found trace (" ++ (decimal n ++ codes " steps)")) ≡ verdict_line other kind marked verdict k
      → Tells other name kind all_traces marked false verdict falsified
  tells_attack kind marked verdict n k e =
      at kind marked verdict (behind (codes "all-traces): falsified - found trace (" ++ (decimal n ++ codes " steps)")) (kind_read kind marked ++ (codes "): " ++ verdict_words kind verdict k)) e)
    where
      at : (kind : TraceKind) (marked : Bool) (verdict : Verdict)
          → (name ≡ other) × (codes "all-traces): falsified - found trace (" ++ (decimal n ++ codes " steps)") ≡ kind_read kind marked ++ (codes "): " ++ verdict_words kind verdict k))
          → Tells other name kind all_traces marked false verdict falsified
      at all_traces false verified s = let f : 102 ≡ 118 = ap (byte_at 13) s.1 in absurd (omega (arith, f))
      at all_traces false falsified s = record { name_is = sym s.0; kind_is = refl; reading_is = refl; verdict_is = refl }
      at all_traces false incomplete s = let f : 102 ≡ 97 = ap (byte_at 13) s.1 in absurd (omega (arith, f))
      at all_traces false (rejected step clause) s = let f : 102 ≡ 114 = ap (byte_at 13) s.1 in absurd (omega (arith, f))
      at all_traces true verdict s = let f : 41 ≡ 44 = ap (byte_at 10) s.1 in absurd (omega (arith, f))
      at exists_trace true verdict s = let f : 97 ≡ 101 = ap (byte_at 0) s.1 in absurd (omega (arith, f))
      at exists_trace false verdict s = let f : 97 ≡ 101 = ap (byte_at 0) s.1 in absurd (omega (arith, f))

  pub tells_witness : (kind : TraceKind) (marked : Bool) (verdict : Verdict) (n k : ℕ)
      → name ++ (codes " (exists-trace): verified (" ++ (decimal n ++ codes " steps)")) ≡ verdict_line other kind marked verdict k
      → Tells other name kind exists_trace marked false verdict verified
  tells_witness kind marked verdict n k e =
      at kind marked verdict (behind (codes "exists-trace): verified (" ++ (decimal n ++ codes " steps)")) (kind_read kind marked ++ (codes "): " ++ verdict_words kind verdict k)) e)
    where
      at : (kind : TraceKind) (marked : Bool) (verdict : Verdict)
          → (name ≡ other) × (codes "exists-trace): verified (" ++ (decimal n ++ codes " steps)") ≡ kind_read kind marked ++ (codes "): " ++ verdict_words kind verdict k))
          → Tells other name kind exists_trace marked false verdict verified
      at exists_trace false verified s = record { name_is = sym s.0; kind_is = refl; reading_is = refl; verdict_is = refl }
      at exists_trace false falsified s = let f : 118 ≡ 102 = ap (byte_at 15) s.1 in absurd (omega (arith, f))
      at exists_trace false incomplete s = let f : 118 ≡ 97 = ap (byte_at 15) s.1 in absurd (omega (arith, f))
      at exists_trace false (rejected step clause) s = let f : 118 ≡ 114 = ap (byte_at 15) s.1 in absurd (omega (arith, f))
      at exists_trace true verdict s = let f : 41 ≡ 44 = ap (byte_at 12) s.1 in absurd (omega (arith, f))
      at all_traces true verdict s = let f : 101 ≡ 97 = ap (byte_at 0) s.1 in absurd (omega (arith, f))
      at all_traces false verdict s = let f : 101 ≡ 97 = ap (byte_at 0) s.1 in absurd (omega (arith, f))

  pub tells_none : (kind : TraceKind) (marked : Bool) (verdict : Verdict) (n k : ℕ)
      → name ++ (codes " (exists-trace): falsified - no trace found (" ++ (decimal n ++ codes " steps)")) ≡ verdict_line other kind marked verdict k
      → Tells other name kind exists_trace marked false verdict falsified
  tells_none kind marked verdict n k e =
      at kind marked verdict (behind (codes "exists-trace): falsified - no trace found (" ++ (decimal n ++ codes " steps)")) (kind_read kind marked ++ (codes "): " ++ verdict_words kind verdict k)) e)
    where
      at : (kind : TraceKind) (marked : Bool) (verdict : Verdict)
          → (name ≡ other) × (codes "exists-trace): falsified - no trace found (" ++ (decimal n ++ codes " steps)") ≡ kind_read kind marked ++ (codes "): " ++ verdict_words kind verdict k))
          → Tells other name kind exists_trace marked false verdict falsified
      at exists_trace false verified s = let f : 102 ≡ 118 = ap (byte_at 15) s.1 in absurd (omega (arith, f))
      at exists_trace false falsified s = record { name_is = sym s.0; kind_is = refl; reading_is = refl; verdict_is = refl }
      at exists_trace false incomplete s = let f : 102 ≡ 97 = ap (byte_at 15) s.1 in absurd (omega (arith, f))
      at exists_trace false (rejected step clause) s = let f : 102 ≡ 114 = ap (byte_at 15) s.1 in absurd (omega (arith, f))
      at exists_trace true verdict s = let f : 41 ≡ 44 = ap (byte_at 12) s.1 in absurd (omega (arith, f))
      at all_traces true verdict s = let f : 101 ≡ 97 = ap (byte_at 0) s.1 in absurd (omega (arith, f))
      at all_traces false verdict s = let f : 101 ≡ 97 = ap (byte_at 0) s.1 in absurd (omega (arith, f))

  pub tells_logs_verified : (kind : TraceKind) (marked : Bool) (verdict : Verdict) (n k : ℕ)
      → name ++ (codes " (all-traces, over learning logs): verified (" ++ (decimal n ++ codes " steps)")) ≡ verdict_line other kind marked verdict k
      → Tells other name kind all_traces marked true verdict verified
  tells_logs_verified kind marked verdict n k e =
      at kind marked verdict (behind (codes "all-traces, over learning logs): verified (" ++ (decimal n ++ codes " steps)")) (kind_read kind marked ++ (codes "): " ++ verdict_words kind verdict k)) e)
    where
      at : (kind : TraceKind) (marked : Bool) (verdict : Verdict)
          → (name ≡ other) × (codes "all-traces, over learning logs): verified (" ++ (decimal n ++ codes " steps)") ≡ kind_read kind marked ++ (codes "): " ++ verdict_words kind verdict k))
          → Tells other name kind all_traces marked true verdict verified
      at all_traces true verified s = record { name_is = sym s.0; kind_is = refl; reading_is = refl; verdict_is = refl }
      at all_traces true falsified s = let f : 118 ≡ 102 = ap (byte_at 33) s.1 in absurd (omega (arith, f))
      at all_traces true incomplete s = let f : 118 ≡ 97 = ap (byte_at 33) s.1 in absurd (omega (arith, f))
      at all_traces true (rejected step clause) s = let f : 118 ≡ 114 = ap (byte_at 33) s.1 in absurd (omega (arith, f))
      at all_traces false verdict s = let f : 44 ≡ 41 = ap (byte_at 10) s.1 in absurd (omega (arith, f))
      at exists_trace true verdict s = let f : 97 ≡ 101 = ap (byte_at 0) s.1 in absurd (omega (arith, f))
      at exists_trace false verdict s = let f : 97 ≡ 101 = ap (byte_at 0) s.1 in absurd (omega (arith, f))

  pub tells_logs_attack : (kind : TraceKind) (marked : Bool) (verdict : Verdict) (n k : ℕ)
      → name ++ (codes " (all-traces, over learning logs): falsified - found trace (" ++ (decimal n ++ codes " steps)")) ≡ verdict_line other kind marked verdict k
      → Tells other name kind all_traces marked true verdict falsified
  tells_logs_attack kind marked verdict n k e =
      at kind marked verdict (behind (codes "all-traces, over learning logs): falsified - found trace (" ++ (decimal n ++ codes " steps)")) (kind_read kind marked ++ (codes "): " ++ verdict_words kind verdict k)) e)
    where
      at : (kind : TraceKind) (marked : Bool) (verdict : Verdict)
          → (name ≡ other) × (codes "all-traces, over learning logs): falsified - found trace (" ++ (decimal n ++ codes " steps)") ≡ kind_read kind marked ++ (codes "): " ++ verdict_words kind verdict k))
          → Tells other name kind all_traces marked true verdict falsified
      at all_traces true verified s = let f : 102 ≡ 118 = ap (byte_at 33) s.1 in absurd (omega (arith, f))
      at all_traces true falsified s = record { name_is = sym s.0; kind_is = refl; reading_is = refl; verdict_is = refl }
      at all_traces true incomplete s = let f : 102 ≡ 97 = ap (byte_at 33) s.1 in absurd (omega (arith, f))
      at all_traces true (rejected step clause) s = let f : 102 ≡ 114 = ap (byte_at 33) s.1 in absurd (omega (arith, f))
      at all_traces false verdict s = let f : 44 ≡ 41 = ap (byte_at 10) s.1 in absurd (omega (arith, f))
      at exists_trace true verdict s = let f : 97 ≡ 101 = ap (byte_at 0) s.1 in absurd (omega (arith, f))
      at exists_trace false verdict s = let f : 97 ≡ 101 = ap (byte_at 0) s.1 in absurd (omega (arith, f))

  pub tells_logs_witness : (kind : TraceKind) (marked : Bool) (verdict : Verdict) (n k : ℕ)
      → name ++ (codes " (exists-trace, over learning logs): verified (" ++ (decimal n ++ codes " steps)")) ≡ verdict_line other kind marked verdict k
      → Tells other name kind exists_trace marked true verdict verified
  tells_logs_witness kind marked verdict n k e =
      at kind marked verdict (behind (codes "exists-trace, over learning logs): verified (" ++ (decimal n ++ codes " steps)")) (kind_read kind marked ++ (codes "): " ++ verdict_words kind verdict k)) e)
    where
      at : (kind : TraceKind) (marked : Bool) (verdict : Verdict)
          → (name ≡ other) × (codes "exists-trace, over learning logs): verified (" ++ (decimal n ++ codes " steps)") ≡ kind_read kind marked ++ (codes "): " ++ verdict_words kind verdict k))
          → Tells other name kind exists_trace marked true verdict verified
      at exists_trace true verified s = record { name_is = sym s.0; kind_is = refl; reading_is = refl; verdict_is = refl }
      at exists_trace true falsified s = let f : 118 ≡ 102 = ap (byte_at 35) s.1 in absurd (omega (arith, f))
      at exists_trace true incomplete s = let f : 118 ≡ 97 = ap (byte_at 35) s.1 in absurd (omega (arith, f))
      at exists_trace true (rejected step clause) s = let f : 118 ≡ 114 = ap (byte_at 35) s.1 in absurd (omega (arith, f))
      at exists_trace false verdict s = let f : 44 ≡ 41 = ap (byte_at 12) s.1 in absurd (omega (arith, f))
      at all_traces true verdict s = let f : 101 ≡ 97 = ap (byte_at 0) s.1 in absurd (omega (arith, f))
      at all_traces false verdict s = let f : 101 ≡ 97 = ap (byte_at 0) s.1 in absurd (omega (arith, f))

  pub tells_logs_none : (kind : TraceKind) (marked : Bool) (verdict : Verdict) (n k : ℕ)
      → name ++ (codes " (exists-trace, over learning logs): falsified - no trace found (" ++ (decimal n ++ codes " steps)")) ≡ verdict_line other kind marked verdict k
      → Tells other name kind exists_trace marked true verdict falsified
  tells_logs_none kind marked verdict n k e =
      at kind marked verdict (behind (codes "exists-trace, over learning logs): falsified - no trace found (" ++ (decimal n ++ codes " steps)")) (kind_read kind marked ++ (codes "): " ++ verdict_words kind verdict k)) e)
    where
      at : (kind : TraceKind) (marked : Bool) (verdict : Verdict)
          → (name ≡ other) × (codes "exists-trace, over learning logs): falsified - no trace found (" ++ (decimal n ++ codes " steps)") ≡ kind_read kind marked ++ (codes "): " ++ verdict_words kind verdict k))
          → Tells other name kind exists_trace marked true verdict falsified
      at exists_trace true verified s = let f : 102 ≡ 118 = ap (byte_at 35) s.1 in absurd (omega (arith, f))
      at exists_trace true falsified s = record { name_is = sym s.0; kind_is = refl; reading_is = refl; verdict_is = refl }
      at exists_trace true incomplete s = let f : 102 ≡ 97 = ap (byte_at 35) s.1 in absurd (omega (arith, f))
      at exists_trace true (rejected step clause) s = let f : 102 ≡ 114 = ap (byte_at 35) s.1 in absurd (omega (arith, f))
      at exists_trace false verdict s = let f : 44 ≡ 41 = ap (byte_at 12) s.1 in absurd (omega (arith, f))
      at all_traces true verdict s = let f : 101 ≡ 97 = ap (byte_at 0) s.1 in absurd (omega (arith, f))
      at all_traces false verdict s = let f : 101 ≡ 97 = ap (byte_at 0) s.1 in absurd (omega (arith, f))

-- ---- a line of a summary is one line

kind_no_feed : (kind : TraceKind) → NoFeed (kind_text kind)
kind_no_feed all_traces = no_feed_in (codes "all-traces") refl
kind_no_feed exists_trace = no_feed_in (codes "exists-trace") refl

reading_no_feed : (marked : Bool) → NoFeed (reading_text marked)
reading_no_feed true = no_feed_in (codes ", over learning logs") refl
reading_no_feed false = no_feed_in [] refl

clause_no_feed : (clause : Clause) → NoFeed (clause_text clause)
clause_no_feed clause_move = no_feed_in (codes "move") refl
clause_no_feed clause_instance = no_feed_in (codes "instance") refl
clause_no_feed clause_cases = no_feed_in (codes "cases") refl

falsified_no_feed : (kind : TraceKind) → NoFeed (falsified_text kind)
falsified_no_feed all_traces = no_feed_in (codes "falsified - found trace") refl
falsified_no_feed exists_trace = no_feed_in (codes "falsified - no trace found") refl

counted_no_feed : (n : ℕ) → NoFeed (counted_words n)
counted_no_feed n = no_feed_append (codes " (") (decimal n ++ codes " steps)") (no_feed_in (codes " (") refl) (no_feed_append (decimal n) (codes " steps)") (without_blank (decimal n) (decimal_no_blank n)) (no_feed_in (codes " steps)") refl))

words_no_feed : (kind : TraceKind) (verdict : Verdict) (n : ℕ) → NoFeed (verdict_words kind verdict n)
words_no_feed kind verified n = no_feed_append (codes "verified") (counted_words n) (no_feed_in (codes "verified") refl) (counted_no_feed n)
words_no_feed kind falsified n = no_feed_append (falsified_text kind) (counted_words n) (falsified_no_feed kind) (counted_no_feed n)
words_no_feed kind incomplete n = no_feed_append (codes "analysis incomplete") (counted_words n) (no_feed_in (codes "analysis incomplete") refl) (counted_no_feed n)
words_no_feed kind (rejected step clause) n =
    let last = no_feed_append (clause_text clause) (codes ")") (clause_no_feed clause) (no_feed_in (codes ")") refl) in
    let behind_step = no_feed_append (codes " (") (clause_text clause ++ codes ")") (no_feed_in (codes " (") refl) last in
    no_feed_append (codes "rejected at step ") (decimal step ++ (codes " (" ++ (clause_text clause ++ codes ")"))) (no_feed_in (codes "rejected at step ") refl)
    (no_feed_append (decimal step) (codes " (" ++ (clause_text clause ++ codes ")")) (without_blank (decimal step) (decimal_no_blank step)) behind_step)

pub verdict_no_feed : (name : List ℕ) (kind : TraceKind) (marked : Bool) (verdict : Verdict) (n : ℕ) → IsWord name → NoFeed (verdict_line name kind marked verdict n)
verdict_no_feed name kind marked verdict n h =
    let words = no_feed_append (codes "): ") (verdict_words kind verdict n) (no_feed_in (codes "): ") refl) (words_no_feed kind verdict n) in
    let read = no_feed_append (kind_text kind) (reading_text marked) (kind_no_feed kind) (reading_no_feed marked) in
    let told = no_feed_append (kind_read kind marked) (codes "): " ++ verdict_words kind verdict n) read words in
    no_feed_append name (codes " (" ++ (kind_read kind marked ++ (codes "): " ++ verdict_words kind verdict n))) (no_feed_word name h)
    (no_feed_append (codes " (") (kind_read kind marked ++ (codes "): " ++ verdict_words kind verdict n)) (no_feed_in (codes " (") refl) told)
