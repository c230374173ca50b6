-- What is told of lemmas, line by line: each line that begins as a verdict's does is that of a lemma, and says what is so.
use Rattle.std.proofs.Common.{◌≡◌, ℕ, Bool, true, false, List, [], ◌∷◌, ◌++◌, map, codes, Option, Some, None, inl, inr, refl, sym, ap, subst, ◌∙◌, append_assoc}
use Rattle.std.specs.Prelude.{decimal}
use Rattle.sp_spec.specs.Lists.{Member, Every, Distinct, newest_first}
use Rattle.sp_spec.proofs.Lists.{every_member, every_weaken, member_map, newest_twice}
use Rattle.sp_spec.specs.Theory.{TraceKind, all_traces, exists_trace, Theory, Lemma, signature_of}
use Rattle.sp_spec.specs.Written.{theory_of}
use Rattle.sp_spec.specs.Execution.{Step}
use Rattle.sp_spec.specs.Log.{Log, visible_trace}
use Rattle.sp_spec.specs.Verdict.{HoldsInAll, HoldsInNone, IsBrokenBy, IsSatisfiedBy, names_learning, HoldsInAllLogs, HoldsInNoLog, IsBrokenByLog, IsSatisfiedByLog}
use Rattle.sp_spec_text.specs.Written.{WrittenText}
use Rattle.sp_spec_text.specs.Declared.{theory_in}
use Rattle.sp_spec_text.specs.Texts.{IsTextOf}
use Rattle.sp_spec_printed.specs.Printed.{step_text}
use Rattle.sp_spec_printed.specs.Verdict.{Verdict, verified, falsified, summary_line}
use Rattle.sp_spec_text.specs.Names.{IsWord}
use Rattle.sp_spec_text.specs.Blanks.{lines}
use Rattle.sp_spec_printed.specs.StepLines.{HaveNames}
use Rattle.sp_read_theory.proofs.Whole.{text_one}
use Rattle.sp_law_log_execution.specs.Executed.{executed_of}
use Rattle.sp_law_found_log.proofs.Learning.{out_of_reading, out_of_logs}
use Rattle.sp_law_printed_log.specs.Block.{oldest_first}
use Rattle.sp_spec_log_lines.specs.Line.{line_text}
use Rattle.sp_spec_log_lines.specs.Block.{lines_of}
use Rattle.sp_law_log_lines.specs.Block.{given_in}
use Rattle.sp_law_log_lines.proofs.BlockLines.{log_block_lines, log_block_cut, log_block_no_verdict}
use Rattle.sp_analysis.specs.Found.{block_of}
use Rattle.sp_law_printed_log.proofs.NoFeeds.{action_no_feed}
use Rattle.sp_law_printed_log.proofs.ReadBack.{steps_are_read_back_lem}
use Rattle.sp_law_printed_log.proofs.Sections.{IsNoVerdict, pass, section_lines, Begins, begins, sections_text, IsCut, sections_cut}
use Rattle.sp_law_printed_log.proofs.BlockLines.{entry_line, block_lines, block_cut, block_no_verdict}
use Rattle.sp_law_printed_log.proofs.VerdictLines.{verdict_line, summary_cut, verdict_no_feed, tells_verified, tells_attack, tells_witness, tells_none, tells_logs_verified, tells_logs_attack, tells_logs_witness, tells_logs_none}
use Rattle.sp_analysis.specs.Laws.{Means, IsReadBack, IsToldByLines, AreReadBack}
use Rattle.sp_top.specs.Headline.{IsLineAbove, IsLemmaOf, IsExecutionBelow, IsLogBelow, OfLemma, LinesAreTrue}

-- what is told of a lemma
pub record Told : Type 0 where
  pub lemma : Lemma
  pub verdict : Verdict
  pub steps : ℕ
  pub log : Option Log

-- it is read over learning logs
abbrev pub marked : Told → Bool
marked t = names_learning t.lemma.formula

abbrev pub told_text : Theory → List Told → List ℕ
told_text theory [] = []
told_text theory (t ∷ ts) = summary_line t.lemma.name t.lemma.kind (marked t) t.verdict t.steps ++ (block_of theory (marked t) t.log ++ told_text theory ts)

abbrev first_line : Told → List ℕ
first_line t = verdict_line t.lemma.name t.lemma.kind (marked t) t.verdict t.steps

-- those of its log, or of its execution
abbrev lines_below : Theory → Bool → Option Log → List (List ℕ)
lines_below theory marked None = []
lines_below theory true (Some log) = log_block_lines (lines_of (given_in theory) log) (newest_first (visible_trace log))
lines_below theory false (Some log) = block_lines (oldest_first (executed_of theory log)) (oldest_first (visible_trace log))

-- it is told of a lemma of the text, and is so
pub record IsRightlyTold (text : WrittenText) (t : Told) : Type 0 where
  pub stands : Member t.lemma (theory_in text).lemmas
  pub named : IsWord t.lemma.name
  pub means : Means (theory_of (theory_in text)) t.lemma.kind t.verdict t.log t.lemma
  pub read : AreReadBack (theory_of (theory_in text)) (marked t) t.log

-- ---- what verdicts mean

-- what it means of a lemma that names no learning, and so is read over executions
module _ (theory : Theory) (lemma : Lemma) (none : names_learning lemma.formula ≡ false) where
  means_proof : (log : Option Log) → Means theory all_traces verified log lemma → HoldsInAll theory lemma
  means_proof None h = out_of_reading lemma none (HoldsInAllLogs theory lemma) (HoldsInAll theory lemma) h
  means_proof (Some log) h = absurd h

  means_refutation : (log : Option Log) → Means theory exists_trace falsified log lemma → HoldsInNone theory lemma
  means_refutation None h = out_of_reading lemma none (HoldsInNoLog theory lemma) (HoldsInNone theory lemma) h
  means_refutation (Some log) h = absurd h

  means_attack : (log : Option Log) → Means theory all_traces falsified log lemma → (l : Log) × (log ≡ Some l) × IsBrokenBy theory lemma (executed_of theory l)
  means_attack None h = absurd h
  means_attack (Some log) h = (log, refl, out_of_reading lemma none (IsBrokenByLog theory lemma log) (IsBrokenBy theory lemma (executed_of theory log)) h.in_reading)

  means_witness : (log : Option Log) → Means theory exists_trace verified log lemma → (l : Log) × (log ≡ Some l) × IsSatisfiedBy theory lemma (executed_of theory l)
  means_witness None h = absurd h
  means_witness (Some log) h = (log, refl, out_of_reading lemma none (IsSatisfiedByLog theory lemma log) (IsSatisfiedBy theory lemma (executed_of theory log)) h.in_reading)

-- what it means of a lemma that names learning, and so is read over logs
module _ (theory : Theory) (lemma : Lemma) (learns : names_learning lemma.formula ≡ true) where
  means_log_proof : (log : Option Log) → Means theory all_traces verified log lemma → HoldsInAllLogs theory lemma
  means_log_proof None h = out_of_logs lemma learns (HoldsInAllLogs theory lemma) (HoldsInAll theory lemma) h
  means_log_proof (Some log) h = absurd h

  means_log_refutation : (log : Option Log) → Means theory exists_trace falsified log lemma → HoldsInNoLog theory lemma
  means_log_refutation None h = out_of_logs lemma learns (HoldsInNoLog theory lemma) (HoldsInNone theory lemma) h
  means_log_refutation (Some log) h = absurd h

module _ (theory : Theory) (lemma : Lemma) where
  means_log_attack : (log : Option Log) → Means theory all_traces falsified log lemma → (l : Log) × (log ≡ Some l) × IsBrokenByLog theory lemma l
  means_log_attack None h = absurd h
  means_log_attack (Some log) h = (log, refl, h.by_log)

  means_log_witness : (log : Option Log) → Means theory exists_trace verified log lemma → (l : Log) × (log ≡ Some l) × IsSatisfiedByLog theory lemma l
  means_log_witness None h = absurd h
  means_log_witness (Some log) h = (log, refl, h.by_log)

-- ---- names

-- of elements whose names are distinct, two of one name are one
named_one : {A : Type 0} (name_of : A → List ℕ) (xs : List A) → Distinct (map name_of xs) → (x y : A) → Member x xs → Member y xs → name_of x ≡ name_of y → x ≡ y
named_one name_of [] d x y m k e = absurd m
named_one name_of (z ∷ zs) d x y (inl p) (inl q) e = sym p ∙ q
named_one name_of (z ∷ zs) d x y (inl p) (inr k) e = absurd (d.0 (subst (λ (n : List ℕ). Member n (map name_of zs)) (sym (ap name_of p ∙ e)) (member_map name_of y zs k)))
named_one name_of (z ∷ zs) d x y (inr m) (inl q) e = absurd (d.0 (subst (λ (n : List ℕ). Member n (map name_of zs)) (e ∙ sym (ap name_of q)) (member_map name_of x zs m)))
named_one name_of (z ∷ zs) d x y (inr m) (inr k) e = named_one name_of zs d.1 x y m k e

-- ---- lines

module _ (text : WrittenText) (names : HaveNames (signature_of (theory_of (theory_in text))).symbols) where
  abbrev theory : Theory
  theory = theory_of (theory_in text)

  abbrev block : Told → List (List ℕ)
  block t = lines_below theory (marked t) t.log

  abbrev block_text : Told → List ℕ
  block_text t = block_of theory (marked t) t.log

  -- all lines of what is told
  abbrev pub all_lines : List Told → List (List ℕ)
  all_lines ts = section_lines first_line block ts

  told_sections : (ts : List Told) → told_text theory ts ≡ sections_text first_line block block_text ts
  told_sections [] = refl
  told_sections (t ∷ ts) =
      ap (λ (xs : List ℕ). xs ++ (block_text t ++ told_text theory ts)) (summary_cut t.lemma.name t.lemma.kind (marked t) t.verdict t.steps)
      ∙ ap (λ (xs : List ℕ). (first_line t ++ 10 ∷ []) ++ (block_text t ++ xs)) (told_sections ts)

  block_is : (b : Bool) (log : Option Log) → AreReadBack theory b log → (behind : List ℕ) → lines (block_of theory b log ++ behind) ≡ lines_below theory b log ++ lines behind
  block_is true None h behind = refl
  block_is false None h behind = refl
  block_is true (Some log) h behind =
      log_block_cut (signature_of theory).symbols names (action_no_feed (signature_of theory).symbols names) (lines_of (given_in theory) log) (newest_first (visible_trace log)) h.writable h.shown behind
  block_is false (Some log) h behind =
      block_cut (signature_of theory).symbols names (oldest_first (executed_of theory log)) (oldest_first (visible_trace log)) h.writable h.shown steps_are_read_back_lem
      (action_no_feed (signature_of theory).symbols names) behind

  block_silent : (b : Bool) (log : Option Log) → AreReadBack theory b log → Every IsNoVerdict (lines_below theory b log)
  block_silent b None h = tt
  block_silent true (Some log) h =
      log_block_no_verdict (signature_of theory).symbols names (action_no_feed (signature_of theory).symbols names) (lines_of (given_in theory) log) (newest_first (visible_trace log)) h.writable h.shown
  block_silent false (Some log) h =
      block_no_verdict (signature_of theory).symbols names (oldest_first (executed_of theory log)) (oldest_first (visible_trace log)) h.writable h.shown
      (action_no_feed (signature_of theory).symbols names)

  pub told_lines : (ts : List Told) → Every (IsRightlyTold text) ts → (behind : List ℕ) → lines (told_text theory ts ++ behind) ≡ all_lines ts ++ lines behind
  told_lines ts h behind =
      ap (λ (xs : List ℕ). lines (xs ++ behind)) (told_sections ts)
      ∙ sections_cut first_line block block_text ts
      (every_weaken (IsRightlyTold text) (IsCut first_line block block_text)
      (λ t k. record { no_feed = verdict_no_feed t.lemma.name t.lemma.kind (marked t) t.verdict t.steps k.named; block_is = block_is (marked t) t.log k.read }) ts h) behind

  -- the lines of a text: none that begins as a verdict's does, those of what is told, and none again
  module _ (bytes : List ℕ) (says : IsTextOf bytes text) (differ : Distinct (map (λ (l : Lemma). l.name) (theory_in text).lemmas)) (told : List ℕ) (head tail : List (List ℕ)) (ts : List Told) (right : Every (IsRightlyTold text) ts)
      (are : lines told ≡ head ++ (all_lines ts ++ tail)) (no_head : Every IsNoVerdict head) (no_tail : Every IsNoVerdict tail) where
    beginning : (name rest : List ℕ) → IsWord name → (below : List (List ℕ)) → IsLineAbove told (name ++ 32 ∷ 40 ∷ rest) below → Begins first_line block ts (name ++ 32 ∷ 40 ∷ rest) below
    beginning name rest w below l =
        let p = pass name rest w (name ++ 32 ∷ 40 ∷ rest) refl head (section_lines first_line block ts ++ tail) l.above below no_head (sym are ∙ l.lines_are) in
        begins first_line block name rest w (name ++ 32 ∷ 40 ∷ rest) refl ts (every_weaken (IsRightlyTold text) (λ (t : Told). Every IsNoVerdict (block t)) (λ t k. block_silent (marked t) t.log k.read) ts right)
        tail no_tail p.above below p.are

    -- the lemma of which it is told
    lemma_there : (t : Told) → Member t ts → (name : List ℕ) (kind : TraceKind) → t.lemma.name ≡ name → t.lemma.kind ≡ kind → IsLemmaOf bytes name kind theory t.lemma
    lemma_there t m name kind e k = record { text = text; says = says; theory_is = refl; stands = (every_member (IsRightlyTold text) ts t m right).stands; name_is = e; kind_is = k }

    -- each lemma of that name in a theory that the bytes say is the one of which it is told
    each_there : (t : Told) → Member t ts → (name : List ℕ) (kind : TraceKind) → t.lemma.name ≡ name → (IsSo : Theory → Lemma → Type 0) → IsSo theory t.lemma
        → (other : Theory) (lemma : Lemma) → IsLemmaOf bytes name kind other lemma → IsSo other lemma
    each_there t m name kind e IsSo so other lemma l =
        let one : theory ≡ other = ap (λ (w : WrittenText). theory_of (theory_in w)) (text_one says l.says) ∙ sym l.theory_is in
        let there = subst (λ (x : Theory). Member lemma x.lemmas) (sym one) l.stands in
        let same = named_one (λ (x : Lemma). x.name) (theory_in text).lemmas differ t.lemma lemma (every_member (IsRightlyTold text) ts t m right).stands there (e ∙ sym l.name_is) in
        subst (λ (x : Theory). IsSo x lemma) one (subst (IsSo theory) same so)

    of_lemma : (t : Told) → Member t ts → (name : List ℕ) (kind : TraceKind) → t.lemma.name ≡ name → t.lemma.kind ≡ kind → (IsSo : Theory → Lemma → Type 0) → IsSo theory t.lemma
        → OfLemma bytes name kind IsSo
    of_lemma t m name kind e k IsSo so = ((theory, t.lemma, lemma_there t m name kind e k, so), each_there t m name kind e IsSo so)

    read_of : (t : Told) → Member t ts → (b : Bool) → marked t ≡ b → (log : Log) → t.log ≡ Some log → AreReadBack theory b (Some log)
    read_of t m b is log e =
        subst (λ (x : Bool). AreReadBack theory x (Some log)) is (subst (AreReadBack theory (marked t)) e (every_member (IsRightlyTold text) ts t m right).read)

    -- the lines below are those of what was found
    block_below : (t : Told) (b : Bool) → marked t ≡ b → (log : Log) → t.log ≡ Some log → (below behind : List (List ℕ)) → below ≡ block t ++ behind → below ≡ lines_below theory b (Some log) ++ behind
    block_below t b is log e below behind stands =
        stands ∙ ap (λ (x : Bool). lines_below theory x t.log ++ behind) is ∙ ap (λ (o : Option Log). lines_below theory b o ++ behind) e

    -- the execution that stands below
    execution_there : (t : Told) → Member t ts → marked t ≡ false → (log : Log) → t.log ≡ Some log → (below behind : List (List ℕ)) → below ≡ block t ++ behind → (IsSo : List Step → Type 0)
        → IsSo (executed_of theory log) → IsExecutionBelow below theory IsSo
    execution_there t m unlearnt log e below behind is IsSo so =
        let read : IsReadBack theory log = read_of t m false unlearnt log e in
        let steps = oldest_first (executed_of theory log) in
        let entries = map entry_line (oldest_first (visible_trace log)) ++ codes "end of trace" ∷ [] in
        record {
          block = map step_text steps;
          behind = entries ++ behind;
          lines_are = block_below t false unlearnt log e below behind is ∙ ap (λ (ls : List (List ℕ)). codes "execution:" ∷ ls) (append_assoc (map step_text steps) (codes "trace:" ∷ entries) behind);
          steps = steps;
          are_steps = read.read;
          is_so = subst IsSo (sym (newest_twice (executed_of theory log))) so;
        }

    -- the log that stands below
    log_there : (t : Told) → Member t ts → marked t ≡ true → (log : Log) → t.log ≡ Some log → (below behind : List (List ℕ)) → below ≡ block t ++ behind → (IsSo : Log → Type 0)
        → IsSo log → IsLogBelow below theory IsSo
    log_there t m learns log e below behind is IsSo so =
        let read : IsToldByLines theory log = read_of t m true learns log e in
        let said = map line_text (lines_of (given_in theory) log) in
        let entries = map entry_line (newest_first (visible_trace log)) ++ codes "end of trace" ∷ [] in
        record {
          block = said;
          behind = entries ++ behind;
          lines_are = block_below t true learns log e below behind is ∙ ap (λ (ls : List (List ℕ)). codes "log:" ∷ ls) (append_assoc said (codes "trace:" ∷ entries) behind);
          log = log;
          tell = read.tell;
          is_so = so;
        }

    right_of : (t : Told) → Member t ts → (kind : TraceKind) (verdict : Verdict) → t.lemma.kind ≡ kind → t.verdict ≡ verdict → Means theory kind verdict t.log t.lemma
    right_of t m kind verdict k v =
        subst (λ (x : Verdict). Means theory kind x t.log t.lemma) v
        (subst (λ (x : TraceKind). Means theory x t.verdict t.log t.lemma) k (every_member (IsRightlyTold text) ts t m right).means)

    word_of : (t : Told) → Member t ts → IsWord t.lemma.name
    word_of t m = (every_member (IsRightlyTold text) ts t m right).named

    pub lines_true : LinesAreTrue bytes told
    lines_true = record {
      proof = λ name n below w l.
          let b = beginning name (codes "all-traces): verified (" ++ (decimal n ++ codes " steps)")) w below l in
          let t = b.section in
          let s = tells_verified name t.lemma.name w (word_of t b.among) t.lemma.kind (marked t) t.verdict n t.steps b.line_is in
          of_lemma t b.among name all_traces s.name_is s.kind_is HoldsInAll (means_proof theory t.lemma s.reading_is t.log (right_of t b.among all_traces verified s.kind_is s.verdict_is));
      attack = λ name n below w l.
          let b = beginning name (codes "all-traces): falsified - found trace (" ++ (decimal n ++ codes " steps)")) w below l in
          let t = b.section in
          let s = tells_attack name t.lemma.name w (word_of t b.among) t.lemma.kind (marked t) t.verdict n t.steps b.line_is in
          let f = means_attack theory t.lemma s.reading_is t.log (right_of t b.among all_traces falsified s.kind_is s.verdict_is) in
          of_lemma t b.among name all_traces s.name_is s.kind_is (λ (other : Theory) (lemma : Lemma). IsExecutionBelow below other (IsBrokenBy other lemma))
          (execution_there t b.among s.reading_is f.0 f.1 below b.behind b.below_is (IsBrokenBy theory t.lemma) f.2);
      witness = λ name n below w l.
          let b = beginning name (codes "exists-trace): verified (" ++ (decimal n ++ codes " steps)")) w below l in
          let t = b.section in
          let s = tells_witness name t.lemma.name w (word_of t b.among) t.lemma.kind (marked t) t.verdict n t.steps b.line_is in
          let f = means_witness theory t.lemma s.reading_is t.log (right_of t b.among exists_trace verified s.kind_is s.verdict_is) in
          of_lemma t b.among name exists_trace s.name_is s.kind_is (λ (other : Theory) (lemma : Lemma). IsExecutionBelow below other (IsSatisfiedBy other lemma))
          (execution_there t b.among s.reading_is f.0 f.1 below b.behind b.below_is (IsSatisfiedBy theory t.lemma) f.2);
      refutation = λ name n below w l.
          let b = beginning name (codes "exists-trace): falsified - no trace found (" ++ (decimal n ++ codes " steps)")) w below l in
          let t = b.section in
          let s = tells_none name t.lemma.name w (word_of t b.among) t.lemma.kind (marked t) t.verdict n t.steps b.line_is in
          of_lemma t b.among name exists_trace s.name_is s.kind_is HoldsInNone (means_refutation theory t.lemma s.reading_is t.log (right_of t b.among exists_trace falsified s.kind_is s.verdict_is));
      marked_proof = λ name n below w l.
          let b = beginning name (codes "all-traces, over learning logs): verified (" ++ (decimal n ++ codes " steps)")) w below l in
          let t = b.section in
          let s = tells_logs_verified name t.lemma.name w (word_of t b.among) t.lemma.kind (marked t) t.verdict n t.steps b.line_is in
          of_lemma t b.among name all_traces s.name_is s.kind_is HoldsInAllLogs (means_log_proof theory t.lemma s.reading_is t.log (right_of t b.among all_traces verified s.kind_is s.verdict_is));
      marked_attack = λ name n below w l.
          let b = beginning name (codes "all-traces, over learning logs): falsified - found trace (" ++ (decimal n ++ codes " steps)")) w below l in
          let t = b.section in
          let s = tells_logs_attack name t.lemma.name w (word_of t b.among) t.lemma.kind (marked t) t.verdict n t.steps b.line_is in
          let f = means_log_attack theory t.lemma t.log (right_of t b.among all_traces falsified s.kind_is s.verdict_is) in
          of_lemma t b.among name all_traces s.name_is s.kind_is (λ (other : Theory) (lemma : Lemma). IsLogBelow below other (IsBrokenByLog other lemma))
          (log_there t b.among s.reading_is f.0 f.1 below b.behind b.below_is (IsBrokenByLog theory t.lemma) f.2);
      marked_witness = λ name n below w l.
          let b = beginning name (codes "exists-trace, over learning logs): verified (" ++ (decimal n ++ codes " steps)")) w below l in
          let t = b.section in
          let s = tells_logs_witness name t.lemma.name w (word_of t b.among) t.lemma.kind (marked t) t.verdict n t.steps b.line_is in
          let f = means_log_witness theory t.lemma t.log (right_of t b.among exists_trace verified s.kind_is s.verdict_is) in
          of_lemma t b.among name exists_trace s.name_is s.kind_is (λ (other : Theory) (lemma : Lemma). IsLogBelow below other (IsSatisfiedByLog other lemma))
          (log_there t b.among s.reading_is f.0 f.1 below b.behind b.below_is (IsSatisfiedByLog theory t.lemma) f.2);
      marked_refutation = λ name n below w l.
          let b = beginning name (codes "exists-trace, over learning logs): falsified - no trace found (" ++ (decimal n ++ codes " steps)")) w below l in
          let t = b.section in
          let s = tells_logs_none name t.lemma.name w (word_of t b.among) t.lemma.kind (marked t) t.verdict n t.steps b.line_is in
          of_lemma t b.among name exists_trace s.name_is s.kind_is HoldsInNoLog (means_log_refutation theory t.lemma s.reading_is t.log (right_of t b.among exists_trace falsified s.kind_is s.verdict_is));
    }
