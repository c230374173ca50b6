-- What is said of lemmas, in words. Source of the shape: Tamarin manual, "Output"; the words are this project's own.
use Rattle.std.specs.Prelude.{ℕ, Bool, List, ◌++◌, codes, decimal, Option, Some, None}
use Rattle.sp_spec.specs.Theory.{TraceKind, all_traces, exists_trace}
use Rattle.sp_spec.specs.Log.{Log}
use Rattle.sp_spec_printed.specs.Kind.{kind_read}

-- What a node of a proof can fail of, in the order in which it is told: its text is no move's; its move is no instance; its branches don't
-- have the names of the move's cases, one by one in their order.
pub data Clause : Type 0 where
  clause_move : Clause
  clause_instance : Clause
  clause_cases : Clause

-- The lemma holds, or it doesn't; its proof is open; or its proof is rejected at this step, by this clause.
pub data Verdict : Type 0 where
  verified : Verdict
  falsified : Verdict
  incomplete : Verdict
  rejected : ℕ → Clause → Verdict

-- What an accepted proof says of a lemma, by the log with which its search ended, if it did, and by whether it is finished. A lemma on all
-- traces is falsified by such a log, and verified where there is none and nothing is left; one on some trace the other way.
abbrev pub Says : TraceKind → Verdict → Option Log → Type 0 → Type 0
Says all_traces verified None finished = finished
Says all_traces falsified (Some log) finished = Unit {0}
Says all_traces incomplete None finished = finished → ⊥
Says exists_trace verified (Some log) finished = Unit {0}
Says exists_trace falsified None finished = finished
Says exists_trace incomplete None finished = finished → ⊥
Says kind verdict log finished = ⊥

abbrev pub clause_text : Clause → List ℕ
clause_text clause_move = codes "move"
clause_text clause_instance = codes "instance"
clause_text clause_cases = codes "cases"

abbrev pub in_steps : ℕ → List ℕ
in_steps n = codes " (" ++ (decimal n ++ codes " steps)\n")

-- a lemma on all traces is falsified by a trace, one on some trace by there being none
abbrev pub falsified_text : TraceKind → List ℕ
falsified_text all_traces = codes "falsified - found trace"
falsified_text exists_trace = codes "falsified - no trace found"

-- with the number of the proof's steps
abbrev pub verdict_text : TraceKind → Verdict → ℕ → List ℕ
verdict_text kind verified n = codes "verified" ++ in_steps n
verdict_text kind falsified n = falsified_text kind ++ in_steps n
verdict_text kind incomplete n = codes "analysis incomplete" ++ in_steps n
verdict_text kind (rejected step clause) n = codes "rejected at step " ++ (decimal step ++ (codes " (" ++ (clause_text clause ++ codes ")\n")))

-- the line of a lemma in the summary
abbrev pub summary_line : List ℕ → TraceKind → Bool → Verdict → ℕ → List ℕ
summary_line name kind marked verdict n = name ++ (codes " (" ++ (kind_read kind marked ++ (codes "): " ++ verdict_text kind verdict n)))
