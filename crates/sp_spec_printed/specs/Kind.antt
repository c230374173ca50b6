-- The words of a lemma's kind, and of what it is read over. Source: Tamarin manual, "Property specification".
use Rattle.std.specs.Prelude.{ℕ, Bool, true, false, List, [], ◌++◌, codes}
use Rattle.sp_spec.specs.Theory.{TraceKind, all_traces, exists_trace}

abbrev pub kind_text : TraceKind → List ℕ
kind_text all_traces = codes "all-traces"
kind_text exists_trace = codes "exists-trace"

-- a lemma that names learning is read over learning logs, any other over executions
abbrev pub reading_text : Bool → List ℕ
reading_text true = codes ", over learning logs"
reading_text false = []

abbrev pub kind_read : TraceKind → Bool → List ℕ
kind_read kind marked = kind_text kind ++ reading_text marked
