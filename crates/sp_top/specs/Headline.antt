-- What the lines that are written say of a theory, for a reader who takes none of the definitions on trust by which they are found. It speaks of
-- the bytes of a text, of the lines of what is written, and of executions. Source: CSF 2012, "Security properties"; Tamarin manual, "Output".
use Rattle.std.specs.Prelude.{◌≡◌, ℕ, List, ◌∷◌, ◌++◌, Option, Some, codes, decimal}
use Rattle.sp_spec.specs.Lists.{Member, newest_first}
use Rattle.sp_spec.specs.Theory.{TraceKind, all_traces, exists_trace, Theory, Lemma, signature_of}
use Rattle.sp_spec.specs.Written.{theory_of}
use Rattle.sp_spec.specs.Execution.{Step}
use Rattle.sp_spec.specs.Log.{Log}
use Rattle.sp_spec.specs.Verdict.{HoldsInAll, HoldsInNone, IsBrokenBy, IsSatisfiedBy, HoldsInAllLogs, HoldsInNoLog, IsBrokenByLog, IsSatisfiedByLog}
use Rattle.sp_spec_text.specs.Written.{WrittenText}
use Rattle.sp_spec_text.specs.Declared.{theory_in}
use Rattle.sp_spec_text.specs.Texts.{IsTextOf}
use Rattle.sp_spec_text.specs.Names.{IsWord}
use Rattle.sp_spec_text.specs.Blanks.{lines}
use Rattle.sp_spec_printed.specs.StepLines.{AreSteps}
use Rattle.sp_spec_log_lines.specs.Told.{TellOf}
use Rattle.sp_spec_text.specs.Behind.{IsBehindEnd}
use Rattle.sp_top.specs.Command.{Request, IsAbout, IsLine}
use Rattle.sp_top.specs.Run.{HasVerdicts}
use Rattle.sp_top.specs.declared.Status.{Status}
use Rattle.sp_top.specs.declared.Status.TheVariants.{WriteFault}
use Rattle.sp_words.specs.declared.Command.{Command}
use Rattle.sp_words.specs.declared.Command.TheVariants.{Prove, Check}

-- the line is one of the text, and these stand below it
pub record IsLineAbove (text line : List ℕ) (below : List (List ℕ)) : Type 0 where
  pub above : List (List ℕ)
  pub lines_are : lines text ≡ above ++ line ∷ below

-- the line is one of the text, with a line feed behind it: another stands below
pub record IsWholeLine (text line : List ℕ) : Type 0 where
  pub next : List ℕ
  pub below : List (List ℕ)
  pub stands : IsLineAbove text line (next ∷ below)

-- the bytes are the text of the theory, and a lemma of this name and kind stands in it
pub record IsLemmaOf (bytes name : List ℕ) (kind : TraceKind) (theory : Theory) (lemma : Lemma) : Type 0 where
  pub text : WrittenText
  pub says : IsTextOf bytes text
  pub theory_is : theory ≡ theory_of (theory_in text)
  pub stands : Member lemma theory.lemmas
  pub name_is : lemma.name ≡ name
  pub kind_is : lemma.kind ≡ kind

-- below stand the lines of steps, the oldest first, of which this is so
pub record IsExecutionBelow (below : List (List ℕ)) (theory : Theory) (IsSo : List Step → Type 0) : Type 0 where
  pub block : List (List ℕ)
  pub behind : List (List ℕ)
  pub lines_are : below ≡ codes "execution:" ∷ (block ++ codes "trace:" ∷ behind)
  pub steps : List Step
  pub are_steps : AreSteps (signature_of theory).symbols block steps
  pub is_so : IsSo (newest_first steps)

-- below stand the lines of a learning log, the oldest entry first, which tell of this one
pub record IsLogBelow (below : List (List ℕ)) (theory : Theory) (IsSo : Log → Type 0) : Type 0 where
  pub block : List (List ℕ)
  pub behind : List (List ℕ)
  pub lines_are : below ≡ codes "log:" ∷ (block ++ codes "trace:" ∷ behind)
  pub log : Log
  pub tell : TellOf theory block (newest_first log)
  pub is_so : IsSo log

-- so it is of some lemma of that name and kind
abbrev pub OfSomeLemma : List ℕ → List ℕ → TraceKind → (Theory → Lemma → Type 0) → Type 0
OfSomeLemma bytes name kind IsSo = (theory : Theory) × (lemma : Lemma) × IsLemmaOf bytes name kind theory lemma × IsSo theory lemma

-- so it is of each, whatever theory the bytes say
abbrev pub OfEachLemma : List ℕ → List ℕ → TraceKind → (Theory → Lemma → Type 0) → Type 0
OfEachLemma bytes name kind IsSo = (theory : Theory) (lemma : Lemma) → IsLemmaOf bytes name kind theory lemma → IsSo theory lemma

-- the text has a lemma of that name and kind, and so it is of each that it has
abbrev pub OfLemma : List ℕ → List ℕ → TraceKind → (Theory → Lemma → Type 0) → Type 0
OfLemma bytes name kind IsSo = OfSomeLemma bytes name kind IsSo × OfEachLemma bytes name kind IsSo

-- Of executions that meet the theory's restrictions. `NAME (all-traces): verified (N steps)`: every execution satisfies the lemma.
-- `NAME (all-traces): falsified - found trace (N steps)`: the execution that stands below breaks it. `NAME (exists-trace): verified (N steps)`: the
-- execution that stands below satisfies it. `NAME (exists-trace): falsified - no trace found (N steps)`: no execution does.
pub record LinesAreTrue (bytes told : List ℕ) : Type 0 where
  pub proof : (name : List ℕ) (n : ℕ) (below : List (List ℕ)) → IsWord name → IsLineAbove told (name ++ (codes " (all-traces): verified (" ++ (decimal n ++ codes " steps)"))) below
      → OfLemma bytes name all_traces HoldsInAll
  pub attack : (name : List ℕ) (n : ℕ) (below : List (List ℕ)) → IsWord name → IsLineAbove told (name ++ (codes " (all-traces): falsified - found trace (" ++ (decimal n ++ codes " steps)"))) below
      → OfLemma bytes name all_traces (λ theory lemma. IsExecutionBelow below theory (IsBrokenBy theory lemma))
  pub witness : (name : List ℕ) (n : ℕ) (below : List (List ℕ)) → IsWord name → IsLineAbove told (name ++ (codes " (exists-trace): verified (" ++ (decimal n ++ codes " steps)"))) below
      → OfLemma bytes name exists_trace (λ theory lemma. IsExecutionBelow below theory (IsSatisfiedBy theory lemma))
  pub refutation : (name : List ℕ) (n : ℕ) (below : List (List ℕ)) → IsWord name → IsLineAbove told (name ++ (codes " (exists-trace): falsified - no trace found (" ++ (decimal n ++ codes " steps)"))) below
      → OfLemma bytes name exists_trace HoldsInNone
  -- A lemma that names learning is read over learning logs in place of executions, and its lines say so: behind the kind stands `, over learning logs`.
  pub marked_proof : (name : List ℕ) (n : ℕ) (below : List (List ℕ)) → IsWord name
      → IsLineAbove told (name ++ (codes " (all-traces, over learning logs): verified (" ++ (decimal n ++ codes " steps)"))) below → OfLemma bytes name all_traces HoldsInAllLogs
  pub marked_attack : (name : List ℕ) (n : ℕ) (below : List (List ℕ)) → IsWord name
      → IsLineAbove told (name ++ (codes " (all-traces, over learning logs): falsified - found trace (" ++ (decimal n ++ codes " steps)"))) below
      → OfLemma bytes name all_traces (λ theory lemma. IsLogBelow below theory (IsBrokenByLog theory lemma))
  pub marked_witness : (name : List ℕ) (n : ℕ) (below : List (List ℕ)) → IsWord name
      → IsLineAbove told (name ++ (codes " (exists-trace, over learning logs): verified (" ++ (decimal n ++ codes " steps)"))) below
      → OfLemma bytes name exists_trace (λ theory lemma. IsLogBelow below theory (IsSatisfiedByLog theory lemma))
  pub marked_refutation : (name : List ℕ) (n : ℕ) (below : List (List ℕ)) → IsWord name
      → IsLineAbove told (name ++ (codes " (exists-trace, over learning logs): falsified - no trace found (" ++ (decimal n ++ codes " steps)"))) below
      → OfLemma bytes name exists_trace HoldsInNoLog

-- What was written may end anywhere. Of its whole lines those that tell of every execution, or of every log, are so; the block below another may be cut short.
pub record WholeLinesAreTrue (bytes told : List ℕ) : Type 0 where
  pub proof : (name : List ℕ) (n : ℕ) → IsWord name → IsWholeLine told (name ++ (codes " (all-traces): verified (" ++ (decimal n ++ codes " steps)")))
      → OfLemma bytes name all_traces HoldsInAll
  pub refutation : (name : List ℕ) (n : ℕ) → IsWord name → IsWholeLine told (name ++ (codes " (exists-trace): falsified - no trace found (" ++ (decimal n ++ codes " steps)")))
      → OfLemma bytes name exists_trace HoldsInNone
  pub marked_proof : (name : List ℕ) (n : ℕ) → IsWord name → IsWholeLine told (name ++ (codes " (all-traces, over learning logs): verified (" ++ (decimal n ++ codes " steps)")))
      → OfLemma bytes name all_traces HoldsInAllLogs
  pub marked_refutation : (name : List ℕ) (n : ℕ) → IsWord name
      → IsWholeLine told (name ++ (codes " (exists-trace, over learning logs): falsified - no trace found (" ++ (decimal n ++ codes " steps)"))) → OfLemma bytes name exists_trace HoldsInNoLog

-- Where verdicts are told: `check` writes nothing else, and `prove` first writes the text again, up to its word `end`.
abbrev pub Tells : Command → List ℕ → List ℕ → Type 0
Tells Prove written told = IsBehindEnd written told
Tells Check written told = told ≡ written
Tells command written told = ⊥

-- A lemma that is named is named by a word, as each lemma of a text is.
abbrev pub NamesByWord : Request → Type 0
NamesByWord request = (name : List ℕ) → request.lemma ≡ Some name → IsWord name

-- Each verdict that stands written is so: where the library tells the bytes of the file, and the sink what stood there before and now.
pub record VerdictsAreTrue (words : List (List ℕ)) (holds : List ℕ → Option (Option (List ℕ))) (old new : Option (List ℕ)) (status : Status) : Type 0 where
  pub verdicts : (request : Request) (file bytes before written told : List ℕ) → IsLine words request → IsAbout request file → holds file ≡ Some (Some bytes)
      → old ≡ Some before → new ≡ Some (before ++ written) → HasVerdicts status → Tells request.command written told → LinesAreTrue bytes told
  -- and `prove` tells them
  pub told : (request : Request) (file bytes before written : List ℕ) → request.command ≡ Prove → IsLine words request → IsAbout request file → holds file ≡ Some (Some bytes)
      → old ≡ Some before → new ≡ Some (before ++ written) → HasVerdicts status → (told : List ℕ) × IsBehindEnd written told
  -- and where the sink failed, those of proofs and of refutations that stand there whole (of an answer that is refused for want of the lemma that is named
  -- no more stands there than that name, which whoever called gave)
  pub written : (request : Request) (file bytes before written told : List ℕ) → IsLine words request → IsAbout request file → holds file ≡ Some (Some bytes)
      → old ≡ Some before → new ≡ Some (before ++ written) → status ≡ WriteFault → NamesByWord request → Tells request.command written told → WholeLinesAreTrue bytes told
