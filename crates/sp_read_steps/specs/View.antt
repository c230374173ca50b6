-- What the values in memory stand for.
use Rattle.std.specs.Prelude.{◌≡◌, ◌⊎◌, ℕ, Bool, true, false, List, [], ◌∷◌, ◌++◌, map}
use Rattle.sp_term.specs.View.{name_of}
use Rattle.sp_spec.specs.Signature.{Symbol}
use Rattle.sp_spec.specs.Execution.{Step}
use Rattle.sp_fact.specs.declared.signature.Symbol as memory
use Rattle.sp_fact.specs.GroundView.{ground_of, step_of, symbol_of}
use Rattle.sp_read_steps.specs.declared.parts.Head as memory_head
use Rattle.sp_read_steps.specs.declared.parts.Head.TheVariants as h
use Rattle.sp_read_steps.specs.declared.parts.StepLines as memory_lines
use Rattle.sp_read_steps.specs.declared.parts.StepLines.TheVariants as s
use Rattle.sp_spec_text.specs.Blanks.{trimmed}
use Rattle.sp_spec_printed.specs.StepLines.{AreSteps, IsFirstUnread}
use Rattle.sp_read_steps.specs.Reading.{Head, whole, over, opened, nothing, NoReading, ReadsStep}

abbrev pub symbols_of : List memory.Symbol → List Symbol
symbols_of symbols = map symbol_of symbols

abbrev pub head_of : memory_head.Head → Head
head_of (h.Whole t rest) = whole (ground_of t) rest.now
head_of (h.Over f inside) = over (name_of f) inside.now
head_of (h.Opened inside) = opened inside.now
head_of h.Nothing = nothing

-- the line is blank, or a step's, which stands behind the others then; or it is neither
abbrev pub Takes : List Symbol → List ℕ → List Step → List Step → Bool → Type 0
Takes symbols line others steps true = ((trimmed line ≡ []) × (steps ≡ others)) ⊎ ((s : Step) × ReadsStep symbols (trimmed line) s [] × (steps ≡ others ++ s ∷ []))
Takes symbols line others steps false = (trimmed line ≡ [] → ⊥) × NoReading (ReadsStep symbols) (trimmed line)

-- the steps of the lines, or the number of the first that is no step's
abbrev pub AreStepLines : List Symbol → List (List ℕ) → memory_lines.StepLines → Type 0
AreStepLines symbols all (s.Steps steps) = AreSteps symbols all (map step_of steps.items)
AreStepLines symbols all (s.Unread number) = IsFirstUnread symbols all number
