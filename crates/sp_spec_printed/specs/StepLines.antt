-- Which lines are those of steps. Source of the shape: Tamarin manual, "Syntax description" (names) and "Cryptographic messages" (constants
-- and fresh names); the words of steps are this project's own.
use Rattle.std.specs.Prelude.{◌≡◌, ℕ, ◌+◌, ◌^◌, ◌<◌, true, List, [], ◌∷◌, ◌++◌, length}
use Rattle.sp_spec.specs.Lists.{Every}
use Rattle.sp_spec.specs.Term.{var, constant, name, app, none, more, Ground, Grounds, count}
use Rattle.sp_spec.specs.Signature.{Symbol, HasSymbol}
use Rattle.sp_spec.specs.Execution.{Step, make_fresh, use_rule, take_out, put_in, know_public, make_own, apply_symbol}
use Rattle.sp_spec_text.specs.Lex.{is_constant_byte}
use Rattle.sp_spec_text.specs.Names.{IsNameWord}
use Rattle.sp_spec_printed.specs.Printed.{step_text}
use Rattle.sp_spec_text.specs.Blanks.{trimmed}

-- ---- what may be written

-- the symbols have names as a text may have them
abbrev pub HaveNames : List Symbol → Type 0
HaveNames symbols = Every (λ (s : Symbol). IsNameWord s.name) symbols

-- what may stand in the quotes of a public name
abbrev pub IsQuotable : List ℕ → Type 0
IsQuotable [] = ⊥
IsQuotable (b ∷ bytes) = Every (λ (c : ℕ). is_constant_byte c ≡ true) (b ∷ bytes)

-- fresh names are numbered from 1 and below 2^128; each symbol is one of these, over as many arguments as its arity
abbrev mutual
  pub IsWritable : List Symbol → Ground → Type 0
  IsWritable symbols (var x) = ⊥
  IsWritable symbols (constant c) = IsQuotable c
  IsWritable symbols (name n) = (0 < n) × (n < 2 ^ 128)
  IsWritable symbols (app f ts) = HasSymbol symbols f (count ts) × AreWritable symbols ts

  pub AreWritable : List Symbol → Grounds → Type 0
  AreWritable symbols none = Unit {0}
  AreWritable symbols (more t ts) = IsWritable symbols t × AreWritable symbols ts

abbrev pub IsGiven : List Symbol → List ℕ × Ground → Type 0
IsGiven symbols g = IsNameWord g.0 × IsWritable symbols g.1

-- what the adversary applies may be any name, over as many arguments as one likes: whether there is such a symbol is asked when the step is done
abbrev pub IsWritableStep : List Symbol → Step → Type 0
IsWritableStep symbols (make_fresh t) = IsWritable symbols t
IsWritableStep symbols (use_rule r given) = IsNameWord r × Every (IsGiven symbols) given
IsWritableStep symbols (take_out t) = IsWritable symbols t
IsWritableStep symbols (put_in t) = IsWritable symbols t
IsWritableStep symbols (know_public t) = IsWritable symbols t
IsWritableStep symbols (make_own t) = IsWritable symbols t
IsWritableStep symbols (apply_symbol f ts) = IsNameWord f × AreWritable symbols ts

-- the line, without the blanks around it, is that of the step
pub record IsStepLine (symbols : List Symbol) (line : List ℕ) (s : Step) : Type 0 where
  pub text : line ≡ step_text s
  pub writable : IsWritableStep symbols s

-- ---- lines

-- each line that isn't blank is that of a step, in this order
pub data AreSteps (symbols : List Symbol) : List (List ℕ) → List Step → Type 0 where
  no_line : AreSteps symbols [] []
  blank_line : {line : List ℕ} {others : List (List ℕ)} {steps : List Step} → trimmed line ≡ [] → AreSteps symbols others steps → AreSteps symbols (line ∷ others) steps
  step_line : {line : List ℕ} {others : List (List ℕ)} {s : Step} {steps : List Step} → IsStepLine symbols (trimmed line) s → AreSteps symbols others steps → AreSteps symbols (line ∷ others) (s ∷ steps)

-- The first line, counted from 1, that isn't blank and is no step's; the lines before it are blank or those of steps.
pub record IsFirstUnread (symbols : List Symbol) (all : List (List ℕ)) (number : ℕ) : Type 0 where
  pub front : List (List ℕ)
  pub line : List ℕ
  pub back : List (List ℕ)
  pub steps : List Step
  pub parts : all ≡ front ++ line ∷ back
  pub read : AreSteps symbols front steps
  pub not_blank : trimmed line ≡ [] → ⊥
  pub no_step : (s : Step) → IsStepLine symbols (trimmed line) s → ⊥
  pub counted : number ≡ length front + 1
