-- What is written of a text whose lines behind its word `end` are replayed as steps. Source: CSF 2012, "Labeled multiset rewriting"
-- (executions) and "Security properties" (truth over their traces); the words are this project's own.
use Rattle.std.specs.Prelude.{◌≡◌, ℕ, Bool, true, false, ◌==◌, if◌then◌else◌, List, [], ◌∷◌, ◌++◌, drop, map, codes}
use Rattle.sp_spec.specs.Rule.{Action}
use Rattle.sp_spec.specs.Signature.{Signature}
use Rattle.sp_spec.specs.Formula.{Formula}
use Rattle.sp_spec.specs.Theory.{Theory, Restriction, Lemma, signature_of}
use Rattle.sp_spec.specs.Written.{theory_of}
use Rattle.sp_spec.specs.Execution.{Step, Trace, Cause}
use Rattle.sp_spec.specs.Truth.{IsTrueOver}
use Rattle.sp_spec.specs.Verdict.{names_learning}
use Rattle.sp_law_run.specs.NormalStep.{normal_step}
use Rattle.sp_spec.specs.Lists.{newest_first}
use Rattle.sp_spec_printed.specs.Printed.{trace_block}
use Rattle.sp_spec_text.specs.Blanks.{lines}
use Rattle.sp_spec_printed.specs.StepLines.{AreSteps, IsFirstUnread}
use Rattle.sp_exec.specs.Replay.{IsReplayed, IsFirstFault}
use Rattle.sp_spec_text.specs.Written.{WrittenText}
use Rattle.sp_spec_text.specs.Declared.{theory_in}
use Rattle.sp_spec_text.specs.Spans.{Span}
use Rattle.sp_spec_text.specs.Texts.{ArePlaces}
use Rattle.sp_pose.specs.Problem.{Poses}
use Rattle.sp_spec_printed.specs.Kind.{kind_text}

-- the theory that the text says
abbrev pub theory_said : WrittenText → Theory
theory_said t = theory_of (theory_in t)

-- what stands behind the first line
abbrev pub behind_line : List ℕ → List ℕ
behind_line [] = []
behind_line (b ∷ bytes) = if b == 10 then bytes else behind_line bytes

-- the lines behind that of the word `end`
abbrev pub lines_behind : List ℕ → ℕ → List (List ℕ)
lines_behind text end = lines (behind_line (drop end text))

-- the text says the theory, without fatal findings, and these lines stand behind it
pub record HasLines (text : List ℕ) (theory : WrittenText) (found : List (List ℕ)) : Type 0 where
  pub poses : Poses text theory
  pub spans : List Span
  pub behind_end : ℕ
  pub places_are : ArePlaces text theory spans behind_end
  pub lines_are : found ≡ lines_behind text behind_end

-- replayed are the steps with each of their terms in normal form
abbrev pub steps_done : Theory → List Step → List Step
steps_done theory steps = map (normal_step (signature_of theory).equations) steps

-- the line of this number, counted from 1 behind that of `end`, is the first that is neither blank nor a step's
pub record IsUnread (text : List ℕ) (number : ℕ) : Type 0 where
  pub theory : WrittenText
  pub found : List (List ℕ)
  pub has_lines : HasLines text theory found
  pub unread : IsFirstUnread (signature_of (theory_said theory)).symbols found number

-- the lines are those of steps, and the step of this number is the first that can't be done, for this cause
pub record IsStopped (text : List ℕ) (number : ℕ) (cause : Cause) : Type 0 where
  pub theory : WrittenText
  pub found : List (List ℕ)
  pub has_lines : HasLines text theory found
  pub steps : List Step
  pub read : AreSteps (signature_of (theory_said theory)).symbols found steps
  pub fault : IsFirstFault (theory_said theory) (steps_done (theory_said theory) steps) number cause

-- whether a formula is true over the trace
abbrev pub IsMet : Signature → Trace → Bool → Formula → Type 0
IsMet signature trace true formula = IsTrueOver signature trace formula
IsMet signature trace false formula = IsTrueOver signature trace formula → ⊥

-- for each formula, in their order
abbrev pub AreMet : Signature → Trace → List Formula → List Bool → Type 0
AreMet signature trace [] [] = Unit {0}
AreMet signature trace [] (b ∷ bs) = ⊥
AreMet signature trace (f ∷ fs) [] = ⊥
AreMet signature trace (f ∷ fs) (b ∷ bs) = IsMet signature trace b f × AreMet signature trace fs bs

abbrev pub restriction_formulas : List Restriction → List Formula
restriction_formulas rs = map (λ (r : Restriction). r.formula) rs

abbrev pub lemma_formulas : List Lemma → List Formula
lemma_formulas ls = map (λ (l : Lemma). l.formula) ls

abbrev pub met_text : Bool → List ℕ
met_text true = codes "met\n"
met_text false = codes "broken\n"

abbrev pub restriction_line : Restriction → Bool → List ℕ
restriction_line r b = r.name ++ (codes " (restriction): " ++ met_text b)

abbrev pub restriction_lines : List Restriction → List Bool → List ℕ
restriction_lines (r ∷ rs) (b ∷ bs) = restriction_line r b ++ restriction_lines rs bs
restriction_lines rs bs = []

-- of a marked lemma, one that names learning and so is read over learning logs, and of any other
abbrev pub said_of : Bool → Bool → List ℕ
said_of true met = codes "not read on executions\n"
said_of false met = met_text met

abbrev pub met_line : Lemma → Bool → List ℕ
met_line l b = l.name ++ (codes " (" ++ (kind_text l.kind ++ (codes "): " ++ said_of (names_learning l.formula) b)))

abbrev pub met_lines : List Lemma → List Bool → List ℕ
met_lines (l ∷ ls) (b ∷ bs) = met_line l b ++ met_lines ls bs
met_lines ls bs = []

-- The lines are those of steps, which are an execution; its trace in normal form is written, the oldest entry first, and for each restriction
-- and then for each lemma, in the order of the text, whether the formula is true over the trace, or that it isn't read on executions.
pub record IsReplay (text written : List ℕ) : Type 0 where
  pub theory : WrittenText
  pub found : List (List ℕ)
  pub has_lines : HasLines text theory found
  pub steps : List Step
  pub read : AreSteps (signature_of (theory_said theory)).symbols found steps
  pub entries : List (List (Action ⊥))
  pub replayed : IsReplayed (theory_said theory) (steps_done (theory_said theory) steps) (newest_first entries)
  pub kept : List Bool
  pub kept_are : AreMet (signature_of (theory_said theory)) replayed.shown (restriction_formulas (theory_said theory).restrictions) kept
  pub met : List Bool
  pub met_are : AreMet (signature_of (theory_said theory)) replayed.shown (lemma_formulas (theory_said theory).lemmas) met
  pub written_is : written ≡ trace_block entries ++ (restriction_lines (theory_said theory).restrictions kept ++ met_lines (theory_said theory).lemmas met)
