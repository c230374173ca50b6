-- What a text sets out to prove, and what is said of its theory. Source: Tamarin manual, "Checking well-formedness".
use Rattle.std.specs.Prelude.{◌≡◌, ◌↔◌, List, ℕ, Bool, true, ◌++◌, length, codes, decimal}
use Rattle.sp_spec_text.specs.Written.{WrittenText}
use Rattle.sp_spec_text.specs.Texts.{IsTextOf}
use Rattle.sp_wf.specs.Report.{fatal_lines, text_of}
use Rattle.sp_wf.specs.Laws.{IsWellFormed}
use Rattle.sp_warn.specs.Warnings.{warning_lines}

-- the text says the theory, and there are no fatal findings on it
pub record Poses (text : List ℕ) (theory : WrittenText) : Type 0 where
  pub says : IsTextOf text theory
  pub fine : IsWellFormed theory

-- a line for each fatal finding, and then one for each warning
abbrev pub report : WrittenText → List ℕ
report t = text_of (fatal_lines t ++ warning_lines t)

-- the text says a theory on which there are fatal findings, and the report on it is this
pub record IsReported (text lines : List ℕ) : Type 0 where
  pub theory : WrittenText
  pub says : IsTextOf text theory
  pub wrong : IsWellFormed theory → ⊥
  pub lines_are : lines ≡ report theory

-- how many findings are fatal, and how many warnings there are
abbrev pub counted : ℕ → ℕ → List ℕ
counted fatal warnings = decimal fatal ++ (codes " fatal, " ++ (decimal warnings ++ codes " warnings\n"))

abbrev pub counts : WrittenText → List ℕ
counts t = counted (length (fatal_lines t)) (length (warning_lines t))

-- the text says a theory; this is the report on it with its counts, and it is told whether no finding is fatal
pub record IsReviewed (text review : List ℕ) (fine : Bool) : Type 0 where
  pub theory : WrittenText
  pub says : IsTextOf text theory
  pub review_is : review ≡ report theory ++ counts theory
  pub fine_is : (fine ≡ true) ↔ IsWellFormed theory
