-- What the reader of a part of a formula gives.
use Rattle.std.specs.Prelude.{ℕ, ◌<◌, ◌≤◌, List, length, Option, MatchOption, IfSome}
use Rattle.std.specs.Global.{Box}
use Rattle.sp_lex.specs.declared.token.Token as lexer
use Rattle.sp_spec_text.specs.Lists.{NoReading}
use Rattle.sp_read_parts.specs.Views.{seen_from}
use Rattle.sp_read_parts.specs.Formulas.{Joint, conjoint, disjoint, formula}
use Rattle.sp_read_parts.specs.declared.written.ReadFormula.{ReadFormula}
use Rattle.sp_read_formula.specs.Reading.{Part, Reads}
use Rattle.sp_read_formula.specs.declared.formulas.Joint as code
use Rattle.sp_read_formula.specs.declared.formulas.Joint.TheVariants as j

abbrev pub joint : code.Joint → Joint
joint j.And = conjoint
joint j.Or = disjoint

-- what a reader of this part gives: a formula that stands at this place, and the place behind it; or nothing, where no such part stands
abbrev pub IsRead : Part → ℕ → List lexer.Token → ℕ → Option (Box ReadFormula × ℕ) → Type 0
IsRead part n tokens at result = MatchOption result (NoReading (Reads part n) (seen_from tokens at)) (λ x. Reads part n (seen_from tokens at) (formula x.0.value) (seen_from tokens x.1))

-- the place behind a part is behind its beginning, and among the tokens
abbrev pub IsFurther : List lexer.Token → ℕ → Option (Box ReadFormula × ℕ) → Type 0
IsFurther tokens at result = IfSome result (λ x. (at < x.1) × (x.1 ≤ length tokens))
