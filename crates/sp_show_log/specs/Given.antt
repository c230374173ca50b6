-- Which values stand in the line of a rule: those that the first of its forms gives of which the facts are an instance, as in an execution.
use Rattle.std.specs.Prelude.{List, [], unwrap_or}
use Rattle.sp_spec.specs.Signature.{Equation}
use Rattle.sp_spec_forms.specs.Forms.{RuleForms}
use Rattle.sp_law_log_steps.specs.Found.{given_by}
use Rattle.sp_spec_log_lines.specs.Line.{Giving}

abbrev pub given_among : List Equation → List RuleForms → Giving
given_among es rules r facts = unwrap_or (given_by es rules r facts) []
