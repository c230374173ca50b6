-- What is written of a text whose rules' forms are listed. Source: Tamarin manual, "Cryptographic messages" (variants of rules).
use Rattle.std.specs.Prelude.{◌≡◌, ℕ, List, [], ◌∷◌, ◌++◌, map, length}
use Rattle.sp_spec.specs.Theory.{Theory, signature_of}
use Rattle.sp_spec.specs.Written.{theory_of}
use Rattle.sp_spec_forms.specs.Numbering.{Form}
use Rattle.sp_spec_forms.specs.Forms.{RuleForms, forms_of}
use Rattle.sp_spec_text.specs.Written.{WrittenText}
use Rattle.sp_spec_text.specs.Declared.{theory_in}
use Rattle.sp_pose.specs.Problem.{Poses}
use Rattle.sp_rule_forms.specs.Text.{facts_line, rule_head}

-- a line for each form
abbrev pub lines_of : List Form → List ℕ
lines_of [] = []
lines_of (form ∷ others) = facts_line form.facts ++ lines_of others

-- below the rule's name and how many there are
abbrev pub rule_text : RuleForms → List ℕ
rule_text rule = rule_head rule.name (length rule.forms) ++ lines_of rule.forms

abbrev pub rules_text : List RuleForms → List ℕ
rules_text [] = []
rules_text (rule ∷ rules) = rule_text rule ++ rules_text rules

abbrev pub variants_text : Theory → List ℕ
variants_text theory = rules_text (map (forms_of (signature_of theory).equations) theory.rules)

-- The text says a theory without fatal findings; written are its rules in their order, each with its forms.
pub record IsListed (text written : List ℕ) : Type 0 where
  pub theory : WrittenText
  pub poses : Poses text theory
  pub written_is : written ≡ variants_text (theory_of (theory_in theory))
