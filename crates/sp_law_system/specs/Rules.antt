-- What covering asks of a theory and of its rules.
use Rattle.std.specs.Prelude.{◌<◌, List, length}
use Rattle.sp_spec.specs.Lists.{Every, Member}
use Rattle.sp_spec.specs.Equal.{IsNormal}
use Rattle.sp_spec.specs.Rule.{Rule, FactsMadeOf, facts_at, IsNormalFormOf}
use Rattle.sp_spec.specs.Term.{Names, Variable, Values}
use Rattle.sp_spec.specs.Signature.{IsValuation}
use Rattle.sp_spec.specs.Theory.{Theory, signature_of}
use Rattle.sp_law_equal.specs.RightTheory.{HasNormalInstances, TakesFreshNames, LeavesReserved, BindsActions, BindsConclusions}
use Rattle.sp_spec_forms.specs.Numbering.{Form}
use Rattle.sp_spec_forms.specs.Forms.{RuleForms, forms}

-- a rule's variables have the numbers below the length of their list, and its names are such ones
abbrev pub RulesAreNumbered : Names → List Rule → Type 0
RulesAreNumbered N rules = Every (λ (r : Rule). FactsMadeOf N (λ x. x.number < length r.variables) r.facts) rules

-- so it is with forms and their counts
abbrev pub IsNumberedForm : Names → Form → Type 0
IsNumberedForm N form = FactsMadeOf N (λ x. x.number < form.count) form.facts

abbrev pub FormsAreNumbered : Names → List RuleForms → Type 0
FormsAreNumbered N rules = Every (λ (rule : RuleForms). Every (IsNumberedForm N) rule.forms) rules

-- The normal form of each instance of a rule is an instance of one of its forms, under normal values over the signature.
pub record FormsAreWhole (theory : Theory) : Type 0 where
  pub each : (r : Rule) → Member r theory.rules → (v : Values) → IsValuation (signature_of theory) v
      → (form : Form) × (w : Values) × Member form (forms (signature_of theory).equations r) × IsValuation (signature_of theory) w
      × ((x : Variable) → IsNormal (signature_of theory).equations (w x))
      × IsNormalFormOf (signature_of theory).equations (facts_at v r.facts) (facts_at w form.facts)

-- What is asked of a theory, so that rows and moves cover: its rules' instances have normal forms over the signature; an Fr is of a variable of sort fresh;
-- no rule concludes an In, which the adversary sends; and each fresh name that a rule shows or concludes stands in one of its premises.
pub record SuitsProofs (theory : Theory) : Type 0 where
  pub instances : HasNormalInstances theory
  pub fresh : Every TakesFreshNames theory.rules
  pub reserved : Every LeavesReserved theory.rules
  pub bound : Every BindsConclusions theory.rules
  pub shown : Every BindsActions theory.rules
