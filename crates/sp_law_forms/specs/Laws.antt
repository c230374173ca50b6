-- What holds of the forms of a rule.
use Rattle.std.specs.Prelude.{◌≡◌, ◌<◌, ℕ, List, [], ◌∷◌, map, length, true}
use Rattle.sp_spec.specs.Lists.{Member, Every, Distinct}
use Rattle.sp_spec.specs.Term.{Msg, Variable, Term, var, app, Terms, Values, valued, valued_all, EachVariable, EachVariables}
use Rattle.sp_spec.specs.Signature.{Equation, Signature, RespectsSorts, IsValuation}
use Rattle.sp_spec.specs.Rule.{Fact, Facts, Rule, OfArguments, InFacts, fact_at, facts_at, IsNormalFormOf}
use Rattle.sp_spec.specs.Equal.{IsNormal, AreNormal}
use Rattle.sp_law_equal.specs.Normal.{normal_all}
use Rattle.sp_law_equal.specs.NormalForms.{HaveNormalForms, HasNormalForms}
use Rattle.sp_law_equal.specs.Destructors.{ArePlain}
use Rattle.sp_law_equal.specs.Parts.{IsPartOfOne}
use Rattle.sp_law_equal.specs.Pointwise.{AreSameFacts}
use Rattle.sp_law_equal.specs.Right.{AreTermsOver, EquationsAreOver}
use Rattle.sp_law_equal.specs.RightTheory.{FactsArePlain}
use Rattle.sp_spec_forms.specs.Numbering.{Form, seen, numbered}
use Rattle.sp_spec_forms.specs.Reducible.{args_of}
use Rattle.sp_spec_forms.specs.Forms.{is_normal_form, rule_variables, results, forms}

-- each variable has a normal value of its sort
abbrev pub IsNormalValuation : Signature → Values → Type 0
IsNormalValuation signature v = IsValuation signature v × ((x : Variable) → IsNormal signature.equations (v x))

-- the rule's terms are over the signature's symbols
abbrev pub IsRuleOver : Signature → Rule → Type 0
IsRuleOver signature rule = OfArguments (AreTermsOver signature.symbols) rule.facts

-- Where each term has one normal form over the signature: whatever values over it the rule's variables have, the normal form of the rule's facts is
-- an instance, at normal values, of one of its forms.
pub record FormsAreComplete : Type 0 where
  pub each : (signature : Signature) (rule : Rule) → HasNormalForms signature → IsRuleOver signature rule → (v : Values) → IsValuation signature v
      → (form : Form) × (w : Values) × Member form (forms signature.equations rule) × IsNormalValuation signature w
      × IsNormalFormOf signature.equations (facts_at v rule.facts) (facts_at w form.facts)

-- Whatever the equations are: at all values the facts of a form are equal to those of the rule, where the rule's variables have the values of the
-- kept terms; and these are over the signature where the form's values are.
pub record FormsAreSound : Type 0 where
  pub each : (es : List Equation) (rule : Rule) (form : Form) → Member form (forms es rule) → (w : Values) → RespectsSorts w
      → (v : Values) × RespectsSorts v × (valued_all v (rule_variables 0 rule.variables) ≡ valued_all w form.kept)
      × AreSameFacts es (facts_at v rule.facts) (facts_at w form.facts)
  pub over : (signature : Signature) (rule : Rule) → EquationsAreOver signature.symbols signature.equations → IsRuleOver signature rule
      → (form : Form) → Member form (forms signature.equations rule) → (w : Values) → IsValuation signature w
      → (v : Values) × IsValuation signature v × (valued_all v (rule_variables 0 rule.variables) ≡ valued_all w form.kept)
      × AreSameFacts signature.equations (facts_at v rule.facts) (facts_at w form.facts)

-- the left sides are over variables of sort msg
abbrev pub AreOverMessages : List Equation → Type 0
AreOverMessages es = (e : Equation) → Member e es → EachVariable (λ (x : Variable). x.sort ≡ Msg) e.left

-- Each form numbers the variables of its facts below its count, and those of its kept terms below the number of all that it has. Numbered again it is
-- itself: so its count is how many variables its facts have. No application in its facts is an instance of a left side, no two forms have the same
-- facts, and no result that is in normal form is left out but for a form with the same facts. Facts that are the same up to names of variables are
-- numbered to the same facts, whatever terms are kept.
pub record FormsAreProper : Type 0 where
  pub numbers : (es : List Equation) (rule : Rule) (form : Form) → Member form (forms es rule)
      → InFacts (λ (x : Variable). x.number < form.count) form.facts × EachVariables (λ (x : Variable). x.number < length (seen form.facts form.kept)) form.kept
  pub again : (es : List Equation) (rule : Rule) (form : Form) → Member form (forms es rule) → numbered form.facts form.kept ≡ form
  pub irreducible : (es : List Equation) → AreOverMessages es → (rule : Rule) (form : Form) → Member form (forms es rule)
      → (ts : Terms Variable) → Member ts (args_of form.facts) → (f : List ℕ) (us : Terms Variable) → IsPartOfOne (app f us) ts
      → (e : Equation) → Member e es → (s : Variable → Term Variable) → valued s e.left ≡ app f us → ⊥
  pub distinct : (es : List Equation) (rule : Rule) → Distinct (map (λ (f : Form). f.facts) (forms es rule))
  pub whole : (es : List Equation) (rule : Rule) (form : Form) → Member form (results es rule) → is_normal_form es form ≡ true
      → (g : Form) × Member g (forms es rule) × (g.facts ≡ form.facts)
  pub names : (r : Variable → Variable) → ((x y : Variable) → r x ≡ r y → x ≡ y) → ((x : Variable) → (r x).sort ≡ x.sort)
      → (f : Facts Variable) (kept kept' : Terms Variable) → (numbered (facts_at (λ x. var (r x)) f) kept').facts ≡ (numbered f kept).facts

-- Where the premises of a form are normal, and those of the rule hold no destructor, they are the rule's premises at normal values: for the rule's
-- variables these are the normal forms of the kept terms.
pub record FormsKeepPremises : Type 0 where
  pub each : (es : List Equation) → HaveNormalForms es → (rule : Rule) → Every (λ (f : Fact Variable). ArePlain es f.args) rule.facts.premises
      → (form : Form) → Member form (forms es rule) → (w : Values) → RespectsSorts w
      → Every (λ (f : Fact Variable). AreNormal es (valued_all w f.args)) form.facts.premises
      → (v : Values) × RespectsSorts v × ((x : Variable) → IsNormal es (v x))
      × (valued_all v (rule_variables 0 rule.variables) ≡ normal_all es (valued_all w form.kept))
      × (map (fact_at v) rule.facts.premises ≡ map (fact_at w) form.facts.premises)
      × AreSameFacts es (facts_at v rule.facts) (facts_at w form.facts)

-- A rule without destructors has one form: itself, numbered.
pub record PlainRulesStay : Type 0 where
  pub each : (es : List Equation) → HaveNormalForms es → (rule : Rule) → FactsArePlain es rule.facts
      → forms es rule ≡ numbered rule.facts (rule_variables 0 rule.variables) ∷ []
