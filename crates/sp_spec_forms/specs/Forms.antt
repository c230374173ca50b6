-- The forms of a rule, its variants: what its facts are, in normal form, at all values of its variables. Each is an instance of the rule, narrowed by
-- the equations. Source: Comon-Lundh and Delaune, "The finite variant property"; Tamarin manual, "Cryptographic messages" (variants of rules);
-- Schmidt's thesis, chapter 3.
use Rattle.std.specs.Prelude.{ℕ, suc, ◌+◌, Bool, List, [], ◌∷◌, length, Option, Some, None, if◌then◌else◌, bytes_eq}
use Rattle.std.specs.List.{filter, flat_map}
use Rattle.sp_spec.specs.Term.{Variable, var, Terms, none, more, valued_all}
use Rattle.sp_spec.specs.Signature.{Equation}
use Rattle.sp_spec.specs.Substitution.{Binding, bound_to}
use Rattle.sp_spec.specs.Unifier.{mgu}
use Rattle.sp_spec.specs.Rule.{Facts, Declared, Rule, facts_at}
use Rattle.sp_spec_forms.specs.Shifted.{above_all}
use Rattle.sp_spec_forms.specs.Narrowing.{narrow_facts}
use Rattle.sp_spec_forms.specs.Alike.{alike_facts}
use Rattle.sp_spec_forms.specs.Numbering.{Form, without_repeats, numbered}
use Rattle.sp_spec_forms.specs.Reducible.{args_of, irreducible_facts}

abbrev pub above_each : List (Terms Variable) → ℕ
above_each [] = 0
above_each (ts ∷ tss) = above_all ts + above_each tss

-- no variable of the rule has this number, nor a greater one
abbrev pub start : Rule → ℕ
start rule = length rule.variables + above_each (args_of rule.facts)

-- the rule's variables, from number k on
abbrev pub rule_variables : ℕ → List Declared → Terms Variable
rule_variables k [] = none
rule_variables k (x ∷ xs) = more (var (record { sort = x.sort; number = k })) (rule_variables (suc k) xs)

-- what was chosen, in the facts and for the rule's variables
abbrev pub form_by : Terms Variable → Facts Variable → Option (List Binding) → List Form
form_by kept f None = []
form_by kept f (Some bs) = numbered (facts_at (bound_to bs) f) (valued_all (bound_to bs) kept) ∷ []

-- the results of all choices, in their order
abbrev pub results : List Equation → Rule → List Form
results es rule =
    flat_map (λ r. form_by (rule_variables 0 rule.variables) r.0 (mgu r.1.pairs))
    (narrow_facts es rule.facts (record { pairs = []; next = start rule }))

-- no left side matches a term of its facts
abbrev pub is_normal_form : List Equation → Form → Bool
is_normal_form es form = irreducible_facts es form.facts

-- the same facts; kept terms don't count
abbrev pub alike_form : Form → Form → Bool
alike_form a b = alike_facts a.facts b.facts

-- The forms of a rule: those results that are in normal form, each once.
abbrev pub forms : List Equation → Rule → List Form
forms es rule = without_repeats alike_form (filter (is_normal_form es) (results es rule))

-- a rule's name, its variables, and its forms
pub record RuleForms : Type 0 where
  pub name : List ℕ
  pub variables : List Declared
  pub forms : List Form

abbrev pub forms_of : List Equation → Rule → RuleForms
forms_of es rule = record { name = rule.name; variables = rule.variables; forms = forms es rule }

-- the first rule of the name
abbrev pub forms_named : List ℕ → List RuleForms → Option RuleForms
forms_named x [] = None
forms_named x (r ∷ rs) = if bytes_eq r.name x then Some r else forms_named x rs
