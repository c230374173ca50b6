-- The forms of facts and actions. Source: Tamarin manual, "Checking well-formedness" (fact usage), "Built-in facts".
use Rattle.std.specs.Prelude.{ℕ, Bool, true, false, ◌&&◌, ◌||◌, not, ◌==◌, if◌then◌else◌, List, [], ◌∷◌, ◌++◌, map, codes}
use Rattle.std.specs.Str.{bytes_eq}
use Rattle.std.specs.List.{flat_map}
use Rattle.sp_spec.specs.Term.{count}
use Rattle.sp_spec.specs.Rule.{Fact, Action}
use Rattle.sp_spec.specs.Formula.{Written}
use Rattle.sp_spec.specs.Written.{WrittenRule}

pub data Usage : Type 0 where
  linear : Usage
  persistent : Usage
  action : Usage

abbrev pub is_same_usage : Usage → Usage → Bool
is_same_usage linear linear = true
is_same_usage persistent persistent = true
is_same_usage action action = true
is_same_usage u v = false

-- what a name stands for: a fact that is linear or persistent, or an action, of so many arguments
pub record Form : Type 0 where
  pub symbol : List ℕ
  pub arity : ℕ
  pub usage : Usage

abbrev pub is_same_form : Form → Form → Bool
is_same_form x y = bytes_eq x.symbol y.symbol && ((x.arity == y.arity) && is_same_usage x.usage y.usage)

abbrev pub usage_of : Fact Written → Usage
usage_of f = if f.persistent then persistent else linear

abbrev pub fact_form : Fact Written → Form
fact_form f = record { symbol = f.symbol; arity = count f.args; usage = usage_of f }

abbrev pub action_form : Action Written → Form
action_form a = record { symbol = a.symbol; arity = count a.args; usage = action }

-- ---- what there is

-- it is one of these
abbrev pub is_among : Form → List Form → Bool
is_among x [] = false
is_among x (y ∷ ys) = is_same_form x y || is_among x ys

-- what a rule makes: its actions, and its conclusions
abbrev pub made_by : WrittenRule → List Form
made_by r = map action_form r.facts.actions ++ map fact_form r.facts.conclusions

-- a fact or an action of one argument, that the built-in rules make
abbrev pub built_in : List ℕ → Usage → Form
built_in f usage = record { symbol = f; arity = 1; usage = usage }

-- fresh values, messages that the adversary sends, and what it knows
abbrev pub made_by_built_in : List Form
made_by_built_in = built_in (codes "Fr") linear ∷ built_in (codes "In") linear ∷ built_in (codes "K") action ∷ built_in (codes "KU") action ∷ []

-- all that rules make, the built-in ones among them
abbrev pub made_in : List WrittenRule → List Form
made_in rs = made_by_built_in ++ flat_map made_by rs

-- ---- what stands in a rule, from left to right

abbrev pub forms_of : WrittenRule → List Form
forms_of r = map fact_form r.facts.premises ++ (map action_form r.facts.actions ++ map fact_form r.facts.conclusions)

abbrev pub forms_in : List WrittenRule → List Form
forms_in rs = flat_map forms_of rs

abbrev pub is_action : Usage → Bool
is_action action = true
is_action u = false

abbrev pub is_same_bool : Bool → Bool → Bool
is_same_bool true b = b
is_same_bool false b = not b

-- facts of one name, or actions of one name
abbrev pub are_namesakes : Form → Form → Bool
are_namesakes x y = bytes_eq x.symbol y.symbol && is_same_bool (is_action x.usage) (is_action y.usage)

-- the first of these forms that has its name isn't the same
abbrev pub differs_from_first : Form → List Form → Bool
differs_from_first x [] = false
differs_from_first x (y ∷ ys) = if are_namesakes x y then not (is_same_form x y) else differs_from_first x ys
