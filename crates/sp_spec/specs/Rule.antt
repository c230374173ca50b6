-- Facts, actions, rules, and the instances of rules. Source: Tamarin manual, "Model specification using rules"; CSF 2012,
-- "Labeled multiset rewriting".
use Rattle.std.specs.Prelude.{◌≡◌, ℕ, suc, Bool, true, false, List, [], ◌∷◌, ◌++◌, map, codes, Option, Some, None, if◌then◌else◌}
use Rattle.std.specs.Str.{bytes_eq}
use Rattle.sp_spec.specs.Lists.{Every}
use Rattle.sp_spec.specs.Term.{Sort, Fresh, Variable, Term, var, Terms, none, more, Ground, Values, valued_all, in_terms, EachVariables, Names, AllMadeOf}
use Rattle.sp_spec.specs.Equal.{EqualAll, AreNormalFormsOf}
use Rattle.sp_spec.specs.Signature.{Equation}

-- a state fact, linear or persistent
pub record Fact (V : Type 0) : Type 0 where
  pub symbol : List ℕ
  pub persistent : Bool
  pub args : Terms V

pub record Action (V : Type 0) : Type 0 where
  pub symbol : List ℕ
  pub args : Terms V

-- what is taken, what the trace shows, and what is added
pub record Facts (V : Type 0) : Type 0 where
  pub premises : List (Fact V)
  pub actions : List (Action V)
  pub conclusions : List (Fact V)

-- the name and the sort of a variable of a rule
pub record Declared : Type 0 where
  pub name : List ℕ
  pub sort : Sort

-- its name, the names and sorts of its variables, and its facts
pub record Rule : Type 0 where
  pub name : List ℕ
  pub variables : List Declared
  pub facts : Facts Variable

-- one variable of sort fresh, and nothing else
abbrev pub IsFreshVariable : Terms Variable → Type 0
IsFreshVariable ts = (x : Variable) × (x.sort ≡ Fresh) × (ts ≡ more (var x) none)

-- the first rule of the name
abbrev pub rule_named : List ℕ → List Rule → Option Rule
rule_named x [] = None
rule_named x (r ∷ rs) = if bytes_eq r.name x then Some r else rule_named x rs

abbrev pub fact_at : {V W : Type 0} → (V → Term W) → Fact V → Fact W
fact_at v f = record { symbol = f.symbol; persistent = f.persistent; args = valued_all v f.args }

abbrev pub action_at : {V W : Type 0} → (V → Term W) → Action V → Action W
action_at v a = record { symbol = a.symbol; args = valued_all v a.args }

abbrev pub facts_at : {V W : Type 0} → (V → Term W) → Facts V → Facts W
facts_at v f = record { premises = map (fact_at v) f.premises; actions = map (action_at v) f.actions; conclusions = map (fact_at v) f.conclusions }

-- the variables as they stand in facts, from left to right: over premises, actions, conclusions
abbrev pub in_facts : {V : Type 0} → List (Fact V) → List V
in_facts [] = []
in_facts (f ∷ fs) = in_terms f.args ++ in_facts fs

abbrev pub in_actions : {V : Type 0} → List (Action V) → List V
in_actions [] = []
in_actions (a ∷ rest) = in_terms a.args ++ in_actions rest

abbrev pub occurrences : {V : Type 0} → Facts V → List V
occurrences facts = in_facts facts.premises ++ (in_actions facts.actions ++ in_facts facts.conclusions)

-- it holds of the arguments of each fact and each action
pub record OfArguments {V : Type 0} (P : Terms V → Type 0) (facts : Facts V) : Type 0 where
  pub premises : Every (λ (f : Fact V). P f.args) facts.premises
  pub actions : Every (λ (a : Action V). P a.args) facts.actions
  pub conclusions : Every (λ (f : Fact V). P f.args) facts.conclusions

-- the facts' terms are made of such names, and of variables of which it holds
abbrev pub FactsMadeOf : {V : Type 0} → Names → (V → Type 0) → Facts V → Type 0
FactsMadeOf N P facts = OfArguments (AllMadeOf N P) facts

-- it holds of each variable in the facts
abbrev pub InFacts : {V : Type 0} → (V → Type 0) → Facts V → Type 0
InFacts P facts = OfArguments (EachVariables P) facts

-- two state facts that are the same modulo the equations: name, arity and multiplicity agree, and the arguments are equal
abbrev pub SameFact : List Equation → Fact ⊥ → Fact ⊥ → Type 0
SameFact es f g = (f.symbol ≡ g.symbol) × (f.persistent ≡ g.persistent) × EqualAll es f.args g.args

abbrev pub SameAction : List Equation → Action ⊥ → Action ⊥ → Type 0
SameAction es a b = (a.symbol ≡ b.symbol) × EqualAll es a.args b.args

-- each variable is given one value by its name, in any order, and nothing else is given
abbrev pub Gives : ℕ → List Declared → List (List ℕ × Ground) → Values → Type 0
Gives k [] given v = given ≡ []
Gives k (x ∷ xs) given v =
    (front : List (List ℕ × Ground)) × (back : List (List ℕ × Ground)) × (given ≡ front ++ (x.name, v (record { sort = x.sort; number = k })) ∷ back)
    × Gives (suc k) xs (front ++ back) v

-- The names of facts that the built-in rules speak of.
abbrev pub fr : {V : Type 0} → Term V → Fact V
fr t = record { symbol = codes "Fr"; persistent = false; args = more t none }

abbrev pub in_of : {V : Type 0} → Term V → Fact V
in_of t = record { symbol = codes "In"; persistent = false; args = more t none }

abbrev pub out_of : {V : Type 0} → Term V → Fact V
out_of t = record { symbol = codes "Out"; persistent = false; args = more t none }

-- what the adversary knows
abbrev pub knows : {V : Type 0} → Term V → Fact V
knows t = record { symbol = codes "K"; persistent = true; args = more t none }

-- the action of sending, and in learning logs that of learning
abbrev pub sends : {V : Type 0} → Term V → Action V
sends t = record { symbol = codes "K"; args = more t none }

abbrev pub learns : {V : Type 0} → Term V → Action V
learns t = record { symbol = codes "KU"; args = more t none }

-- each fact of the second is the normal form of that of the first
abbrev pub AreNormalFacts : List Equation → List (Fact ⊥) → List (Fact ⊥) → Type 0
AreNormalFacts es [] [] = Unit {0}
AreNormalFacts es [] (g ∷ gs) = ⊥
AreNormalFacts es (f ∷ fs) [] = ⊥
AreNormalFacts es (f ∷ fs) (g ∷ gs) = (f.symbol ≡ g.symbol) × (f.persistent ≡ g.persistent) × AreNormalFormsOf es f.args g.args × AreNormalFacts es fs gs

abbrev pub AreNormalActions : List Equation → List (Action ⊥) → List (Action ⊥) → Type 0
AreNormalActions es [] [] = Unit {0}
AreNormalActions es [] (b ∷ bs) = ⊥
AreNormalActions es (a ∷ as') [] = ⊥
AreNormalActions es (a ∷ as') (b ∷ bs) = (a.symbol ≡ b.symbol) × AreNormalFormsOf es a.args b.args × AreNormalActions es as' bs

pub record IsNormalFormOf (es : List Equation) (f g : Facts ⊥) : Type 0 where
  pub premises : AreNormalFacts es f.premises g.premises
  pub actions : AreNormalActions es f.actions g.actions
  pub conclusions : AreNormalFacts es f.conclusions g.conclusions
