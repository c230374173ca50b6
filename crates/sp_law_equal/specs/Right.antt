-- What is right of rules and equations: their variables are declared where they are numbered, and names are used once; terms over a signature.
-- Source: Tamarin manual, "Model specification using rules".
use Rattle.std.specs.Prelude.{◌≡◌, ◌⊎◌, ℕ, List, map}
use Rattle.sp_spec.specs.Lists.{Member, Every, Distinct, AtPlace}
use Rattle.sp_spec.specs.Term.{Variable, Term, var, constant, name, app, Terms, none, more, count, EachVariables, Names, MadeOf}
use Rattle.sp_spec.specs.Signature.{Symbol, Equation, HasSymbol, HasPublic}
use Rattle.sp_spec.specs.Rule.{Declared, Rule, OfArguments}
use Rattle.sp_law_equal.specs.Parts.{IsProperPart}

-- each symbol of the term is one of these, over as many arguments as its arity
abbrev mutual
  pub IsTermOver : {V : Type 0} → List Symbol → Term V → Type 0
  IsTermOver symbols (var x) = Unit {0}
  IsTermOver symbols (constant c) = Unit {0}
  IsTermOver symbols (name n) = Unit {0}
  IsTermOver symbols (app f ts) = HasSymbol symbols f (count ts) × AreTermsOver symbols ts

  pub AreTermsOver : {V : Type 0} → List Symbol → Terms V → Type 0
  AreTermsOver symbols none = Unit {0}
  AreTermsOver symbols (more t ts) = IsTermOver symbols t × AreTermsOver symbols ts

-- the variable stands in the list at its number, with its sort
abbrev pub IsDeclared : List Declared → Variable → Type 0
IsDeclared variables x = (d : Declared) × AtPlace variables x.number d × (d.sort ≡ x.sort)

-- each variable of the rule is declared, and no two have one name
pub record IsRight (r : Rule) : Type 0 where
  pub declared : OfArguments (EachVariables (IsDeclared r.variables)) r.facts
  pub distinct : Distinct (map (λ (d : Declared). d.name) r.variables)

-- the rules are right, and no two have one name
pub record AreRight (rules : List Rule) : Type 0 where
  pub each : Every IsRight rules
  pub distinct : Distinct (map (λ (r : Rule). r.name) rules)

-- each symbol of the equations is one of these
pub record EquationsAreOver (symbols : List Symbol) (es : List Equation) : Type 0 where
  pub left : (e : Equation) → Member e es → IsTermOver symbols e.left
  pub right : (e : Equation) → Member e es → IsTermOver symbols e.right

-- no name at all
abbrev pub no_names : Names
no_names n = ⊥

-- no public name and no fresh one stands in the equations
pub record HaveNoNames (es : List Equation) : Type 0 where
  pub left : (e : Equation) → Member e es → MadeOf no_names (λ (x : Variable). Unit {0}) e.left
  pub right : (e : Equation) → Member e es → MadeOf no_names (λ (x : Variable). Unit {0}) e.right

-- Each right side is a proper part of its left side, or a constant that is a public symbol: the equations bring the adversary nothing that it can't make or
-- take out. (With a private one, d(x) = s, the adversary knows s by applying d, and no log learns it.)
pub record KeepPublic (symbols : List Symbol) (es : List Equation) : Type 0 where
  pub each : (e : Equation) → Member e es → IsProperPart e.right e.left ⊎ ((c : List ℕ) × (e.right ≡ app c none) × HasPublic symbols c 0)

-- the rules' terms are over these symbols
pub record RulesAreOver (symbols : List Symbol) (rules : List Rule) : Type 0 where
  pub each : Every (λ (r : Rule). OfArguments (AreTermsOver symbols) r.facts) rules
