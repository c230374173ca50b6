-- What is right of a theory, each condition said once: a law asks for those that it rests on, and a text without findings gives all of them.
-- Source: Tamarin manual, "Model specification using rules" and "Well-formedness checks".
use Rattle.std.specs.Prelude.{◌≡◌, ◌⊎◌, ℕ, List, [], ◌∷◌, true, codes}
use Rattle.sp_spec.specs.Lists.{Member, Every}
use Rattle.sp_spec.specs.Term.{Names, public_name, fresh_name, AllMadeOf, Pub, Variable, Term, var, constant, name, app, Terms, none, more}
use Rattle.sp_spec.specs.Signature.{Equation}
use Rattle.sp_spec.specs.Rule.{Fact, Action, Facts, Rule, OfArguments, IsFreshVariable}
use Rattle.sp_spec.specs.Theory.{Theory, signature_of}
use Rattle.sp_spec.specs.Log.{is_fr}
use Rattle.sp_law_equal.specs.NormalForms.{HasNormalForms}
use Rattle.sp_law_equal.specs.Destructors.{ArePlain}
use Rattle.sp_law_equal.specs.Right.{AreRight, RulesAreOver, KeepPublic}

-- no destructor stands in the facts
abbrev pub FactsArePlain : List Equation → Facts Variable → Type 0
FactsArePlain es facts = OfArguments (ArePlain es) facts

-- no destructor stands in a premise
abbrev pub HasPlainPremises : List Equation → Rule → Type 0
HasPlainPremises es r = Every (λ (f : Fact Variable). ArePlain es f.args) r.facts.premises

-- Its equations may be read from left to right and bring in no new symbols, the rules are over its symbols, and no destructor stands in a premise: so
-- the normal form of an instance of a rule is an instance of one of its forms, and its premises are those of the rule under the normal forms of the
-- values.
pub record HasNormalInstances (theory : Theory) : Type 0 where
  pub forms : HasNormalForms (signature_of theory)
  pub over : RulesAreOver (signature_of theory).symbols theory.rules
  pub premises : Every (HasPlainPremises (signature_of theory).equations) theory.rules

-- what is fresh by a premise Fr is a variable of sort fresh
abbrev pub TakesFreshNames : Rule → Type 0
TakesFreshNames r = Every (λ (f : Fact Variable). is_fr f ≡ true → IsFreshVariable f.args) r.facts.premises

-- an Fr comes of the built-in rule alone
abbrev pub MakesNoFr : Rule → Type 0
MakesNoFr r = Every (λ (f : Fact Variable). f.symbol ≡ codes "Fr" → ⊥) r.facts.conclusions

-- What is sent in comes of the adversary alone, which alone takes what is put out; and rules know and show nothing in its stead.
pub record LeavesReserved (r : Rule) : Type 0 where
  pub premises : Every (λ (f : Fact Variable). Member f.symbol (codes "Out" ∷ codes "K" ∷ []) → ⊥) r.facts.premises
  pub actions : Every (λ (a : Action Variable). Member a.symbol (codes "K" ∷ codes "KU" ∷ []) → ⊥) r.facts.actions
  pub conclusions : Every (λ (f : Fact Variable). Member f.symbol (codes "In" ∷ codes "Fr" ∷ codes "K" ∷ []) → ⊥) r.facts.conclusions

-- the variable stands in the term
abbrev mutual
  pub StandsIn : Variable → Term Variable → Type 0
  StandsIn x (var y) = y ≡ x
  StandsIn x (constant c) = ⊥
  StandsIn x (name n) = ⊥
  StandsIn x (app f ts) = StandsAmong x ts

  pub StandsAmong : Variable → Terms Variable → Type 0
  StandsAmong x none = ⊥
  StandsAmong x (more t ts) = StandsIn x t ⊎ StandsAmong x ts

abbrev pub HasVariable : Variable → List (Fact Variable) → Type 0
HasVariable x [] = ⊥
HasVariable x (f ∷ fs) = StandsAmong x f.args ⊎ HasVariable x fs

-- any public name, and no fresh one
abbrev pub no_fresh_names : Names
no_fresh_names (public_name c) = Unit {0}
no_fresh_names (fresh_name n) = ⊥

-- no fresh name stands in the terms, and each variable there that isn't of sort pub stands in a premise
abbrev pub AreBound : List (Fact Variable) → Terms Variable → Type 0
AreBound premises ts = AllMadeOf no_fresh_names (λ x. (x.sort ≡ Pub → ⊥) → HasVariable x premises) ts

abbrev pub BindsConclusions : Rule → Type 0
BindsConclusions r = Every (λ (f : Fact Variable). AreBound r.facts.premises f.args) r.facts.conclusions

abbrev pub BindsActions : Rule → Type 0
BindsActions r = Every (λ (a : Action Variable). AreBound r.facts.premises a.args) r.facts.actions

-- a theory whose text has no findings
pub record IsRightTheory (theory : Theory) : Type 0 where
  pub instances : HasNormalInstances theory
  -- variables are declared where they are numbered; no two of a rule have one name, nor have two rules
  pub declared : AreRight theory.rules
  pub takes_fresh : Every TakesFreshNames theory.rules
  pub makes_no_fr : Every MakesNoFr theory.rules
  pub reserved : Every LeavesReserved theory.rules
  pub bound : Every BindsConclusions theory.rules
  pub bound_actions : Every BindsActions theory.rules
  pub keeps_public : KeepPublic (signature_of theory).symbols (signature_of theory).equations
