-- Basic theories: a term is without fresh names, of variables, public names, and symbols of the signature; in premises and formulas none of these is a
-- destructor. Source: Tamarin manual, "Property specification" (no reducible symbols in formulas).
use Rattle.sp_spec.specs.Term.{Names, MadeOf, AllMadeOf, Term, Terms}
use Rattle.sp_spec.specs.Signature.{Signature}
use Rattle.sp_spec.specs.Formula.{Written, Formula, truth, falsity, happens, equals, precedes, not_so, both, either, implies, for_all, for_some}
use Rattle.sp_spec.specs.Lists.{Every}
use Rattle.sp_spec.specs.Rule.{Fact, Action}
use Rattle.sp_spec.specs.Written.{WrittenRule}
use Rattle.sp_law_equal.specs.RightTheory.{no_fresh_names}
use Rattle.sp_law_equal.specs.Right.{AreTermsOver}
use Rattle.sp_law_decide.specs.Normal.{IsConstructorTerm, AreConstructorTerms}

-- a constructor term over the signature, in which no fresh name stands
abbrev pub IsBasicTerm : Signature → Term Written → Type 0
IsBasicTerm signature t = IsConstructorTerm signature t × MadeOf no_fresh_names (λ x. Unit {0}) t

abbrev pub AreBasicTerms : Signature → Terms Written → Type 0
AreBasicTerms signature ts = AreConstructorTerms signature ts × AllMadeOf no_fresh_names (λ x. Unit {0}) ts

-- a destructor may stand in them
abbrev pub AreOpenTerms : Signature → Terms Written → Type 0
AreOpenTerms signature ts = AreTermsOver signature.symbols ts × AllMadeOf no_fresh_names (λ x. Unit {0}) ts

pub record IsBasicRule (signature : Signature) (r : WrittenRule) : Type 0 where
  pub premises : Every (λ (f : Fact Written). AreBasicTerms signature f.args) r.facts.premises
  pub actions : Every (λ (a : Action Written). AreOpenTerms signature a.args) r.facts.actions
  pub conclusions : Every (λ (f : Fact Written). AreOpenTerms signature f.args) r.facts.conclusions

abbrev pub IsBasicFormula : Signature → Formula → Type 0
IsBasicFormula signature truth = Unit {0}
IsBasicFormula signature falsity = Unit {0}
IsBasicFormula signature (happens a i) = AreBasicTerms signature a.args
IsBasicFormula signature (equals t u) = IsBasicTerm signature t × IsBasicTerm signature u
IsBasicFormula signature (precedes i j) = Unit {0}
IsBasicFormula signature (not_so f) = IsBasicFormula signature f
IsBasicFormula signature (both f g) = IsBasicFormula signature f × IsBasicFormula signature g
IsBasicFormula signature (either f g) = IsBasicFormula signature f × IsBasicFormula signature g
IsBasicFormula signature (implies f g) = IsBasicFormula signature f × IsBasicFormula signature g
IsBasicFormula signature (for_all x f) = IsBasicFormula signature f
IsBasicFormula signature (for_some x f) = IsBasicFormula signature f

-- the names in the formula are such ones
abbrev pub HasNames : Names → Formula → Type 0
HasNames N truth = Unit {0}
HasNames N falsity = Unit {0}
HasNames N (happens a i) = AllMadeOf N (λ x. Unit {0}) a.args
HasNames N (equals t u) = MadeOf N (λ x. Unit {0}) t × MadeOf N (λ x. Unit {0}) u
HasNames N (precedes i j) = Unit {0}
HasNames N (not_so f) = HasNames N f
HasNames N (both f g) = HasNames N f × HasNames N g
HasNames N (either f g) = HasNames N f × HasNames N g
HasNames N (implies f g) = HasNames N f × HasNames N g
HasNames N (for_all x f) = HasNames N f
HasNames N (for_some x f) = HasNames N f
