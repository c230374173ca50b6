-- The traces and the formulas over which truth is decided: traces in normal form, and formulas of constructor terms, in which no destructor stands.
-- Source: Tamarin manual, "Property specification" (no reducible symbols in formulas).
use Rattle.std.specs.Prelude.{◌≡◌, true}
use Rattle.sp_spec.specs.Lists.{Every}
use Rattle.sp_spec.specs.Term.{Term, var, constant, name, app, Terms, none, more, count}
use Rattle.sp_spec.specs.Signature.{Signature, HasSymbol, AreOver}
use Rattle.sp_spec.specs.Equal.{AreNormal}
use Rattle.sp_spec.specs.Rule.{Action}
use Rattle.sp_spec.specs.Formula.{Formula}
use Rattle.sp_spec.specs.Formula as f
use Rattle.sp_spec.specs.Execution.{Trace}
use Rattle.sp_spec.specs.Guarded.{Atom, acts, same, same_time, before, last, Guarded, Guardeds, truth, falsity, holds, fails, all_of, one_of, some, every, no_more, and_then}
use Rattle.sp_law_equal.specs.NormalForms.{HaveNormalForms, KeepSymbols}
use Rattle.sp_law_equal.specs.Destructors.{IsDestructor}
use Rattle.sp_law_guard.specs.IsGuarded.{is_guarded}

-- each argument is normal, and over the signature
abbrev pub IsNormalAction : Signature → Action ⊥ → Type 0
IsNormalAction signature a = AreNormal signature.equations a.args × AreOver signature.symbols a.args

abbrev pub IsNormalTrace : Signature → Trace → Type 0
IsNormalTrace signature trace = Every (Every (IsNormalAction signature)) trace

-- a constructor term: each symbol is one of the signature, over as many arguments as its arity, and no destructor
abbrev mutual
  pub IsConstructorTerm : {V : Type 0} → Signature → Term V → Type 0
  IsConstructorTerm signature (var x) = Unit {0}
  IsConstructorTerm signature (constant c) = Unit {0}
  IsConstructorTerm signature (name n) = Unit {0}
  IsConstructorTerm signature (app g ts) = (IsDestructor signature.equations g → ⊥) × HasSymbol signature.symbols g (count ts) × AreConstructorTerms signature ts

  pub AreConstructorTerms : {V : Type 0} → Signature → Terms V → Type 0
  AreConstructorTerms signature none = Unit {0}
  AreConstructorTerms signature (more t ts) = IsConstructorTerm signature t × AreConstructorTerms signature ts

-- an atom and a guarded formula of constructor terms
abbrev pub IsConstructorAtom : Signature → Atom → Type 0
IsConstructorAtom signature (acts a i) = AreConstructorTerms signature a.args
IsConstructorAtom signature (same t u) = IsConstructorTerm signature t × IsConstructorTerm signature u
IsConstructorAtom signature (same_time i j) = Unit {0}
IsConstructorAtom signature (before i j) = Unit {0}
IsConstructorAtom signature (last i) = Unit {0}

abbrev mutual
  pub IsConstructorForm : Signature → Guarded → Type 0
  IsConstructorForm signature truth = Unit {0}
  IsConstructorForm signature falsity = Unit {0}
  IsConstructorForm signature (holds a) = IsConstructorAtom signature a
  IsConstructorForm signature (fails a) = IsConstructorAtom signature a
  IsConstructorForm signature (all_of gs) = AreConstructorForms signature gs
  IsConstructorForm signature (one_of gs) = AreConstructorForms signature gs
  IsConstructorForm signature (some bs guard g) = Every (IsConstructorAtom signature) guard × IsConstructorForm signature g
  IsConstructorForm signature (every bs guard g) = Every (IsConstructorAtom signature) guard × IsConstructorForm signature g

  pub AreConstructorForms : Signature → Guardeds → Type 0
  AreConstructorForms signature no_more = Unit {0}
  AreConstructorForms signature (and_then g gs) = IsConstructorForm signature g × AreConstructorForms signature gs

-- the same of a formula as a text writes it
abbrev pub HasConstructorTerms : Signature → Formula → Type 0
HasConstructorTerms signature f.truth = Unit {0}
HasConstructorTerms signature f.falsity = Unit {0}
HasConstructorTerms signature (f.happens a i) = AreConstructorTerms signature a.args
HasConstructorTerms signature (f.equals t u) = IsConstructorTerm signature t × IsConstructorTerm signature u
HasConstructorTerms signature (f.precedes i j) = Unit {0}
HasConstructorTerms signature (f.not_so g) = HasConstructorTerms signature g
HasConstructorTerms signature (f.both g h) = HasConstructorTerms signature g × HasConstructorTerms signature h
HasConstructorTerms signature (f.either g h) = HasConstructorTerms signature g × HasConstructorTerms signature h
HasConstructorTerms signature (f.implies g h) = HasConstructorTerms signature g × HasConstructorTerms signature h
HasConstructorTerms signature (f.for_all x g) = HasConstructorTerms signature g
HasConstructorTerms signature (f.for_some x g) = HasConstructorTerms signature g

-- what the formula and the trace must be like
pub record CanDecide (signature : Signature) (trace : Trace) (g : Guarded) : Type 0 where
  pub normal_forms : HaveNormalForms signature.equations
  pub keeps : KeepSymbols signature.symbols signature.equations
  pub normal : IsNormalTrace signature trace
  pub constructors : IsConstructorForm signature g
  pub guarded : is_guarded g ≡ true
