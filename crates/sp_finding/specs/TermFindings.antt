-- The findings on terms: symbols that aren't there, from left to right, and whether destructors stand in them. Source: Tamarin manual,
-- "Cryptographic messages" (user-defined functions and equations) and "Checking well-formedness".
use Rattle.std.specs.Prelude.{ℕ, Bool, false, not, ◌&&◌, ◌||◌, ◌==◌, List, [], ◌∷◌, ◌++◌}
use Rattle.std.specs.Str.{bytes_eq}
use Rattle.sp_spec.specs.Term.{Term, var, constant, name, app, Terms, none, more, count}
use Rattle.sp_spec.specs.Signature.{Symbol, Equation}
use Rattle.sp_spec.specs.Formula.{Written}
use Rattle.sp_conv.specs.Tests.{is_destructor}
use Rattle.sp_finding.specs.Finding.{Finding, unknown_symbol, told}

abbrev pub has_symbol : List Symbol → List ℕ → ℕ → Bool
has_symbol [] f n = false
has_symbol (s ∷ symbols) f n = (bytes_eq s.name f && (s.arity == n)) || has_symbol symbols f n

abbrev mutual
  pub unknown_in : List Symbol → Term Written → List Finding
  unknown_in symbols (var x) = []
  unknown_in symbols (constant c) = []
  unknown_in symbols (name n) = []
  unknown_in symbols (app f ts) = told (not (has_symbol symbols f (count ts))) (unknown_symbol f (count ts)) (unknown_in_all symbols ts)

  pub unknown_in_all : List Symbol → Terms Written → List Finding
  unknown_in_all symbols none = []
  unknown_in_all symbols (more t ts) = unknown_in symbols t ++ unknown_in_all symbols ts

abbrev mutual
  pub has_destructor : {V : Type 0} → List Equation → Term V → Bool
  has_destructor es (var x) = false
  has_destructor es (constant c) = false
  has_destructor es (name n) = false
  has_destructor es (app f ts) = is_destructor es f (count ts) || have_destructor es ts

  pub have_destructor : {V : Type 0} → List Equation → Terms V → Bool
  have_destructor es none = false
  have_destructor es (more t ts) = has_destructor es t || have_destructor es ts
