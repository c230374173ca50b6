-- Names that a binder stands before, and names that are symbols.
use Rattle.std.specs.Prelude.{ℕ, Bool, ◌&&◌, not, List, map}
use denote.Ref.{Bor}
use Rattle.sp_spec.specs.Lists.{is_listed, newest_first}
use Rattle.sp_spec.specs.Signature.{Symbol}
use Rattle.sp_spec.specs.Formula.{Written}
use Rattle.sp_spec_text.specs.Declared.{is_bare, is_constant}
use Rattle.sp_declared.specs.View.{texts_of}

abbrev pub named : Written → List ℕ
named x = x.name

-- names that are bound, of which the last has the shortest reach
abbrev pub innermost_first : List (Bor (List ℕ)) → List (List ℕ)
innermost_first bound = newest_first (texts_of bound)

-- the variable is a symbol, unless its name is bound
abbrev pub names_symbol : List Symbol → List (List ℕ) → Written → Bool
names_symbol symbols bound x = is_bare x.mark && (is_constant symbols x.name && not (is_listed x.name bound))
