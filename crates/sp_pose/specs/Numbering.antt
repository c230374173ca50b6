-- The numbers that a rule's variables are given, and their names.
use Rattle.std.specs.Prelude.{◌≡◌, ℕ, List, [], ◌∷◌, map, if◌then◌else◌}
use Rattle.std.specs.Str.{bytes_eq}
use Rattle.sp_spec.specs.Term.{Sort, Msg, Variable, Term, var}
use Rattle.sp_spec.specs.Rule as spec
use Rattle.sp_spec.specs.Rule.{Facts}
use Rattle.sp_spec.specs.Formula.{Written}
use Rattle.sp_spec.specs.Written.{occurrences, rule_names, sort_in, place_of}
use Rattle.sp_read_parts.specs.Views as view
use Rattle.sp_declared.specs.View.{texts_of}
use Rattle.sp_pose.specs.declared.numbering.Numbering.{Numbering}

-- a name with its sort in these facts
abbrev pub declared_in : Facts Written → List ℕ → spec.Declared
declared_in facts x = record { name = x; sort = sort_in facts x }

-- the sort of the variable of this name; that of messages, where there is none
abbrev pub sort_among : List ℕ → List spec.Declared → Sort
sort_among x [] = Msg
sort_among x (d ∷ ds) = if bytes_eq d.name x then d.sort else sort_among x ds

-- the variable that a name stands for, by these names and variables
abbrev pub numbered_by : List (List ℕ) → List spec.Declared → Written → Term Variable
numbered_by names ds x = var (record { sort = sort_among x.name ds; number = place_of x.name names })

-- the numbering of these facts' variables
pub record Numbers (facts : Facts Written) (numbering : Numbering) : Type 0 where
  pub variables : map view.variable numbering.variables.items ≡ occurrences facts
  pub names : texts_of numbering.names.items ≡ rule_names facts
