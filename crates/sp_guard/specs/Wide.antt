-- An atom that is an action of more than sixteen arguments.
use Rattle.std.specs.Prelude.{Bool, false}
use Rattle.sp_spec.specs.Findings.{is_wide}
use Rattle.sp_walk.specs.Atoms.{Atom, happens, equals, precedes}

abbrev pub is_wide_atom : Atom → Bool
is_wide_atom (happens a i) = is_wide a.args
is_wide_atom (equals t u) = false
is_wide_atom (precedes i j) = false
