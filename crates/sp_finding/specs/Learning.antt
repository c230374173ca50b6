-- An atom that is an action of learning.
use Rattle.std.specs.Prelude.{Bool, false, codes}
use Rattle.std.specs.Str.{bytes_eq}
use Rattle.sp_walk.specs.Atoms.{Atom, happens, equals, precedes}

abbrev pub is_learning : Atom → Bool
is_learning (happens a i) = bytes_eq a.symbol (codes "KU")
is_learning (equals t u) = false
is_learning (precedes i j) = false
