-- What an atom in memory stands for, and binders as names are looked for among them.
use Rattle.std.specs.Prelude.{List, map}
use Rattle.sp_spec.specs.Lists.{newest_first}
use Rattle.sp_spec.specs.Formula.{Written}
use Rattle.sp_read_parts.specs.Views.{variable, term, action_of}
use Rattle.sp_read_parts.specs.declared.written.WrittenVariable.{WrittenVariable}
use Rattle.sp_walk.specs.Atoms.{Atom, happens, equals, precedes}
use Rattle.sp_walk.specs.declared.atom.ReadAtom.{ReadAtom}
use Rattle.sp_walk.specs.declared.atom.ReadAtom.TheVariants as v

abbrev pub atom_of : ReadAtom → Atom
atom_of (v.Happens a i) = happens (action_of a.now) (variable i)
atom_of (v.Equals t u) = equals (term t.now) (term u.now)
atom_of (v.Precedes i j) = precedes (variable i) (variable j)

-- the innermost first
abbrev pub innermost_first : List WrittenVariable → List Written
innermost_first binders = newest_first (map variable binders)
