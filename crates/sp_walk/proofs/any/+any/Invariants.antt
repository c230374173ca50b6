use Rattle.std.proofs.Common.{◌≡◌, map, take}
use Rattle.sp_spec.specs.Formula.{Formula}
use Rattle.sp_read_parts.specs.Formulas.{Joint, chain, formula}
use Rattle.sp_walk.specs.Atoms.{any_atom}
use Rattle.sp_walk.proofs.any.+any.Given as goal

abbrev pub invariant-or_any_atom-loop-part : goal.invariant-or_any_atom-loop-part
invariant-or_any_atom-loop-part g l = (o : Joint) (f : Formula) → l.so_far ≡ any_atom (g.T.TestsAtoms.test_of l.test) f
    → l.found ≡ any_atom (g.T.TestsAtoms.test_of l.test) (chain o f (map formula (take l.part-index l.part-items)))
