use Rattle.std.proofs.Common.{sym, ◌∙◌, map}
use Rattle.std.proofs.lemmas.Slice.Zip.{either_empty_from_Zip}
use Rattle.std.specs.Slice.Iter.{iter_rest}
use Rattle.sp_formula.specs.FormulaView.{atom_of}
use Rattle.sp_guard.proofs.Names.{named_end}
use Rattle.sp_guard.proofs.unguarded.named_in.Goals as goal

pub returns : goal.returns
returns c =
    sym (c.loop-binder.invariant.named
    ∙ named_end c.args.count (map atom_of c.args.guard.now.items) (iter_rest c.loop-binder.binder-iterator.a) (iter_rest c.loop-binder.binder-iterator.b)
    (either_empty_from_Zip c.loop-binder.binder-iterator c.next.new.self c.next.result c.in-None.is c.next.ensures.steps))
