use Rattle.std.proofs.Common.{◌≡◌, ◌++◌, map}
use Rattle.std.specs.Vec.Iter.{into_iter_items}
use Rattle.sp_term.specs.View.{name_of}
use Rattle.sp_system.specs.SystemView.{system_of}
use Rattle.sp_spec_system.specs.Cases as spec
use Rattle.sp_moves.specs.View.{case_of}
use Rattle.sp_moves.proofs.named.numbered.Given as goal

abbrev pub invariant-loop-system : goal.invariant-loop-system
invariant-loop-system l =
    map case_of l.made.items ++ spec.numbered (name_of l.name) l.number (map system_of (into_iter_items l.system-iterator))
    ≡ spec.numbered (name_of l.name) 1 (map system_of l.fn.systems.items)
