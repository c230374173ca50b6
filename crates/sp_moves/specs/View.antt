-- The moves and cases that those in memory stand for.
use Rattle.std.specs.Prelude.{string_bytes}
use Rattle.sp_term.specs.View.{name_of}
use Rattle.sp_system.specs.SystemView.{system_of}
use Rattle.sp_spec_system.specs.Move as spec
use Rattle.sp_moves.specs.declared.moves.Side.{Side}
use Rattle.sp_moves.specs.declared.moves.Side.TheVariants.{Fresh, Public, Constant}
use Rattle.sp_moves.specs.declared.moves.Move.{Move}
use Rattle.sp_moves.specs.declared.moves.Move.TheVariants.{Simplify, Contradiction, Unproved, Solved, Induction, Or, Action, Premise, Know, Chain, Source, Compare, Top, Same, MoreEvents, Finish}
use Rattle.sp_moves.specs.declared.moves.Case.{Case}

abbrev pub side_of : Side → spec.Side
side_of (Fresh k) = spec.fresh_side k
side_of (Public k) = spec.public_side k
side_of (Constant c) = spec.constant_side (name_of c)

abbrev pub move_of : Move → spec.Move
move_of Simplify = spec.simplify
move_of Contradiction = spec.contradiction
move_of Unproved = spec.unproved
move_of Solved = spec.solved
move_of Induction = spec.induction
move_of (Or k) = spec.or k
move_of (Action k) = spec.action k
move_of (Premise i p) = spec.premise i p
move_of (Know i) = spec.know i
move_of (Chain i) = spec.chain i
move_of (Source i) = spec.source i
move_of (Compare i j) = spec.compare i j
move_of (Top k) = spec.top k
move_of (Same a b) = spec.same (side_of a) (side_of b)
move_of MoreEvents = spec.more_events
move_of Finish = spec.finish

abbrev pub case_of : Case → spec.Case
case_of c = record { name = string_bytes c.name; system = system_of c.system }
