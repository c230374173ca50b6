use Rattle.std.proofs.Common.{map}
use Rattle.std.specs.Prelude.{filter, flat_map}
use Rattle.sp_term.specs.View.{name_of}
use Rattle.sp_system.specs.SystemView.{system_of}
use Rattle.sp_moves.specs.View.{side_of}
use Rattle.sp_spec_formula.specs.Sides.{stands_there}
use Rattle.sp_spec_proof.specs.Deciding.{counted, sides_at}
use Rattle.sp_undecided.proofs.Counted.{sides_more}
use Rattle.sp_undecided.proofs.sides.standing_variables.Goals as goal

pub loop-number-preserved : goal.loop-number-preserved
loop-number-preserved c =
    let stands = stands_there (map name_of c.args.constants.now.items) (system_of c.args.system.now) in
    let n = c.args.system.now.next in
    sides_more stands c.loop-number.number n (map side_of c.loop-number.made.items) (map side_of c.put_variables.new.sides.items) (filter stands (flat_map sides_at (counted 0 n)))
    c.loop-number-test.true c.loop-number.invariant c.in_ok-put_variables.ensures
