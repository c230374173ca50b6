use Rattle.std.proofs.Common.{◌∷◌, map, refl}
use Rattle.sp_fact.specs.GroundView.{ground_of, step_of}
use Rattle.sp_read_steps.specs.View.{symbols_of}
use Rattle.sp_read_steps.proofs.Exits.{pair_of_row}
use Rattle.sp_read_steps.proofs.applications.pair_application.Goals as goal

pub returns : goal.returns
returns c =
    let row = rw c.in-Some.is at c.in_ok-terms.ensures in
    pair_of_row step_of (symbols_of c.args.symbols.now.items) (60 ∷ c.args.inside.now) c.args.inside.now (map ground_of c.in-Some.terms.items) c.in_ok-made.made refl row c.in_ok-made.ensures
