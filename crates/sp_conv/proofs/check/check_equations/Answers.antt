use Rattle.std.proofs.Common.{map}
use Rattle.sp_fact.specs.GroundView.{equation_of, symbol_of}
use Rattle.sp_conv.proofs.Searches.{accepted}
use Rattle.sp_conv.proofs.check.check_equations.Goals as goal

pub returns-in-None : goal.returns-in-None
returns-in-None c =
    accepted (map symbol_of c.args.symbols.now.items) (map equation_of c.args.equations.now.items) c.in_default.ensures c.in_default-first_of.ensures
    (rw c.in-None.is at c.in_ok-found.ensures)
