use Rattle.std.proofs.Common.{arith}
use Rattle.sp_read_listings.proofs.Listed.{list_more}
use Rattle.sp_read_listings.proofs.SymbolParts.{functions_one}
use Rattle.sp_read_listings.proofs.listings.functions.Goals as goal

pub loop-found-preserved : goal.loop-found-preserved
loop-found-preserved c =
    let one = rw c.in-Some.is at c.in_ok-next.ensures in
    record {
      reads = rw c.in_ok-push_function.ensures (list_more functions_one c.loop-found.invariant.reads one.value c.in-Some-after.ensures.value);
      further = omega (arith, one.further, c.in-Some-after.ensures.further, c.loop-found.invariant.further);
    }
