use Rattle.std.proofs.Common.{map, arith}
use Rattle.std.proofs.lemmas.Grind.{common_steps}
use Rattle.sp_fact.specs.GroundView.{equation_of}
use Rattle.sp_norm.proofs.Rows.{normal_each}
use Rattle.sp_norm.proofs.normal.+normal.Goals as goal

pub normal_all-returns : goal.normal_all-returns
normal_all-returns t c = normal_each (map equation_of c.args.equations.now.items) c.loop-term.made.items c.args.terms.now.items (grind (arith, common_steps))
