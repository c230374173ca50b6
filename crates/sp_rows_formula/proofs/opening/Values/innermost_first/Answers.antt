use Rattle.sp_rows_formula.proofs.Openings.{instance_of}
use Rattle.sp_rows_formula.proofs.opening.Values.innermost_first.Goals as goal

pub returns : goal.returns
returns c = instance_of (record { messages = c.reverse.new.self; times = c.reverse-2.new.self }) c.args.messages.items c.args.times.items c.reverse.ensures.items c.reverse-2.ensures.items
