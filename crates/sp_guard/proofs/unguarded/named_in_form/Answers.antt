use Rattle.std.proofs.Common.{arith}
use Rattle.sp_guard.proofs.Names.{few_messages}
use Rattle.sp_guard.proofs.unguarded.named_in_form.Goals as goal

pub overflow_add-outer : goal.overflow_add-outer
overflow_add-outer c = let bs = c.in-Exists.binders in omega (arith, c.messages_in.ensures, few_messages bs.items, bs.ok.0, bs.small)
