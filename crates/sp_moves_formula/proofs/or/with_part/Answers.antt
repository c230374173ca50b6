use Rattle.std.proofs.Common.{◌<◌, ℕ, sym, subst}
use Rattle.sp_system.proofs.Spends.{as_many}
use Rattle.sp_moves_formula.proofs.or.with_part.Goals as goal

pub spend_for-requires : goal.spend_for-requires
spend_for-requires c =
    subst (λ (n : ℕ). c.args.position < n) (sym (as_many c.in_ok-made.made c.args.system.now c.in_ok-made.ensures.cases)) c.requires
