use Rattle.std.proofs.Common.{sym, ap, ◌∙◌}
use Rattle.sp_term.specs.Bindings.{bindings}
use Rattle.sp_term.specs.declared.term.Term.{Term}
use Rattle.sp_term.specs.declared.term.Variable.{Variable}
use Rattle.sp_unify.specs.View.{pair_view}
use Rattle.sp_system.specs.Stays.{pair_stays}
use Rattle.sp_system.proofs.Kept.{pair_kept}
use Rattle.sp_system.proofs.changes.changed_pair.Goals as goal

pub returns-then-pair_stays : goal.returns-then-pair_stays
returns-then-pair_stays c =
    let bs = bindings c.args.subst.now in
    let stays = ap (λ (p : Term Variable × Term Variable). pair_stays bs (pair_view p)) (sym c.deref.ensures) ∙ sym c.pair_stays.ensures ∙ c.if-pair_stays.true in
    ap pair_view c.in_ok-same.ensures ∙ sym (pair_kept bs (pair_view c.args.pair.now) stays)
