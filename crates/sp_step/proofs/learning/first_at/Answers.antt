use Rattle.std.proofs.Common.{◌≡◌, [], ◌∷◌, option_map, sym, ap, ◌∙◌}
use Rattle.sp_moves.specs.Applied.{clause_of}
use Rattle.sp_step.specs.View.{context_of, move_of}
use Rattle.sp_system.specs.SystemView.{event_of, system_of}
use Rattle.sp_step.specs.Learning.{listed, moves_at}
use Rattle.sp_step.proofs.LearningMoves.{taken_at, refused}
use Rattle.sp_step.proofs.learning.first_at.Goals as goal

pub returns-then-is_some : goal.returns-then-is_some
returns-then-is_some c =
    let m = move_of c.in-Some.chosen in
    let there : m ∷ [] ≡ moves_at c.args.kind (event_of c.args.event.now) = ap (λ o. listed (option_map move_of o)) (sym c.in-Some.is) ∙ c.offered.ensures in
    refused clause_of c.in_ok-clause.clause m (sym c.is_some.ensures ∙ c.if-is_some.true)
    ∙ taken_at (context_of c.args.context.now) (system_of c.args.system.now) c.args.kind (event_of c.args.event.now) m (option_map clause_of c.in_ok-clause.clause)
    there c.in_ok-clause.ensures
