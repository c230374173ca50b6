use Rattle.std.proofs.Common.{ℕ, List, option_map, sym, ap, ◌∙◌}
use Rattle.sp_spec.specs.Term.{Variable, Term}
use Rattle.sp_term.specs.Bindings.{bindings}
use Rattle.sp_term.specs.View.{view}
use Rattle.sp_spec_system.specs.System.{chain_done}
use Rattle.sp_system.specs.SystemView.{system_of}
use Rattle.sp_system.specs.WayView.{done_of}
use Rattle.sp_spec_know.specs.Know.{with_way}
use Rattle.sp_moves_know.proofs.Same.{same_there}
use Rattle.sp_moves_know.proofs.chain.done.Goals as goal

pub returns : goal.returns
returns c =
    let begun = c.args.begun.now in
    let s = system_of c.args.system.now in
    let i = c.args.time in
    same_there (with_way s i (done_of begun.chain.now)) (system_of c.in_ok-ended.ended) (system_of c.in_ok-made.made) (view begun.last.now) (view begun.message.now)
    (bindings c.in-Some.subst)
    (ap (option_map bindings) (sym c.in-Some.is) ∙ c.in_ok-subst.ensures)
    (c.in_ok-ended.ensures
    ∙ ap (with_way s i) (ap (λ (p : ℕ × ℕ × List (Term Variable)). chain_done p.0 p.1 p.2) c.in_ok-clone.ensures.cases))
    c.in_ok-made.ensures
