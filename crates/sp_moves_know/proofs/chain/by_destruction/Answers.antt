use Rattle.std.proofs.Common.{[], ◌∷◌, option_map, sym, ap, ◌∙◌}
use Rattle.sp_spec.specs.Term.{Variable, Term, valued}
use Rattle.sp_spec.specs.Unifier.{mgu}
use Rattle.sp_term.specs.Bindings.{bindings}
use Rattle.sp_term.specs.View.{view, view_all}
use Rattle.sp_destruct.specs.View.{destruction_of}
use Rattle.sp_system.specs.SystemView.{system_of}
use Rattle.sp_spec_know.specs.Chain.{numbered_from, with_link}
use Rattle.sp_moves_know.specs.BegunView.{begun_of}
use Rattle.sp_moves_know.proofs.Same.{longer_by_link, same_there}
use Rattle.sp_moves_know.proofs.chain.by_destruction.Goals as goal

pub returns : goal.returns
returns c =
    let b = begun_of c.args.begun.now in
    let d = destruction_of c.args.destruction.now in
    let s = system_of c.args.system.now in
    let link = c.in_ok-link.link in
    let new = c.in_ok-link.ensures in
    same_there (with_link s c.args.time b d) (system_of c.in_ok-linked.linked) (system_of c.in_ok-made.made) b.last (valued (numbered_from s.next d) d.pattern)
    (bindings c.in-Some.subst)
    (ap (option_map bindings) (sym c.in-Some.is) ∙ c.in_ok-subst.ensures ∙ ap (λ (t : Term Variable). mgu ((b.last, t) ∷ [])) new.pattern)
    (c.in_ok-linked.ensures ∙ longer_by_link s c.args.time b d (view_all link.sides.items) (view link.message) link.next new.sides new.message new.next)
    c.in_ok-made.ensures
