use Rattle.std.proofs.Common.{List, take, map, sym, ap, ◌∙◌}
use Rattle.std.proofs.lemmas.List.{take-map, take_min}
use Rattle.sp_spec.specs.Term.{Ground}
use Rattle.sp_fact.specs.GroundView.{ground_of}
use Rattle.sp_learn.specs.Learning as spec
use Rattle.sp_learn.specs.View.{entry_of}
use Rattle.sp_learn.specs.declared.log.Entry.{Entry}
use Rattle.sp_learn.proofs.learning.chain_is_new.Goals as goal

pub returns : goal.returns
returns c =
    let earlier = c.args.earlier.now in
    c.none_among.ensures
    ∙ ap (λ (ms : List Ground). spec.none_among ms (map ground_of c.args.messages.now.items))
    (c.in_ok-learnt.ensures
    ∙ ap (λ n. spec.learnt_in (map entry_of (take n earlier))) c.min-end.ensures
    ∙ ap (λ (xs : List Entry). spec.learnt_in (map entry_of xs)) (take_min c.args.position earlier)
    ∙ ap spec.learnt_in (sym (take-map entry_of c.args.position earlier)))
