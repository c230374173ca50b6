use Rattle.std.proofs.Common.{◌∙◌, ◌∷◌, [], map, sym, ap, if◌then◌else◌, Some}
use Rattle.sp_fact.specs.GroundView.{ground_fact}
use Rattle.sp_log.specs.View.{source_of}
use Rattle.sp_transfer.specs.Sourced.{found, given_of}
use Rattle.sp_transfer.proofs.Sourced.{all_left, nothing_taken, taken_found}
use Rattle.sp_transfer.proofs.state.take_one.Goals as goal

pub returns-then-not-fact : goal.returns-then-not-fact
returns-then-not-fact c =
    let f = ground_fact c.args.fact.now in
    let gs = map given_of c.args.facts.now.items in
    ap (λ items. Some (record { sources = source_of c.in-Some.source ∷ []; left = map given_of items })) c.remove.ensures.items
    ∙ c.in-Some.ensures.first
    ∙ ap (λ b. if b then all_left gs (found f gs) else found f gs) (sym c.if-not-fact.true)
    ∙ sym (taken_found f gs)

pub returns-else-not-fact : goal.returns-else-not-fact
returns-else-not-fact c =
    let f = ground_fact c.args.fact.now in
    let gs = map given_of c.args.facts.now.items in
    ap (all_left gs) c.in-Some.ensures.first
    ∙ ap (λ b. if b then all_left gs (found f gs) else found f gs) (sym c.if-not-fact.false)
    ∙ sym (taken_found f gs)

pub returns-in-None : goal.returns-in-None
returns-in-None c =
    let f = ground_fact c.args.fact.now in
    let gs = map given_of c.args.facts.now.items in
    nothing_taken f gs (sym c.in-None.ensures.first)
