use Rattle.std.proofs.Common.{◌≡◌, ◌∙◌, IfOk, Option, option_map, sym, ap, subst}
use Rattle.sp_law_equal.specs.Matching.{value_in}
use Rattle.sp_law_adversary.specs.Learning.{Chain}
use Rattle.sp_term.specs.View.{view, view_all}
use Rattle.sp_fact.specs.GroundView.{ground_of}
use Rattle.sp_norm.specs.Bounds.{bounds}
use Rattle.sp_transfer.specs.Down.{chain_among}
use Rattle.sp_transfer.specs.View.{chain_of, log_in}
use Rattle.sp_transfer.proofs.Down.{down_term}
use Rattle.sp_transfer.proofs.destructing.+down.Goals as goal

pub chain_down-returns-else-same : goal.chain_down-returns-else-same
chain_down-returns-else-same t c =
    let log = log_in c.args.entries.now.items in
    let values = value_in (bounds c.args.values.now) in
    let end = ground_of c.args.end.now in
    let wanted = view c.args.wanted.now in
    let same = ap (λ v. chain_among log values end wanted (view_all v.items)) c.deref.ensures
    ∙ sym (down_term log values end wanted c.args.term.now c.in-App.field-0 c.in-App.args c.in-App.field-2 c.in-App.is (sym c.if-same.ensures.tests)) in
    subst (λ (z : Option Chain). IfOk c.down_among.result (λ o. option_map chain_of o ≡ z)) same c.down_among.ensures
