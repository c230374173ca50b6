use Rattle.std.proofs.Common.{ap, ◌∙◌}
use Rattle.sp_order.specs.Ordered.{Ordered}
use Rattle.sp_spec_system.specs.Order as spec
use Rattle.sp_order.proofs.Keeping.{cycle_told}
use Rattle.sp_order.proofs.closure.Closure.has_cycle.Goals as goal

pub returns : goal.returns
returns c =
    cycle_told c.self.inside.times.items c.self.inside.pairs.items c.self.inside.rows.items c.self.inside.words c.self.invariant c.leads_back.result
    (rw (← c.deref.ensures.value) c.leads_back.ensures.some) (rw (← c.deref.ensures.value) c.leads_back.ensures.none)
    ∙ ap (λ (o : Ordered). spec.is_cyclic o.pairs) c.self.view_is
