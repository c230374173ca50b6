use Rattle.std.proofs.Common.{ap, ◌∙◌}
use Rattle.sp_fact.specs.View.{facts_of}
use Rattle.sp_system.specs.declared.event.Happening.{Happening}
use Rattle.sp_system.proofs.EventFacts.{facts_are}
use Rattle.sp_system.proofs.event.Event.facts.Goals as goal

pub returns : goal.returns
returns c =
    let happening = c.args.self.now.happening in
    ap (λ (h : Happening). facts_of h.facts) c.deref.ensures ∙ facts_are happening.what happening.facts happening.has_its_facts
