use Rattle.std.proofs.Common.{map, ap, ◌∙◌}
use Rattle.sp_spec.specs.Term.{Variable}
use Rattle.sp_spec.specs.Rule.{Facts}
use Rattle.sp_fact.specs.View.{action_of}
use Rattle.sp_system.specs.declared.event.Happening.{Happening}
use Rattle.sp_system.proofs.EventFacts.{facts_are}
use Rattle.sp_system.proofs.event.Event.actions.Goals as goal

pub returns : goal.returns
returns c =
    let happening = c.args.self.now.happening in
    ap (λ (h : Happening). map action_of h.facts.actions.items) c.deref.ensures
    ∙ ap (λ (f : Facts Variable). f.actions) (facts_are happening.what happening.facts happening.has_its_facts)
