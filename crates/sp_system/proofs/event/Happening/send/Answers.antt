use Rattle.sp_spec_forms.proofs.Alike.{alike_facts_from}
use Rattle.sp_system.proofs.event.Happening.send.Goals as goal

pub invariant_of-result : goal.invariant_of-result
invariant_of-result c = record { has_its_facts = alike_facts_from _ _ c.in_ok-facts.ensures }
