-- What happens at events in memory, and the facts that they have.
use Rattle.std.specs.Prelude.{ℕ, List, Bool, true}
use Rattle.sp_spec.specs.Term as terms
use Rattle.sp_spec.specs.Rule.{Action}
use Rattle.sp_term.specs.View.{name_of, view}
use Rattle.sp_spec_forms.specs.Alike.{alike_facts}
use Rattle.sp_spec_system.specs.System.{Happening, rule_step, sending, learning, happening_facts}
use Rattle.sp_term.specs.declared.term.Variable.{Variable}
use Rattle.sp_fact.specs.declared.fact.Facts.{Facts}
use Rattle.sp_fact.specs.View.{facts_of}
use Rattle.sp_system.specs.declared.event.What.{What}
use Rattle.sp_system.specs.declared.event.What.TheVariants.{Rule, Send, Learn}
use Rattle.sp_system.specs.WayView.{way_of}

-- a step of a rule with these facts, or what the adversary does
abbrev pub happening_of : What → Facts Variable → Happening
happening_of (Rule n) facts = rule_step (name_of n) (facts_of facts)
happening_of (Send m) facts = sending (view m)
happening_of (Learn m way) facts = learning (view m) (way_of way)

-- whether these are the facts of what happens; a step of a rule has any
abbrev pub has_its_facts : What → Facts Variable → Bool
has_its_facts (Rule n) facts = true
has_its_facts (Send m) facts = alike_facts (facts_of facts) (happening_facts (sending (view m)))
has_its_facts (Learn m way) facts = alike_facts (facts_of facts) (happening_facts (learning (view m) (way_of way)))

-- the action of this name on one message
abbrev pub action_on : List ℕ → terms.Term terms.Variable → Action terms.Variable
action_on symbol m = record { symbol = symbol; args = terms.more m terms.none }
