-- The facts of an event in memory are those of what happens.
use Rattle.std.proofs.Common.{◌≡◌, true, refl}
use Rattle.sp_spec_forms.proofs.Alike.{alike_facts_tells}
use Rattle.sp_spec_system.specs.System.{happening_facts, sending, learning}
use Rattle.sp_term.specs.View.{view}
use Rattle.sp_term.specs.declared.term.Variable.{Variable}
use Rattle.sp_fact.specs.declared.fact.Facts.{Facts}
use Rattle.sp_fact.specs.View.{facts_of}
use Rattle.sp_system.specs.declared.event.What.{What}
use Rattle.sp_system.specs.declared.event.What.TheVariants.{Rule, Send, Learn}
use Rattle.sp_system.specs.WayView.{way_of}
use Rattle.sp_system.specs.EventFacts.{happening_of, has_its_facts}

pub facts_are : (w : What) (f : Facts Variable) → has_its_facts w f ≡ true → facts_of f ≡ happening_facts (happening_of w f)
facts_are (Rule n) f h = refl
facts_are (Send m) f h = alike_facts_tells (facts_of f) (happening_facts (sending (view m))) h
facts_are (Learn m way) f h = alike_facts_tells (facts_of f) (happening_facts (learning (view m) (way_of way))) h
