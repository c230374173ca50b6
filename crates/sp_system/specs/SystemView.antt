-- The systems that systems in memory stand for.
use Rattle.std.specs.Prelude.{ℕ, map}
use Rattle.sp_unify.specs.View.{pair_view}
use Rattle.sp_spec_system.specs.System as spec
use Rattle.sp_formula.specs.FormulaView.{formula_of}
use Rattle.sp_system.specs.declared.event.Event.{Event}
use Rattle.sp_system.specs.declared.event.Happening.{Happening}
use Rattle.sp_system.specs.EventFacts.{happening_of}
use Rattle.sp_system.specs.declared.system.Link.{Link}
use Rattle.sp_system.specs.declared.system.System.{System}

abbrev pub event_with : ℕ → spec.Happening → spec.Event
event_with i h = record { time = i; happening = h }

abbrev pub shown : Happening → spec.Happening
shown h = happening_of h.what h.facts

abbrev pub event_of : Event → spec.Event
event_of e = event_with e.time (shown e.happening)

abbrev pub link_of : Link → spec.Link
link_of l = record { from = l.from; conclusion = l.conclusion; to = l.to; premise = l.premise }

abbrev pub system_of : System → spec.System
system_of s = record {
  events = map event_of s.events.items;
  formulas = map formula_of s.formulas.items;
  spent = map formula_of s.spent.items;
  unequal = map pair_view s.unequal.items;
  links = map link_of s.links.items;
  order = s.order;
  last = s.last;
  closed = s.closed;
  next = s.next;
}
