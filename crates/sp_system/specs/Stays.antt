-- Whether nothing in a part of a system changes where bound variables and one time are replaced.
use Rattle.std.specs.Prelude.{ℕ, List, Bool, true, ◌&&◌}
use Rattle.sp_spec.specs.Term.{Variable, Term, each_variable, each_variables}
use Rattle.sp_spec.specs.Rule.{Fact, Action, Facts}
use Rattle.sp_spec.specs.Substitution.{Binding}
use Rattle.sp_spec.specs.Unifier.{Pair}
use Rattle.sp_spec_system.specs.System.{Way, chain_begun, chain_done, Happening, rule_step, sending, learning, Event, Link}
use Rattle.sp_formula.specs.Staying.{is_unbound, time_stays, all_so}

abbrev pub term_stays : List Binding → Term Variable → Bool
term_stays bs t = each_variable (is_unbound bs) t

abbrev pub fact_stays : List Binding → Fact Variable → Bool
fact_stays bs f = each_variables (is_unbound bs) f.args

abbrev pub action_stays : List Binding → Action Variable → Bool
action_stays bs a = each_variables (is_unbound bs) a.args

abbrev pub facts_stay : List Binding → Facts Variable → Bool
facts_stay bs f = all_so (fact_stays bs) f.premises && all_so (action_stays bs) f.actions && all_so (fact_stays bs) f.conclusions

abbrev pub way_stays : List Binding → ℕ → ℕ → Way → Bool
way_stays bs small large (chain_begun i k ts) = time_stays small large i && all_so (term_stays bs) ts
way_stays bs small large (chain_done i k ts) = time_stays small large i && all_so (term_stays bs) ts
way_stays bs small large way = true

abbrev pub happening_stays : List Binding → ℕ → ℕ → Happening → Bool
happening_stays bs small large (rule_step r facts) = facts_stay bs facts
happening_stays bs small large (sending m) = term_stays bs m
happening_stays bs small large (learning m way) = term_stays bs m && way_stays bs small large way

abbrev pub event_stays : List Binding → ℕ → ℕ → Event → Bool
event_stays bs small large e = time_stays small large e.time && happening_stays bs small large e.happening

abbrev pub pair_stays : List Binding → Pair → Bool
pair_stays bs p = term_stays bs p.0 && term_stays bs p.1

abbrev pub link_stays : ℕ → ℕ → Link → Bool
link_stays small large l = time_stays small large l.from && time_stays small large l.to
