-- The facts and rules that those in memory stand for, over what their leaves stand for.
use Rattle.std.specs.Prelude.{map}
use Rattle.sp_spec.specs.Term.{Variable}
use Rattle.sp_spec.specs.Rule as spec
use Rattle.sp_term.specs.View.{sort_of, name_of, variable_of, view_all_by}
use Rattle.sp_term.specs.declared.term.Variable as memory
use Rattle.sp_fact.specs.declared.fact.Fact.{Fact}
use Rattle.sp_fact.specs.declared.fact.Action.{Action}
use Rattle.sp_fact.specs.declared.fact.Facts.{Facts}
use Rattle.sp_fact.specs.declared.rule.Declared.{Declared}
use Rattle.sp_fact.specs.declared.rule.Rule.{Rule}

abbrev pub fact_by : {L V : Type 0} → (L → V) → Fact L → spec.Fact V
fact_by leaf_of f = record { symbol = name_of f.symbol; persistent = f.persistent; args = view_all_by leaf_of f.args.items }

abbrev pub action_by : {L V : Type 0} → (L → V) → Action L → spec.Action V
action_by leaf_of a = record { symbol = name_of a.symbol; args = view_all_by leaf_of a.args.items }

abbrev pub facts_by : {L V : Type 0} → (L → V) → Facts L → spec.Facts V
facts_by leaf_of f = record {
  premises = map (fact_by leaf_of) f.premises.items;
  actions = map (action_by leaf_of) f.actions.items;
  conclusions = map (fact_by leaf_of) f.conclusions.items;
}

-- those of rules and systems
abbrev pub fact_of : Fact memory.Variable → spec.Fact Variable
fact_of f = fact_by variable_of f

abbrev pub action_of : Action memory.Variable → spec.Action Variable
action_of a = action_by variable_of a

abbrev pub facts_of : Facts memory.Variable → spec.Facts Variable
facts_of f = facts_by variable_of f

abbrev pub declared_of : Declared → spec.Declared
declared_of x = record { name = name_of x.name; sort = sort_of x.sort }

abbrev pub rule_of : Rule → spec.Rule
rule_of r = record { name = name_of r.name; variables = map declared_of r.variables.items; facts = facts_of r.facts }
