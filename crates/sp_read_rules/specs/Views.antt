-- What the code's values stand for.
pub use Rattle.sp_read_parts.specs.Views.{seen_from, variable, fact_of, facts_of, action_of, bindings, rule}
use Rattle.sp_spec.specs.Rule as spec
use Rattle.sp_spec.specs.Formula.{Written}
use Rattle.sp_fact.specs.View.{facts_by}
use Rattle.sp_fact.specs.declared.fact.Facts.{Facts}
use Rattle.sp_read_parts.specs.declared.written.WrittenVariable.{WrittenVariable}

-- what a rule takes, shows and adds
abbrev pub rule_facts : Facts WrittenVariable → spec.Facts Written
rule_facts f = facts_by variable f
