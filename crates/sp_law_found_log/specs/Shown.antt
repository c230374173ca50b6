-- What a log that was found shows of a lemma, in theories as they are read. Source: CSF 2012, "Security properties" (an execution whose trace
-- falsifies the formula is an attack).
use Rattle.std.specs.Prelude.{◌≡◌, map, false}
use Rattle.sp_spec.specs.Lists.{Every, Distinct}
use Rattle.sp_spec.specs.Theory.{Theory, Lemma, signature_of}
use Rattle.sp_spec.specs.Written.{WrittenRule, WrittenTheory, theory_of}
use Rattle.sp_spec.specs.Findings.{rule_is_wrong}
use Rattle.sp_spec.specs.Log.{Log, visible_trace}
use Rattle.sp_spec.specs.Verdict.{IsBrokenByLog, IsSatisfiedByLog, IsBrokenInReading, IsSatisfiedInReading}
use Rattle.sp_law_equal.specs.NormalForms.{HasNormalForms}
use Rattle.sp_law_log_steps.specs.Execution.{IsExecutionWith}
use Rattle.sp_law_log_execution.specs.Executed.{executed_of}
use Rattle.sp_law_basic.specs.BasicTheory.{IsBasicRule}
use Rattle.sp_law_basic.specs.Restrictions.{IsBasicRestriction}

-- A theory without findings, of basic rules and basic restrictions, and whose terms have normal forms.
pub record IsSearched (theory : WrittenTheory) : Type 0 where
  pub normal_forms : HasNormalForms (signature_of (theory_of theory))
  pub basic : Every (IsBasicRule (signature_of (theory_of theory))) theory.rules
  pub rule_names : Distinct (map (λ (r : WrittenRule). r.name) theory.rules)
  pub right : Every (λ (r : WrittenRule). rule_is_wrong r ≡ false) theory.rules
  pub restrictions : Every (IsBasicRestriction (signature_of (theory_of theory))) theory.restrictions

-- The log breaks the lemma; its steps are an execution whose trace has its visible trace as normal form, and where the lemma is read over executions they break it too.
pub record FoundBreaks (theory : Theory) (lemma : Lemma) (log : Log) : Type 0 where
  pub by_log : IsBrokenByLog theory lemma log
  pub executed : IsExecutionWith theory (executed_of theory log) (visible_trace log)
  pub in_reading : IsBrokenInReading theory lemma log (executed_of theory log)

-- The log satisfies the lemma; its steps are an execution whose trace has its visible trace as normal form, and where the lemma is read over executions they satisfy it too.
pub record FoundSatisfies (theory : Theory) (lemma : Lemma) (log : Log) : Type 0 where
  pub by_log : IsSatisfiedByLog theory lemma log
  pub executed : IsExecutionWith theory (executed_of theory log) (visible_trace log)
  pub in_reading : IsSatisfiedInReading theory lemma log (executed_of theory log)
