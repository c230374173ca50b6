pub mod RuleSorts
pub mod RuleClean
pub mod Standing
