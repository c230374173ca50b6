pub mod One
pub mod Balances
pub mod RuleHeads
pub mod RuleParts
