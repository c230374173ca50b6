pub mod RuleFindings
pub mod BindingFindings
pub mod BindingView
pub mod Told
