pub mod PremiseRules
pub mod WhyNot
