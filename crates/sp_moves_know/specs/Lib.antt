pub mod KnowRules
pub mod RulesView
pub mod WhyNot
pub mod Linking
pub mod BegunView
