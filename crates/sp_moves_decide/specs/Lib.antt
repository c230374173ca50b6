pub mod Another
pub mod Open
pub mod RulesView
pub mod Sought
pub mod SoughtView
pub mod WhyNot
