pub mod BasicOver
pub mod ClosedRules
pub mod FreshRules
pub mod Named
pub mod PlainRules
pub mod RightTexts
pub mod RestrictionForms
