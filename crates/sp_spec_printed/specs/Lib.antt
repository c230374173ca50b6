pub mod Kind
pub mod Printed
pub mod StepLines
pub mod Verdict
