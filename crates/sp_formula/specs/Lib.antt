pub mod PlaceView
pub mod PlaceLaws
pub mod FormulaView
pub mod SlotsView
pub mod Fingerprint
pub mod Staying
