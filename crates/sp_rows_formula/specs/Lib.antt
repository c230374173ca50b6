pub mod RowsView
pub mod OpeningView
pub mod InsideView
pub mod EquateView
pub mod LastView
pub mod SlotsView
pub mod PartsView
pub mod MatchesView
