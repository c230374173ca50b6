pub mod TextsView
