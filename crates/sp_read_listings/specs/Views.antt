-- What the code's values stand for.
pub use Rattle.sp_term.specs.View.{name_of}
pub use Rattle.sp_fact.specs.GroundView.{symbol_of}
pub use Rattle.sp_read_parts.specs.Views.{seen_from}
pub use Rattle.sp_written.specs.Views.{equation, item, spans}
