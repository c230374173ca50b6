-- What the code's values stand for.
pub use Rattle.sp_read_parts.specs.Views.{seen, seen_from}
pub use Rattle.sp_written.specs.Views.{item, items, span_of, spans, theory}
