-- What the code's values stand for.
pub use Rattle.sp_read_parts.specs.Formulas.{formula}
pub use Rattle.sp_read_parts.specs.Views.{seen_from}
pub use Rattle.sp_written.specs.Views.{proof, kind, lemma, attribute, attributes, restriction, item, span_of, spans}
