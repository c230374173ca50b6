-- The texts that were seen so far.
use Rattle.std.specs.Prelude.{ℕ, List, map, string_bytes}
use Rattle.sp_lines.specs.declared.texts.Texts.{Texts}

abbrev pub texts_of : Texts → List (List ℕ)
texts_of t = map string_bytes t.texts.keys
