-- Of which messages the source table has an entry. Source: Schmidt's thesis, chapter 3 (precomputed case distinctions); Tamarin manual, "Precomputation"
-- (the sources of a message). The order is this project's own.
use Rattle.std.specs.Prelude.{List, [], ◌∷◌, Bool, not, ◌==◌, if◌then◌else◌, codes}
use Rattle.std.specs.Str.{bytes_eq}
use Rattle.sp_spec.specs.Signature.{Symbol}
use Rattle.sp_spec_system.specs.Head.{Head, fresh_head, symbol_head}

-- There is an entry for a fresh name and one for each symbol with arguments but that of pairs, and for each private symbol without: those that a pair and a
-- public symbol without arguments would have are settled by themselves.
abbrev pub has_entry : Symbol → Bool
has_entry symbol = if symbol.arity == 0 then symbol.private else not (bytes_eq symbol.name (codes "pair"))

abbrev pub symbol_heads : List Symbol → List Head
symbol_heads [] = []
symbol_heads (s ∷ symbols) = if has_entry s then symbol_head s.name s.arity ∷ symbol_heads symbols else symbol_heads symbols

-- a fresh name, then symbols in the order of the signature
abbrev pub heads : List Symbol → List Head
heads symbols = fresh_head ∷ symbol_heads symbols
