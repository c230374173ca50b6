-- The symbols that are looked up.
use Rattle.std.specs.Prelude.{List, map}
use Rattle.sp_spec.specs.Signature.{Symbol}
use Rattle.sp_fact.specs.GroundView.{symbol_of}
use Rattle.sp_finding.specs.declared.known.KnownSymbols.{KnownSymbols}

abbrev pub symbols_of : KnownSymbols → List Symbol
symbols_of known = map symbol_of known.symbols.now.items
