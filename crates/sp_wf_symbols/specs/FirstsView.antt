-- The symbols of which the first of a name is looked up.
use Rattle.std.specs.Prelude.{List, map}
use Rattle.sp_spec.specs.Signature.{Symbol}
use Rattle.sp_fact.specs.GroundView.{symbol_of}
use Rattle.sp_wf_symbols.specs.declared.firsts.FirstSymbols.{FirstSymbols}

abbrev pub symbols_of : FirstSymbols → List Symbol
symbols_of known = map symbol_of known.symbols.now.items
