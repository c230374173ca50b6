-- A set of names with how many arguments they have is that of these symbols.
use Rattle.std.specs.Prelude.{◌≡◌, List}
use Rattle.indexmap.specs.IndexSet.{IndexSet, contains}
use Rattle.sp_spec.specs.Signature.{Symbol}
use Rattle.sp_finding.specs.TermFindings.{has_symbol}
use Rattle.sp_finding.specs.declared.forms.SymbolForm.{SymbolForm}
use Rattle.sp_finding.specs.contracts.forms.SymbolFormPartialEq.TheImpl as forms

abbrev pub Knows : {S : Type 0} → IndexSet SymbolForm S → List Symbol → Type 0
Knows known symbols = (x : SymbolForm) → contains forms.ghosts.eq known x ≡ has_symbol symbols x.name.now x.arity
