use Rattle.sp_read_listings.proofs.SymbolParts.{arity_at}
use Rattle.sp_read_listings.proofs.symbols.arity.Goals as goal

pub returns-clause-value : goal.returns-clause-value
returns-clause-value c = arity_at c.in_ok-found.ensures.value c.in_ok-behind.ensures.value c.in_ok-digits.ensures.value c.in_ok-arity.ensures.0 c.in_ok-arity.ensures.1
