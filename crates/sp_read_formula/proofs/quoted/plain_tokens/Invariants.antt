use Rattle.std.proofs.Common.{◌≡◌, ◌++◌, drop}
use Rattle.sp_spec_text.specs.Plain.{plain_to_quote}
use Rattle.sp_read_parts.specs.Views.{seen}
use Rattle.sp_read_formula.proofs.Plain.{plain_from}
use Rattle.sp_read_formula.proofs.quoted.plain_tokens.Given as goal

abbrev pub invariant-loop-token : goal.invariant-loop-token
invariant-loop-token l = seen l.found.items ++ plain_from l.closed (seen (drop l.token-index l.tokens)) ≡ plain_to_quote (seen l.tokens)
