-- How many arguments a fact or an action has.
use Rattle.std.proofs.Common.{◌≡◌, ℕ, List, length, sym, ◌∙◌}
use Rattle.sp_spec.specs.Term.{count}
use Rattle.sp_term.specs.declared.term.Term.{Term}
use Rattle.sp_term.proofs.Lists.{count-view_all}
use Rattle.sp_read_parts.specs.Views.{variable, terms}
use Rattle.sp_read_parts.specs.declared.written.WrittenVariable.{WrittenVariable}

pub counted : (n : ℕ) (ts : List (Term WrittenVariable)) → n ≡ length ts → n ≡ count (terms ts)
counted n ts e = e ∙ sym (count-view_all variable ts)
