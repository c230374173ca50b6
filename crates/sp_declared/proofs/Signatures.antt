-- The signature of a theory is made of all symbols and equations of its text.
use Rattle.std.proofs.Common.{◌≡◌, refl}
use Rattle.sp_spec.specs.Signature.{Signature}
use Rattle.sp_spec.specs.Theory.{signature_of}
use Rattle.sp_spec.specs.Written.{theory_of}
use Rattle.sp_spec_text.specs.Written.{WrittenText}
use Rattle.sp_spec_text.specs.Declared.{all_symbols, all_equations, their_equations, resolved, theory_in}

pub signature_in : (t : WrittenText) → (let made : Signature = record { symbols = all_symbols t.items; equations = their_equations (all_equations (resolved t).items) } in made) ≡ signature_of (theory_of (theory_in t))
signature_in t = refl
