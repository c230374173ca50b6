use Rattle.std.proofs.Common.{◌∷◌, ℕ, List, sym, ap, ◌∙◌}
use Rattle.sp_spec_solved.proofs.Numeral.{numeral_decimal}
use Rattle.sp_solved.proofs.naming.public_name.Goals as goal

pub returns : goal.returns
returns c =
    c.in_ok-name.ensures ∙ c.deref.ensures ∙ c.in_ok-text.ensures.ok
    ∙ ap (λ (bytes : List ℕ). 97 ∷ bytes) (sym (numeral_decimal c.args.number c.ranges.number.fits))
