use Rattle.sp_read_formula.proofs.Plain.{quoted_one}
use Rattle.sp_read_formula.proofs.quoted_formulas_are_one.Goals as goal

pub returns : goal.returns
returns c = record { one = λ ts r q f g h k. quoted_one ts h k }
