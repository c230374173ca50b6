use Rattle.sp_read_formula.proofs.Taken.{closed_one}
use Rattle.sp_read_formula.proofs.closed_formulas_are_one.Goals as goal

pub returns : goal.returns
returns c = record { one = λ n close k ts r q f g h i. closed_one close k h i }
