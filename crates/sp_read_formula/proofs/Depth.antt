-- How far a chain stands above negations.
use Rattle.std.proofs.Common.{ℕ}
use Rattle.sp_read_formula.specs.declared.formulas.Joint as code
use Rattle.sp_read_formula.specs.declared.formulas.Joint.TheVariants as j

abbrev pub depth : code.Joint → ℕ
depth j.And = 3
depth j.Or = 5
