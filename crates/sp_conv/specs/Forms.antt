-- What the form of an equation says of it.
use Rattle.std.specs.Prelude.{List}
use Rattle.sp_spec.specs.Signature.{Symbol, Equation}
use Rattle.sp_law_conv.specs.Accepted.{IsWellFormed, HasPrivateConstant, HasWrongShape}
use Rattle.sp_conv.specs.declared.form.Form.{Form}
use Rattle.sp_conv.specs.declared.form.Form.TheVariants.{WellFormed, PrivateConstant, WrongShape}

abbrev pub IsForm : List Symbol → List Equation → Equation → Form → Type 0
IsForm symbols es e WellFormed = IsWellFormed symbols es e
IsForm symbols es e PrivateConstant = HasPrivateConstant symbols es e
IsForm symbols es e WrongShape = HasWrongShape symbols es e
