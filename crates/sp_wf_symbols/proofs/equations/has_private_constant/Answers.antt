use Rattle.std.proofs.Common.{map, sym}
use Rattle.sp_fact.specs.GroundView.{equation_of, symbol_of}
use Rattle.sp_wf_symbols.proofs.EquationForms.{private_of_formed, private_of_private, private_of_wrong}
use Rattle.sp_wf_symbols.proofs.equations.has_private_constant.Goals as goal

pub returns-in-WellFormed : goal.returns-in-WellFormed
returns-in-WellFormed c =
    sym (private_of_formed (map symbol_of c.args.symbols.now.items) (map equation_of c.args.equations.now.items) (equation_of c.args.equation.now) c.in-WellFormed.ensures)

pub returns-in-PrivateConstant : goal.returns-in-PrivateConstant
returns-in-PrivateConstant c =
    sym (private_of_private (map symbol_of c.args.symbols.now.items) (map equation_of c.args.equations.now.items) (equation_of c.args.equation.now) c.in-PrivateConstant.ensures)

pub returns-in-WrongShape : goal.returns-in-WrongShape
returns-in-WrongShape c =
    sym (private_of_wrong (map symbol_of c.args.symbols.now.items) (map equation_of c.args.equations.now.items) (equation_of c.args.equation.now) c.in-WrongShape.ensures)
