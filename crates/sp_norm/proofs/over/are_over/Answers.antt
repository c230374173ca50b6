use Rattle.std.proofs.Common.{◌∙◌, sym, map}
use Rattle.sp_fact.specs.GroundView.{grounds_of, symbol_of}
use Rattle.sp_norm.proofs.Symbols.{all_over_decides}
use Rattle.sp_norm.proofs.over.are_over.Goals as goal

pub returns-clause-tells : goal.returns-clause-tells
returns-clause-tells c =
    let decides = all_over_decides (map symbol_of c.args.symbols.now.items) (grounds_of c.args.terms.now.items) in
    (λ h. decides.0 (sym c.trees_over.ensures ∙ h), λ e. c.trees_over.ensures ∙ decides.1 e)
