use Rattle.std.proofs.Common.{◌∙◌, sym, map}
use Rattle.sp_fact.specs.GroundView.{ground_of, symbol_of}
use Rattle.sp_norm.proofs.Symbols.{over_decides}
use Rattle.sp_norm.proofs.over.is_over.Goals as goal

pub returns-clause-tells : goal.returns-clause-tells
returns-clause-tells c =
    let decides = over_decides (map symbol_of c.args.symbols.now.items) (ground_of c.args.term.now) in
    (λ h. decides.0 (sym c.tree_over.ensures ∙ h), λ e. c.tree_over.ensures ∙ decides.1 e)
