use Rattle.std.proofs.Common.{◌∙◌, sym, map}
use Rattle.sp_term.specs.View.{name_of}
use Rattle.sp_fact.specs.GroundView.{symbol_of}
use Rattle.sp_norm.proofs.Symbols.{any_public_decides}
use Rattle.sp_norm.proofs.over.has_public.Goals as goal

pub returns-clause-tells : goal.returns-clause-tells
returns-clause-tells c =
    let decides = any_public_decides (map symbol_of c.args.symbols.now.items) (name_of c.args.name.now) c.args.count in
    (λ h. decides.0 (sym c.any_public.ensures ∙ h), λ e. c.any_public.ensures ∙ decides.1 e)
