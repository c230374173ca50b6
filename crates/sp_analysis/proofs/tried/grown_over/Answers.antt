use Rattle.std.proofs.Common.{ap, ap₂, ◌∙◌}
use Rattle.sp_spec_system.specs.System.{System}
use Rattle.sp_spec_system.specs.Move.{Context}
use Rattle.sp_spec_proof.specs.Tree.{found_log}
use Rattle.sp_spec_proof.specs.Growth.{grown_tree}
use Rattle.sp_step.specs.View as moves
use Rattle.sp_system.specs.SystemView.{system_of}
use Rattle.sp_analysis.proofs.tried.grown_over.Goals as goal

pub returns-clause-tree : goal.returns-clause-tree
returns-clause-tree c = c.in_ok-tree.ensures.tree ∙ ap₂ (λ (x : Context) (y : System). grown_tree x y c.args.budget) c.context_of-context.ensures c.in_ok-system.ensures

pub returns-clause-log : goal.returns-clause-log
returns-clause-log c =
    c.in_ok-tree.ensures.log ∙ ap (found_log (moves.context_of c.context_of-context.result) (system_of c.in_ok-system.system)) c.in_ok-tree.ensures.tree
    ∙ ap₂ (λ (x : Context) (y : System). found_log x y (grown_tree x y c.args.budget)) c.context_of-context.ensures c.in_ok-system.ensures
