use Rattle.std.proofs.Common.{◌≡◌, Bool, true, false, Option, is_some, sym, ap, ◌∙◌}
use Rattle.sp_spec_system.specs.System as spec
use Rattle.sp_spec_proof.specs.Rows.{by_rows, rows}
use Rattle.sp_system.specs.Reduced.{Reduced}
use Rattle.sp_system.specs.SystemView.{system_of}
use Rattle.sp_step.specs.View.{rules_of}
use Rattle.sp_step.proofs.simplify.is_reducible.Goals as goal

told : (b : Bool) (s t : spec.System) (o : Option spec.System) → Reduced b s t o → b ≡ is_some o
told true s t o e = sym (ap is_some e)
told false s t o e = sym (ap is_some e.0)

pub returns : goal.returns
returns c =
    let tried : Option spec.System = by_rows (rules_of c.args.rules.now) rows (system_of c.in_ok-tried.tried) in
    c.is_some.ensures ∙ told (is_some c.in_ok-row.row) (system_of c.in_ok-tried.tried) (system_of c.by_rows.new.system) tried c.in_ok-row.ensures.does
    ∙ ap (λ (s : spec.System). is_some (by_rows (rules_of c.args.rules.now) rows s)) c.in_ok-tried.ensures.cases
