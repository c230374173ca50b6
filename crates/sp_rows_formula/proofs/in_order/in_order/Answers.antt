use Rattle.std.proofs.Common.{ℕ, List, [], ◌++◌, Option, Some, option_map, refl, sym, ap, ◌∙◌}
use Rattle.std.specs.Global.{Vec}
use Rattle.sp_spec_system.specs.System as spec
use Rattle.sp_system.specs.SystemView.{system_of}
use Rattle.sp_system.specs.SpendView.{spending_at}
use Rattle.sp_spec_formula.specs.InOrder as rows
use Rattle.sp_rows_formula.proofs.Positions.{in_order-there}
use Rattle.sp_rows_formula.proofs.Searches.{below}
use Rattle.sp_rows_formula.proofs.in_order.in_order.Goals as goal

abbrev row : spec.System → Option (ℕ × List (ℕ × ℕ)) → Option spec.System
row s = option_map (λ p. spec.with_pairs (spending_at s p.0 []) p.1)

abbrev there : ℕ × Vec (ℕ × ℕ) → ℕ × List (ℕ × ℕ)
there p = (p.0, p.1.items)

abbrev found : spec.System → Option (ℕ × Vec (ℕ × ℕ)) → Option spec.System
found s o = row s (option_map there o)

pub returns-in_default : goal.returns-in_default
returns-in_default c =
    let s = system_of c.args.system.now in
    (in_order-there s ∙ ap (row s) (sym c.in_ok-position.ensures) ∙ ap (found s) c.in_default.is, refl)

pub spend-requires : goal.spend-requires
spend-requires c =
    below (rows.order_of c.args.system.now.order) c.args.system.now.formulas.items c.in-Some.position c.in-Some.pairs.items
    (sym c.in_ok-position.ensures ∙ ap (option_map there) c.in-Some.is)

pub returns : goal.returns
returns c =
    let s = system_of c.args.system.now in
    in_order-there s ∙ ap (row s) (sym c.in_ok-position.ensures) ∙ ap (found s) c.in-Some.is
    ∙ ap Some (sym (ap (spec.with_order (system_of c.spend.new.system)) (c.in_ok-add_all.ensures ∙ ap (λ (ps : List (ℕ × ℕ)). c.spend.new.system.order ++ ps) c.deref.ensures.value) ∙ ap (λ (t : spec.System). spec.with_pairs t c.in-Some.pairs.items) c.in_ok-spend.ensures))
