use Rattle.std.proofs.Common.{◌≡◌, ◌<◌, ℕ, [], Option, Some, option_map, length, sym, ap, ◌∙◌, subst}
use Rattle.std.proofs.lemmas.List.{length-map}
use Rattle.sp_spec_system.specs.System as spec
use Rattle.sp_formula.specs.FormulaView.{formula_of}
use Rattle.sp_system.specs.SystemView.{system_of}
use Rattle.sp_system.specs.SpendView.{spending_at}
use Rattle.sp_rows_formula.proofs.Endings.{last_spent, many_last}
use Rattle.sp_rows_formula.proofs.last.ended.Goals as goal

abbrev spent : ℕ → Option spec.System → Option spec.System
spent k o = option_map (λ t. spending_at t k []) o

pub returns-then-not-branch : goal.returns-then-not-branch
returns-then-not-branch c =
    let k = c.args.position in
    let h = rw c.if-not-branch.true at c.in_ok-made_last.ensures in
    (last_spent (system_of c.args.system.now) k c.args.time ∙ ap (spent k) h.0, h.1)

pub spend-requires : goal.spend-requires
spend-requires c =
    let h = rw c.if-not-branch.false at c.in_ok-made_last.ensures in
    let old = c.args.system.now.formulas.items in
    let new = c.made_last.new.system.formulas.items in
    let many : length new ≡ length old =
    sym (length-map new formula_of) ∙ many_last (system_of c.args.system.now) c.args.time (system_of c.made_last.new.system) h ∙ length-map old formula_of in
    subst (λ (n : ℕ). c.args.position < n) (sym many) c.requires

pub returns : goal.returns
returns c =
    let k = c.args.position in
    let h = rw c.if-not-branch.false at c.in_ok-made_last.ensures in
    last_spent (system_of c.args.system.now) k c.args.time ∙ ap (spent k) h ∙ ap Some (sym c.in_ok-spend.ensures)
