use Rattle.std.proofs.Common.{◌≡◌, ℕ, suc, sym, ap, ◌∙◌, arith}
use Rattle.sp_formula.specs.FormulaView.{binder_of}
use Rattle.sp_formula.specs.declared.formula.Binder.{Binder}
use Rattle.sp_rows_formula.specs.InsideView.{inside_of, under_one}
use Rattle.sp_rows_formula.specs.declared.inside.Inside.{Inside}
use Rattle.sp_rows_formula.proofs.inside.Inside.with.Goals as goal

pub returns-in-Some-checked_add : goal.returns-in-Some-checked_add
returns-in-Some-checked_add c d =
    let more : c.in-Some-checked_add.times ≡ suc c.args.self.times = omega (arith, c.in-Some-checked_add.ensures) in
    ap (λ (n : ℕ). let i : Inside = record { messages = c.args.self.messages; times = n } in inside_of i d) more
    ∙ ap (λ (b : Binder). under_one (binder_of b) (inside_of c.args.self d)) (sym c.in-Time.is)
