use Rattle.std.proofs.Common.{ℕ, sym, ap, ◌∙◌}
use Rattle.sp_spec.specs.Term.{Variable, Term, var}
use Rattle.sp_spec.specs.Guarded.{pushed, Place, Time, bound, free_time, bound_time}
use Rattle.sp_spec.specs.Change.{Change, placed}
use Rattle.sp_formula.specs.FormulaView.{binder_of}
use Rattle.sp_formula.specs.declared.formula.Binder.{Binder}
use Rattle.sp_term.specs.View.{variable_of}
use Rattle.sp_term.specs.declared.term.Term.TheVariants.{Var}
use Rattle.sp_rows_formula.specs.OpeningView.{change_of, put, value_place}
use Rattle.sp_rows_formula.proofs.Openings.{one_more, view_var}
use Rattle.sp_rows_formula.proofs.opening.NewVariables.with.Goals as goal

pub returns-in_ok-push-in-Message-clause-change : goal.returns-in_ok-push-in-Message-clause-change
returns-in_ok-push-in-Message-clause-change c =
    let d = change_of c.args.self.values in
    ap (λ (f : ℕ → Term Place). let e : Change = record { terms = d.terms; times = d.times; bound_terms = f; bound_times = d.bound_times } in e)
    (one_more value_place c.args.self.values.messages.items c.push.new.self.items (Var (record { sort = c.in-Message.sort; number = c.args.self.next })) (λ k. var (bound k)) c.in_ok-push-in-Message.ensures.items
    ∙ ap (λ (t : Term Variable). pushed (placed t) d.bound_terms) (view_var variable_of (record { sort = c.in-Message.sort; number = c.args.self.next })))
    ∙ ap (λ (b : Binder). put (binder_of b) c.args.self.next d) (sym c.in-Message.is)

pub returns-in_ok-push-in-Time-clause-change : goal.returns-in_ok-push-in-Time-clause-change
returns-in_ok-push-in-Time-clause-change c =
    let d = change_of c.args.self.values in
    ap (λ (f : ℕ → Time). let e : Change = record { terms = d.terms; times = d.times; bound_terms = d.bound_terms; bound_times = f } in e)
    (one_more free_time c.args.self.values.times.items c.push-in-Time.new.self.items c.args.self.next bound_time c.in_ok-push-in-Time.ensures.items)
    ∙ ap (λ (b : Binder). put (binder_of b) c.args.self.next d) (sym c.in-Time.is)
