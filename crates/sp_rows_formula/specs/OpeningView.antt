-- What stands for the variables that a formula binds: values, and new variables where it is opened.
use Rattle.std.specs.Prelude.{ℕ, ◌+◌, List, [], ◌∷◌, ◌++◌, map, length}
use Rattle.sp_spec.specs.Term.{Term, var}
use Rattle.sp_spec.specs.Guarded.{Guarded, Place, free, bound, free_time, bound_time, Binder, message, time, holds, pushed}
use Rattle.sp_term.specs.View.{view}
use Rattle.sp_term.specs.declared.term.Term as memory_term
use Rattle.sp_term.specs.declared.term.Variable as leaf
use Rattle.sp_spec_system.specs.System.{System, with_next}
use Rattle.sp_spec.specs.Change.{Change, placed, atom_changed, changed, opening}
use Rattle.sp_formula.specs.FormulaView.{atom_of, binder_of, formula_of}
use Rattle.sp_formula.specs.declared.formula.Atom as memory_atom
use Rattle.sp_formula.specs.declared.formula.Binder as memory_binder
use Rattle.sp_formula.specs.declared.formula.Formula.{Formula}
use Rattle.sp_spec_formula.specs.Open as rows
use Rattle.sp_system.specs.SpendView.{spending_at}
use Rattle.sp_rows_formula.specs.declared.open_existential.Opened.{Opened}
use Rattle.sp_rows_formula.specs.declared.opening.Values.{Values}

-- one after another, so that the last one is the innermost
abbrev pub pushed_all : {A : Type 0} → List A → (ℕ → A) → ℕ → A
pushed_all [] f = f
pushed_all (a ∷ as_rest) f = pushed_all as_rest (pushed a f)

abbrev pub value_place : memory_term.Term leaf.Variable → Term Place
value_place t = placed (view t)

-- what the values stand for; what is bound beyond them stays
abbrev pub change_of : Values → Change
change_of v = record {
  terms = var;
  times = λ i. i;
  bound_terms = pushed_all (map value_place v.messages.items) (λ k. var (bound k));
  bound_times = pushed_all (map free_time v.times.items) bound_time;
}

-- for one more binder, the variable of this number
abbrev pub put : Binder → ℕ → Change → Change
put (message sort) n c = record { terms = c.terms; times = c.times; bound_terms = pushed (var (free (record { sort = sort; number = n }))) c.bound_terms; bound_times = c.bound_times }
put time n c = record { terms = c.terms; times = c.times; bound_terms = c.bound_terms; bound_times = pushed (free_time n) c.bound_times }

abbrev pub parts_of : List memory_binder.Binder → List memory_atom.Atom → Formula → rows.Existential
parts_of bs guard f = record { binders = map binder_of bs; guard = map atom_of guard; body = formula_of f }

-- what opening a formula gives: its parts over variables from this number on, and the number behind those
abbrev pub opened_by : ℕ → rows.Existential → List Guarded × ℕ
opened_by n e = let c = opening e.binders n in (map (λ a. holds (atom_changed c a)) e.guard ++ changed c e.body ∷ [], n + length e.binders)

abbrev pub opened_of : Opened → List Guarded × ℕ
opened_of o = (map formula_of o.parts.items, o.next)

-- the same with the position of the formula
abbrev pub opened_there : ℕ × Opened → ℕ × (List Guarded × ℕ)
opened_there p = (p.0, opened_of p.1)

abbrev pub opening_there : ℕ → ℕ × rows.Existential → ℕ × (List Guarded × ℕ)
opening_there n p = (p.0, opened_by n p.1)

-- the formula at this position is opened, with what that gave
abbrev pub opening_at : System → ℕ → List Guarded × ℕ → System
opening_at s k p = with_next (spending_at s k p.0) p.1
