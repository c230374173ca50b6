-- The guarded form of several quantifiers in a row, and of an equivalence.
use Rattle.std.specs.Prelude.{List, [], ◌∷◌}
use Rattle.sp_spec.specs.Formula.{Written}
use Rattle.sp_spec.specs.Guarded.{Guarded}
use Rattle.sp_law_guard.specs.GuardedForm.{binder_of, negate, existential, conjunction, disjunction}

abbrev pub for_all_form : Written → Guarded → Guarded
for_all_form x g = negate (existential (binder_of x.mark) (negate g))

abbrev pub for_some_form : Written → Guarded → Guarded
for_some_form x g = existential (binder_of x.mark) g

abbrev pub each_bound : (Written → Guarded → Guarded) → List Written → Guarded → Guarded
each_bound bind [] g = g
each_bound bind (x ∷ xs) g = bind x (each_bound bind xs g)

abbrev pub implied_form : Guarded → Guarded → Guarded
implied_form g h = disjunction (negate g) h

abbrev pub equivalent_form : Guarded → Guarded → Guarded
equivalent_form g h = conjunction (implied_form g h) (implied_form h g)
