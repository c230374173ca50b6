use Rattle.std.proofs.Common.{◌≡◌, map, take}
use Rattle.sp_fact.specs.View.{declared_of}
use Rattle.sp_variant.proofs.book.copies.Given as goal

abbrev pub invariant-loop-variable : goal.invariant-loop-variable
invariant-loop-variable l = map declared_of l.made.items ≡ map declared_of (take l.variable-index l.variable-items)
