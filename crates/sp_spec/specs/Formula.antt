-- Formulas as a text writes them. Source: Tamarin manual, "Property specification".
use Rattle.std.specs.Prelude.{ℕ, List}
use Rattle.sp_spec.specs.Term.{Sort, Term}
use Rattle.sp_spec.specs.Rule.{Action}

-- how a text marks a variable: x, ~x or x:fresh, $x or x:pub, x:msg, #i or i:node
pub data Mark : Type 0 where
  bare : Mark
  of_sort : Sort → Mark
  of_time : Mark

-- a variable as it is written
pub record Written : Type 0 where
  pub name : List ℕ
  pub mark : Mark

-- A bare name means the innermost binder of that name, whatever its sort, so equal stands between messages and between times.
-- f <=> g is written for (f ==> g) & (g ==> f), and a quantifier over several variables for one over each.
pub data Formula : Type 0 where
  truth : Formula
  falsity : Formula
  happens : Action Written → Written → Formula
  equals : Term Written → Term Written → Formula
  precedes : Written → Written → Formula
  not_so : Formula → Formula
  both : Formula → Formula → Formula
  either : Formula → Formula → Formula
  implies : Formula → Formula → Formula
  for_all : Written → Formula → Formula
  for_some : Written → Formula → Formula
