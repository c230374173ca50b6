-- That leaves in memory are equal just where the test of what they stand for tells so.
use Rattle.std.proofs.Common.{◌≡◌, refl, ap}
use Rattle.std.specs.Prelude.{Bool, ◌&&◌, ◌==◌}
use Rattle.sp_spec.specs.Same.{same_sort, same_variable}
use Rattle.sp_term.specs.View.{sort_of, variable_of}
use Rattle.sp_term.specs.declared.term.Sort.{Sort}
use Rattle.sp_term.specs.declared.term.Sort.TheVariants.{Msg, Fresh, Pub}
use Rattle.sp_term.specs.declared.term.Variable.{Variable}
use Rattle.sp_term.specs.contracts.term.SortPartialEq.TheImpl as sorts
use Rattle.sp_term.specs.contracts.term.VariablePartialEq.TheImpl as variables

sort_tests : (s u : Sort) → sorts.ghosts.eq s u ≡ same_sort (sort_of s) (sort_of u)
sort_tests Msg Msg = refl
sort_tests Msg Fresh = refl
sort_tests Msg Pub = refl
sort_tests Fresh Msg = refl
sort_tests Fresh Fresh = refl
sort_tests Fresh Pub = refl
sort_tests Pub Msg = refl
sort_tests Pub Fresh = refl
sort_tests Pub Pub = refl

pub variable_tests : (x y : Variable) → variables.ghosts.eq x y ≡ same_variable (variable_of x) (variable_of y)
variable_tests x y = ap (λ (b : Bool). b && (x.number == y.number)) (sort_tests x.sort y.sort)
