-- What a proof may begin with may be taken.
use Rattle.std.proofs.Common.{arith}
use Rattle.sp_spec_system.specs.Numbered.{names_in}
use Rattle.sp_spec.proofs.Lists.{every_weaken}
use Rattle.sp_law_system.proofs.Numbers.{formula_weaken}
use Rattle.sp_law_system.proofs.Solutions.{Under, TimeUnder}
use Rattle.sp_law_table.specs.Laws.{RootsMayBeTaken}

pub roots_may_be_taken_lem : RootsMayBeTaken
roots_may_be_taken_lem = record {
  alone = λ names fs n.
      every_weaken _ _
      (λ f k. formula_weaken (names_in names) (Under 0) (λ x. ⊥) (TimeUnder 0) (λ i. ⊥) (λ x l. absurd (omega (arith, l))) (λ i l. absurd (omega (arith, l))) f k)
      fs n.formulas;
  hold = λ theory log u fs h. h.formulas;
}
