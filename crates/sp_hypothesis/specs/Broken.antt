-- The disjunction of the negations of restrictions that look ahead, if there are any.
use Rattle.std.specs.Prelude.{List, [], ◌∷◌, if◌then◌else◌, Option, None, Some}
use Rattle.sp_spec.specs.Guarded.{Guarded}
use Rattle.sp_law_guard.specs.GuardedForm.{negate, disjunction}
use Rattle.sp_law_induction.specs.Hypothesis.{is_safety}

-- in front of a formula, where there are any
abbrev pub joined : Option Guarded → Guarded → Guarded
joined None g = g
joined (Some f) g = disjunction f g

-- with those of these restrictions behind it
abbrev pub broken_after : Option Guarded → List Guarded → Option Guarded
broken_after broken [] = broken
broken_after broken (f ∷ fs) = if is_safety f then broken_after broken fs else broken_after (Some (joined broken (negate f))) fs
