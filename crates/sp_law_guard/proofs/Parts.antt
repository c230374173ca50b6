-- What holds of conjunctions and disjunctions exactly where it holds of each part stays so as formulas are joined.
use Rattle.std.proofs.Common.{List, [], ◌∷◌, ◌++◌}
use Rattle.std.specs.Prelude.{◌↔◌}
use Rattle.sp_spec.specs.Lists.{Every}
use Rattle.sp_spec.specs.Guarded.{acts, same, same_time, before, last, Guarded, Guardeds, truth, falsity, holds, fails, all_of, one_of, some, every, no_more, and_then, parts_of, guardeds_of}
use Rattle.sp_spec.proofs.Lists.{every_append}
use Rattle.sp_law_guard.specs.GuardedForm.{conjuncts, disjuncts, conjunction, disjunction, rest_in, body_of}

abbrev pub EachIs : (Guarded → Type 0) → Guardeds → Type 0
EachIs R no_more = Unit {0}
EachIs R (and_then g gs) = R g × EachIs R gs

pub record IsOfParts (R : Guarded → Type 0) : Type 0 where
  pub of_truth : R truth
  pub of_all : (gs : Guardeds) → R (all_of gs) ↔ EachIs R gs
  pub of_one : (gs : Guardeds) → R (one_of gs) ↔ EachIs R gs

module _ (R : Guarded → Type 0) (parts : IsOfParts R) where
  each_part : (gs : Guardeds) → EachIs R gs → Every R (parts_of gs)
  each_part no_more e = tt
  each_part (and_then g gs) e = (e.0, each_part gs e.1)

  each_listed : (gs : List Guarded) → Every R gs → EachIs R (guardeds_of gs)
  each_listed [] e = tt
  each_listed (g ∷ gs) e = (e.0, each_listed gs e.1)

  pub conjuncts_are : (g : Guarded) → R g → Every R (conjuncts g)
  conjuncts_are (all_of gs) r = each_part gs ((parts.of_all gs).0 r)
  conjuncts_are g r = (r, tt)

  disjuncts_are : (g : Guarded) → R g → Every R (disjuncts g)
  disjuncts_are (one_of gs) r = each_part gs ((parts.of_one gs).0 r)
  disjuncts_are g r = (r, tt)

  pub conjunction_is : (g h : Guarded) → R g → R h → R (conjunction g h)
  conjunction_is g h r s =
      (parts.of_all (guardeds_of (conjuncts g ++ conjuncts h))).1
      (each_listed (conjuncts g ++ conjuncts h) (every_append R (conjuncts g) (conjuncts h) (conjuncts_are g r) (conjuncts_are h s)))

  pub disjunction_is : (g h : Guarded) → R g → R h → R (disjunction g h)
  disjunction_is g h r s =
      (parts.of_one (guardeds_of (disjuncts g ++ disjuncts h))).1
      (each_listed (disjuncts g ++ disjuncts h) (every_append R (disjuncts g) (disjuncts h) (disjuncts_are g r) (disjuncts_are h s)))

  rest_are : (gs : List Guarded) → Every R gs → Every R (rest_in gs)
  rest_are [] e = tt
  rest_are (holds (acts a i) ∷ gs) e = rest_are gs e.1
  rest_are (holds (same t u) ∷ gs) e = rest_are gs e.1
  rest_are (holds (same_time i j) ∷ gs) e = (e.0, rest_are gs e.1)
  rest_are (holds (before i j) ∷ gs) e = (e.0, rest_are gs e.1)
  rest_are (holds (last i) ∷ gs) e = (e.0, rest_are gs e.1)
  rest_are (truth ∷ gs) e = (e.0, rest_are gs e.1)
  rest_are (falsity ∷ gs) e = (e.0, rest_are gs e.1)
  rest_are (fails a ∷ gs) e = (e.0, rest_are gs e.1)
  rest_are (all_of hs ∷ gs) e = (e.0, rest_are gs e.1)
  rest_are (one_of hs ∷ gs) e = (e.0, rest_are gs e.1)
  rest_are (some bs guard g ∷ gs) e = (e.0, rest_are gs e.1)
  rest_are (every bs guard g ∷ gs) e = (e.0, rest_are gs e.1)

  body_is : (gs : List Guarded) → Every R gs → R (body_of gs)
  body_is [] e = parts.of_truth
  body_is (g ∷ []) e = e.0
  body_is (g ∷ h ∷ gs) e = (parts.of_all (guardeds_of (g ∷ h ∷ gs))).1 (each_listed (g ∷ h ∷ gs) e)

  -- the body of a quantifier over that formula
  pub quantified_is : (g : Guarded) → R g → R (body_of (rest_in (conjuncts g)))
  quantified_is g r = body_is (rest_in (conjuncts g)) (rest_are (conjuncts g) (conjuncts_are g r))
