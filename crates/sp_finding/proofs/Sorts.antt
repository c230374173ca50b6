-- The sort of a name, from a list that has the rule's occurrences.
use Rattle.std.proofs.Common.{◌≡◌, ◌||◌, if◌then◌else◌, List, ℕ, ap, sym}
use Rattle.sp_spec.specs.Term.{Sort, Msg, Fresh, Pub}
use Rattle.sp_spec.specs.Rule.{Facts}
use Rattle.sp_spec.specs.Formula.{Written}
use Rattle.sp_spec.specs.Written.{is_fr_argument, is_written, occurrences, sort_in}

abbrev among_these : Facts Written → List ℕ → List Written → Sort
among_these facts x xs =
    if is_fr_argument x facts.premises || is_written Fresh x xs then Fresh
    else if is_written Pub x xs then Pub
    else Msg

pub among : (facts : Facts Written) (x : List ℕ) (xs : List Written) → xs ≡ occurrences facts
    → sort_in facts x ≡ (if is_fr_argument x facts.premises || is_written Fresh x xs then Fresh else if is_written Pub x xs then Pub else Msg)
among facts x xs e = ap (among_these facts x) (sym e)
