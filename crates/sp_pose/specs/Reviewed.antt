-- What is said of the theory of a text that was examined.
use Rattle.std.specs.Prelude.{◌≡◌, ℕ, Bool, nat_eq, List, ◌++◌, length, codes, decimal}
use Rattle.sp_place.specs.Refused.{IsRefusedAt}
use Rattle.sp_written.specs.Views as view
use Rattle.sp_finding.specs.View.{lines_of}
use Rattle.sp_wf.specs.Report.{text_of}
use Rattle.sp_warn.specs.Warnings as warn
use Rattle.sp_warn.specs.Warnings.{warnings_on}
use Rattle.sp_pose.specs.Problem.{counted, IsReviewed}
use Rattle.sp_pose.specs.declared.examined.SaidTheory.{SaidTheory}
use Rattle.sp_pose.specs.declared.review.Review.{Review}
use Rattle.sp_pose.specs.declared.review.Reviewing.{Reviewing}
use Rattle.sp_pose.specs.declared.review.Reviewing.TheVariants.{Refused, Done}

-- the lines of the warnings
abbrev pub warned : SaidTheory → List (List ℕ)
warned e = warn.lines_of (warnings_on (view.items e.theory.items.items))

-- a line for each fatal finding and for each warning, and how many there are
pub record IsReviewOf (e : SaidTheory) (r : Review) : Type 0 where
  pub text_is : r.text.items ≡ text_of (lines_of e.fatal.items ++ warned e) ++ counted (length e.fatal.items) (length (warned e))
  pub fine_is : r.is_fine ≡ nat_eq (length e.fatal.items) 0

abbrev pub IsReviewedBy : List ℕ → Reviewing → Type 0
IsReviewedBy text (Refused place) = IsRefusedAt text place
IsReviewedBy text (Done r) = IsReviewed text r.text.items r.is_fine
