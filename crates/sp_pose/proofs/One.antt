-- A text is reported on in one way, and isn't posed then.
use Rattle.std.proofs.Common.{◌≡◌, ℕ, Bool, true, false, List, ◌++◌, sym, ap, ◌∙◌, subst}
use Rattle.sp_spec.proofs.Bools.{same_tests}
use Rattle.sp_spec_text.specs.Written.{WrittenText}
use Rattle.sp_read_theory.proofs.Whole.{text_one}
use Rattle.sp_wf.specs.Laws.{IsWellFormed}
use Rattle.sp_place.specs.Refused.{IsRefusedAt}
use Rattle.sp_pose.specs.Problem.{Poses, report, counts, IsReported, IsReviewed}

pub one_report : (text lines other : List ℕ) → IsReported text lines → IsReported text other → lines ≡ other
one_report text lines other a b = a.lines_are ∙ ap report (text_one a.says b.says) ∙ sym b.lines_are

-- there are findings on what is said, or there are none
pub not_posed : {text lines : List ℕ} {theory : WrittenText} → IsReported text lines → Poses text theory → ⊥
not_posed r p = r.wrong (subst IsWellFormed (text_one p.says r.says) p.fine)

-- so it is of a review, which tells whether the text poses what it says
pub review_is_wrong : {text review : List ℕ} {theory : WrittenText} → IsReviewed text review false → Poses text theory → ⊥
review_is_wrong r p = let e : false ≡ true = r.fine_is.1 (subst IsWellFormed (text_one p.says r.says) p.fine) in cc

pub one_review : {text review other : List ℕ} {fine also : Bool} → IsReviewed text review fine → IsReviewed text other also → (review ≡ other) × (fine ≡ also)
one_review {fine = fine} {also = also} a b =
    let same = text_one a.says b.says in (
      a.review_is ∙ ap (λ (t : WrittenText). report t ++ counts t) same ∙ sym b.review_is,
      same_tests fine also (λ e. b.fine_is.1 (subst IsWellFormed same (a.fine_is.0 e))) (λ e. a.fine_is.1 (subst IsWellFormed (sym same) (b.fine_is.0 e))),
    )

-- a text that is refused says no theory
pub refused_or_reviewed : {text review : List ℕ} {place : ℕ} {fine : Bool} → IsRefusedAt text place → IsReviewed text review fine → ⊥
refused_or_reviewed r a = r.nothing.none a.theory a.says
