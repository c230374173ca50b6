-- How the hypothesis goes through the parts of a formula.
use Rattle.std.proofs.Common.{◌≡◌, refl, ap, ◌∙◌, List, [], ◌∷◌, map}
use Rattle.sp_spec.specs.Guarded.{Guarded, and_then, guardeds_of}
use Rattle.sp_law_induction.specs.Hypothesis.{hypothesis, hypotheses}

parts_of_hypothesis : (fs : List Guarded) → guardeds_of (map hypothesis fs) ≡ hypotheses (guardeds_of fs)
parts_of_hypothesis [] = refl
parts_of_hypothesis (f ∷ fs) = ap (and_then (hypothesis f)) (parts_of_hypothesis fs)

pub each_hypothesis : (fs made : List Guarded) → made ≡ map hypothesis fs → guardeds_of made ≡ hypotheses (guardeds_of fs)
each_hypothesis fs made e = ap guardeds_of e ∙ parts_of_hypothesis fs
