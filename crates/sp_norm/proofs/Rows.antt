-- A loop that has brought each term into normal form.
use Rattle.std.proofs.Common.{◌≡◌, List, [], ◌∷◌, map, refl, ap, ◌∙◌}
use Rattle.sp_spec.specs.Term.{more}
use Rattle.sp_spec.specs.Signature.{Equation}
use Rattle.sp_law_equal.specs.Normal.{normal, normal_all}
use Rattle.sp_term.specs.View.{Never}
use Rattle.sp_term.specs.declared.term.Term.{Term}
use Rattle.sp_fact.specs.GroundView.{row, ground_of, grounds_of}

row-normal : (es : List Equation) (ts : List (Term Never)) → row (map (λ t. normal es (ground_of t)) ts) ≡ normal_all es (grounds_of ts)
row-normal es [] = refl
row-normal es (t ∷ ts) = ap (more (normal es (ground_of t))) (row-normal es ts)

pub normal_each : (es : List Equation) (made ts : List (Term Never)) → map ground_of made ≡ map (λ t. normal es (ground_of t)) ts → grounds_of made ≡ normal_all es (grounds_of ts)
normal_each es made ts e = ap row e ∙ row-normal es ts
