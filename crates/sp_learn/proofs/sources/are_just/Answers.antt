use Rattle.std.proofs.Common.{◌≡◌, ◌≤◌, false, List, [], ◌∷◌, length, refl, sym, subst, arith}
use Rattle.std.proofs.lemmas.Bool.{and_right}
use Rattle.sp_spec.specs.Term.{more, none, Ground}
use Rattle.sp_spec.specs.Same.{same_term, same_terms}
use Rattle.sp_term.specs.View.{Never}
use Rattle.sp_term.specs.declared.term.Term.{Term}
use Rattle.sp_fact.specs.GroundView.{ground_of, grounds_of}
use Rattle.sp_learn.proofs.sources.are_just.Goals as goal

-- two terms and more are not one
longer : (ts : List (Term Never)) (t : Ground) → 2 ≤ length ts → same_terms (grounds_of ts) (more t none) ≡ false
longer [] t l = absurd (omega (arith, l))
longer (x ∷ []) t l = absurd (omega (arith, l))
longer (x ∷ y ∷ ts) t l = and_right (same_term (ground_of x) t) _ refl

pub returns-in_default-2 : goal.returns-in_default-2
returns-in_default-2 c =
    let ts = c.args.terms.now.items in
    let two = subst (λ (xs : List (Term Never)). 2 ≤ length xs) c.as_slice.ensures.value c.in_default.len_at_least in
    sym (longer ts (ground_of c.args.term.now) two)
