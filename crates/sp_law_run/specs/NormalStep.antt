-- Steps and traces with each of their terms in normal form. Source: CSF 2012, "Cryptographic messages": terms stand for their classes modulo
-- the equations, and the normal form is the one that is chosen of each class.
use Rattle.std.specs.Prelude.{ℕ, List, map}
use Rattle.sp_spec.specs.Term.{Ground}
use Rattle.sp_spec.specs.Signature.{Equation}
use Rattle.sp_spec.specs.Execution.{Step, Trace, make_fresh, use_rule, take_out, put_in, know_public, make_own, apply_symbol}
use Rattle.sp_law_equal.specs.Normal.{normal, normal_all, normal_action}

-- the names stay, each value is replaced by its normal form
abbrev pub normal_given : List Equation → List (List ℕ × Ground) → List (List ℕ × Ground)
normal_given es given = map (λ (g : List ℕ × Ground). (g.0, normal es g.1)) given

abbrev pub normal_step : List Equation → Step → Step
normal_step es (make_fresh t) = make_fresh (normal es t)
normal_step es (use_rule name given) = use_rule name (normal_given es given)
normal_step es (take_out t) = take_out (normal es t)
normal_step es (put_in t) = put_in (normal es t)
normal_step es (know_public t) = know_public (normal es t)
normal_step es (make_own t) = make_own (normal es t)
normal_step es (apply_symbol f ts) = apply_symbol f (normal_all es ts)

abbrev pub normal_trace : List Equation → Trace → Trace
normal_trace es trace = map (map (normal_action es)) trace
