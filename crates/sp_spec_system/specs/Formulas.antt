-- The formulas of a system: their terms, and the first formula of which something is picked.
use Rattle.std.specs.Prelude.{Option, Some, None, option_map, option_and_then, List, ◌∷◌, [], ◌++◌}
use Rattle.sp_spec.specs.Term.{Variable, Term, var, Terms, valued_where, valued_all_where}
use Rattle.sp_spec.specs.Guarded.{Place, free, bound, Guarded}
use Rattle.sp_spec.specs.Rule.{Action}
use Rattle.sp_spec_system.specs.System.{System, with_formulas, with_spent}
use Rattle.sp_spec.specs.Unifier.{Pair}

-- a term of a formula that binds none of its variables is a term of the system
abbrev pub freed_place : Place → Option (Term Variable)
freed_place (free x) = Some (var x)
freed_place (bound k) = None

abbrev pub freed : Term Place → Option (Term Variable)
freed t = valued_where freed_place t

abbrev pub freed_all : Terms Place → Option (Terms Variable)
freed_all ts = valued_all_where freed_place ts

abbrev pub freed_action : Action Place → Option (Action Variable)
freed_action a = option_map (λ us. record { symbol = a.symbol; args = us }) (freed_all a.args)

-- the first formula of which something is picked, with what stands before and behind it
pub record Found (A : Type 0) : Type 0 where
  pub front : List Guarded
  pub formula : Guarded
  pub picked : A
  pub back : List Guarded

abbrev pub behind : {A : Type 0} → Guarded → Found A → Found A
behind f r = record { front = f ∷ r.front; formula = r.formula; picked = r.picked; back = r.back }

abbrev pub found_at : {A : Type 0} → Guarded → List Guarded → Option A → Option (Found A) → Option (Found A)
found_at f fs (Some a) later = Some (record { front = []; formula = f; picked = a; back = fs })
found_at f fs None later = option_map (behind f) later

abbrev pub first_formula : {A : Type 0} → (Guarded → Option A) → List Guarded → Option (Found A)
first_formula pick [] = None
first_formula pick (f ∷ fs) = found_at f fs (pick f) (first_formula pick fs)

-- the formula is spent, and these stand in its place
abbrev pub spending : {A : Type 0} → System → Found A → List Guarded → System
spending s r fs = with_spent (with_formulas s (r.front ++ (fs ++ r.back))) (s.spent ++ r.formula ∷ [])

-- Unequal: two terms that are said to differ are an unequal pair if they unify, and else nothing has to be kept.
abbrev pub pair_of : Term Place → Term Place → Option Pair
pair_of t u = option_and_then (λ a. option_map (λ b. (a, b)) (freed u)) (freed t)
