-- Facts and actions that are the same, as an algorithm tests it: variables are told apart by their numbers.
use Rattle.std.specs.Prelude.{Bool, true, false, ◌&&◌, List, [], ◌∷◌}
use Rattle.std.specs.Str.{bytes_eq}
use Rattle.sp_spec.specs.Term.{Variable}
use Rattle.sp_spec.specs.Same.{alike_all}
use Rattle.sp_spec.specs.Rule.{Fact, Action, Facts}

-- both or neither
abbrev pub same_flag : Bool → Bool → Bool
same_flag true b = b
same_flag false true = false
same_flag false false = true

abbrev pub same_list : {A : Type 0} → (A → A → Bool) → List A → List A → Bool
same_list same [] [] = true
same_list same (x ∷ xs) (y ∷ ys) = same x y && same_list same xs ys
same_list same _ _ = false

abbrev pub same_action : Action Variable → Action Variable → Bool
same_action a b = bytes_eq a.symbol b.symbol && alike_all a.args b.args

abbrev pub alike_fact : Fact Variable → Fact Variable → Bool
alike_fact f g = bytes_eq f.symbol g.symbol && (same_flag f.persistent g.persistent && alike_all f.args g.args)

abbrev pub alike_facts : Facts Variable → Facts Variable → Bool
alike_facts f g =
    same_list alike_fact f.premises g.premises && (same_list same_action f.actions g.actions && same_list alike_fact f.conclusions g.conclusions)
