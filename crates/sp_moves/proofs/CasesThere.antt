-- Where there are cases no clause fails, and where there are none one does.
use Rattle.std.proofs.Common.{◌≡◌, true, false, List, Option, Some, None, is_none, is_some, refl, sym, ap, ◌∙◌}
use Rattle.sp_spec_system.specs.Move.{Case}
use Rattle.sp_moves.specs.Clause.{Clause, HasCases}

differ : true ≡ false → ⊥
differ e = absurd cc

pub some_there : (why : Option Clause) (cases : Option (List Case)) (cs : List Case) → HasCases why cases → Some cs ≡ cases → None ≡ why
some_there None cases cs h e = refl
some_there (Some c) cases cs h e = absurd (differ (sym (h.exact ∙ ap is_some (sym e))))

pub none_there : (why : Option Clause) (cases : Option (List Case)) → HasCases why cases → None ≡ cases → None ≡ why → ⊥
none_there why cases h e w = differ (ap is_none w ∙ h.exact ∙ ap is_some (sym e))
