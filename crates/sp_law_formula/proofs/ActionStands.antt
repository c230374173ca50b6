-- The row on an action that stands at its event.
use Rattle.std.proofs.Common.{◌≡◌, ◌≤◌, [], ◌∷◌, Some, sym, subst, le_refl}
use Rattle.sp_spec.specs.Term.{Names}
use Rattle.sp_spec.specs.Theory.{Theory}
use Rattle.sp_spec_system.specs.System.{System}
use Rattle.sp_spec_system.specs.Solutions.{Solves}
use Rattle.sp_spec_system.specs.Numbered.{IsNumbered}
use Rattle.sp_spec_system.specs.Covering.{Covers}
use Rattle.sp_spec_system.specs.Formulas.{first_formula, spending}
use Rattle.sp_spec_formula.specs.ActionStands.{standing_of, action_stands}
use Rattle.sp_spec.proofs.Options.{mapped}
use Rattle.sp_law_formula.proofs.Spending.{is_found, spending_solves, spending_numbered}
use Rattle.sp_law_formula.proofs.OneCase.{covers_by_itself}

pub action_stands_covers : (theory : Theory) (s t : System) → action_stands s ≡ Some t → Covers theory s (t ∷ [])
action_stands_covers theory s t e =
    let r = mapped (λ r. spending s r []) (first_formula (standing_of s.events) s.formulas) t e in
    let found = is_found (standing_of s.events) s.formulas r.0 r.1 in
    covers_by_itself theory s t (λ log is v h. subst (Solves theory log v) (sym r.2) (spending_solves (standing_of s.events) theory log v s r.0 found [] tt h))

pub action_stands_numbered : {N : Names} → (s t : System) → action_stands s ≡ Some t → IsNumbered N s → IsNumbered N t × (s.next ≤ t.next)
action_stands_numbered {N} s t e n =
    let r = mapped (λ r. spending s r []) (first_formula (standing_of s.events) s.formulas) t e in
    let found = is_found (standing_of s.events) s.formulas r.0 r.1 in
    let P : System → Type 0 = λ u. IsNumbered N u × (s.next ≤ u.next) in
    subst P (sym r.2) (spending_numbered (standing_of s.events) s r.0 found [] tt n, le_refl s.next)
