-- A case of an entry joined to a system: it has a solution where both have one, in which the two times are one; and it is numbered.
use Rattle.std.proofs.Common.{◌≡◌, ◌<◌, ◌+◌, ℕ, Option, Some, None, sym, ◌∙◌, subst, arith, le_trans}
use Rattle.sp_spec.specs.Term.{Names}
use Rattle.sp_spec.specs.Log.{Log}
use Rattle.sp_spec.specs.Theory.{Theory}
use Rattle.sp_spec_system.specs.System.{System}
use Rattle.sp_spec_system.specs.Solutions.{Valuation, Solves}
use Rattle.sp_spec_system.specs.Numbered.{HappenOnce, IsNumbered}
use Rattle.sp_spec_system.specs.Covering.{Agrees}
use Rattle.sp_law_system.specs.Laws.{UnifierIsRight}
use Rattle.sp_law_system.proofs.Solutions.{agree_solves}
use Rattle.sp_law_system.proofs.With.{BothUnder}
use Rattle.sp_law_formula.proofs.MadeOne.{made_one_holds, made_one_numbered}
use Rattle.sp_law_formula.proofs.Merged.{IfThere, SolvedBy, Later, NumberedFrom}
use Rattle.sp_law_formula.proofs.Once.{OnceIn, made_one_once}
use Rattle.sp_spec_system.specs.Together.{renamed_from, together, joined_at}
use Rattle.sp_law_sources.specs.Laws.{AreValues}
use Rattle.sp_law_sources.specs.Raised.{extended}
use Rattle.sp_law_sources.proofs.Renaming.{renamed_solves, renamed_numbered, renamed_once, renamed_above}
use Rattle.sp_law_sources.proofs.Extended.{extended_agrees, extended_raised, extended_values, together_solves, together_numbered, together_once}

-- the system takes no numbers back, and no two of its events have one time
abbrev pub LaterOnce : Names → ℕ → System → Type 0
LaterOnce N n t = Later N n t × HappenOnce t.events

pub values_of : (theory : Theory) (log : Log) (v : Valuation) (s : System) → Solves theory log v s → AreValues theory v
values_of theory log v s h = record { sorts = h.sorts; normal = h.normal }

module _ (N : Names) (right : UnifierIsRight) (s : System) (n : IsNumbered N s) (i : ℕ) (under : i < s.next) where
  both_numbered : (c : System) → IsNumbered N c → IsNumbered N (together s (renamed_from s.next c))
  both_numbered c k = together_numbered N s (renamed_from s.next c) n (renamed_numbered N s.next c k) (omega arith)

  both_under : (c : System) → 0 < c.next → BothUnder (together s (renamed_from s.next c)).next (i, s.next)
  both_under c some = (omega arith, omega arith)

  module _ (theory : Theory) (log : Log) (v : Valuation) (h : Solves theory log v s) where
    pub joined_solved : (c : System) → IsNumbered N c → 0 < c.next → (w : Valuation) → Solves theory log w c → w.times 0 ≡ v.times i
        → Agrees s.next v (extended s.next v w) × SolvedBy theory log (extended s.next v w) (joined_at s c i)
    joined_solved c k some w own one =
        let u = extended s.next v w in
        let agrees = extended_agrees s.next v w in
        let raised = extended_raised s.next v w c.next in
        let values = extended_values s.next v w theory (values_of theory log v s h) (values_of theory log w c own) in
        let first = agree_solves {N = N} theory log s v u n agrees values.normal values.sorts h in
        let second = renamed_solves N theory log s.next c k w u raised values own in
        let here : u.times s.next ≡ w.times 0 = subst (λ (q : ℕ). u.times q ≡ w.times 0) (let g : s.next + 0 ≡ s.next = omega arith in g) (raised.times 0 some) in
        let same : u.times i ≡ u.times s.next = agrees.times i under ∙ sym one ∙ sym here in (
          agrees,
          made_one_holds {N = N} right (together s (renamed_from s.next c)) (both_numbered c k) theory log u
              (together_solves theory log u s (renamed_from s.next c) first second) (i, s.next) (both_under c some) same,
        )

  joined_numbered : (c : System) → IsNumbered N c → 0 < c.next → NumberedFrom N s.next (joined_at s c i)
  joined_numbered c k some = at (joined_at s c i) (made_one_numbered {N = N} right (together s (renamed_from s.next c)) (both_numbered c k) (i, s.next) (both_under c some))
    where
      at : (o : Option System) → NumberedFrom N (s.next + c.next) o → NumberedFrom N s.next o
      at None l = tt
      at (Some t) l = (l.0, le_trans (omega arith) l.1)

  -- no two events have one time, if no two have in the system or in the case
  joined_once : HappenOnce s.events → (c : System) → HappenOnce c.events → OnceIn (joined_at s c i)
  joined_once once c h =
      made_one_once (together s (renamed_from s.next c)) (i, s.next)
      (together_once N s n (renamed_from s.next c) once (renamed_once s.next c h) (λ p m l. renamed_above s.next c.events p m l))

  pub joined_right : HappenOnce s.events → (c : System) → IsNumbered N c → HappenOnce c.events → 0 < c.next → IfThere (LaterOnce N s.next) (joined_at s c i)
  joined_right once c k h some = at (joined_at s c i) (joined_numbered c k some) (joined_once once c h)
    where
      at : (o : Option System) → NumberedFrom N s.next o → OnceIn o → IfThere (LaterOnce N s.next) o
      at None a b = tt
      at (Some t) a b = (a, b)
