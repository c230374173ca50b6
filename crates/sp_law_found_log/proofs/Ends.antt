-- The search ends as it is to: a log that is suggested and over which the formulas are true is found.
use Rattle.std.proofs.Common.{◌≡◌, ⊎_elim, Option, None, Some, refl, sym, ◌∙◌, subst}
use Rattle.sp_spec.specs.Lists.{Every, newest_first}
use Rattle.sp_spec.specs.Signature.{Signature}
use Rattle.sp_spec.specs.Execution.{Trace}
use Rattle.sp_spec.specs.Theory.{signature_of}
use Rattle.sp_spec.specs.Written.{theory_of}
use Rattle.sp_spec.specs.Guarded.{Assignment, Guarded, GuardedHolds}
use Rattle.sp_spec.specs.Log.{Log, log_trace}
use Rattle.sp_spec.proofs.Lists.{every_both}
use Rattle.sp_law_guard.proofs.Checked.{form_checked}
use Rattle.sp_law_guard.proofs.Kept.{form_kept}
use Rattle.sp_law_guard.proofs.Turned.{turned}
use Rattle.sp_law_decide.specs.Deciding.{assignment_of, empty}
use Rattle.sp_spec_system.specs.System.{System}
use Rattle.sp_spec_system.specs.Solutions.{assignment}
use Rattle.sp_spec_system.specs.Move.{Root, asked_formulas, Context, end_log}
use Rattle.sp_law_cover.specs.Admitted.{start, Over}
use Rattle.sp_law_found_log.specs.Laws.{IsRootFormula, SearchesEndAsSought}
use Rattle.sp_law_found_log.proofs.Sought.{found_is_sought_lem}

-- a formula from which a proof begins is true under some values where it is so under others
under_any : (signature : Signature) (trace : Trace) (h : Guarded) → IsRootFormula signature h → (m n : Assignment) → GuardedHolds signature trace m h → GuardedHolds signature trace n h
under_any signature trace h root m n k =
    ⊎_elim (λ e. subst (GuardedHolds signature trace n) (sym e) (forward m n (subst (GuardedHolds signature trace m) e k)))
    (λ e. subst (GuardedHolds signature trace n) (sym e)
    ((turned signature trace root.2 n).1 (λ l. (turned signature trace root.2 m).0 (subst (GuardedHolds signature trace m) e k) (forward n m l))))
    root.4
  where
    forward : (m n : Assignment) → GuardedHolds signature trace m root.2 → GuardedHolds signature trace n root.2
    forward m n l =
        let c = form_checked root.0 root.2 root.3 in
        (form_kept signature trace root.0 root.2 c.0 n).0 ((form_kept signature trace root.0 root.2 c.0 m).1 l)

-- what is found isn't nothing
ends_there : (context : Context) (root : Root) → context.root ≡ Some root → (s : System) (log : Log) → end_log context s ≡ None → context.found s ≡ Some log → ⊥
ends_there context root is s log none there = at context.root is none
  where
    at : (o : Option Root) → o ≡ Some root → end_log (record { rules = context.rules; public_names = context.public_names; root = o; table = context.table; found = context.found }) s ≡ None → ⊥
    at None k e = absurd cc
    at (Some r) k e = let one : Some log ≡ None = sym there ∙ e in cc

pub searches_end_as_sought_lem : SearchesEndAsSought
searches_end_as_sought_lem = record {
  ends = λ t searched context root is formulas finds. record {
    ends = λ r has s none entries suggested is_log holds.
        let one : r ≡ root = let e : Some r ≡ Some root = sym has ∙ is in cc in
        let log = newest_first entries in
        let signature = signature_of (theory_of t) in
        let over = subst (λ (x : Root). Every (Over (theory_of t) log) (asked_formulas x)) one holds in
        let truth = every_both (IsRootFormula signature) (Over (theory_of t) log) (GuardedHolds signature (log_trace log) (assignment_of empty))
        (λ h formula k. under_any signature (log_trace log) h formula (assignment start) (assignment_of empty) k) (asked_formulas root) formulas over in
        let there = (found_is_sought_lem.exact t searched (asked_formulas root) formulas context.public_names s log).1 (entries, suggested, refl, is_log, truth) in
        ends_there context root is s log none (finds s ∙ there);
  };
}
