-- The search ends exactly with a log of the theory over whose trace the formulas are true.
use Rattle.std.proofs.Common.{◌≡◌, ⊎_elim, ℕ, Bool, true, false, List, Some, option_and_then, refl, sym, ap, ◌∙◌, subst}
use Rattle.std.specs.Prelude.{◌↔◌}
use Rattle.std.specs.List.{list_all}
use Rattle.std.proofs.lemmas.Bool.{and_parts, and_from}
use Rattle.sp_spec.specs.Lists.{Every, newest_first}
use Rattle.sp_spec.specs.Signature.{Signature}
use Rattle.sp_spec.specs.Theory.{Theory, signature_of}
use Rattle.sp_spec.specs.Written.{WrittenTheory, theory_of}
use Rattle.sp_spec.specs.Execution.{Trace}
use Rattle.sp_spec.specs.Guarded.{Guarded, GuardedHolds}
use Rattle.sp_spec.specs.Log.{Entry, Log, IsLog, log_trace}
use Rattle.sp_spec.proofs.Lists.{every_weaken, every_both}
use Rattle.sp_spec.proofs.Options.{then_some}
use Rattle.sp_law_guard.proofs.Checked.{form_checked}
use Rattle.sp_law_decide.specs.Deciding.{assignment_of, decided, empty}
use Rattle.sp_law_decide.proofs.Told.{told}
use Rattle.sp_law_forms.proofs.Lists.{all_pass, all_from}
use Rattle.sp_law_tree.proofs.Forms.{IsRight, right_negation}
use Rattle.sp_law_tree.proofs.PlacedForms.{form_right}
use Rattle.sp_spec_system.specs.System.{System}
use Rattle.sp_spec_system.specs.Rules.{rules_of}
use Rattle.sp_learn.specs.Checking.{is_log}
use Rattle.sp_learn.proofs.Checks.{log_decides}
use Rattle.sp_spec_solved.specs.Candidate.{candidate}
use Rattle.sp_solved.specs.Found.{is_sought, kept_if, found}
use Rattle.sp_law_found_log.specs.Shown.{IsSearched}
use Rattle.sp_law_found_log.specs.Laws.{IsRootFormula, FoundIsSought}
use Rattle.sp_law_found_log.proofs.Executable.{checkable}
use Rattle.sp_law_found_log.proofs.Found.{can_decide}

kept_parts : (b : Bool) (entries : List Entry) (log : Log) → kept_if b entries ≡ Some log → (b ≡ true) × (log ≡ newest_first entries)
kept_parts true entries log e = let g : newest_first entries ≡ log = cc in (refl, sym g)
kept_parts false entries log e = absurd cc

module _ (t : WrittenTheory) (searched : IsSearched t) (hs : List Guarded) (right : Every (IsRight (signature_of (theory_of t))) hs) (constants : List (List ℕ)) (s : System) where
  abbrev theory : Theory
  theory = theory_of t

  abbrev signature : Signature
  signature = signature_of theory

  abbrev AreTrue : Log → Type 0
  AreTrue log = Every (GuardedHolds signature (log_trace log) (assignment_of empty)) hs

  -- the candidate is a log of the theory over whose trace the formulas are true
  abbrev IsSought : Log → Type 0
  IsSought log = (entries : List Entry) × (candidate constants s ≡ Some entries) × (log ≡ newest_first entries) × IsLog theory log × AreTrue log

  module _ (entries : List Entry) (is : IsLog theory (newest_first entries)) where
    abbrev trace : Trace
    trace = log_trace (newest_first entries)

    truly : (h : Guarded) → IsRight signature h → (decided trace empty h ≡ true) ↔ GuardedHolds signature trace (assignment_of empty) h
    truly h r = (told trace h).guarded signature (can_decide t searched (newest_first entries) is h r)

    all_truly : (list_all (decided trace empty) hs ≡ true) ↔ AreTrue (newest_first entries)
    all_truly = (
      λ e. every_both (IsRight signature) (λ h. decided trace empty h ≡ true) (GuardedHolds signature trace (assignment_of empty)) (λ h r k. (truly h r).0 k) hs right
          (all_from (decided trace empty) hs e),
      λ holds. all_pass (decided trace empty) hs
          (every_both (IsRight signature) (GuardedHolds signature trace (assignment_of empty)) (λ h. decided trace empty h ≡ true) (λ h r k. (truly h r).1 k) hs right holds),
    )

  found_there : (log : Log) → found signature (rules_of theory).forms constants hs s ≡ Some log → IsSought log
  found_there log e =
      let q = then_some (λ (entries : List Entry). kept_if (is_sought signature (rules_of theory).forms hs entries) entries) (candidate constants s) log e in
      let k = kept_parts (is_sought signature (rules_of theory).forms hs q.0) q.0 log q.2 in
      let both = and_parts (is_log signature (rules_of theory).forms q.0) (list_all (decided (log_trace (newest_first q.0)) empty) hs) k.0 in
      let is = (log_decides theory (checkable t searched) q.0).0 both.0 in
      (q.0, q.1, k.1, subst (IsLog theory) (sym k.1) is, subst AreTrue (sym k.1) ((all_truly q.0 is).0 both.1))

  sought_found : (log : Log) → IsSought log → found signature (rules_of theory).forms constants hs s ≡ Some log
  sought_found log w =
      let is : IsLog theory (newest_first w.0) = subst (IsLog theory) w.2 w.3 in
      let truth : AreTrue (newest_first w.0) = subst AreTrue w.2 w.4 in
      let passes = and_from (is_log signature (rules_of theory).forms w.0) (list_all (decided (log_trace (newest_first w.0)) empty) hs)
      ((log_decides theory (checkable t searched) w.0).1 is) ((all_truly w.0 is).1 truth) in
      ap (option_and_then (λ (entries : List Entry). kept_if (is_sought signature (rules_of theory).forms hs entries) entries)) w.1
      ∙ ap (λ (b : Bool). kept_if b w.0) passes
      ∙ ap (λ (l : Log). Some l) (sym w.2)

right_root : (signature : Signature) (h : Guarded) → IsRootFormula signature h → IsRight signature h
right_root signature h root =
    let f = root.0 in
    let g = root.2 in
    let c = form_checked f g root.3 in
    let right : IsRight signature g = form_right signature f g root.1 c.0 c.1 in
    ⊎_elim (λ e. subst (IsRight signature) (sym e) right) (λ e. subst (IsRight signature) (sym e) (right_negation signature g right)) root.4

pub found_is_sought_lem : FoundIsSought
found_is_sought_lem = record {
  exact = λ t searched hs roots constants s log.
      let signature = signature_of (theory_of t) in
      let right = every_weaken (IsRootFormula signature) (IsRight signature) (right_root signature) hs roots in
      (found_there t searched hs right constants s log, sought_found t searched hs right constants s log);
}
