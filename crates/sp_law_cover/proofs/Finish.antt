-- Where the search ends at a system that finds nothing, no admitted log solves the system: that log, with other names, is what the system suggests, and all that
-- is asked for would be true over it.
use Rattle.std.proofs.Common.{◌≡◌, ℕ, true, false, not, if◌then◌else◌, List, [], ◌∷◌, ◌++◌, Option, Some, None, is_some, inl, inr, ⊎_elim, refl, sym, subst}
use Rattle.std.specs.List.{list_any}
use Rattle.std.proofs.lemmas.Bool.{and_parts}
use Rattle.sp_spec.specs.Lists.{Every, newest_first}
use Rattle.sp_spec.specs.Theory.{Theory}
use Rattle.sp_spec.specs.Guarded.{Guarded}
use Rattle.sp_spec.specs.Log.{Log, log_trace}
use Rattle.sp_spec.proofs.Lists.{every_append, every_parts, every_both}
use Rattle.sp_spec_system.specs.System.{System}
use Rattle.sp_spec_system.specs.Solutions.{assignment}
use Rattle.sp_spec_system.specs.Move.{solved, Root, root_formulas, asked_formulas, formulas_from, Case, Context, end_log}
use Rattle.sp_spec_proof.specs.Kinds.{of_rank, only, pickers_by}
use Rattle.sp_spec_proof.specs.Finish.{has_instance, is_decided}
use Rattle.sp_law_system.specs.Proofs.{IsWellMade}
use Rattle.sp_law_system.specs.Rules.{SuitsProofs}
use Rattle.sp_law_decided.specs.Alike.{AreAlike}
use Rattle.sp_law_decided.proofs.Suggests.{solutions_are_suggested_lem}
use Rattle.sp_law_finish.proofs.Moves.{no_move}
use Rattle.sp_law_finish.proofs.Decided.{decided}
use Rattle.sp_law_cover.specs.Admitted.{start, Over, HasNoAdmitted}
use Rattle.sp_law_cover.specs.Contexts.{IsWrittenForm, IsContextOf}

-- ---- the search finds nothing at the system

-- there is no log with which it ends
none_ends : (o : Option Log) (cs : List Case) → (if is_some o then Some cs else None) ≡ None → o ≡ None
none_ends None cs e = refl
none_ends (Some log) cs e = absurd cc

module _ (context : Context) (s : System) (ended : is_decided context s ≡ true) where
  -- the proof has a root
  begins : is_some context.root ≡ true
  begins = (and_parts (is_some context.root) (not (list_any (has_instance context s) (pickers_by false))) (and_parts s.closed _ ended).1).0

  nothing_found : end_log context s ≡ None
  nothing_found = none_ends (end_log context s) [] (no_move context s ended (of_rank 3 (only solved)) (inr (inr (inl refl))) solved (inl refl))

-- ---- what is asked is true over the log that is suggested

-- what is asked is part of what the proof begins from
pub asked_of : (P : Guarded → Type 0) (r : Root) → Every P (root_formulas r) → Every P (asked_formulas r)
asked_of P r h =
    let first = every_parts P r.restrictions (r.taken ++ r.sought ∷ []) h in
    every_append P r.restrictions (r.sought ∷ []) first.0 (every_parts P r.taken (r.sought ∷ []) first.1).1

module _ (theory : Theory) (constants : List (List ℕ)) (log other : Log) (alike : AreAlike theory constants (log_trace log) (log_trace other)) where
  as_true : (h : Guarded) → IsWrittenForm constants h → Over theory log h → Over theory other h
  as_true h w k =
      ⊎_elim
      (λ e. subst (Over theory other) (sym e) ((alike.form w.0 w.1 (assignment start) (assignment start)).0 (subst (Over theory log) e k)))
      (λ e. subst (Over theory other) (sym e) ((alike.negation w.0 w.1 (assignment start) (assignment start)).0 (subst (Over theory log) e k))) w.2

module _ (theory : Theory) (suits : SuitsProofs theory) (context : Context) (is_of : IsContextOf theory context) where
  -- The system isn't solved by an admitted log.
  pub nothing_is_sought : (s : System) → is_decided context s ≡ true → IsWellMade context s → HasNoAdmitted theory context s
  nothing_is_sought s ended made log is admitted v solves = at context.root refl (begins context s ended)
    where
      at : (o : Option Root) → context.root ≡ o → is_some o ≡ true → ⊥
      at None e there = cc
      at (Some r) e there =
          let constants = context.public_names in
          let nothing_open = decided theory suits.reserved context s ended made log is v solves in
          let suggested = solutions_are_suggested_lem.each theory constants suits.instances.forms.nameless is_of.numbered s nothing_open log is v solves in
          let begun : Every (Over theory log) (root_formulas r) = subst (λ (o : Option Root). Every (Over theory log) (formulas_from o)) e admitted in
          is_of.ends.ends r e s (nothing_found context s ended) suggested.0 suggested.1 suggested.2
          (every_both _ _ _ (as_true theory constants log (newest_first suggested.0) suggested.3) (asked_formulas r) (is_of.asked r e) (asked_of (Over theory log) r begun))
