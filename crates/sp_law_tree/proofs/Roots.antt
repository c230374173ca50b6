-- The system in which a proof begins is well made, and solved by each admitted log; what is asked of a log is of written formulas.
use Rattle.std.proofs.Common.{◌<◌, ℕ, zero, List, [], ◌∷◌, Option, inl, refl, sym, subst, ⊎_elim}
use Rattle.sp_spec.specs.Lists.{Every}
use Rattle.sp_spec.specs.Term.{Names}
use Rattle.sp_spec.specs.Signature.{Signature}
use Rattle.sp_spec.specs.Theory.{Theory, signature_of}
use Rattle.sp_spec.specs.Guarded.{Guarded}
use Rattle.sp_spec.specs.Log.{Log}
use Rattle.sp_spec.proofs.Lists.{every_weaken}
use Rattle.sp_law_equal.specs.NormalForms.{HaveNormalForms}
use Rattle.sp_law_guard.proofs.Checked.{form_checked}
use Rattle.sp_law_guard.proofs.Throughout.{Throughout, negate_throughout}
use Rattle.sp_law_basic.proofs.Named.{NamedAtom, form_named}
use Rattle.sp_spec_system.specs.System.{formulas_alone}
use Rattle.sp_spec_system.specs.Solutions.{FormulaHolds, Solves}
use Rattle.sp_spec_system.specs.Numbered.{names_in, InFormula, IsNumbered}
use Rattle.sp_spec_system.specs.Move.{Root, root_formulas, formulas_from}
use Rattle.sp_law_cover.specs.Admitted.{start, Over}
use Rattle.sp_law_cover.specs.Contexts.{IsWrittenForm}
use Rattle.sp_law_cover.proofs.Finish.{asked_of}
use Rattle.sp_law_tree.specs.Laws.{IsRightForm, RootsAreSolved}
use Rattle.sp_law_tree.proofs.Starts.{start_sorts, start_normal}
use Rattle.sp_law_tree.proofs.Forms.{IsRight, right_negation, right_numbered, right_solved}
use Rattle.sp_law_tree.proofs.PlacedForms.{form_right}

-- such a formula is right, and has these names
is_right : (signature : Signature) (N : Names) (h : Guarded) → IsRightForm signature N h → IsRight signature h
is_right signature N h p =
    let c = form_checked p.0 p.3 p.4 in
    let right = form_right signature p.0 p.3 p.1 c.0 c.1 in
    ⊎_elim (λ e. subst (IsRight signature) (sym e) right) (λ e. subst (IsRight signature) (sym e) (right_negation signature p.3 right)) p.5

is_named : (signature : Signature) (N : Names) (h : Guarded) → IsRightForm signature N h → Throughout (NamedAtom N) zero h
is_named signature N h p =
    let named = form_named N p.0 p.3 p.2 (form_checked p.0 p.3 p.4).0 in
    ⊎_elim (λ e. subst (Throughout (NamedAtom N) zero) (sym e) named) (λ e. subst (Throughout (NamedAtom N) zero) (sym e) (negate_throughout (NamedAtom N) zero p.3 named)) p.5

module _ (signature : Signature) (N : Names) where
  all_numbered : (fs : List Guarded) → Every (IsRightForm signature N) fs → Every (InFormula N (λ x. x.number < zero) (λ i. i < zero)) fs
  all_numbered [] h = tt
  all_numbered (f ∷ fs) h = ((right_numbered signature N f (is_right signature N f h.0) (is_named signature N f h.0)).formulas.0, all_numbered fs h.1)

  alone_numbered : (fs : List Guarded) → Every (IsRightForm signature N) fs → IsNumbered N (formulas_alone fs)
  alone_numbered fs h = record { events = tt; formulas = all_numbered fs h; spent = tt; unequal = tt; links = tt; order = tt; last = tt }

-- and is of a written one
right_written : (signature : Signature) (constants : List (List ℕ)) (h : Guarded) → IsRightForm signature (names_in constants) h → IsWrittenForm constants h
right_written signature constants h p =
    let numbered = (all_numbered signature (names_in constants) (p.3 ∷ []) ((p.0, p.1, p.2, p.3, p.4, inl refl), tt)).0 in
    (p.0, (p.3, (form_checked p.0 p.3 p.4).0, zero, numbered), p.5)

module _ (theory : Theory) (good : HaveNormalForms (signature_of theory).equations) (N : Names) (log : Log) where
  all_hold : (fs : List Guarded) → Every (IsRightForm (signature_of theory) N) fs → Every (Over theory log) fs → Every (FormulaHolds theory log start) fs
  all_hold [] h k = tt
  all_hold (f ∷ fs) h k = ((right_solved theory good log f (is_right (signature_of theory) N f h.0) k.0).formulas.0, all_hold fs h.1 k.1)

  alone_solved : (fs : List Guarded) → Every (IsRightForm (signature_of theory) N) fs → Every (Over theory log) fs → Solves theory log start (formulas_alone fs)
  alone_solved fs h k = record {
    sorts = start_sorts (signature_of theory);
    normal = start_normal (signature_of theory);
    events = tt;
    formulas = all_hold fs h k;
    spent = tt;
    unequal = tt;
    links = tt;
    order = tt;
    last = tt;
    closed = λ e. absurd cc;
  }

pub roots_are_solved_lem : RootsAreSolved
roots_are_solved_lem = record {
  well_made = λ theory context r h. record { numbered = alone_numbered (signature_of theory) (names_in context.public_names) (root_formulas r) h; once = tt };
  solved = λ theory good context r is h log admitted.
      alone_solved theory good (names_in context.public_names) log (root_formulas r) h (subst (λ (o : Option Root). Every (Over theory log) (formulas_from o)) is admitted);
  written = λ theory context r h.
      asked_of (IsWrittenForm context.public_names) r
      (every_weaken (IsRightForm (signature_of theory) (names_in context.public_names)) (IsWrittenForm context.public_names) (right_written (signature_of theory) context.public_names) (root_formulas r) h);
}
