-- What finished trees show of logs.
use Rattle.std.proofs.Common.{◌≡◌, [], ◌∷◌, ◌++◌, inl, inr, Option, Some, refl, sym, ◌∙◌, subst}
use Rattle.sp_spec.specs.Lists.{Every}
use Rattle.sp_spec.specs.Signature.{Signature}
use Rattle.sp_spec.specs.Term.{Names}
use Rattle.sp_spec.specs.Formula.{Formula}
use Rattle.sp_spec.specs.Theory.{Theory, Restriction, Lemma, signature_of}
use Rattle.sp_spec.specs.Guarded.{Guarded}
use Rattle.sp_spec.specs.Truth.{IsTrueOver}
use Rattle.sp_spec.specs.Verdict.{MeetsRestrictions}
use Rattle.sp_spec.specs.Log.{Log, IsLog, log_trace}
use Rattle.sp_spec.proofs.Lists.{every_append, every_both, every_weaken}
use Rattle.sp_spec.proofs.Options.{some_same}
use Rattle.sp_law_truth.proofs.Stable.{stable_truth}
use Rattle.sp_law_guard.specs.GuardedForm.{negate}
use Rattle.sp_law_guard.specs.CheckedForm.{checked_form}
use Rattle.sp_law_guard.proofs.Checked.{form_checked}
use Rattle.sp_law_guard.proofs.Kept.{form_kept}
use Rattle.sp_law_guard.proofs.Turned.{turned}
use Rattle.sp_spec_system.specs.Numbered.{names_in}
use Rattle.sp_spec_system.specs.Solutions.{assignment}
use Rattle.sp_spec_system.specs.Move.{Root, Context, root_system, asked_formulas, formulas_from}
use Rattle.sp_law_cover.specs.Admitted.{start, Over, Admits}
use Rattle.sp_law_cover.specs.Contexts.{IsWrittenForm, IsContextOf}
use Rattle.sp_law_system.specs.Rules.{SuitsProofs}
use Rattle.sp_law_cover.proofs.Covering.{moves_are_covered}
use Rattle.sp_spec_proof.specs.Tree.{Tree, IsAccepted, IsFinished}
use Rattle.sp_law_basic.specs.BasicTheory.{HasNames, IsBasicFormula}
use Rattle.sp_law_basic.specs.Restrictions.{restriction_forms}
use Rattle.sp_law_basic.proofs.RestrictionForms.{every_form}
use Rattle.sp_law_tree.specs.Laws.{IsRightForm, IsRightRoot, HasRestrictions, BeginsWith, TreesShowLogs, ShownIsTaken}
use Rattle.sp_law_tree.proofs.Trees.{finished_tree}
use Rattle.sp_law_tree.proofs.Forms.{IsRight}
use Rattle.sp_law_tree.proofs.PlacedForms.{form_right}
use Rattle.sp_law_tree.proofs.Roots.{roots_are_solved_lem}

-- the guarded form of a formula that is true over the log's trace is so too
form_over : (theory : Theory) (log : Log) (f : Formula) (g : Guarded) → checked_form f ≡ Some g → IsTrueOver (signature_of theory) (log_trace log) f → Over theory log g
form_over theory log f g e = (form_kept (signature_of theory) (log_trace log) f g (form_checked f g e).0 (assignment start)).0

module _ (theory : Theory) (context : Context) (has : HasRestrictions theory context) where
  abbrev names : Names
  names = names_in context.public_names

  abbrev Right : Guarded → Type 0
  Right = IsRightForm (signature_of theory) names

  restrictions_right : Every Right (restriction_forms theory.restrictions)
  restrictions_right =
      every_form Right (λ (r : Restriction). IsBasicFormula (signature_of theory) r.formula × HasNames names r.formula) (λ r g e h. (r.formula, h.0, h.1, g, e, inl refl)) theory.restrictions
      (every_both _ _ _ (λ (r : Restriction) basic named. (basic.basic, named)) theory.restrictions has.basic has.named)

  pub root_right : (r : Root) (h : Guarded) → BeginsWith theory context r h → Right h → IsRightRoot theory context r
  root_right r h begins right =
      every_append Right r.restrictions (r.taken ++ r.sought ∷ []) (subst (Every Right) (sym begins.restrictions) restrictions_right)
      (every_append Right r.taken (r.sought ∷ []) begins.forms (subst Right (sym begins.sought) right, tt))

  -- a log that meets the restrictions, and over which the formula is true that is looked for, is admitted
  admits : (r : Root) (h : Guarded) → BeginsWith theory context r h → (log : Log) → IsLog theory log → MeetsRestrictions theory (log_trace log) → Over theory log h → Admits theory context log
  admits r h begins log is_log meets holds =
      let restrictions = every_form (Over theory log) _ (λ (r : Restriction). form_over theory log r.formula) theory.restrictions meets in
      subst (λ (o : Option Root). Every (Over theory log) (formulas_from o)) (sym begins.is_root)
      (every_append (Over theory log) r.restrictions (r.taken ++ r.sought ∷ []) (subst (Every (Over theory log)) (sym begins.restrictions) restrictions)
      (every_append (Over theory log) r.taken (r.sought ∷ []) (every_weaken _ _ (λ f is_taken. is_taken log is_log meets) r.taken begins.taken) (subst (Over theory log) (sym begins.sought) holds, tt)))

  -- what is asked of a log is of written formulas
  pub asked_written : (r : Root) (h : Guarded) → BeginsWith theory context r h → Right h → (q : Root) → context.root ≡ Some q → Every (IsWrittenForm context.public_names) (asked_formulas q)
  asked_written r h begins right q is =
      subst (λ (x : Root). Every (IsWrittenForm context.public_names) (asked_formulas x)) (some_same q r (sym is ∙ begins.is_root))
      (roots_are_solved_lem.written theory context r (root_right r h begins right))

  -- a formula from which a finished tree grows is true over no log that meets the restrictions
  in_no_log : SuitsProofs theory → IsContextOf theory context → (r : Root) (h : Guarded) → BeginsWith theory context r h → Right h
      → (tree : Tree) → IsAccepted context (root_system r) tree → IsFinished tree → (log : Log) → IsLog theory log → MeetsRestrictions theory (log_trace log) → Over theory log h → ⊥
  in_no_log suits is_of r h begins right tree accepted finished log is_log meets holds =
      let all_right = root_right r h begins right in
      let admitted = admits r h begins log is_log meets holds in
      finished_tree theory (moves_are_covered theory suits) context is_of tree (root_system r) (roots_are_solved_lem.well_made theory context r all_right) accepted finished log is_log admitted start
      (roots_are_solved_lem.solved theory suits.instances.forms.normal_forms context r begins.is_root all_right log admitted)

pub lemma_right : (signature : Signature) (lemma : Lemma) → IsBasicFormula signature lemma.formula → (g : Guarded) → checked_form lemma.formula ≡ Some g → IsRight signature g
lemma_right signature lemma f g e = let c = form_checked lemma.formula g e in form_right signature lemma.formula g f c.0 c.1

pub trees_show_logs_lem : TreesShowLogs
trees_show_logs_lem = record {
  all_traces = λ theory suits context is_of has lemma f names g e r begins tree accepted finished log is_log meets.
      let signature = signature_of theory in
      let kept = form_kept signature (log_trace log) lemma.formula g (form_checked lemma.formula g e).0 (assignment start) in
      stable_truth signature (log_trace log) [] lemma.formula (λ broken.
      in_no_log theory context has suits is_of r (negate g) begins (lemma.formula, f, names, g, e, inr refl) tree accepted finished log is_log meets
      ((turned signature (log_trace log) g (assignment start)).1 (λ holds. broken (kept.1 holds))));
  exists_trace = λ theory suits context is_of has lemma f names g e r begins tree accepted finished log is_log meets holds.
      in_no_log theory context has suits is_of r g begins (lemma.formula, f, names, g, e, inl refl) tree accepted finished log is_log meets (form_over theory log lemma.formula g e holds);
}

pub shown_is_taken_lem : ShownIsTaken
shown_is_taken_lem = record { taken = λ theory lemma g e holds log is_log meets. form_over theory log lemma.formula g e (holds log is_log meets) }
