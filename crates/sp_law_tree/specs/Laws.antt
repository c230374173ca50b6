-- What an accepted tree shows, and what growth owes.
use Rattle.std.specs.Prelude.{◌≡◌, ◌⊎◌, Some, None, true, false, ℕ, ◌≤◌}
use Rattle.sp_spec.specs.Signature.{Signature}
use Rattle.sp_spec.specs.Term.{Names}
use Rattle.sp_spec.specs.Formula.{Formula}
use Rattle.sp_spec.specs.Theory.{Theory, Restriction, Lemma, signature_of}
use Rattle.sp_spec_system.specs.System.{System}
use Rattle.sp_spec_system.specs.Numbered.{names_in}
use Rattle.sp_law_system.specs.Proofs.{IsWellMade}
use Rattle.sp_law_cover.specs.Admitted.{start, Over, Admits, HasNoAdmitted}
use Rattle.sp_law_cover.specs.Contexts.{IsWrittenForm, IsContextOf}
use Rattle.sp_spec_system.specs.Move.{Root, root_formulas, asked_formulas, root_system, Context, end_log}
use Rattle.sp_spec_system.specs.Solutions.{Solves}
use Rattle.sp_spec_proof.specs.Tree.{Tree, IsAccepted, IsFinished, found_log, steps}
use Rattle.sp_spec.specs.Log.{Log, IsLog, log_trace}
use Rattle.sp_law_system.specs.Rules.{SuitsProofs, RulesAreNumbered}
use Rattle.sp_spec_proof.specs.Growth.{has_end, grown_tree}
use Rattle.sp_spec.specs.Lists.{Member, Every}
use Rattle.sp_spec.specs.Written.{WrittenRule, WrittenTheory, theory_of}
use Rattle.sp_spec.specs.Constants.{constants_of}
use Rattle.sp_spec.specs.Findings.{rule_is_wrong}
use Rattle.sp_spec.specs.Guarded.{Guarded}
use Rattle.sp_spec.specs.Verdict.{names_learning, MeetsRestrictions, HoldsInAll, HoldsInNone, HoldsInAllLogs, HoldsInNoLog}
use Rattle.sp_law_equal.specs.NormalForms.{HaveNormalForms, HasNormalForms}
use Rattle.sp_law_equal.specs.Right.{KeepPublic}
use Rattle.sp_law_guard.specs.GuardedForm.{negate}
use Rattle.sp_law_guard.specs.CheckedForm.{checked_form}
use Rattle.sp_law_equal.specs.RightTheory.{IsRightTheory}
use Rattle.sp_law_basic.specs.BasicTheory.{HasNames, IsBasicRule, IsBasicFormula}
use Rattle.sp_law_basic.specs.Restrictions.{IsBasicRestriction, restriction_forms}

-- the tree theorem: where a tree is accepted, no leaf is left open and with none the search ends, no admitted log solves the system at its root
pub record FinishedTreesShow (theory : Theory) : Type 0 where
  pub no_solution : (context : Context) → IsContextOf theory context → (s : System) (tree : Tree)
      → IsWellMade context s → IsAccepted context s tree → IsFinished tree → HasNoAdmitted theory context s

-- A finished tree has a root without solutions. An accepted tree has a log exactly where the search ends at some leaf, and then it is the
-- log with which it ends at some system.
pub record AcceptedTreesShow : Type 0 where
  pub trees : (theory : Theory) → SuitsProofs theory → FinishedTreesShow theory
  pub found : (context : Context) (s : System) (tree : Tree) (log : Log) → found_log context s tree ≡ Some log → (t : System) × (end_log context t ≡ Some log)
  pub ends : (context : Context) (s : System) (tree : Tree) → IsAccepted context s tree → has_end tree ≡ true → (log : Log) × (found_log context s tree ≡ Some log)
  pub no_end : (context : Context) (s : System) (tree : Tree) → has_end tree ≡ false → found_log context s tree ≡ None

-- The search ends, if it does, at a system that is well made.
pub record EndsAreWellMade : Type 0 where
  pub ends : (theory : Theory) → SuitsProofs theory → (context : Context) → IsContextOf theory context → (s : System) → IsWellMade context s
      → (tree : Tree) (log : Log) → found_log context s tree ≡ Some log → (t : System) × IsWellMade context t × (end_log context t ≡ Some log)

-- a formula from which a proof may begin: the guarded form of a basic formula with these names, or the negation of that form
abbrev pub IsRightForm : Signature → Names → Guarded → Type 0
IsRightForm signature N h =
    (f : Formula) × IsBasicFormula signature f × HasNames N f × (g : Guarded) × (checked_form f ≡ Some g) × ((h ≡ g) ⊎ (h ≡ negate g))

-- each of the formulas of the root is such a one
abbrev pub IsRightRoot : Theory → Context → Root → Type 0
IsRightRoot theory context r = Every (IsRightForm (signature_of theory) (names_in context.public_names)) (root_formulas r)

-- The system in which a proof begins is well made; an admitted log solves it, under the values with which a proof begins; and what is asked of a log is of
-- written formulas, as a context's search owes.
pub record RootsAreSolved : Type 0 where
  pub well_made : (theory : Theory) (context : Context) (r : Root) → IsRightRoot theory context r → IsWellMade context (root_system r)
  pub solved : (theory : Theory) → HaveNormalForms (signature_of theory).equations → (context : Context) (r : Root) → context.root ≡ Some r → IsRightRoot theory context r
      → (log : Log) → Admits theory context log → Solves theory log start (root_system r)
  pub written : (theory : Theory) (context : Context) (r : Root) → IsRightRoot theory context r → Every (IsWrittenForm context.public_names) (asked_formulas r)

-- A formula that is taken: it is true over each log of the theory that meets the restrictions.
abbrev pub IsTaken : Theory → Guarded → Type 0
IsTaken theory h = (log : Log) → IsLog theory log → MeetsRestrictions theory (log_trace log) → Over theory log h

-- The restrictions are basic, and have the context's public names.
pub record HasRestrictions (theory : Theory) (context : Context) : Type 0 where
  pub basic : Every (IsBasicRestriction (signature_of theory)) theory.restrictions
  pub named : Every (λ (r : Restriction). HasNames (names_in context.public_names) r.formula) theory.restrictions

-- A proof in the context begins from this root: from the guarded forms of the restrictions, from what is taken, and from this formula.
pub record BeginsWith (theory : Theory) (context : Context) (r : Root) (f : Guarded) : Type 0 where
  pub is_root : context.root ≡ Some r
  pub restrictions : r.restrictions ≡ restriction_forms theory.restrictions
  pub taken : Every (IsTaken theory) r.taken
  pub forms : Every (IsRightForm (signature_of theory) (names_in context.public_names)) r.taken
  pub sought : r.sought ≡ f

-- What a finished tree shows of learning logs, in a context that has the lemma's public names. From the negation of the lemma's guarded form: no log that meets the restrictions breaks the
-- lemma. From the guarded form: none satisfies it.
pub record TreesShowLogs : Type 0 where
  pub all_traces : (theory : Theory) → SuitsProofs theory → (context : Context) → IsContextOf theory context → HasRestrictions theory context
      → (lemma : Lemma) → IsBasicFormula (signature_of theory) lemma.formula → HasNames (names_in context.public_names) lemma.formula → (g : Guarded) → checked_form lemma.formula ≡ Some g
      → (r : Root) → BeginsWith theory context r (negate g) → (tree : Tree) → IsAccepted context (root_system r) tree → IsFinished tree → HoldsInAllLogs theory lemma
  pub exists_trace : (theory : Theory) → SuitsProofs theory → (context : Context) → IsContextOf theory context → HasRestrictions theory context
      → (lemma : Lemma) → IsBasicFormula (signature_of theory) lemma.formula → HasNames (names_in context.public_names) lemma.formula → (g : Guarded) → checked_form lemma.formula ≡ Some g
      → (r : Root) → BeginsWith theory context r g → (tree : Tree) → IsAccepted context (root_system r) tree → IsFinished tree → HoldsInNoLog theory lemma

-- So what was shown may be taken: the guarded form of a lemma on all traces that holds in all logs.
pub record ShownIsTaken : Type 0 where
  pub taken : (theory : Theory) → (lemma : Lemma) → (g : Guarded) → checked_form lemma.formula ≡ Some g → HoldsInAllLogs theory lemma → IsTaken theory g

-- what is right of a theory is all that covering asks of it
pub record RightTheoriesSuit : Type 0 where
  pub suits : (theory : Theory) → IsRightTheory theory → SuitsProofs theory

-- A theory of basic rules without findings, whose terms have normal forms and whose equations keep to what is public. (HasRestrictions says what is asked of its restrictions.)
pub record IsProvable (theory : WrittenTheory) : Type 0 where
  pub normal_forms : HasNormalForms (signature_of (theory_of theory))
  pub keeps : KeepPublic (signature_of (theory_of theory)).symbols (signature_of (theory_of theory)).equations
  pub basic : Every (IsBasicRule (signature_of (theory_of theory))) theory.rules
  pub right : Every (λ (r : WrittenRule). rule_is_wrong r ≡ false) theory.rules

-- What a finished tree shows of a lemma that doesn't speak of learning: steps of the adversary are included. From the negation of the lemma's guarded form: every execution that meets the
-- restrictions satisfies the lemma. From the guarded form: none does.
pub record LemmasAreShown : Type 0 where
  pub all_traces : (theory : WrittenTheory) → IsProvable theory → (context : Context) → IsContextOf (theory_of theory) context → HasRestrictions (theory_of theory) context
      → (lemma : Lemma) → IsBasicFormula (signature_of (theory_of theory)) lemma.formula → HasNames (names_in context.public_names) lemma.formula → names_learning lemma.formula ≡ false
      → (g : Guarded) → checked_form lemma.formula ≡ Some g
      → (r : Root) → BeginsWith (theory_of theory) context r (negate g) → (tree : Tree) → IsAccepted context (root_system r) tree → IsFinished tree → HoldsInAll (theory_of theory) lemma
  pub exists_trace : (theory : WrittenTheory) → IsProvable theory → (context : Context) → IsContextOf (theory_of theory) context → HasRestrictions (theory_of theory) context
      → (lemma : Lemma) → IsBasicFormula (signature_of (theory_of theory)) lemma.formula → HasNames (names_in context.public_names) lemma.formula → names_learning lemma.formula ≡ false
      → (g : Guarded) → checked_form lemma.formula ≡ Some g
      → (r : Root) → BeginsWith (theory_of theory) context r g → (tree : Tree) → IsAccepted context (root_system r) tree → IsFinished tree → HoldsInNone (theory_of theory) lemma

-- a tree that is grown is accepted, and has at most as many steps as the budget says
pub record GrowthIsAccepted : Type 0 where
  pub accepted : (context : Context) (s : System) (budget : ℕ) → IsAccepted context s (grown_tree context s budget)
  pub within_budget : (context : Context) (s : System) (budget : ℕ) → steps (grown_tree context s budget) ≤ budget

-- The public names that stand in a text are all that its rules, its restrictions and its lemmas have, and no fresh name stands there.
pub record NamesStand : Type 0 where
  pub rules : (theory : WrittenTheory) → Every (IsBasicRule (signature_of (theory_of theory))) theory.rules → RulesAreNumbered (names_in (constants_of theory)) (theory_of theory).rules
  pub restrictions : (theory : WrittenTheory) → (r : Restriction) → Member r theory.restrictions → IsBasicFormula (signature_of (theory_of theory)) r.formula → HasNames (names_in (constants_of theory)) r.formula
  pub lemmas : (theory : WrittenTheory) → (lemma : Lemma) → Member lemma theory.lemmas → IsBasicFormula (signature_of (theory_of theory)) lemma.formula → HasNames (names_in (constants_of theory)) lemma.formula
