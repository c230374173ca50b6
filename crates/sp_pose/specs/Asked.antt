-- What the code keeps of a lemma before it is tried, replayed on, or its proof is checked.
use Rattle.std.specs.Prelude.{ℕ, Bool, List, [], ◌∷◌, ◌++◌, Option, Some, option_map, option_and_then}
use Rattle.sp_spec.specs.Theory.{TraceKind}
use Rattle.sp_spec.specs.Guarded.{Guarded}
use Rattle.sp_spec.specs.Verdict.{names_learning}
use Rattle.sp_law_guard.specs.CheckedForm.{checked_form}
use Rattle.sp_formula.specs.FormulaView.{formula_of}
use Rattle.sp_read_parts.specs.Formulas.{formula}
use Rattle.sp_spec_text.specs.Written.{Attribute, WrittenProof}
use Rattle.sp_written.specs.Views as view
use Rattle.sp_spec_text.specs.Spans.{Span}
use Rattle.sp_written.specs.declared.theory.Item.{Item}
use Rattle.sp_written.specs.declared.theory.Item.TheVariants as i
use Rattle.sp_written.specs.declared.theory.WrittenLemma.{WrittenLemma}
use Rattle.sp_pose.specs.declared.problem.GuardedLemma.{GuardedLemma}

-- a lemma by its guarded form, with its attributes, its proof and where that stands
pub record Asked : Type 0 where
  pub name : List ℕ
  pub kind : TraceKind
  pub attributes : List Attribute
  -- whether it names learning, and so is read over learning logs
  pub marked : Bool
  pub form : Guarded
  pub proof : Option WrittenProof
  pub span : Span

abbrev pub asked_of : GuardedLemma → Asked
asked_of l = record { name = l.name.now; kind = view.kind l.kind; attributes = view.attributes l.attributes.items; marked = l.marked; form = formula_of l.form; proof = option_map view.proof l.proof; span = view.span_of l.span }

-- a lemma that was read, with this guarded form
abbrev pub asked_with : WrittenLemma → Guarded → Asked
asked_with l g = record { name = l.name.now; kind = view.kind l.kind; attributes = view.attributes l.attributes.items; marked = names_learning (formula l.formula); form = g; proof = option_map view.proof l.proof; span = view.span_of l.span }

-- the lemmas among the items that were read
abbrev pub lemmas_read : List Item → List WrittenLemma
lemmas_read [] = []
lemmas_read (i.Lemma l ∷ xs) = l ∷ lemmas_read xs
lemmas_read (x ∷ xs) = lemmas_read xs

-- with their guarded forms, where each formula has one
abbrev pub all_asked : List WrittenLemma → Option (List Asked)
all_asked [] = Some []
all_asked (l ∷ ls) = option_and_then (λ (g : Guarded). option_map (λ (as' : List Asked). asked_with l g ∷ as') (all_asked ls)) (checked_form (formula l.formula))

-- these, and one more
abbrev pub asked_then : Option (List Asked) → WrittenLemma → Option (List Asked)
asked_then others l = option_and_then (λ (as' : List Asked). option_map (λ (g : Guarded). as' ++ asked_with l g ∷ []) (checked_form (formula l.formula))) others
