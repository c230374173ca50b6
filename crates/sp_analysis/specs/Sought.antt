-- What a proof is to show, what it begins with, what it is made in, and the proof tree that is grown for it. Source: Tamarin manual, "Lemma
-- Annotations" (`use_induction`, `sources`) and "Heuristics".
use Rattle.std.specs.Prelude.{List, ℕ, ◌==◌, Bool, true, false, Option, None, Some, [], ◌∷◌}
use Rattle.std.specs.List.{list_any}
use Rattle.sp_spec.specs.Signature.{Signature}
use Rattle.sp_spec.specs.Theory.{TraceKind, all_traces, exists_trace, signature_of}
use Rattle.sp_spec.specs.Written.{WrittenTheory, theory_of}
use Rattle.sp_spec.specs.Guarded.{Guarded}
use Rattle.sp_spec.specs.Log.{Log}
use Rattle.sp_law_guard.specs.GuardedForm.{negate}
use Rattle.sp_law_basic.specs.Restrictions.{restriction_forms}
use Rattle.sp_law_inductive.specs.Cases.{cases_of}
use Rattle.sp_spec_text.specs.Written.{Attribute, of_sources, by_induction, ranked_by, WrittenText}
use Rattle.sp_spec_text.specs.Declared.{resolved, theory_in}
use Rattle.sp_pose.specs.Ranking.{rankings_in}
use Rattle.sp_spec_system.specs.Move.{InductionCases, Root, root_system, asked_formulas, Context}
use Rattle.sp_spec_proof.specs.Tree.{Tree, found_log}
use Rattle.sp_spec_proof.specs.Growth.{grown_tree}
use Rattle.sp_spec.specs.Constants.{constants_of}
use Rattle.sp_solved.specs.Found.{found}
use Rattle.sp_spec_system.specs.Rules.{rules_of}
use Rattle.sp_spec_forms.specs.Forms.{RuleForms}
use Rattle.sp_spec.specs.Execution.{Step}
use Rattle.sp_law_log_execution.specs.Executed.{linking_of, executed_by}
use Rattle.sp_spec_log_lines.specs.Line.{Giving}
use Rattle.sp_show_log.specs.Given.{given_among}
use Rattle.sp_analysis.specs.Taken.{Taken, taken_for}

-- a proof looks for the negation of a lemma on all traces, and for a lemma on some trace as it is
abbrev pub sought : TraceKind → Guarded → Guarded
sought all_traces g = negate g
sought exists_trace g = g

-- what the proofs of a theory's lemmas have in common: its signature, its rules with their forms, the public names that stand in it, and the guarded forms of its
-- restrictions, and how the text asks that its proofs are ranked
pub record Setting : Type 0 where
  pub signature : Signature
  pub forms : List RuleForms
  pub constants : List (List ℕ)
  pub restrictions : List Guarded
  pub ranking : List Attribute

abbrev pub setting_by : WrittenTheory → List Attribute → Setting
setting_by theory ranking = record {
  signature = signature_of (theory_of theory);
  forms = (rules_of (theory_of theory)).forms;
  constants = constants_of theory;
  restrictions = restriction_forms theory.restrictions;
  ranking = ranking;
}

abbrev pub setting_of : WrittenText → Setting
setting_of text = setting_by (theory_in text) (rankings_in (resolved text).items)

-- a lemma with this attribute is to be proved by induction
abbrev pub marks_induction : Attribute → Bool
marks_induction by_induction = true
marks_induction of_sources = true
marks_induction a = false

-- Whether a proof is to begin with induction: that of a lemma on all traces which is marked so.
abbrev pub begins_by : TraceKind → List Attribute → Bool
begins_by all_traces attributes = list_any marks_induction attributes
begins_by exists_trace attributes = false

-- a word asks that kinds of moves on premises and messages count as one where it begins with a small `c`
abbrev pub asks_consecutive : List ℕ → Bool
asks_consecutive [] = false
asks_consecutive (b ∷ w) = b == 99

-- this attribute asks, or it doesn't ask, or leaves what was asked before
abbrev pub asked_by : Attribute → Bool → Bool
asked_by (ranked_by w) before = asks_consecutive w
asked_by a before = before

-- what the last `heuristic=` of these asks counts
abbrev pub is_consecutive : Bool → List Attribute → Bool
is_consecutive before [] = before
is_consecutive before (a ∷ attributes) = is_consecutive (asked_by a before) attributes

-- The cases of the induction, of a lemma on all traces; one on some trace has none.
abbrev pub cases_for : List Guarded → List Guarded → TraceKind → Guarded → Option InductionCases
cases_for restrictions taken all_traces form = Some (cases_of restrictions taken form)
cases_for restrictions taken exists_trace form = None

-- What a proof of a lemma of this guarded form begins from: from the restrictions, from what is taken and from what is sought.
abbrev pub root_with : List Guarded → List Guarded → Bool → Bool → TraceKind → Guarded → Root
root_with restrictions taken begins consecutive kind form = record {
  restrictions = restrictions;
  taken = taken;
  sought = sought kind form;
  begins_with_induction = begins;
  consecutive = consecutive;
  cases = cases_for restrictions taken kind form;
}

-- so of a lemma with these attributes, which say what it hides of what was given, whether its proof begins with induction, and, before what the text says of all its lemmas, how its moves are ranked
abbrev pub root_of : Setting → List Attribute → List Taken → TraceKind → Guarded → Root
root_of setting attributes taken kind form =
    root_with setting.restrictions (taken_for attributes taken) (begins_by kind attributes) (is_consecutive (is_consecutive false setting.ranking) attributes) kind form

-- the steps that a log stands for
abbrev pub executed : Setting → Log → List Step
executed setting log = executed_by setting.signature.equations setting.forms (linking_of setting.signature) log

-- the values that the facts of a step give to the variables of its rule
abbrev pub given : Setting → Giving
given setting = given_among setting.signature.equations setting.forms

-- The search ends with a log over whose trace the restrictions are true and what is sought: the log meets them, and breaks a lemma on all traces, or
-- satisfies one on some trace.
abbrev pub context_of : Setting → Root → Context
context_of setting root = record {
  rules = record { signature = setting.signature; forms = setting.forms };
  public_names = setting.constants;
  root = Some root;
  table = [];
  found = found setting.signature setting.forms setting.constants (asked_formulas root);
}

-- the proof tree of at most so many moves that is grown from the root, and the log with which the search ended, if it did
abbrev pub proof_tree : Setting → ℕ → Root → Tree
proof_tree setting budget root = grown_tree (context_of setting root) (root_system root) budget

abbrev pub grown_log : Setting → ℕ → Root → Option Log
grown_log setting budget root = found_log (context_of setting root) (root_system root) (proof_tree setting budget root)
