-- What is to be printed of a lemma that is tried or whose proof is checked, and the text that is made of that.
use Rattle.std.specs.Prelude.{ℕ, ◌+◌, Bool, true, false, if◌then◌else◌, List, [], ◌∷◌, ◌++◌, map, codes, Option, Some, None, string_bytes}
use Rattle.sp_spec.specs.Log.{Log}
use Rattle.sp_spec.specs.Theory.{TraceKind, all_traces, exists_trace}
use Rattle.sp_spec_proof.specs.Tree.{steps}
use Rattle.sp_search.specs.Finished.{finished}
use Rattle.sp_skel.specs.Places.{HavePlaces}
use Rattle.sp_skel.specs.TreeText.{tree_text}
use Rattle.sp_check.specs.Judging as judging
use Rattle.sp_check.specs.Judging.{Judgement, judgement}
use Rattle.sp_check.specs.Skeleton as read
use Rattle.sp_written.specs.Views as view
use Rattle.sp_spec_text.specs.Written.{WrittenProof}
use Rattle.sp_spec_text.specs.Spans.{Span, goes_on}
use Rattle.sp_pose.specs.Asked.{Asked}
use Rattle.sp_spec_system.specs.Move.{Root, root_system}
use Rattle.sp_analysis.specs.Taken.{Taken, gives, taken_if}
use Rattle.sp_analysis.specs.Chosen.{is_run}
use Rattle.sp_analysis.specs.Sought.{root_of, Setting, executed, given, context_of, proof_tree, grown_log}
use Rattle.sp_spec_printed.specs.Verdict.{Verdict, verified, falsified, incomplete, rejected, summary_line}
use Rattle.sp_analysis.specs.Found.{block_by, IsNumberedBy}
use Rattle.sp_spec_log_lines.specs.Line.{Giving}
use Rattle.sp_analysis.specs.Shown.{graph_or_none, counts_by}
use Rattle.sp_law_reread.specs.Again.{between}
use Rattle.sp_spec_text.specs.Numerals.{counted}
use Rattle.sp_analysis.specs.Checking.{proof_read}
use Rattle.sp_analysis.specs.View.{verdict_of}
use Rattle.sp_analysis.specs.declared.tried.Tried.{Tried}
use Rattle.sp_analysis.specs.declared.replies.Command.{Command}
use Rattle.sp_analysis.specs.declared.replies.Command.TheVariants.{Prove, Check, Graph, Count}

-- those of the lemmas that are run
abbrev pub run_if : Option (List ℕ) → Asked → List Asked
run_if chosen a = if is_run chosen a.name then a ∷ [] else []

abbrev pub asked_run : Option (List ℕ) → List Asked → List Asked
asked_run chosen [] = []
asked_run chosen (a ∷ rest) = run_if chosen a ++ asked_run chosen rest

-- what is printed of a lemma: its line, the text of the proof that was grown for it, the block of the execution that was found, and the graph of the log
pub record Printed : Type 0 where
  pub name : List ℕ
  pub kind : TraceKind
  pub marked : Bool
  pub verdict : Verdict
  pub steps : ℕ
  pub span : Span
  pub proof : List ℕ
  pub block : List ℕ
  pub graph : List ℕ

abbrev pub printed_of : Tried → Printed
printed_of t = record { name = t.name.now; kind = view.kind t.kind; marked = t.marked; verdict = verdict_of t.verdict; steps = t.steps; span = view.span_of t.span; proof = string_bytes t.proof; block = string_bytes t.block; graph = string_bytes t.graph }

-- what a finished proof says
abbrev pub shown : TraceKind → Verdict
shown all_traces = verified
shown exists_trace = falsified

-- what a log says with which the search ends
abbrev pub found_says : TraceKind → Verdict
found_says all_traces = falsified
found_says exists_trace = verified

-- the verdict, by whether nothing is left
abbrev pub by_leaves : TraceKind → Bool → Verdict
by_leaves kind true = shown kind
by_leaves kind false = incomplete

-- and by the log
abbrev pub by_tree : TraceKind → Option Log → Bool → Verdict
by_tree kind (Some log) finished = found_says kind
by_tree kind None finished = by_leaves kind finished

abbrev pub by_judgement : TraceKind → Judgement → Verdict
by_judgement kind (judging.rejected step clause) = rejected step clause
by_judgement kind (judging.found log) = found_says kind
by_judgement kind judging.finished = shown kind
by_judgement kind judging.incomplete = incomplete

abbrev pub judged_log : Judgement → Option Log
judged_log (judging.rejected step clause) = None
judged_log (judging.found log) = Some log
judged_log judging.finished = None
judged_log judging.incomplete = None

-- what a proof of the lemma begins from, where these are taken
abbrev pub root_for : Setting → List Taken → Asked → Root
root_for setting taken a = root_of setting a.attributes taken a.kind a.form

-- what is judged of a proof that begins from the root
abbrev pub judged_so : Setting → Root → Option WrittenProof → Judgement
judged_so setting root proof = judgement (context_of setting root) (root_system root) (proof_read proof)

-- of how many moves a proof is grown by the command, if one is
abbrev pub growth : Command → Option ℕ
growth (Prove budget) = Some budget
growth Check = None
growth (Graph budget) = Some budget
growth (Count budget) = Some budget

-- what is made of a log for a picture, by the lemma's name
abbrev pub Graphing : Type 0
Graphing = Giving → List ℕ → Option Log → List ℕ

-- and by the command
abbrev pub graphing : Command → Giving → List ℕ → Option Log → List ℕ
graphing (Prove budget) given name log = []
graphing Check given name log = []
graphing (Graph budget) given name log = graph_or_none given name log
graphing (Count budget) given name log = []

-- what is to be printed of a lemma that is tried, and of one whose proof is checked
abbrev pub print_by : Option ℕ → Graphing → Setting → List Taken → Asked → Printed
print_by (Some budget) graph setting taken a = record {
  name = a.name;
  kind = a.kind;
  marked = a.marked;
  verdict = by_tree a.kind (grown_log setting budget (root_for setting taken a)) (finished (proof_tree setting budget (root_for setting taken a)));
  steps = counted (steps (proof_tree setting budget (root_for setting taken a)));
  span = a.span;
  proof = tree_text 0 (proof_tree setting budget (root_for setting taken a));
  block = block_by (executed setting) (given setting) a.marked (grown_log setting budget (root_for setting taken a));
  graph = graph (given setting) a.name (grown_log setting budget (root_for setting taken a));
}
print_by None graph setting taken a = record {
  name = a.name;
  kind = a.kind;
  marked = a.marked;
  verdict = by_judgement a.kind (judged_so setting (root_for setting taken a) a.proof);
  steps = counted (read.steps (proof_read a.proof));
  span = a.span;
  proof = [];
  block = block_by (executed setting) (given setting) a.marked (judged_log (judged_so setting (root_for setting taken a) a.proof));
  graph = [];
}

-- what a lemma of which this is printed gives to the proofs of the lemmas behind it
abbrev pub taken_from : Asked → Printed → List Taken
taken_from a p = taken_if (gives a.kind p.verdict a.attributes) a.name a.form

-- each lemma takes what those before it gave
abbrev pub all_print_by : Option ℕ → Graphing → Setting → List Taken → List Asked → List Printed
all_print_by grows graph setting taken [] = []
all_print_by grows graph setting taken (a ∷ rest) =
    print_by grows graph setting taken a ∷ all_print_by grows graph setting (taken ++ taken_from a (print_by grows graph setting taken a)) rest

-- each place that the grown proof names is one that a text can name, and each fresh name of the execution that is found
abbrev pub IsNameableBy : Option ℕ → Setting → List Taken → Asked → Type 0
IsNameableBy (Some budget) setting taken a =
    HavePlaces (proof_tree setting budget (root_for setting taken a)) × IsNumberedBy (executed setting) (given setting) a.marked (grown_log setting budget (root_for setting taken a))
IsNameableBy None setting taken a = IsNumberedBy (executed setting) (given setting) a.marked (judged_log (judged_so setting (root_for setting taken a) a.proof))

abbrev pub AreNameableBy : Option ℕ → Graphing → Setting → List Taken → List Asked → Type 0
AreNameableBy grows graph setting taken [] = Unit {0}
AreNameableBy grows graph setting taken (a ∷ rest) =
    IsNameableBy grows setting taken a × AreNameableBy grows graph setting (taken ++ taken_from a (print_by grows graph setting taken a)) rest

-- so by the command
abbrev pub to_print : Command → Setting → List Taken → Asked → Printed
to_print command setting taken a = print_by (growth command) (graphing command) setting taken a

abbrev pub all_to_print : Command → Setting → List Taken → List Asked → List Printed
all_to_print command setting taken as' = all_print_by (growth command) (graphing command) setting taken as'

abbrev pub IsNameable : Command → Setting → List Taken → Asked → Type 0
IsNameable command setting taken a = IsNameableBy (growth command) setting taken a

abbrev pub AreNameable : Command → Setting → List Taken → List Asked → Type 0
AreNameable command setting taken as' = AreNameableBy (growth command) (graphing command) setting taken as'

-- ---- what is written

abbrev pub line_of : Printed → List ℕ
line_of p = summary_line p.name p.kind p.marked p.verdict p.steps

abbrev pub lines : List Printed → List ℕ
lines [] = []
lines (p ∷ ps) = line_of p ++ (p.block ++ lines ps)

-- the text from one place to another, with each proof at its place
abbrev pub spliced : List ℕ → ℕ → List Printed → ℕ → List ℕ
spliced text start [] end = between start end text
spliced text start (p ∷ ps) end = between start p.span.from text ++ (codes "\n" ++ (p.proof ++ spliced text (goes_on text p.span) ps end))

-- the text up to its end with the proofs, and the summary in a comment
abbrev pub text_with : List ℕ → List Printed → ℕ → List ℕ
text_with text ps end = spliced text 0 ps end ++ (codes "\n/*\n" ++ (lines ps ++ codes "*/\n"))

-- the graphs, one after the other
abbrev pub graphs_in : List Printed → List ℕ
graphs_in [] = []
graphs_in (p ∷ ps) = p.graph ++ graphs_in ps

abbrev pub verdicts_in : List Printed → List Verdict
verdicts_in ps = map (λ (p : Printed). p.verdict) ps

abbrev pub steps_in : List Printed → ℕ
steps_in [] = 0
steps_in (p ∷ ps) = p.steps + steps_in ps

abbrev pub counts_in : List Printed → List ℕ
counts_in ps = counts_by (verdicts_in ps) (counted (steps_in ps))

abbrev pub written_by : Command → List ℕ → List Printed → ℕ → List ℕ
written_by (Prove budget) text ps end = text_with text ps end
written_by Check text ps end = lines ps
written_by (Graph budget) text ps end = graphs_in ps
written_by (Count budget) text ps end = counts_in ps
