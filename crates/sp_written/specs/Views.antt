-- What the values in memory stand for.
use Rattle.std.specs.Prelude.{ℕ, List, [], ◌∷◌, length, option_map, map}
use Rattle.sp_spec_nodes.specs.Preorder.{trees, first}
use Rattle.sp_spec.specs.Theory as t
use Rattle.sp_spec.specs.Theory.{Restriction, Lemma}
use Rattle.sp_spec.specs.Term.{Term}
use Rattle.sp_spec.specs.Formula.{Written}
use Rattle.sp_term.specs.View.{name_of}
use Rattle.sp_fact.specs.GroundView.{symbol_of}
use Rattle.sp_read_parts.specs.Views.{term, bindings, rule}
use Rattle.sp_read_parts.specs.Formulas.{formula}
use Rattle.sp_spec_text.specs.Written as text
use Rattle.sp_written.specs.declared.proof.Method.{Method}
use Rattle.sp_written.specs.declared.proof.Method.TheVariants as m
use Rattle.sp_written.specs.declared.proof.WrittenStep.{WrittenStep}
use Rattle.sp_written.specs.declared.proof.WrittenProof.{WrittenProof}
use Rattle.sp_written.specs.declared.theory.TraceKind.{TraceKind}
use Rattle.sp_written.specs.declared.theory.TraceKind.TheVariants as k
use Rattle.sp_written.specs.declared.theory.Attribute.{Attribute}
use Rattle.sp_written.specs.declared.theory.Attribute.TheVariants as a
use Rattle.sp_written.specs.declared.theory.WrittenRestriction.{WrittenRestriction}
use Rattle.sp_written.specs.declared.theory.WrittenLemma.{WrittenLemma}
use Rattle.sp_written.specs.declared.theory.WrittenEquation.{WrittenEquation}
use Rattle.sp_written.specs.declared.theory.Item.{Item}
use Rattle.sp_written.specs.declared.theory.Item.TheVariants as i
use Rattle.sp_spec_text.specs.Spans as places
use Rattle.sp_written.specs.declared.theory.Span.{Span}
use Rattle.sp_written.specs.declared.theory.ReadTheory.{ReadTheory}

-- ---- proofs

abbrev pub method : Method → text.Method
method (m.Word w) = text.said w.now
method (m.Goal g) = text.goal g.now

-- a step's method, and the names of its cases
abbrev pub step_at : WrittenStep → text.Method × List (List ℕ)
step_at s = (method s.method, map (λ name. name.now) s.cases.items)

-- the cases with these names and these proofs
abbrev pub with_names : List (List ℕ) → List text.WrittenProof → text.WrittenCases
with_names [] proofs = text.no_case
with_names (name ∷ names) [] = text.no_case
with_names (name ∷ names) (p ∷ proofs) = text.then_case name p (with_names names proofs)

abbrev pub case_count : text.Method × List (List ℕ) → ℕ
case_count s = length s.1

abbrev pub proof_over : text.Method × List (List ℕ) → List text.WrittenProof → text.WrittenProof
proof_over s proofs = text.step s.0 (with_names s.1 proofs)

-- the proofs that steps are, one behind the other, and the first of them
abbrev pub written_proofs : List (text.Method × List (List ℕ)) → List text.WrittenProof
written_proofs steps = trees case_count proof_over steps

abbrev pub written_proof : List (text.Method × List (List ℕ)) → text.WrittenProof
written_proof steps = first (text.step (text.said []) text.no_case) (written_proofs steps)

abbrev pub proof : WrittenProof → text.WrittenProof
proof p = written_proof (map step_at p.steps.items)

-- ---- theories

abbrev pub kind : TraceKind → t.TraceKind
kind k.AllTraces = t.all_traces
kind k.ExistsTrace = t.exists_trace

abbrev pub lemma : WrittenLemma → Lemma
lemma l = record { name = l.name.now; kind = kind l.kind; formula = formula l.formula }

abbrev pub attribute : Attribute → text.Attribute
attribute a.Reused = text.reused
attribute a.OfSources = text.of_sources
attribute a.ByInduction = text.by_induction
attribute (a.Hiding w) = text.hiding w.now
attribute (a.RankedBy w) = text.ranked_by w.now
attribute (a.Unknown w) = text.unknown w.now

abbrev pub attributes : List Attribute → List text.Attribute
attributes xs = map attribute xs

abbrev pub restriction : WrittenRestriction → Restriction
restriction r = record { name = r.name.now; formula = formula r.formula }

abbrev pub equation : WrittenEquation → Term Written × Term Written
equation e = (term e.left, term e.right)

abbrev pub item : Item → text.Item
item (i.Builtins bs) = text.builtins_item (map name_of bs.items)
item (i.Functions ss) = text.functions_item (map symbol_of ss.items)
item (i.Equations es) = text.equations_item (map equation es.items)
item (i.Heuristic ws) = text.heuristic_item (map (λ w. w.now) ws.items)
item (i.Block w) = text.block_item w.now
item (i.Rule r) = text.rule_item (bindings r.bindings.items) (rule r.rule)
item (i.Restriction r) = text.restriction_item (restriction r)
item (i.Lemma l) = text.lemma_item (lemma l) (attributes l.attributes.items) (option_map proof l.proof)

abbrev pub items : List Item → List text.Item
items xs = map item xs

abbrev pub span_of : Span → places.Span
span_of s = record { from = s.from; to = s.to }

-- where the proofs of the lemmas stand
abbrev pub spans : List Item → List places.Span
spans [] = []
spans (i.Lemma l ∷ xs) = span_of l.span ∷ spans xs
spans (x ∷ xs) = spans xs

abbrev pub theory : ReadTheory → text.WrittenText
theory r = record { name = r.name.now; items = items r.items.items }
