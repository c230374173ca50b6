-- Lemmas that are taken for the proofs of those behind them. Source: Tamarin manual, "Reusing Lemmas Multiple Times" and "Lemma Annotations"
-- (`reuse`, `sources`, `hide_lemma`).
use Rattle.std.specs.Prelude.{ℕ, Bool, true, false, if◌then◌else◌, List, [], ◌∷◌, ◌++◌, map, Option, Some, None, bytes_eq}
use Rattle.std.specs.List.{list_any}
use Rattle.sp_spec.specs.Theory.{TraceKind, all_traces, Lemma}
use Rattle.sp_spec.specs.Guarded.{Guarded}
use Rattle.sp_law_guard.specs.CheckedForm.{checked_form}
use Rattle.sp_spec_printed.specs.Verdict.{Verdict, verified}
use Rattle.sp_spec_text.specs.Written.{Attribute, reused, of_sources, hiding, WrittenProof, Item, lemma_item}

-- a lemma as the text states it: with its attributes, and its proof if it has one
pub record Stated : Type 0 where
  pub lemma : Lemma
  pub attributes : List Attribute
  pub proof : Option WrittenProof

abbrev pub item_stated : Item → List Stated
item_stated (lemma_item l as' p) = (let s : Stated = record { lemma = l; attributes = as'; proof = p } in s) ∷ []
item_stated item = []

-- all of them, in the order of the text
abbrev pub stated_in : List Item → List Stated
stated_in [] = []
stated_in (x ∷ items) = item_stated x ++ stated_in items

abbrev pub lemmas_stated : List Stated → List Lemma
lemmas_stated qs = map (λ (q : Stated). q.lemma) qs

-- a lemma that is taken, by its name and its guarded form
pub record Taken : Type 0 where
  pub name : List ℕ
  pub form : Guarded

-- `sources` marks a lemma as `reuse` does
abbrev pub is_reused : Attribute → Bool
is_reused reused = true
is_reused of_sources = true
is_reused a = false

-- What a lemma gives to the proofs behind it: one on all traces that is marked `reuse` or `sources` and was verified is taken; no other is.
abbrev pub gives : TraceKind → Verdict → List Attribute → Bool
gives all_traces verified attributes = list_any is_reused attributes
gives kind verdict attributes = false

abbrev pub taken_if : Bool → List ℕ → Guarded → List Taken
taken_if b name form = if b then (let t : Taken = record { name = name; form = form } in t) ∷ [] else []

abbrev pub form_taken : Bool → List ℕ → Option Guarded → List Taken
form_taken b name None = []
form_taken b name (Some form) = taken_if b name form

abbrev pub taken_by : Stated → Verdict → List Taken
taken_by q verdict = form_taken (gives q.lemma.kind verdict q.attributes) q.lemma.name (checked_form q.lemma.formula)

-- a lemma says by `hide_lemma=` which are not taken for it
abbrev pub hides : List ℕ → Attribute → Bool
hides name (hiding w) = bytes_eq w name
hides name a = false

abbrev pub is_hidden : List Attribute → Taken → Bool
is_hidden attributes t = list_any (hides t.name) attributes

-- the guarded forms of those that are taken for a lemma with these attributes, in the order of the text
abbrev pub taken_for : List Attribute → List Taken → List Guarded
taken_for attributes [] = []
taken_for attributes (t ∷ ts) = if is_hidden attributes t then taken_for attributes ts else t.form ∷ taken_for attributes ts
