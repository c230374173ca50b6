-- A theory as a text writes it: its rules, restrictions and lemmas in the order of the text, and the proofs that stand below lemmas.
-- Source: Tamarin manual, "Theory files" and "Proofs".
use Rattle.std.specs.Prelude.{ℕ, List, [], ◌∷◌, ◌++◌, map, Option}
use Rattle.std.specs.List.{flat_map}
use Rattle.sp_spec.specs.Term.{Term}
use Rattle.sp_spec.specs.Signature.{Symbol}
use Rattle.sp_spec.specs.Formula.{Written}
use Rattle.sp_spec.specs.Theory.{Restriction, Lemma}
use Rattle.sp_spec.specs.Written.{WrittenRule}
use Rattle.sp_spec_text.specs.Bindings.{Binding, with_values}

-- what a step of a proof says: a word, or the text between the brackets of `solve( )`
pub data Method : Type 0 where
  said : List ℕ → Method
  goal : List ℕ → Method

mutual
  -- a method over its cases
  pub data WrittenProof : Type 0 where
    step : Method → WrittenCases → WrittenProof

  -- each with its name; an only case may stand without one, which is then empty
  pub data WrittenCases : Type 0 where
    no_case : WrittenCases
    then_case : List ℕ → WrittenProof → WrittenCases → WrittenCases

-- what stands in the brackets behind the name of a lemma
pub data Attribute : Type 0 where
  reused : Attribute  -- `reuse`
  of_sources : Attribute  -- `sources`, or `typing`
  by_induction : Attribute  -- `use_induction`
  hiding : List ℕ → Attribute  -- `hide_lemma=` and the name of a lemma
  ranked_by : List ℕ → Attribute  -- `heuristic=` and a word
  unknown : List ℕ → Attribute  -- any other word

-- Builtins by their names, functions, equations, the words of a heuristic, a block of text with its word, a rule with the bindings before its facts, a
-- restriction, or a lemma with its attributes and its proof if it has one.
pub data Item : Type 0 where
  builtins_item : List (List ℕ) → Item
  functions_item : List Symbol → Item
  equations_item : List (Term Written × Term Written) → Item
  heuristic_item : List (List ℕ) → Item
  block_item : List ℕ → Item
  rule_item : List Binding → WrittenRule → Item
  restriction_item : Restriction → Item
  lemma_item : Lemma → List Attribute → Option WrittenProof → Item

pub record WrittenText : Type 0 where
  pub name : List ℕ
  pub items : List Item

-- ---- what an item says

abbrev pub item_builtins : Item → List (List ℕ)
item_builtins (builtins_item bs) = bs
item_builtins item = []

abbrev pub item_functions : Item → List Symbol
item_functions (functions_item ss) = ss
item_functions item = []

abbrev pub item_equations : Item → List (Term Written × Term Written)
item_equations (equations_item es) = es
item_equations item = []

-- no rule or one, with the values of its bindings
abbrev pub item_rules : Item → List WrittenRule
item_rules (rule_item bs r) = with_values bs r ∷ []
item_rules item = []

abbrev pub item_restrictions : Item → List Restriction
item_restrictions (restriction_item r) = r ∷ []
item_restrictions item = []

-- no lemma or one, with its proof if it has one
abbrev pub item_lemmas : Item → List (Lemma × Option WrittenProof)
item_lemmas (lemma_item l as' p) = (l, p) ∷ []
item_lemmas item = []

-- the attributes of a lemma
abbrev pub item_attributes : Item → List Attribute
item_attributes (lemma_item l as' p) = as'
item_attributes item = []

-- ---- and all of them, in the order of the text

abbrev pub builtins_in : List Item → List (List ℕ)
builtins_in items = flat_map item_builtins items

abbrev pub functions_in : List Item → List Symbol
functions_in items = flat_map item_functions items

abbrev pub equations_in : List Item → List (Term Written × Term Written)
equations_in items = flat_map item_equations items

abbrev pub rules_in : List Item → List WrittenRule
rules_in [] = []
rules_in (x ∷ items) = item_rules x ++ rules_in items

abbrev pub restrictions_in : List Item → List Restriction
restrictions_in items = flat_map item_restrictions items

abbrev pub lemmas_with_proofs : List Item → List (Lemma × Option WrittenProof)
lemmas_with_proofs [] = []
lemmas_with_proofs (x ∷ items) = item_lemmas x ++ lemmas_with_proofs items

abbrev pub without_proofs : List (Lemma × Option WrittenProof) → List Lemma
without_proofs ls = map (λ (q : Lemma × Option WrittenProof). q.0) ls

abbrev pub lemmas_in : List Item → List Lemma
lemmas_in items = without_proofs (lemmas_with_proofs items)

-- the proof of each lemma, where it has one
abbrev pub proofs_in : List Item → List (Option WrittenProof)
proofs_in items = map (λ (q : Lemma × Option WrittenProof). q.1) (lemmas_with_proofs items)

-- the items with these proofs in the places of their own, one for each lemma
abbrev pub with_proofs : List Item → List (Option WrittenProof) → List Item
with_proofs [] proofs = []
with_proofs (lemma_item l as' p ∷ items) [] = lemma_item l as' p ∷ with_proofs items []
with_proofs (lemma_item l as' p ∷ items) (q ∷ proofs) = lemma_item l as' q ∷ with_proofs items proofs
with_proofs (item ∷ items) proofs = item ∷ with_proofs items proofs
