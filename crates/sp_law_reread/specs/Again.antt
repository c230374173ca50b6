-- A text with proof trees in the places of some of its lemmas' proofs, and what it says.
use Rattle.std.specs.Prelude.{ℕ, ◌-◌, List, [], ◌∷◌, ◌++◌, Option, Some, None, take, drop, codes}
use Rattle.sp_spec_proof.specs.Tree.{Tree}
use Rattle.sp_skel.specs.TreeText.{tree_text}
use Rattle.sp_spec_text.specs.Written.{WrittenProof, Item, proofs_in, with_proofs}
use Rattle.sp_spec_text.specs.Spans.{Span, goes_on}
use Rattle.sp_skel.specs.Spelling.{as_written, IsReadable}

-- what stands between two places
abbrev pub between : ℕ → ℕ → List ℕ → List ℕ
between start end text = take (end - start) (drop start text)

-- the text from one place to another, with each tree in the place of the proof that stands there, or where one is to stand; where no tree is given, what stands there stays
abbrev pub replaced : List ℕ → ℕ → List Span → List (Option Tree) → ℕ → List ℕ
replaced text start (span ∷ spans) (Some t ∷ trees) end = between start span.from text ++ (codes "\n" ++ (tree_text 0 t ++ replaced text (goes_on text span) spans trees end))
replaced text start (span ∷ spans) (None ∷ trees) end = replaced text start spans trees end
replaced text start spans trees end = between start end text

-- the proofs, with each tree in the place of one
abbrev pub proofs_with : List (Option WrittenProof) → List (Option Tree) → List (Option WrittenProof)
proofs_with (p ∷ proofs) (Some t ∷ trees) = Some (as_written t) ∷ proofs_with proofs trees
proofs_with (p ∷ proofs) (None ∷ trees) = p ∷ proofs_with proofs trees
proofs_with proofs trees = proofs

-- the items with these trees as the proofs of the lemmas, one for each
abbrev pub with_trees : List Item → List (Option Tree) → List Item
with_trees items trees = with_proofs items (proofs_with (proofs_in items) trees)

-- a tree that can be read back, or none
abbrev pub IsReadableIf : Option Tree → Type 0
IsReadableIf None = Unit {0}
IsReadableIf (Some t) = IsReadable t
