-- A text with trees in the places of some of its proofs says the theory with those trees.
use Rattle.std.specs.Prelude.{◌≡◌, ℕ, List, ◌++◌, Option, length, codes}
use Rattle.sp_spec.specs.Lists.{Every}
use Rattle.sp_spec_proof.specs.Tree.{Tree}
use Rattle.sp_spec_text.specs.Written.{WrittenText, lemmas_in, proofs_in}
use Rattle.sp_spec_text.specs.Declared.{theory_in}
use Rattle.sp_spec_text.specs.Spans.{Span}
use Rattle.sp_spec_text.specs.Texts.{IsTextOf, ArePlaces}
use Rattle.sp_law_reread.specs.Again.{replaced, proofs_with, with_trees, IsReadableIf}
use Rattle.sp_spec_text.specs.Behind.{IsBehindEnd}

pub record TextsAreReadAgain : Type 0 where
  -- Whatever stands behind the word `end`, if a line feed stands before it: that ends the word.
  pub again : (text : List ℕ) (theory : WrittenText) (spans : List Span) (end : ℕ) (trees : List (Option Tree)) (behind : List ℕ)
      → IsTextOf text theory → ArePlaces text theory spans end → Every IsReadableIf trees → length trees ≡ length spans
      → IsTextOf (replaced text 0 spans trees end ++ (codes "\n" ++ behind)) (record { name = theory.name; items = with_trees theory.items trees })
  -- one place for a proof for each lemma
  pub each : (text : List ℕ) (theory : WrittenText) (spans : List Span) (end : ℕ) → ArePlaces text theory spans end → length spans ≡ length (lemmas_in theory.items)
  -- the theory is the same
  pub same : (theory : WrittenText) (trees : List (Option Tree)) → theory_in (record { name = theory.name; items = with_trees theory.items trees }) ≡ theory_in theory
  -- the proofs are the trees, as they are written, and those of the text where no tree is given
  pub proofs : (text : List ℕ) (theory : WrittenText) (spans : List Span) (end : ℕ) (trees : List (Option Tree))
      → ArePlaces text theory spans end → length trees ≡ length spans → proofs_in (with_trees theory.items trees) ≡ proofs_with (proofs_in theory.items) trees

pub record TextsEnd : Type 0 where
  -- of a text with trees in the places of some of its proofs, whatever stands behind the line feed behind its word `end`
  pub behind : (text : List ℕ) (theory : WrittenText) (spans : List Span) (end : ℕ) (trees : List (Option Tree)) (behind : List ℕ)
      → IsTextOf text theory → ArePlaces text theory spans end → Every IsReadableIf trees → length trees ≡ length spans
      → IsBehindEnd (replaced text 0 spans trees end ++ (codes "\n" ++ behind)) (codes "\n" ++ behind)
  -- there is one such text
  pub one : (text behind other : List ℕ) → IsBehindEnd text behind → IsBehindEnd text other → behind ≡ other
