-- The items with trees as proofs are of the same theory, and the trees are their proofs.
use Rattle.std.proofs.Common.{◌≡◌, ℕ, suc, List, [], ◌∷◌, Option, Some, None, length, refl, sym, ap, ◌∙◌}
use Rattle.sp_spec.proofs.Lists.{length_map}
use Rattle.sp_spec.specs.Theory.{Lemma}
use Rattle.sp_spec_text.specs.Token.{Lexeme, Token}
use Rattle.sp_spec_proof.specs.Tree.{Tree}
use Rattle.sp_spec_text.specs.Written.{WrittenProof, Item, WrittenText, lemmas_with_proofs, lemmas_in, proofs_in}
use Rattle.sp_spec_text.specs.Declared.{theory_in}
use Rattle.sp_spec_text.specs.Spans.{Span, AreSpans, no_span, past_declaration, past_lemma}
use Rattle.sp_spec_text.specs.Theories.{SpellsDeclaration, builtins, functions, equations, heuristic, text_block, a_rule, a_restriction}
use Rattle.sp_spec_text.specs.Texts.{ArePlaces}
use Rattle.sp_spec_text.proofs.Items.{theory_kept, proofs_put}
use Rattle.sp_law_reread.specs.Again.{proofs_with, with_trees}

pub same_theory : (theory : WrittenText) (trees : List (Option Tree)) → theory_in (record { name = theory.name; items = with_trees theory.items trees }) ≡ theory_in theory
same_theory theory trees = theory_kept theory (proofs_with (proofs_in theory.items) trees)

no_lemma_there : {tokens rest : List Lexeme} {x : Item} → SpellsDeclaration tokens x rest → (items : List Item) → lemmas_in items ≡ lemmas_in (x ∷ items)
no_lemma_there (builtins h) items = refl
no_lemma_there (functions h) items = refl
no_lemma_there (equations h) items = refl
no_lemma_there (heuristic h) items = refl
no_lemma_there (text_block n) items = refl
no_lemma_there (a_rule h) items = refl
no_lemma_there (a_restriction h) items = refl

spans_length : {tokens : List Token} {items : List Item} {spans : List Span} → AreSpans tokens items spans → length spans ≡ length (lemmas_in items)
spans_length no_span = refl
spans_length (past_declaration {items = xs} h b s) = spans_length s ∙ ap length (no_lemma_there h xs)
spans_length (past_lemma h b c f s) = ap suc (spans_length s)

pub each_lemma : (text : List ℕ) (theory : WrittenText) (spans : List Span) (end : ℕ) → ArePlaces text theory spans end → length spans ≡ length (lemmas_in theory.items)
each_lemma text theory spans end p = spans_length p.spans_are

-- there are as many proofs as before
proofs_length : (proofs : List (Option WrittenProof)) (trees : List (Option Tree)) → length (proofs_with proofs trees) ≡ length proofs
proofs_length [] trees = refl
proofs_length (p ∷ proofs) [] = refl
proofs_length (p ∷ proofs) (Some t ∷ trees) = ap suc (proofs_length proofs trees)
proofs_length (p ∷ proofs) (None ∷ trees) = ap suc (proofs_length proofs trees)

-- one for each lemma
pub each_proof : (items : List Item) → length (proofs_in items) ≡ length (lemmas_in items)
each_proof items =
    let qs = lemmas_with_proofs items in
    length_map (λ (q : Lemma × Option WrittenProof). q.1) qs ∙ sym (length_map (λ (q : Lemma × Option WrittenProof). q.0) qs)

pub trees_proofs : (text : List ℕ) (theory : WrittenText) (spans : List Span) (end : ℕ) (trees : List (Option Tree))
    → ArePlaces text theory spans end → length trees ≡ length spans → proofs_in (with_trees theory.items trees) ≡ proofs_with (proofs_in theory.items) trees
trees_proofs text theory spans end trees p e = proofs_put theory.items (proofs_with (proofs_in theory.items) trees) (proofs_length (proofs_in theory.items) trees ∙ each_proof theory.items)
