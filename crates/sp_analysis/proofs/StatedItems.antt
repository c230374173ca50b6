-- The lemmas that a text states, with their attributes and proofs: they are those of its theory, and stay so with other proofs.
use Rattle.std.proofs.Common.{◌≡◌, List, [], ◌∷◌, length, Option, refl, sym, ap, ◌∙◌, subst}
use Rattle.std.proofs.lemmas.List.{length-map}
use Rattle.sp_spec.specs.Lists.{Every}
use Rattle.sp_spec.specs.Theory.{Lemma}
use Rattle.sp_spec_text.specs.Written.{WrittenProof, Item, builtins_item, functions_item, equations_item, heuristic_item, block_item, rule_item, restriction_item, lemma_item, WrittenText, lemmas_in, with_proofs}
use Rattle.sp_spec_text.specs.Declared.{resolved, theory_in}
use Rattle.sp_analysis.specs.Taken.{Stated, stated_in, lemmas_stated}

stated_are : (items : List Item) → lemmas_in items ≡ lemmas_stated (stated_in items)
stated_are [] = refl
stated_are (builtins_item bs ∷ items) = stated_are items
stated_are (functions_item ss ∷ items) = stated_are items
stated_are (equations_item es ∷ items) = stated_are items
stated_are (heuristic_item ws ∷ items) = stated_are items
stated_are (block_item w ∷ items) = stated_are items
stated_are (rule_item bs r ∷ items) = stated_are items
stated_are (restriction_item r ∷ items) = stated_are items
stated_are (lemma_item l as' p ∷ items) = ap (λ (ls : List Lemma). l ∷ ls) (stated_are items)

pub as_many_stated : (items : List Item) → length (stated_in items) ≡ length (lemmas_in items)
as_many_stated items = sym (length-map (stated_in items) (λ (q : Stated). q.lemma)) ∙ sym (ap length (stated_are items))

-- what is so of the theory's lemmas
pub stated_lemmas : (t : WrittenText) (P : Lemma → Type 0) → Every P (theory_in t).lemmas → Every P (lemmas_stated (stated_in (resolved t).items))
stated_lemmas t P h = subst (Every P) (stated_are (resolved t).items) h

-- with these proofs in the places of their own
abbrev pub stated_with : List Stated → List (Option WrittenProof) → List Stated
stated_with [] proofs = []
stated_with (q ∷ qs) [] = q ∷ stated_with qs []
stated_with (q ∷ qs) (p ∷ proofs) = (let s : Stated = record { lemma = q.lemma; attributes = q.attributes; proof = p } in s) ∷ stated_with qs proofs

pub stated_put : (items : List Item) (proofs : List (Option WrittenProof)) → stated_in (with_proofs items proofs) ≡ stated_with (stated_in items) proofs
stated_put [] proofs = refl
stated_put (builtins_item bs ∷ items) proofs = stated_put items proofs
stated_put (functions_item ss ∷ items) proofs = stated_put items proofs
stated_put (equations_item es ∷ items) proofs = stated_put items proofs
stated_put (heuristic_item ws ∷ items) proofs = stated_put items proofs
stated_put (block_item w ∷ items) proofs = stated_put items proofs
stated_put (rule_item bs r ∷ items) proofs = stated_put items proofs
stated_put (restriction_item r ∷ items) proofs = stated_put items proofs
stated_put (lemma_item l as' p ∷ items) [] = ap (λ (qs : List Stated). (let s : Stated = record { lemma = l; attributes = as'; proof = p } in s) ∷ qs) (stated_put items [])
stated_put (lemma_item l as' p ∷ items) (q ∷ proofs) = ap (λ (qs : List Stated). (let s : Stated = record { lemma = l; attributes = as'; proof = q } in s) ∷ qs) (stated_put items proofs)
