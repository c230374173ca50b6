-- The lemmas of an item and of the others; items with other proofs say the same rules and lemmas, and have these proofs.
use Rattle.std.proofs.Common.{◌≡◌, List, [], ◌∷◌, ◌++◌, map, Option, length, refl, sym, ap, ◌∙◌, arith}
use Rattle.std.proofs.lemmas.List.{map-append}
use Rattle.sp_spec.specs.Theory.{Lemma}
use Rattle.sp_spec.specs.Signature.{pair_symbols}
use Rattle.sp_spec.specs.Written.{WrittenRule, WrittenTheory}
use Rattle.std.specs.List.{flat_map}
use Rattle.sp_spec.specs.Signature.{Symbol}
use Rattle.sp_spec_text.specs.Written.{WrittenProof, Attribute, Item, builtins_item, functions_item, equations_item, heuristic_item, block_item, rule_item, restriction_item, lemma_item, item_builtins, item_functions, item_equations, item_rules, item_restrictions, item_lemmas, WrittenText, rules_in, restrictions_in, lemmas_with_proofs, without_proofs, lemmas_in, proofs_in, with_proofs}
use Rattle.sp_spec_text.specs.Declared.{declared_symbols, all_symbols, new_symbols, declared_equations, added_equations, their_equations, resolved_item, resolved, theory_in}

pub lemmas_begin : (x : Item) (items : List Item) → lemmas_in (x ∷ items) ≡ without_proofs (item_lemmas x) ++ lemmas_in items
lemmas_begin x items = map-append (λ (q : Lemma × Option WrittenProof). q.0) (item_lemmas x) (lemmas_with_proofs items)

-- the lemmas with these proofs in the places of their own
abbrev pub proved_by : List (Lemma × Option WrittenProof) → List (Option WrittenProof) → List (Lemma × Option WrittenProof)
proved_by [] proofs = []
proved_by (q ∷ qs) [] = q ∷ proved_by qs []
proved_by (q ∷ qs) (p ∷ proofs) = (q.0, p) ∷ proved_by qs proofs

pub lemmas_put : (items : List Item) (proofs : List (Option WrittenProof)) → lemmas_with_proofs (with_proofs items proofs) ≡ proved_by (lemmas_with_proofs items) proofs
lemmas_put [] proofs = refl
lemmas_put (builtins_item bs ∷ items) proofs = lemmas_put items proofs
lemmas_put (functions_item ss ∷ items) proofs = lemmas_put items proofs
lemmas_put (equations_item es ∷ items) proofs = lemmas_put items proofs
lemmas_put (heuristic_item ws ∷ items) proofs = lemmas_put items proofs
lemmas_put (block_item w ∷ items) proofs = lemmas_put items proofs
lemmas_put (rule_item bs r ∷ items) proofs = lemmas_put items proofs
lemmas_put (restriction_item r ∷ items) proofs = lemmas_put items proofs
lemmas_put (lemma_item l as' p ∷ items) [] = ap (λ (qs : List (Lemma × Option WrittenProof)). (l, p) ∷ qs) (lemmas_put items [])
lemmas_put (lemma_item l as' p ∷ items) (q ∷ proofs) = ap (λ (qs : List (Lemma × Option WrittenProof)). (l, q) ∷ qs) (lemmas_put items proofs)

-- what items say that don't look at proofs
module _ {A : Type 0} (f : Item → List A) (alike : (l : Lemma) (as' : List Attribute) (p q : Option WrittenProof) → f (lemma_item l as' p) ≡ f (lemma_item l as' q)) where
  after : (x : Item) {xs ys : List A} → xs ≡ ys → f x ++ xs ≡ f x ++ ys
  after x e = ap (λ (zs : List A). f x ++ zs) e

  pub kept : (items : List Item) (proofs : List (Option WrittenProof)) → flat_map f (with_proofs items proofs) ≡ flat_map f items
  kept [] proofs = refl
  kept (builtins_item bs ∷ items) proofs = after (builtins_item bs) (kept items proofs)
  kept (functions_item ss ∷ items) proofs = after (functions_item ss) (kept items proofs)
  kept (equations_item es ∷ items) proofs = after (equations_item es) (kept items proofs)
  kept (heuristic_item ws ∷ items) proofs = after (heuristic_item ws) (kept items proofs)
  kept (block_item w ∷ items) proofs = after (block_item w) (kept items proofs)
  kept (rule_item bs r ∷ items) proofs = after (rule_item bs r) (kept items proofs)
  kept (restriction_item r ∷ items) proofs = after (restriction_item r) (kept items proofs)
  kept (lemma_item l as' p ∷ items) [] = after (lemma_item l as' p) (kept items [])
  kept (lemma_item l as' p ∷ items) (q ∷ proofs) =
      ap (λ (zs : List A). zs ++ flat_map f (with_proofs items proofs)) (alike l as' q p) ∙ after (lemma_item l as' p) (kept items proofs)

rules_listed : (items : List Item) → rules_in items ≡ flat_map item_rules items
rules_listed [] = refl
rules_listed (x ∷ items) = ap (λ (rs : List WrittenRule). item_rules x ++ rs) (rules_listed items)

rules_kept : (items : List Item) (proofs : List (Option WrittenProof)) → rules_in (with_proofs items proofs) ≡ rules_in items
rules_kept items proofs = rules_listed (with_proofs items proofs) ∙ (kept item_rules (λ l as' p q. refl) items proofs ∙ sym (rules_listed items))

lemmas_stay : (qs : List (Lemma × Option WrittenProof)) (proofs : List (Option WrittenProof)) → without_proofs (proved_by qs proofs) ≡ without_proofs qs
lemmas_stay [] proofs = refl
lemmas_stay (q ∷ qs) [] = ap (λ (ls : List Lemma). q.0 ∷ ls) (lemmas_stay qs [])
lemmas_stay (q ∷ qs) (p ∷ proofs) = ap (λ (ls : List Lemma). q.0 ∷ ls) (lemmas_stay qs proofs)

lemmas_kept : (items : List Item) (proofs : List (Option WrittenProof)) → lemmas_in (with_proofs items proofs) ≡ lemmas_in items
lemmas_kept items proofs = ap without_proofs (lemmas_put items proofs) ∙ lemmas_stay (lemmas_with_proofs items) proofs

-- names that are symbols are so whatever the proofs are
resolved_with : (symbols : List Symbol) (items : List Item) (proofs : List (Option WrittenProof)) → map (resolved_item symbols) (with_proofs items proofs) ≡ with_proofs (map (resolved_item symbols) items) proofs
resolved_with symbols [] proofs = refl
resolved_with symbols (builtins_item bs ∷ items) proofs = ap (λ (xs : List Item). resolved_item symbols (builtins_item bs) ∷ xs) (resolved_with symbols items proofs)
resolved_with symbols (functions_item ss ∷ items) proofs = ap (λ (xs : List Item). resolved_item symbols (functions_item ss) ∷ xs) (resolved_with symbols items proofs)
resolved_with symbols (equations_item es ∷ items) proofs = ap (λ (xs : List Item). resolved_item symbols (equations_item es) ∷ xs) (resolved_with symbols items proofs)
resolved_with symbols (heuristic_item ws ∷ items) proofs = ap (λ (xs : List Item). resolved_item symbols (heuristic_item ws) ∷ xs) (resolved_with symbols items proofs)
resolved_with symbols (block_item w ∷ items) proofs = ap (λ (xs : List Item). resolved_item symbols (block_item w) ∷ xs) (resolved_with symbols items proofs)
resolved_with symbols (rule_item bs r ∷ items) proofs = ap (λ (xs : List Item). resolved_item symbols (rule_item bs r) ∷ xs) (resolved_with symbols items proofs)
resolved_with symbols (restriction_item r ∷ items) proofs = ap (λ (xs : List Item). resolved_item symbols (restriction_item r) ∷ xs) (resolved_with symbols items proofs)
resolved_with symbols (lemma_item l as' p ∷ items) [] = ap (λ (xs : List Item). resolved_item symbols (lemma_item l as' p) ∷ xs) (resolved_with symbols items [])
resolved_with symbols (lemma_item l as' p ∷ items) (q ∷ proofs) = ap (λ (xs : List Item). resolved_item symbols (lemma_item l as' q) ∷ xs) (resolved_with symbols items proofs)

abbrev proved_anew : WrittenText → List (Option WrittenProof) → WrittenText
proved_anew theory proofs = record { name = theory.name; items = with_proofs theory.items proofs }

symbols_kept : (items : List Item) (proofs : List (Option WrittenProof)) → declared_symbols (with_proofs items proofs) ≡ declared_symbols items
symbols_kept items proofs = rw (kept item_builtins (λ l as' p q. refl) items proofs, kept item_functions (λ l as' p q. refl) items proofs) refl

equations_kept : (items : List Item) (proofs : List (Option WrittenProof)) → declared_equations (with_proofs items proofs) ≡ declared_equations items
equations_kept items proofs = rw (kept item_builtins (λ l as' p q. refl) items proofs, kept item_equations (λ l as' p q. refl) items proofs) refl

pub resolved_anew : (theory : WrittenText) (proofs : List (Option WrittenProof)) → resolved (proved_anew theory proofs) ≡ proved_anew (resolved theory) proofs
resolved_anew theory proofs = rw (symbols_kept theory.items proofs, resolved_with (all_symbols theory.items) theory.items proofs) refl

-- the theory by what is declared and by the text that is resolved
abbrev theory_from : List Symbol → WrittenText → WrittenTheory
theory_from symbols t = record {
  name = t.name;
  symbols = new_symbols pair_symbols symbols;
  equations = their_equations (added_equations t.items);
  rules = rules_in t.items;
  restrictions = restrictions_in t.items;
  lemmas = lemmas_in t.items;
}

from_kept : (symbols : List Symbol) (t : WrittenText) (proofs : List (Option WrittenProof)) → theory_from symbols (proved_anew t proofs) ≡ theory_from symbols t
from_kept symbols t proofs = rw (equations_kept t.items proofs, rules_kept t.items proofs, kept item_restrictions (λ l as' p q. refl) t.items proofs, lemmas_kept t.items proofs) refl

pub theory_kept : (theory : WrittenText) (proofs : List (Option WrittenProof)) → theory_in (proved_anew theory proofs) ≡ theory_in theory
theory_kept theory proofs =
    ap (theory_from (declared_symbols (with_proofs theory.items proofs))) (resolved_anew theory proofs)
    ∙ (ap (λ (symbols : List Symbol). theory_from symbols (proved_anew (resolved theory) proofs)) (symbols_kept theory.items proofs) ∙ from_kept (declared_symbols theory.items) (resolved theory) proofs)

abbrev their_proofs : List (Lemma × Option WrittenProof) → List (Option WrittenProof)
their_proofs qs = map (λ (q : Lemma × Option WrittenProof). q.1) qs

proofs_there : (qs : List (Lemma × Option WrittenProof)) (proofs : List (Option WrittenProof)) → length proofs ≡ length (without_proofs qs) → their_proofs (proved_by qs proofs) ≡ proofs
proofs_there [] [] e = refl
proofs_there [] (p ∷ proofs) e = absurd (omega (arith, e))
proofs_there (q ∷ qs) [] e = absurd (omega (arith, e))
proofs_there (q ∷ qs) (p ∷ proofs) e = ap (λ (ps : List (Option WrittenProof)). p ∷ ps) (proofs_there qs proofs (omega (arith, e)))

pub proofs_put : (items : List Item) (proofs : List (Option WrittenProof)) → length proofs ≡ length (lemmas_in items) → proofs_in (with_proofs items proofs) ≡ proofs
proofs_put items proofs e = ap their_proofs (lemmas_put items proofs) ∙ proofs_there (lemmas_with_proofs items) proofs e
