-- One element after the other.
use Rattle.std.proofs.Common.{◌≡◌, ℕ, ◌+◌, ◌<◌, List, [], ◌∷◌, ◌++◌, drop, length, get_or, refl, sym, ap, ◌∙◌}
use Rattle.std.proofs.lemmas.List.{append-nil}
use Rattle.sp_spec_text.specs.Written.{restrictions_in, lemmas_in}
use Rattle.sp_written.specs.Views as view
use Rattle.sp_written.specs.declared.theory.Item.{Item}
use Rattle.sp_written.specs.declared.theory.Item.TheVariants as i
use Rattle.sp_spec.specs.Constants.{once_after, in_rules, in_restrictions, in_lemmas}
use Rattle.sp_declared.specs.WrittenRules.{rules_written}
use Rattle.sp_declared.specs.OnceLaws.{once_both}
use Rattle.sp_spec.proofs.Lists.{next_item}

-- the names of an element are put at the end, and those of the others are left
pub next : {A : Type 0} (each : A → List (List ℕ)) (flat : List A → List (List ℕ)) → ((x : A) (xs : List A) → flat (x ∷ xs) ≡ each x ++ flat xs)
    → (ys xs : List A) (i : ℕ) (x : A) (a b target : List (List ℕ)) → ys ≡ xs → i < length ys → x ≡ get_or ys i x → b ≡ once_after a (each x)
    → once_after a (flat (drop i xs)) ≡ target → once_after b (flat (drop (i + 1) xs)) ≡ target
next {A = A} each flat begins ys xs i x a b target same h e seen inv =
    let there : drop i xs ≡ x ∷ drop (i + 1) xs = ap (drop i) (sym same) ∙ next_item ys i x h e ∙ ap (λ (zs : List A). x ∷ drop (i + 1) zs) same in
    ap (λ (ls : List (List ℕ)). once_after ls (flat (drop (i + 1) xs))) seen
    ∙ once_both (each x) a (flat (drop (i + 1) xs))
    ∙ ap (once_after a) (sym (begins x (drop (i + 1) xs)))
    ∙ ap (λ (zs : List A). once_after a (flat zs)) (sym there) ∙ inv

-- a rule, or nothing; a restriction, or nothing; a lemma, or nothing
pub rules_begin : (x : Item) (xs : List Item) → in_rules (rules_written (view.items (x ∷ xs))) ≡ in_rules (rules_written (view.item x ∷ [])) ++ in_rules (rules_written (view.items xs))
rules_begin (i.Builtins bs) xs = refl
rules_begin (i.Functions fs) xs = refl
rules_begin (i.Equations es) xs = refl
rules_begin (i.Heuristic ws) xs = refl
rules_begin (i.Block w) xs = refl
rules_begin (i.Rule r) xs = ap (λ (ls : List (List ℕ)). ls ++ in_rules (rules_written (view.items xs))) (sym (append-nil _))
rules_begin (i.Restriction r) xs = refl
rules_begin (i.Lemma l) xs = refl

pub restrictions_begin : (x : Item) (xs : List Item) → in_restrictions (restrictions_in (view.items (x ∷ xs))) ≡ in_restrictions (restrictions_in (view.item x ∷ [])) ++ in_restrictions (restrictions_in (view.items xs))
restrictions_begin (i.Builtins bs) xs = refl
restrictions_begin (i.Functions fs) xs = refl
restrictions_begin (i.Equations es) xs = refl
restrictions_begin (i.Heuristic ws) xs = refl
restrictions_begin (i.Block w) xs = refl
restrictions_begin (i.Rule r) xs = refl
restrictions_begin (i.Restriction r) xs = ap (λ (ls : List (List ℕ)). ls ++ in_restrictions (restrictions_in (view.items xs))) (sym (append-nil _))
restrictions_begin (i.Lemma l) xs = refl

pub lemmas_begin : (x : Item) (xs : List Item) → in_lemmas (lemmas_in (view.items (x ∷ xs))) ≡ in_lemmas (lemmas_in (view.item x ∷ [])) ++ in_lemmas (lemmas_in (view.items xs))
lemmas_begin (i.Builtins bs) xs = refl
lemmas_begin (i.Functions fs) xs = refl
lemmas_begin (i.Equations es) xs = refl
lemmas_begin (i.Heuristic ws) xs = refl
lemmas_begin (i.Block w) xs = refl
lemmas_begin (i.Rule r) xs = refl
lemmas_begin (i.Restriction r) xs = refl
lemmas_begin (i.Lemma l) xs = ap (λ (ls : List (List ℕ)). ls ++ in_lemmas (lemmas_in (view.items xs))) (sym (append-nil _))
