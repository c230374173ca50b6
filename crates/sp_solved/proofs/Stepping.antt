-- One element after the other.
use Rattle.std.proofs.Common.{◌≡◌, ℕ, ◌+◌, ◌<◌, if◌then◌else◌, List, [], ◌∷◌, ◌++◌, drop, length, get_or, refl, sym, ap, ◌∙◌}
use Rattle.sp_spec.specs.Term.{Variable, Term}
use Rattle.sp_term.specs.View.{terms_of}
use Rattle.sp_spec_solved.specs.Naming.{is_seen, once_after, in_term, in_terms, in_chain}
use Rattle.sp_spec.proofs.Lists.{next_there}

pub once_both : (xs seen ys : List Variable) → once_after (once_after seen xs) ys ≡ once_after seen (xs ++ ys)
once_both [] seen ys = refl
once_both (x ∷ xs) seen ys = once_both xs (if is_seen x seen then seen else seen ++ x ∷ []) ys

pub seen_three : (xs ys zs a b c d : List Variable) → b ≡ once_after a xs → c ≡ once_after b ys → d ≡ once_after c zs → d ≡ once_after a (xs ++ (ys ++ zs))
seen_three xs ys zs a b c d e f g =
    g ∙ ap (λ (vs : List Variable). once_after vs zs) f ∙ once_both ys b zs ∙ ap (λ (vs : List Variable). once_after vs (ys ++ zs)) e ∙ once_both xs a (ys ++ zs)

pub seen_both : (xs ys a b c : List Variable) → b ≡ once_after a xs → c ≡ once_after b ys → c ≡ once_after a (xs ++ ys)
seen_both xs ys a b c e f = f ∙ ap (λ (vs : List Variable). once_after vs ys) e ∙ once_both xs a ys

-- messages have the variables that they have as a list of terms
pub of_messages : (ts : List (Term Variable)) → in_terms (terms_of ts) ≡ in_chain ts
of_messages [] = refl
of_messages (t ∷ ts) = ap (λ (xs : List Variable). in_term t ++ xs) (of_messages ts)

-- the variables of an element are put at the end, and those of the others are left
pub next : {A : Type 0} (each : A → List Variable) (flat : List A → List Variable) → ((x : A) (xs : List A) → flat (x ∷ xs) ≡ each x ++ flat xs)
    → (ys xs : List A) (i : ℕ) (x : A) (a b target : List Variable) → ys ≡ xs → i < length ys → x ≡ get_or ys i x → b ≡ once_after a (each x)
    → once_after a (flat (drop i xs)) ≡ target → once_after b (flat (drop (i + 1) xs)) ≡ target
next {A = A} each flat begins ys xs i x a b target same h e seen inv =
    let there = next_there ys xs i x same h e in
    ap (λ (ls : List Variable). once_after ls (flat (drop (i + 1) xs))) seen
    ∙ once_both (each x) a (flat (drop (i + 1) xs))
    ∙ ap (once_after a) (sym (begins x (drop (i + 1) xs)))
    ∙ ap (λ (zs : List A). once_after a (flat zs)) (sym there) ∙ inv
