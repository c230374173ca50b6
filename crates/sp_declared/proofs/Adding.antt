-- Equations with their variables numbered, and equations that are put behind others, unless they stand there.
use Rattle.std.proofs.Common.{◌≡◌, ◌+◌, ℕ, suc, Bool, true, false, if◌then◌else◌, List, [], ◌∷◌, ◌++◌, length, append-nil, append_assoc, refl, sym, ap, ◌∙◌, arith}
use Rattle.std.proofs.lemmas.List.{map-append}
use Rattle.sp_spec.specs.Term.{Variable, Term, in_term, valued}
use Rattle.sp_spec.specs.Signature.{Equation}
use Rattle.sp_spec.specs.Formula.{Written}
use Rattle.sp_spec.specs.Written.{names_after}
use Rattle.sp_spec_text.specs.Declared.{Numbered, their_equations, stands_among, new_equations, numbered_from, equation_names, equation_variable, equation_of}
use Rattle.sp_declared.specs.Equations.{added_after}

abbrev with_equation : Bool → List Numbered → Numbered → List Numbered
with_equation b before e = if b then before else before ++ e ∷ []

abbrev stands : List Numbered → Numbered → Bool
stands before e = stands_among e.1 (their_equations before)

added_next : (before : List Numbered) (e : Numbered) (more : List Numbered) → added_after before (e ∷ more) ≡ added_after (with_equation (stands before e) before e) more
added_next before e more = at (stands before e)
  where
    at : (b : Bool) → before ++ (if b then new_equations (their_equations before) more else e ∷ new_equations (their_equations before ++ e.1 ∷ []) more) ≡ added_after (with_equation b before e) more
    at true = refl
    at false =
        sym (append_assoc before (e ∷ []) (new_equations (their_equations before ++ e.1 ∷ []) more))
        ∙ ap (λ (es : List Equation). (before ++ e ∷ []) ++ new_equations es more) (sym (map-append (λ (d : Numbered). d.1) before (e ∷ [])))

pub added_one : (before : List Numbered) (e : Numbered) → added_after before (e ∷ []) ≡ with_equation (stands before e) before e
added_one before e = added_next before e [] ∙ append-nil (with_equation (stands before e) before e)

pub added_both : (before more last : List Numbered) → added_after (added_after before more) last ≡ added_after before (more ++ last)
added_both before [] last = ap (λ (es : List Numbered). added_after es last) (append-nil before)
added_both before (e ∷ more) last =
    ap (λ (es : List Numbered). added_after es last) (added_next before e more)
    ∙ added_both (with_equation (stands before e) before e) more last
    ∙ sym (added_next before e (more ++ last))

-- one more behind those that were added
pub added_then : (before more now after : List Numbered) (e : Numbered) → now ≡ added_after before more → after ≡ added_after now (e ∷ []) → after ≡ added_after before (more ++ e ∷ [])
added_then before more now after e so is = is ∙ ap (λ (es : List Numbered). added_after es (e ∷ [])) so ∙ added_both before more (e ∷ [])

pub numbered_last : (n : ℕ) (es : List Equation) (e : Equation) → numbered_from n (es ++ e ∷ []) ≡ numbered_from n es ++ (n + length es, e) ∷ []
numbered_last n [] e = ap (λ (k : ℕ). (let x : Numbered = (k, e) in x) ∷ []) (let same : n ≡ n + 0 = omega arith in same)
numbered_last n (d ∷ es) e =
    ap (λ (ds : List Numbered). (let x : Numbered = (n, d) in x) ∷ ds)
    (numbered_last (suc n) es e ∙ ap (λ (k : ℕ). numbered_from (suc n) es ++ (let x : Numbered = (k, e) in x) ∷ []) (let same : suc n + length es ≡ n + suc (length es) = omega arith in same))

-- an equation is numbered from 1 on, by how many are before it
pub numbered_then : (before now after : List Numbered) (es : List Equation) (e : Equation) (n : ℕ) → n ≡ suc (length es) → now ≡ added_after before (numbered_from 1 es)
    → after ≡ added_after now ((n, e) ∷ []) → after ≡ added_after before (numbered_from 1 (es ++ e ∷ []))
numbered_then before now after es e n count so is =
    added_then before (numbered_from 1 es) now after (n, e) so is
    ∙ ap (λ (k : ℕ). added_after before (numbered_from 1 es ++ (let x : Numbered = (k, e) in x) ∷ [])) (let same : n ≡ 1 + length es = omega arith in same)
    ∙ sym (ap (added_after before) (numbered_last 1 es e))

-- ---- the variables of an equation

pub numbered_equation : (e : Term Written × Term Written) (xs : List Written) (names : List (List ℕ)) (l r : Term Variable) → xs ≡ in_term e.0 ++ in_term e.1 → names ≡ names_after [] xs
    → l ≡ valued (equation_variable names) e.0 → r ≡ valued (equation_variable names) e.1 → (let made : Equation = record { left = l; right = r } in made) ≡ equation_of e
numbered_equation e xs names l r all named left right =
    let made : Term Variable → Term Variable → Equation = λ a b. record { left = a; right = b } in
    let so : names ≡ equation_names e = named ∙ ap (names_after []) all in
    ap (λ a. made a r) (left ∙ ap (λ ns. valued (equation_variable ns) e.0) so)
    ∙ ap (made (valued (equation_variable (equation_names e)) e.0)) (right ∙ ap (λ ns. valued (equation_variable ns) e.1) so)
