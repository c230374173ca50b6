-- Verdicts of lemmas that were tried, counted.
use Rattle.std.proofs.Common.{◌≡◌, ◌+◌, ℕ, suc, Bool, true, false, cond, List, [], ◌∷◌, ◌++◌, append_assoc, codes, decimal, length, filter, count_by, map, refl, sym, ap, ap₂, ◌∙◌, arith}
use Rattle.std.proofs.lemmas.List.Recursion.{is_count_by}
use Rattle.sp_spec_text.specs.Numerals.{counted}
use Rattle.sp_spec_printed.specs.Verdict.{Verdict}
use Rattle.sp_analysis.specs.Shown.{is_verified, is_falsified, is_incomplete, how_many, count_line}
use Rattle.sp_analysis.specs.Printed.{printed_of, verdicts_in, steps_in, counts_in}
use Rattle.sp_analysis.specs.View.{verdict_of}
use Rattle.sp_analysis.specs.declared.tried.Tried.{Tried}

one_kept : {A : Type 0} (b : Bool) (x : A) (xs : List A) → length (cond b (x ∷ xs) xs) ≡ cond b (1 + length xs) (length xs)
one_kept true x xs = omega arith
one_kept false x xs = refl

how_many_tried : (kind : Verdict → Bool) (ts : List Tried) → count_by (λ (t : Tried). kind (verdict_of t.verdict)) ts ≡ how_many kind (verdicts_in (map printed_of ts))
how_many_tried kind ts =
    sym (is_count_by (λ (us : List Tried). how_many kind (verdicts_in (map printed_of us))) (λ (t : Tried). kind (verdict_of t.verdict)) refl
    (λ t us. one_kept (kind (verdict_of t.verdict)) (verdict_of t.verdict) (filter kind (verdicts_in (map printed_of us)))) ts)

as_many_tried : (ts : List Tried) → length ts ≡ length (verdicts_in (map printed_of ts))
as_many_tried [] = refl
as_many_tried (t ∷ ts) = ap suc (as_many_tried ts)

-- ---- their lines

abbrev count_lines : ℕ → ℕ → ℕ → ℕ → ℕ → List ℕ
count_lines count verified falsified incomplete steps =
    count_line (codes "lemmas: ") count ++ (count_line (codes "verified: ") verified ++ (count_line (codes "falsified: ") falsified
    ++ (count_line (codes "incomplete: ") incomplete ++ count_line (codes "steps: ") steps)))

regrouped : (count verified falsified incomplete steps : List ℕ)
    → codes "lemmas: " ++ (count ++ (codes "\nverified: " ++ (verified ++ (codes "\nfalsified: " ++ (falsified ++ (codes "\nincomplete: " ++ (incomplete ++ (codes "\nsteps: " ++ (steps ++ codes "\n")))))))))
    ≡ (codes "lemmas: " ++ (count ++ codes "\n")) ++ ((codes "verified: " ++ (verified ++ codes "\n")) ++ ((codes "falsified: " ++ (falsified ++ codes "\n"))
    ++ ((codes "incomplete: " ++ (incomplete ++ codes "\n")) ++ (codes "steps: " ++ (steps ++ codes "\n")))))
regrouped count verified falsified incomplete steps = simp append_assoc

pub counts_tried : (ts : List Tried) (text : List ℕ) (count verified falsified incomplete steps : ℕ)
    → text ≡ codes "lemmas: " ++ (decimal count ++ (codes "\nverified: " ++ (decimal verified ++ (codes "\nfalsified: " ++ (decimal falsified
    ++ (codes "\nincomplete: " ++ (decimal incomplete ++ (codes "\nsteps: " ++ (decimal steps ++ codes "\n")))))))))
    → count ≡ length ts → verified ≡ count_by (λ (t : Tried). is_verified (verdict_of t.verdict)) ts → falsified ≡ count_by (λ (t : Tried). is_falsified (verdict_of t.verdict)) ts
    → incomplete ≡ count_by (λ (t : Tried). is_incomplete (verdict_of t.verdict)) ts → steps ≡ counted (steps_in (map printed_of ts)) → text ≡ counts_in (map printed_of ts)
counts_tried ts text count verified falsified incomplete steps text_is count_is verified_is falsified_is incomplete_is steps_is =
    let vs = verdicts_in (map printed_of ts) in
    text_is ∙ regrouped (decimal count) (decimal verified) (decimal falsified) (decimal incomplete) (decimal steps)
    ∙ ap₂ (λ (a b : ℕ). count_lines a b falsified incomplete steps) (count_is ∙ as_many_tried ts) (verified_is ∙ how_many_tried is_verified ts)
    ∙ ap₂ (λ (a b : ℕ). count_lines (length vs) (how_many is_verified vs) a b steps) (falsified_is ∙ how_many_tried is_falsified ts) (incomplete_is ∙ how_many_tried is_incomplete ts)
    ∙ ap (count_lines (length vs) (how_many is_verified vs) (how_many is_falsified vs) (how_many is_incomplete vs)) steps_is
