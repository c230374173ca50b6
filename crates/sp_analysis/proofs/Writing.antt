-- One more lemma is written.
use Rattle.std.proofs.Common.{◌≡◌, ◌<◌, ◌≤◌, ◌+◌, ℕ, arith, List, [], ◌∷◌, ◌++◌, map, codes, length, get_or, drop, sym, ap, ◌∙◌, subst, append_assoc}
use Rattle.sp_spec_text.specs.Spans.{Span, Rise, goes_on}
use Rattle.sp_written.specs.Views as view
use Rattle.sp_law_reread.specs.Again.{between}
use Rattle.sp_spec.proofs.Lists.{next_item}
use Rattle.sp_analysis.specs.Printed.{printed_of, spliced}
use Rattle.sp_analysis.specs.declared.tried.Tried.{Tried}

pub proof_written : (out more all text proof : List ℕ) (start end place : ℕ) (ts : List Tried) (t : Tried) → place < length ts → t ≡ get_or ts place t
    → out ++ spliced text start (map printed_of (drop place ts)) end ≡ all → proof ≡ (printed_of t).proof
    → more ≡ out ++ (between start t.span.from text ++ (codes "\n" ++ proof)) → more ++ spliced text (goes_on text (view.span_of t.span)) (map printed_of (drop (place + 1) ts)) end ≡ all
proof_written out more all text proof start end place ts t below is so proof_is more_is =
    let rest = spliced text (goes_on text (view.span_of t.span)) (map printed_of (drop (place + 1) ts)) end in
    let k = printed_of t in
    ap (λ (xs : List ℕ). xs ++ rest) (more_is ∙ ap (λ (b : List ℕ). out ++ (between start t.span.from text ++ (codes "\n" ++ b))) proof_is)
    ∙ joined out (between start t.span.from text) (codes "\n") k.proof rest
    ∙ sym (ap (λ (us : List Tried). out ++ spliced text start (map printed_of us) end) (next_item ts place t below is)) ∙ so
  where
    joined : (a b c d e : List ℕ) → (a ++ (b ++ (c ++ d))) ++ e ≡ a ++ (b ++ (c ++ (d ++ e)))
    joined a b c d e = append_assoc a (b ++ (c ++ d)) e ∙ ap (λ (xs : List ℕ). a ++ xs) (append_assoc b (c ++ d) e ∙ ap (λ (xs : List ℕ). b ++ xs) (append_assoc c d e))

-- the next lemma, of the lemmas as they are walked
pub record IsNext (ts : List Tried) (place : ℕ) (t : Tried) : Type 0 where
  pub below : place < length ts
  pub is : t ≡ get_or ts place t

pub next_in : (walked ts : List Tried) (place : ℕ) (t : Tried) → walked ≡ ts → place < length walked → t ≡ get_or walked place t → IsNext ts place t
next_in walked ts place t same below is = subst (λ (us : List Tried). IsNext us place t) same (record { below = below; is = is })

-- where the next proof stands
pub record Next (text : List ℕ) (start : ℕ) (span : Span) (end : ℕ) (ts : List Tried) (place : ℕ) : Type 0 where
  pub later : start ≤ span.from
  pub ordered : span.from ≤ span.to
  pub within : goes_on text span ≤ end
  pub reached : span.to ≤ goes_on text span
  pub rise : Rise text (goes_on text span) (map (λ (u : Tried). view.span_of u.span) (drop (place + 1) ts)) end

pub goes_further : (text : List ℕ) (span : Span) → span.to ≤ goes_on text span
goes_further text span = grind arith

pub low_end : (text : List ℕ) (low : ℕ) (spans : List Span) (end : ℕ) → Rise text low spans end → low ≤ end
low_end text low [] end h = h
low_end text low (span ∷ spans) end h =
    let later = low_end text (goes_on text span) spans end h.2 in
    let further = goes_further text span in
    omega (arith, h.0, h.1, further, later)

pub next_place : (text : List ℕ) (start end place : ℕ) (ts : List Tried) (t : Tried) → place < length ts → t ≡ get_or ts place t
    → Rise text start (map (λ (u : Tried). view.span_of u.span) (drop place ts)) end → Next text start (view.span_of t.span) end ts place
next_place text start end place ts t below is rise =
    let h = subst (λ (us : List Tried). Rise text start (map (λ (u : Tried). view.span_of u.span) us) end) (next_item ts place t below is) rise in
    record {
      later = h.0;
      ordered = h.1;
      within = low_end text (goes_on text (view.span_of t.span)) (map (λ (u : Tried). view.span_of u.span) (drop (place + 1) ts)) end h.2;
      reached = goes_further text (view.span_of t.span);
      rise = h.2;
    }
