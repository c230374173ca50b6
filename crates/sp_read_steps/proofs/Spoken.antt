-- What is read is the text of the term.
use Rattle.std.proofs.Common.{◌≡◌, ℕ, suc, ◌<◌, Bool, true, false, cond, List, [], ◌∷◌, ◌++◌, length, Some, None, codes, refl, sym, ap, subst, ◌∙◌, append_assoc, append-nil, arith}
use Rattle.std.specs.Prelude.{Option, ◌&&◌, not}
use Rattle.std.proofs.lemmas.Bool.{and_parts, not-true}
use Rattle.sp_spec.specs.Term.{var, constant, name, app, none, more, Ground, count}
use Rattle.sp_spec.specs.Signature.{Symbol, HasSymbol, pair}
use Rattle.sp_fact.specs.GroundView.{row}
use Rattle.sp_spec_printed.specs.Printed.{is_pair, text_at, row_text, term_text, arguments_text}
use Rattle.sp_spec_printed.specs.StepLines.{IsWritable, AreWritable}
use Rattle.sp_read_steps.specs.Reading.{has_symbol, ends, is_pair_term, paired_with, chain, tuple, applied, paired, whole, over, opened, Reads, read_whole, read_over, read_pair, ReadsRow, last_term, next_term}
use Rattle.sp_read_steps.proofs.Heads.{TextAt, has_holds, text_of_head}

pub as_many : (ts : List Ground) → count (row ts) ≡ length ts
as_many [] = refl
as_many (t ∷ ts) = ap suc (as_many ts)

-- terms, and what closes their row
pub record RowAt (symbols : List Symbol) (close : ℕ) (bytes : List ℕ) (ts : List Ground) (rest : List ℕ) : Type 0 where
  pub some : 0 < length ts
  pub parts : bytes ≡ arguments_text (row ts) ++ close ∷ rest
  pub writable : AreWritable symbols (row ts)

row_joined : (ts : List Ground) → 0 < length ts → row_text false (row ts) ≡ 44 ∷ 32 ∷ arguments_text (row ts)
row_joined [] h = absurd (let none : ⊥ = omega arith in none)
row_joined (t ∷ ts) h = refl

next_text : (t : Ground) (ts : List Ground) (end : List ℕ) → 0 < length ts → term_text t ++ 44 ∷ 32 ∷ (arguments_text (row ts) ++ end) ≡ arguments_text (row (t ∷ ts)) ++ end
next_text t ts end h =
    let e : arguments_text (row (t ∷ ts)) ≡ term_text t ++ 44 ∷ 32 ∷ arguments_text (row ts) = ap (λ (xs : List ℕ). term_text t ++ xs) (row_joined ts h) in
    sym (ap (λ (xs : List ℕ). xs ++ end) e ∙ append_assoc (term_text t) (44 ∷ 32 ∷ arguments_text (row ts)) end)

-- ---- symbols over terms

pub over_text : (f : List ℕ) (ts : List Ground) → 0 < length ts → is_pair f (row ts) ≡ false → term_text (app f (row ts)) ≡ f ++ 40 ∷ (arguments_text (row ts) ++ 41 ∷ [])
over_text f [] s h = absurd (let none : ⊥ = omega arith in none)
over_text f (t ∷ ts) s h = rw h (ap (λ (xs : List ℕ). f ++ 40 ∷ xs) (sym (append_assoc (term_text t) (row_text false (row ts)) (41 ∷ []))))

applied_text : (symbols : List Symbol) (f : List ℕ) (ts : List Ground) (t : Ground) (bytes inside rest : List ℕ) → bytes ≡ f ++ 40 ∷ inside → RowAt symbols 41 inside ts rest → applied symbols f ts rest ≡ Some t → TextAt symbols bytes t rest
applied_text symbols f ts t bytes inside rest e r a = by_test (has_symbol symbols f (length ts) && not (is_pair f (row ts)) && ends rest) refl a
  where
    by_test : (x : Bool) → (has_symbol symbols f (length ts) && not (is_pair f (row ts)) && ends rest) ≡ x → cond {A = Option Ground} x (Some (app f (row ts))) None ≡ Some t → TextAt symbols bytes t rest
    by_test true k s =
        let is : app f (row ts) ≡ t = cc in
        let two = (and_parts (has_symbol symbols f (length ts) && not (is_pair f (row ts))) (ends rest) k).0 in
        let has = has_holds symbols f (length ts) (and_parts (has_symbol symbols f (length ts)) (not (is_pair f (row ts))) two).0 in
        let other = not-true (is_pair f (row ts)) (and_parts (has_symbol symbols f (length ts)) (not (is_pair f (row ts))) two).1 in
        let text : bytes ≡ term_text (app f (row ts)) ++ rest =
        e ∙ ap (λ (xs : List ℕ). f ++ 40 ∷ xs) (r.parts ∙ sym (append_assoc (arguments_text (row ts)) (41 ∷ []) rest))
        ∙ sym (append_assoc f (40 ∷ (arguments_text (row ts) ++ 41 ∷ [])) rest) ∙ ap (λ (xs : List ℕ). xs ++ rest) (sym (over_text f ts r.some other)) in
        subst (λ (u : Ground). TextAt symbols bytes u rest) is (record {
          parts = text;
          writable = (subst (λ (n : ℕ). HasSymbol symbols f n) (sym (as_many ts)) has, r.writable);
          ended_by = (and_parts (has_symbol symbols f (length ts) && not (is_pair f (row ts))) (ends rest) k).1;
        })
    by_test false k s = absurd (let none : ⊥ = cc in none)

-- ---- pairs

pub alone_text : (t : Ground) → is_pair_term t ≡ false → text_at true t ≡ text_at false t
alone_text (var x) h = refl
alone_text (constant c) h = refl
alone_text (name n) h = refl
alone_text (app f none) h = refl
alone_text (app f (more t ts)) h = rw h refl

-- the parts of a pair
pub record Parts (t : Ground) (ts : List Ground) (w : Ground) : Type 0 where
  pub right : Ground
  pub behind : chain ts ≡ Some right
  pub is : pair t right ≡ w

pub parts_of : (t : Ground) (ts : List Ground) (w : Ground) → paired_with t (chain ts) ≡ Some w → Parts t ts w
parts_of t ts w h = by_case (chain ts) refl h
  where
    by_case : (o : Option Ground) → chain ts ≡ o → paired_with t o ≡ Some w → Parts t ts w
    by_case None e k = absurd (let none : ⊥ = cc in none)
    by_case (Some u) e k = record { right = u; behind = e; is = cc }

-- a term alone is no pair
pub alone : (t w : Ground) → chain (t ∷ []) ≡ Some w → (is_pair_term t ≡ false) × (t ≡ w)
alone t w h = by_test (is_pair_term t) refl h
  where
    by_test : (x : Bool) → is_pair_term t ≡ x → cond {A = Option Ground} x None (Some t) ≡ Some w → (is_pair_term t ≡ false) × (t ≡ w)
    by_test true e k = absurd (let none : ⊥ = cc in none)
    by_test false e k = (e, cc)

chain_text : (ts : List Ground) (w : Ground) → chain ts ≡ Some w → text_at true w ≡ arguments_text (row ts)
chain_text [] w h = absurd (let none : ⊥ = cc in none)
chain_text (t ∷ []) w h =
    let a = alone t w h in
    ap (text_at true) (sym a.1) ∙ alone_text t a.0 ∙ sym (append-nil (text_at false t))
chain_text (t ∷ u ∷ us) w h =
    let p = parts_of t (u ∷ us) w h in
    let r = chain_text (u ∷ us) p.right p.behind in
    ap (text_at true) (sym p.is) ∙ ap (λ (xs : List ℕ). text_at false t ++ 44 ∷ 32 ∷ xs) (append-nil (text_at true p.right) ∙ r)

pub chain_writable : (symbols : List Symbol) (ts : List Ground) (w : Ground) → HasSymbol symbols (codes "pair") 2 → AreWritable symbols (row ts) → chain ts ≡ Some w → IsWritable symbols w
chain_writable symbols [] w s a h = absurd (let none : ⊥ = cc in none)
chain_writable symbols (t ∷ []) w s a h = subst (IsWritable symbols) (alone t w h).1 a.0
chain_writable symbols (t ∷ u ∷ us) w s a h =
    let p = parts_of t (u ∷ us) w h in
    subst (IsWritable symbols) p.is (s, (a.0, (chain_writable symbols (u ∷ us) p.right s a.1 p.behind, tt)))

-- the text of a pair is its terms in brackets
pub tuple_text : (ts : List Ground) (w : Ground) → tuple ts ≡ Some w → term_text w ≡ 60 ∷ (arguments_text (row ts) ++ 62 ∷ [])
tuple_text [] w h = absurd (let none : ⊥ = cc in none)
tuple_text (t ∷ []) w h = absurd (let none : ⊥ = cc in none)
tuple_text (t ∷ u ∷ us) w h =
    let p = parts_of t (u ∷ us) w h in
    let r : text_at true p.right ++ [] ≡ arguments_text (row (u ∷ us)) = append-nil (text_at true p.right) ∙ chain_text (u ∷ us) p.right p.behind in
    ap term_text (sym p.is) ∙ ap (λ (xs : List ℕ). 60 ∷ (text_at false t ++ (44 ∷ 32 ∷ xs ++ 62 ∷ []))) r ∙ ap (λ (xs : List ℕ). 60 ∷ xs) (sym (append_assoc (text_at false t) (44 ∷ 32 ∷ arguments_text (row (u ∷ us))) (62 ∷ [])))

tuple_writable : (symbols : List Symbol) (ts : List Ground) (w : Ground) → HasSymbol symbols (codes "pair") 2 → AreWritable symbols (row ts) → tuple ts ≡ Some w → IsWritable symbols w
tuple_writable symbols [] w s a h = absurd (let none : ⊥ = cc in none)
tuple_writable symbols (t ∷ []) w s a h = absurd (let none : ⊥ = cc in none)
tuple_writable symbols (t ∷ u ∷ us) w s a h = chain_writable symbols (t ∷ u ∷ us) w s a h

paired_text : (symbols : List Symbol) (ts : List Ground) (t : Ground) (bytes inside rest : List ℕ) → bytes ≡ 60 ∷ inside → RowAt symbols 62 inside ts rest → paired symbols ts rest ≡ Some t → TextAt symbols bytes t rest
paired_text symbols ts t bytes inside rest e r a = by_test (has_symbol symbols (codes "pair") 2 && ends rest) refl a
  where
    by_test : (x : Bool) → (has_symbol symbols (codes "pair") 2 && ends rest) ≡ x → cond {A = Option Ground} x (tuple ts) None ≡ Some t → TextAt symbols bytes t rest
    by_test true k s =
        let has = has_holds symbols (codes "pair") 2 (and_parts (has_symbol symbols (codes "pair") 2) (ends rest) k).0 in
        record {
          parts = e ∙ ap (λ (xs : List ℕ). 60 ∷ xs) (r.parts ∙ sym (append_assoc (arguments_text (row ts)) (62 ∷ []) rest)) ∙ ap (λ (xs : List ℕ). xs ++ rest) (sym (tuple_text ts t s));
          writable = tuple_writable symbols ts t has r.writable s;
          ended_by = (and_parts (has_symbol symbols (codes "pair") 2) (ends rest) k).1;
        }
    by_test false k s = absurd (let none : ⊥ = cc in none)

-- ---- terms

mutual
  pub reads_text : (symbols : List Symbol) {bytes rest : List ℕ} {t : Ground} → Reads symbols bytes t rest → TextAt symbols bytes t rest
  reads_text symbols (read_whole {bytes} {rest} {t} e) = text_of_head symbols bytes (whole t rest) e
  reads_text symbols (read_over {bytes} {inside} {rest} {f} {ts} {t} e k a) = applied_text symbols f ts t bytes inside rest (text_of_head symbols bytes (over f inside) e) (row_at symbols k) a
  reads_text symbols (read_pair {bytes} {inside} {rest} {ts} {t} e k a) = paired_text symbols ts t bytes inside rest (text_of_head symbols bytes (opened inside) e) (row_at symbols k) a

  pub row_at : (symbols : List Symbol) {close : ℕ} {bytes rest : List ℕ} {ts : List Ground} → ReadsRow symbols close bytes ts rest → RowAt symbols close bytes ts rest
  row_at symbols {close} (last_term {rest = rest} {t = t} k) =
      let one = reads_text symbols k in
      record { some = omega arith; parts = one.parts ∙ ap (λ (xs : List ℕ). xs ++ close ∷ rest) (sym (append-nil (term_text t))); writable = (one.writable, tt) }
  row_at symbols {close} (next_term {mid = mid} {rest = rest} {t = t} {ts = ts} k l) =
      let one = reads_text symbols k in
      let two = row_at symbols l in
      record {
        some = omega arith;
        parts = one.parts ∙ ap (λ (xs : List ℕ). term_text t ++ 44 ∷ 32 ∷ xs) two.parts ∙ next_text t ts (close ∷ rest) two.some;
        writable = (one.writable, two.writable);
      }
