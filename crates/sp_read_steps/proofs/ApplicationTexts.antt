-- What is read of an application is the step that prints as it.
use Rattle.std.proofs.Common.{◌≡◌, ℕ, Bool, true, false, cond, List, [], ◌∷◌, ◌++◌, Some, None, codes, refl, sym, ap, subst, ◌∙◌, append-nil}
use Rattle.std.specs.Prelude.{Option}
use Rattle.std.specs.Str.{bytes_eq}
use Rattle.std.proofs.lemmas.Slice.Eq.{bytes_eq-Decides}
use Rattle.std.proofs.Math.Bool.{and-false}
use Rattle.sp_spec_text.specs.Lex.{skip}
use Rattle.sp_spec.specs.Term.{app, none, more, Ground, Grounds, list_of}
use Rattle.sp_spec.specs.Signature.{Symbol, pair}
use Rattle.sp_spec.specs.Execution.{Step, apply_symbol}
use Rattle.sp_fact.specs.GroundView.{row}
use Rattle.sp_spec_text.specs.Names.{is_reserved, IsNameWord}
use Rattle.sp_spec_printed.specs.Printed.{is_pair, text_at, row_text, term_text}
use Rattle.sp_spec_printed.specs.StepLines.{HaveNames, IsWritable, AreWritable, IsWritableStep}
use Rattle.sp_read_steps.specs.Reading.{named, has_symbol, chain, tuple, pair_step, pairing, unpaired, ReadsRow, next_term, ReadsApplication, no_terms, with_terms, with_parts}
use Rattle.sp_read_steps.proofs.Words.{named_is, named_parts, named_before}
use Rattle.sp_read_steps.proofs.Heads.{has_holds}
use Rattle.sp_read_steps.proofs.Spoken.{RowAt, row_at, over_text, alone, parts_of, chain_writable, tuple_text}
use Rattle.sp_read_steps.proofs.Written.{holds_has, stops_ends, stops_bracket, row_list, is_read, are_read}

-- ---- from what is read to the text

-- the text of the step behind its word
pub record ApplicationAt (symbols : List Symbol) (bytes : List ℕ) (s : Step) : Type 0 where
  pub symbol : List ℕ
  pub terms : Grounds
  pub is : apply_symbol symbol terms ≡ s
  pub parts : bytes ≡ term_text (app symbol terms)
  pub writable : IsWritableStep symbols (apply_symbol symbol terms)

terms_text : (symbols : List Symbol) (bytes f inside : List ℕ) (ts : List Ground) (s : Step) → IsNameWord f → bytes ≡ f ++ 40 ∷ inside → RowAt symbols 41 inside ts [] → unpaired f ts ≡ Some s → ApplicationAt symbols bytes s
terms_text symbols bytes f inside ts s w e r a = by_test (is_pair f (row ts)) refl a
  where
    by_test : (x : Bool) → is_pair f (row ts) ≡ x → cond {A = Option Step} x None (Some (apply_symbol f (row ts))) ≡ Some s → ApplicationAt symbols bytes s
    by_test true k h = absurd (let none : ⊥ = cc in none)
    by_test false k h = record {
      symbol = f;
      terms = row ts;
      is = cc;
      parts = e ∙ ap (λ (xs : List ℕ). f ++ 40 ∷ xs) r.parts ∙ sym (over_text f ts r.some k);
      writable = (w, r.writable);
    }

-- the two parts of a pair
record IsPairing (symbols : List Symbol) (ts : List Ground) (s : Step) : Type 0 where
  left : Ground
  right : Ground
  is : apply_symbol (codes "pair") (more left (more right none)) ≡ s
  chained : tuple ts ≡ Some (pair left right)
  writable : AreWritable symbols (row ts) → AreWritable symbols (more left (more right none))

two_pairing : (symbols : List Symbol) (t u : Ground) (s : Step) → pair_step t (chain (u ∷ [])) ≡ Some s → IsPairing symbols (t ∷ u ∷ []) s
two_pairing symbols t u s h = by_case (chain (u ∷ [])) refl h
  where
    by_case : (o : Option Ground) → chain (u ∷ []) ≡ o → pair_step t o ≡ Some s → IsPairing symbols (t ∷ u ∷ []) s
    by_case None e k = absurd (let none : ⊥ = cc in none)
    by_case (Some w) e k = record {
      left = t;
      right = w;
      is = cc;
      chained = rw e refl;
      writable = λ a. (a.0, (subst (IsWritable symbols) (alone u w e).1 a.1.0, tt));
    }

more_pairing : (symbols : List Symbol) (t u v : Ground) (vs : List Ground) (s : Step) → has_symbol symbols (codes "pair") 2 ≡ true → pair_step t (chain (u ∷ v ∷ vs)) ≡ Some s → IsPairing symbols (t ∷ u ∷ v ∷ vs) s
more_pairing symbols t u v vs s has h = by_case (chain (u ∷ v ∷ vs)) refl h
  where
    by_case : (o : Option Ground) → chain (u ∷ v ∷ vs) ≡ o → pair_step t o ≡ Some s → IsPairing symbols (t ∷ u ∷ v ∷ vs) s
    by_case None e k = absurd (let none : ⊥ = cc in none)
    by_case (Some w) e k = record {
      left = t;
      right = w;
      is = cc;
      chained = rw e refl;
      writable = λ a. (a.0, (chain_writable symbols (u ∷ v ∷ vs) w (has_holds symbols (codes "pair") 2 has) a.1 e, tt));
    }

is_pairing : (symbols : List Symbol) (ts : List Ground) (s : Step) → pairing symbols ts ≡ Some s → IsPairing symbols ts s
is_pairing symbols [] s h = absurd (let none : ⊥ = cc in none)
is_pairing symbols (t ∷ []) s h = absurd (let none : ⊥ = cc in none)
is_pairing symbols (t ∷ u ∷ []) s h = two_pairing symbols t u s h
is_pairing symbols (t ∷ u ∷ v ∷ vs) s h = by_test (has_symbol symbols (codes "pair") 2) refl h
  where
    by_test : (x : Bool) → has_symbol symbols (codes "pair") 2 ≡ x → cond {A = Option Step} x (pair_step t (chain (u ∷ v ∷ vs))) None ≡ Some s → IsPairing symbols (t ∷ u ∷ v ∷ vs) s
    by_test true e k = more_pairing symbols t u v vs s e k
    by_test false e k = absurd (let none : ⊥ = cc in none)

pair_named : IsNameWord (codes "pair")
unfolding is_reserved skip
pair_named = (refl, (refl, refl))

parts_text : (symbols : List Symbol) (bytes inside : List ℕ) (ts : List Ground) (s : Step) → bytes ≡ 60 ∷ inside → RowAt symbols 62 inside ts [] → pairing symbols ts ≡ Some s → ApplicationAt symbols bytes s
parts_text symbols bytes inside ts s e r a =
    let p = is_pairing symbols ts s a in
    record {
      symbol = codes "pair";
      terms = more p.left (more p.right none);
      is = p.is;
      parts = e ∙ ap (λ (xs : List ℕ). 60 ∷ xs) r.parts ∙ sym (tuple_text ts (pair p.left p.right) p.chained);
      writable = (pair_named, p.writable r.writable);
    }

pub application_at : (symbols : List Symbol) {bytes rest : List ℕ} {s : Step} → ReadsApplication symbols bytes s rest → ApplicationAt symbols bytes s
application_at symbols (no_terms {bytes} {f} n) = record { symbol = f; terms = none; is = refl; parts = named_parts bytes f [] n ∙ append-nil f; writable = (named_is bytes f [] n, tt) }
application_at symbols (with_terms {bytes} {f} {inside} {ts} {s} n k a) =
    terms_text symbols bytes f inside ts s (named_is bytes f (40 ∷ inside) n) (named_parts bytes f (40 ∷ inside) n) (row_at symbols k) a
application_at symbols (with_parts {bytes} {inside} {ts} {s} e k a) = parts_text symbols bytes inside ts s e (row_at symbols k) a

-- ---- from the text to what is read

terms_read : (symbols : List Symbol) → HaveNames symbols → (f : List ℕ) (t : Ground) (ts : Grounds) → IsNameWord f → AreWritable symbols (more t ts) → is_pair f (more t ts) ≡ false → ReadsApplication symbols (term_text (app f (more t ts))) (apply_symbol f (more t ts)) []
terms_read symbols s f t ts n w h =
    let inside = text_at false t ++ (row_text false ts ++ 41 ∷ []) in
    let text : term_text (app f (more t ts)) ≡ f ++ 40 ∷ inside = rw h refl in
    let rows : row (t ∷ list_of ts) ≡ more t ts = ap (more t) (row_list ts) in
    let is : unpaired f (t ∷ list_of ts) ≡ Some (apply_symbol f (more t ts)) = rw (rows, h) refl in
    with_terms (ap named text ∙ named_before f (40 ∷ inside) n (stops_bracket inside)) ((are_read symbols s ts w.1).in_row t (is_read symbols s t w.0) []) is

-- the right part of a pair that is a pair has a symbol
pairing_is : (symbols : List Symbol) (t u : Ground) (us : List Ground) → chain us ≡ Some u → IsWritable symbols u → pairing symbols (t ∷ us) ≡ Some (apply_symbol (codes "pair") (more t (more u none)))
pairing_is symbols t u [] h w = absurd (let none : ⊥ = cc in none)
pairing_is symbols t u (x ∷ []) h w = ap (pair_step t) h
pairing_is symbols t u (x ∷ y ∷ us) h w =
    let p = parts_of x (y ∷ us) u h in
    let inner : IsWritable symbols (pair x p.right) = subst (IsWritable symbols) (sym p.is) w in
    rw (holds_has symbols (codes "pair") 2 inner.0) (ap (pair_step t) h)

pair_read : (symbols : List Symbol) → HaveNames symbols → (t u : Ground) → AreWritable symbols (more t (more u none)) → ReadsApplication symbols (term_text (pair t u)) (apply_symbol (codes "pair") (more t (more u none))) []
pair_read symbols s t u w =
    let right = (is_read symbols s u w.1.0).spine [] in
    let inside = text_at false t ++ 44 ∷ 32 ∷ (text_at true u ++ 62 ∷ []) in
    let reads : ReadsRow symbols 62 inside (t ∷ right.terms) [] = next_term ((is_read symbols s t w.0).at_end (44 ∷ 32 ∷ (text_at true u ++ 62 ∷ [])) refl) right.reads in
    let text : term_text (pair t u) ≡ 60 ∷ inside = ap (λ (xs : List ℕ). 60 ∷ (text_at false t ++ 44 ∷ 32 ∷ (xs ++ 62 ∷ []))) (append-nil (text_at true u)) in
    with_parts text reads (pairing_is symbols t u right.terms right.chained w.1.0)

two_read : (symbols : List Symbol) → HaveNames symbols → (f : List ℕ) (t u : Ground) → IsNameWord f → AreWritable symbols (more t (more u none)) → ReadsApplication symbols (term_text (app f (more t (more u none)))) (apply_symbol f (more t (more u none))) []
two_read symbols s f t u n w = by_test (bytes_eq f (codes "pair")) refl
  where
    by_test : (x : Bool) → bytes_eq f (codes "pair") ≡ x → ReadsApplication symbols (term_text (app f (more t (more u none)))) (apply_symbol f (more t (more u none))) []
    by_test true e =
        let is : codes "pair" ≡ f = sym ((bytes_eq-Decides f (codes "pair")).0 e) in
        subst (λ (g : List ℕ). ReadsApplication symbols (term_text (app g (more t (more u none)))) (apply_symbol g (more t (more u none))) []) is (pair_read symbols s t u w)
    by_test false e = terms_read symbols s f t (more u none) n w (rw e refl)

pub application_read : (symbols : List Symbol) → HaveNames symbols → (f : List ℕ) (ts : Grounds) → IsNameWord f → AreWritable symbols ts → ReadsApplication symbols (term_text (app f ts)) (apply_symbol f ts) []
application_read symbols s f none n w = no_terms (subst (λ (xs : List ℕ). named xs ≡ Some (f, [])) (append-nil f) (named_before f [] n (stops_ends [] refl)))
application_read symbols s f (more t none) n w = terms_read symbols s f t none n w (and-false (bytes_eq f (codes "pair")))
application_read symbols s f (more t (more u none)) n w = two_read symbols s f t u n w
application_read symbols s f (more t (more u (more v ts))) n w = terms_read symbols s f t (more u (more v ts)) n w (and-false (bytes_eq f (codes "pair")))
