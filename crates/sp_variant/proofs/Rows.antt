-- Rows that are made one element after the other, from left to right.
use Rattle.std.proofs.Common.{◌≡◌, ℕ, ◌+◌, ◌<◌, ◌≤◌, List, [], ◌∷◌, ◌++◌, map, drop, length, get_or, append-nil, append_assoc, refl, sym, ap, ap₂, ◌∙◌}
use Rattle.std.specs.List.{flat_map}
use Rattle.std.proofs.lemmas.List.{map-append, drop_all}
use Rattle.std.proofs.lemmas.List.Concat.{flat_map-append}
use Rattle.sp_spec.specs.Term.{Variable, Term, Terms, more}
use Rattle.sp_spec.specs.Signature.{Equation}
use Rattle.sp_spec.proofs.Lists.{next_there}
use Rattle.sp_term.specs.View.{terms_of, view}
use Rattle.sp_variant.specs.declared.narrowing.Way.{Way}
use Rattle.sp_variant.specs.View.{chosen_of, list_by, terms_in, way_by}
use Rattle.std.specs.Global.{Vec}
use Rattle.sp_term.specs.declared.term.Term as memory
use Rattle.sp_term.specs.declared.term.Variable as memory_variable
use Rattle.sp_spec_forms.specs.Narrowing.{Chosen, Ways, each, narrow, narrow_all}
use Rattle.sp_variant.specs.Rows.{with_one_more, longer}

-- what a row is with those after it
abbrev pub before_rest : {A : Type 0} → List A → List A × Chosen → List A × Chosen
before_rest row q = (row ++ q.0, q.1)

-- each row with all of these after it
abbrev pub made_longer : {A B : Type 0} → (A → Ways B) → List (List B × Chosen) → List A → List (List B × Chosen)
made_longer m rows xs = flat_map (λ r. map (before_rest r.0) (each m xs r.1)) rows

module _ {A B : Type 0} (m : A → Ways B) where
  pub longer_begins : (s : Chosen) (xs : List A) → made_longer m (([], s) ∷ []) xs ≡ each m xs s
  longer_begins s xs = append-nil (map (before_rest []) (each m xs s)) ∙ itself (each m xs s)
    where
      itself : (qs : List (List B × Chosen)) → map (before_rest []) qs ≡ qs
      itself [] = refl
      itself (q ∷ qs) = ap (λ rest. q ∷ rest) (itself qs)

  pub longer_ends : (rows : List (List B × Chosen)) → made_longer m rows [] ≡ rows
  longer_ends [] = refl
  longer_ends (r ∷ rows) = ap₂ (λ (row : List B) rest. (row, r.1) ∷ rest) (append-nil r.0) (longer_ends rows)

  -- the first of those after it, then the others
  first_of : (row : List B) (y : B) (qs : List (List B × Chosen)) → map (before_rest row) (map (λ q. (y ∷ q.0, q.1)) qs) ≡ map (before_rest (row ++ y ∷ [])) qs
  first_of row y [] = refl
  first_of row y (q ∷ qs) = ap₂ (λ (ys : List B) rest. (ys, q.1) ∷ rest) (sym (append_assoc row (y ∷ []) q.0)) (first_of row y qs)

  of_row : (row : List B) (xs : List A) (ps : List (B × Chosen))
      → map (before_rest row) (flat_map (λ p. map (λ q. (p.0 ∷ q.0, q.1)) (each m xs p.1)) ps) ≡ made_longer m (with_one_more row ps) xs
  of_row row xs [] = refl
  of_row row xs (p ∷ ps) =
      map-append (before_rest row) (map (λ q. (p.0 ∷ q.0, q.1)) (each m xs p.1)) (flat_map (λ r. map (λ q. (r.0 ∷ q.0, q.1)) (each m xs r.1)) ps)
      ∙ ap₂ (λ ys zs. ys ++ zs) (first_of row p.0 (each m xs p.1)) (of_row row xs ps)

  pub longer_next : (rows : List (List B × Chosen)) (x : A) (xs : List A) → made_longer m rows (x ∷ xs) ≡ made_longer m (longer (m x) rows) xs
  longer_next [] x xs = refl
  longer_next (r ∷ rows) x xs =
      ap₂ (λ ys zs. ys ++ zs) (of_row r.0 xs (m x r.1)) (longer_next rows x xs)
      ∙ sym (flat_map-append (λ q. map (before_rest q.0) (each m xs q.1)) (with_one_more r.0 (m x r.1)) (longer (m x) rows))

  -- a loop over what things stand for
  pub longer_at : {T : Type 0} (kind_of : T → A) (xs : List T) (i : ℕ) (x : T) (rows rows' target : List (List B × Chosen)) → i < length xs → x ≡ get_or xs i x
      → rows' ≡ longer (m (kind_of x)) rows → made_longer m rows (map kind_of (drop i xs)) ≡ target → made_longer m rows' (map kind_of (drop (i + 1) xs)) ≡ target
  longer_at kind_of xs i x rows rows' target below is made so =
      let rest = drop (i + 1) xs in
      ap (λ (r : List (List B × Chosen)). made_longer m r (map kind_of rest)) made
      ∙ sym (longer_next rows (kind_of x) (map kind_of rest))
      ∙ sym (ap (λ ys. made_longer m rows (map kind_of ys)) (next_there xs xs i x refl below is))
      ∙ so

  pub longer_done : {T : Type 0} (kind_of : T → A) (xs : List T) (i : ℕ) (rows target : List (List B × Chosen)) → length xs ≤ i
      → made_longer m rows (map kind_of (drop i xs)) ≡ target → rows ≡ target
  longer_done kind_of xs i rows target done so =
      sym (longer_ends rows) ∙ sym (ap (λ ys. made_longer m rows (map kind_of ys)) (drop_all i xs done)) ∙ so

-- one row that has nothing yet
pub one_row : {T A : Type 0} (kind_of : T → A) (no_rows rows : List (Way (Vec T))) (w : Way (Vec T)) (s : Chosen) → no_rows ≡ [] → rows ≡ no_rows ++ w ∷ [] → w.value.items ≡ []
    → chosen_of w.chosen ≡ s → map (way_by (list_by kind_of)) rows ≡ ([], s) ∷ []
one_row {A = A} kind_of no_rows rows w s e is row chosen =
    ap (map (way_by (list_by kind_of))) (is ∙ ap (λ ws. ws ++ w ∷ []) e) ∙ ap₂ (λ ts c. (map kind_of ts, c) ∷ []) row chosen

-- ---- terms as rows

-- terms that are narrowed one after the other are made as rows
abbrev pub as_terms : List (Term Variable) × Chosen → Terms Variable × Chosen
as_terms r = (terms_of r.0, r.1)

pub rows_as_terms : (rows : List (Way (Vec (memory.Term memory_variable.Variable)))) → map (way_by terms_in) rows ≡ map as_terms (map (way_by (list_by view)) rows)
rows_as_terms [] = refl
rows_as_terms (r ∷ rows) = ap (λ rest. way_by terms_in r ∷ rest) (rows_as_terms rows)

module _ (es : List Equation) where
  later_of : (u : Term Variable) (qs : List (List (Term Variable) × Chosen))
      → map (λ q. (more u q.0, q.1)) (map as_terms qs) ≡ map as_terms (map (λ q. (u ∷ q.0, q.1)) qs)
  later_of u [] = refl
  later_of u (q ∷ qs) = ap (λ rest. (more u (terms_of q.0), q.1) ∷ rest) (later_of u qs)

  pub narrow_all-each : (ts : List (Term Variable)) (s : Chosen) → narrow_all es (terms_of ts) s ≡ map as_terms (each (narrow es) ts s)
  narrow_all-each [] s = refl
  narrow_all-each (t ∷ ts) s = of_first (λ r. narrow_all-each ts r) (narrow es t s)
    where
      of_first : ((r : Chosen) → narrow_all es (terms_of ts) r ≡ map as_terms (each (narrow es) ts r)) → (ps : List (Term Variable × Chosen))
          → flat_map (λ p. map (λ q. (more p.0 q.0, q.1)) (narrow_all es (terms_of ts) p.1)) ps
          ≡ map as_terms (flat_map (λ p. map (λ q. (p.0 ∷ q.0, q.1)) (each (narrow es) ts p.1)) ps)
      of_first h [] = refl
      of_first h (p ∷ ps) =
          ap₂ (λ ys zs. ys ++ zs) (ap (map (λ q. (more p.0 q.0, q.1))) (h p.1) ∙ later_of p.0 (each (narrow es) ts p.1)) (of_first h ps)
          ∙ sym (map-append as_terms (map (λ q. (p.0 ∷ q.0, q.1)) (each (narrow es) ts p.1)) (flat_map (λ r. map (λ q. (r.0 ∷ q.0, q.1)) (each (narrow es) ts r.1)) ps))
