-- Quantifiers by the assignments that arise from one by values of their binders.
use Rattle.std.proofs.Common.{◌≡◌, ℕ, zero, suc, ◌<◌, List, [], ◌∷◌, refl, sym, ap, subst}
use Rattle.std.proofs.Math.Path.{fun_ext}
use Rattle.sp_spec.specs.Lists.{Classically}
use Rattle.sp_spec.specs.Term.{Ground, Values}
use Rattle.sp_spec.specs.Signature.{Signature, IsValue}
use Rattle.sp_spec.specs.Guarded.{Binder, message, time, Assignment, pushed, with_term, with_time, SomeValues, EachValues}

module _ (signature : Signature) (n : ℕ) where
  -- the second arises from the first by values of the binders
  abbrev pub Arises : List Binder → Assignment → Assignment → Type 0
  Arises [] m w = m ≡ w
  Arises (message sort ∷ bs) m w = (t : Ground) × IsValue signature sort t × Arises bs (with_term t m) w
  Arises (time ∷ bs) m w = (p : ℕ) × (p < n) × Arises bs (with_time p m) w

  module _ (P : Assignment → Type 0) where
    pub some_from : (bs : List Binder) (m w : Assignment) → Arises bs m w → P w → SomeValues signature n bs P m
    some_from [] m w a p = subst P (sym a) p
    some_from (message sort ∷ bs) m w a p = λ none. none (a.0, a.1, some_from bs (with_term a.0 m) w a.2 p)
    some_from (time ∷ bs) m w a p = λ none. none (a.0, a.1, some_from bs (with_time a.0 m) w a.2 p)

    pub some_is : (bs : List Binder) (m : Assignment) → SomeValues signature n bs P m → Classically ((w : Assignment) × Arises bs m w × P w)
    some_is [] m h = λ none. none (m, refl, h)
    some_is (message sort ∷ bs) m h = λ none. h (λ x. some_is bs (with_term x.0 m) x.2 (λ y. none (y.0, (x.0, x.1, y.1), y.2)))
    some_is (time ∷ bs) m h = λ none. h (λ x. some_is bs (with_time x.0 m) x.2 (λ y. none (y.0, (x.0, x.1, y.1), y.2)))

    pub each_from : (bs : List Binder) (m : Assignment) → ((w : Assignment) → Arises bs m w → P w) → EachValues signature n bs P m
    each_from [] m h = h m refl
    each_from (message sort ∷ bs) m h = λ t s. each_from bs (with_term t m) (λ w a. h w (t, s, a))
    each_from (time ∷ bs) m h = λ p l. each_from bs (with_time p m) (λ w a. h w (p, l, a))

    pub each_is : (bs : List Binder) (m w : Assignment) → EachValues signature n bs P m → Arises bs m w → P w
    each_is [] m w h a = subst P a h
    each_is (message sort ∷ bs) m w h a = each_is bs (with_term a.0 m) w (h a.0 a.1) a.2
    each_is (time ∷ bs) m w h a = each_is bs (with_time a.0 m) w (h a.0 a.1) a.2

  -- what isn't bound stays
  pub arises_terms : (bs : List Binder) (m w : Assignment) → Arises bs m w → m.terms ≡ w.terms
  arises_terms [] m w a = ap (λ (x : Assignment). x.terms) a
  arises_terms (message sort ∷ bs) m w a = arises_terms bs (with_term a.0 m) w a.2
  arises_terms (time ∷ bs) m w a = arises_terms bs (with_time a.0 m) w a.2

  pub arises_times : (bs : List Binder) (m w : Assignment) → Arises bs m w → m.times ≡ w.times
  arises_times [] m w a = ap (λ (x : Assignment). x.times) a
  arises_times (message sort ∷ bs) m w a = arises_times bs (with_term a.0 m) w a.2
  arises_times (time ∷ bs) m w a = arises_times bs (with_time a.0 m) w a.2

abbrev pub assigned : Values → (ℕ → ℕ) → (ℕ → Ground) → (ℕ → ℕ) → Assignment
assigned terms times bound_terms bound_times = record { terms = terms; times = times; bound_terms = bound_terms; bound_times = bound_times }

-- what is assigned outside of binders
abbrev pub without_term : Assignment → Assignment
without_term m = assigned m.terms m.times (λ k. m.bound_terms (suc k)) m.bound_times

abbrev pub without_time : Assignment → Assignment
without_time m = assigned m.terms m.times m.bound_terms (λ k. m.bound_times (suc k))

abbrev pub outside : List Binder → Assignment → Assignment
outside [] w = w
outside (message sort ∷ bs) w = without_term (outside bs w)
outside (time ∷ bs) w = without_time (outside bs w)

pushed_again : {A : Type 0} (f : ℕ → A) (k : ℕ) → f k ≡ pushed (f zero) (λ j. f (suc j)) k
pushed_again f zero = refl
pushed_again f (suc k) = refl

pub term_again : (m : Assignment) → m ≡ with_term (m.bound_terms zero) (without_term m)
term_again m = ap (λ (f : ℕ → Ground). assigned m.terms m.times f m.bound_times) (fun_ext (pushed_again m.bound_terms))

pub time_again : (m : Assignment) → m ≡ with_time (m.bound_times zero) (without_time m)
time_again m = ap (λ (f : ℕ → ℕ). assigned m.terms m.times m.bound_terms f) (fun_ext (pushed_again m.bound_times))

pub outside_terms : (bs : List Binder) (w : Assignment) → (outside bs w).terms ≡ w.terms
outside_terms [] w = refl
outside_terms (message sort ∷ bs) w = outside_terms bs w
outside_terms (time ∷ bs) w = outside_terms bs w

pub outside_times : (bs : List Binder) (w : Assignment) → (outside bs w).times ≡ w.times
outside_times [] w = refl
outside_times (message sort ∷ bs) w = outside_times bs w
outside_times (time ∷ bs) w = outside_times bs w
