-- What the test tells of a system.
use Rattle.std.proofs.Common.{◌≡◌, ◌⊎◌, ⊎_elim, ◌<◌, ℕ, ◌==◌, Option, Some, None, is_some, Bool, true, not, ◌&&◌, ◌||◌, List, [], ◌∷◌, inl, inr, refl, ap₂, subst}
use Rattle.std.specs.List.{list_all}
use Rattle.std.proofs.lemmas.Bool.{or_cases, and_parts, eqb-true, not-true}
use Rattle.sp_spec.specs.Lists.{Member}
use Rattle.sp_spec.proofs.Lists.{every_weaken}
use Rattle.sp_spec.specs.Term.{Sort, Msg, Pub, Variable, Term, var, constant}
use Rattle.sp_spec.specs.Same.{same_sort, same_variable, alike}
use Rattle.sp_spec.proofs.Same.{same_sort_itself, same_variable_decides, alike_same}
use Rattle.sp_spec.specs.Log.{Entry}
use Rattle.sp_spec_system.specs.System.{System}
use Rattle.sp_spec_system.specs.Order.{is_before}
use Rattle.sp_spec_system.specs.Numbered.{names_in, InEvent, HappenOnce, IsNumbered}
use Rattle.sp_spec_formula.specs.Sides.{are_apart}
use Rattle.sp_spec_solved.specs.Candidate.{candidate}
use Rattle.sp_spec_solved.specs.Naming.{in_events}
use Rattle.sp_law_system.proofs.Numbers.{event_weaken}
use Rattle.sp_law_candidate.specs.Laws.{HasSourceEvent, IsListable}
use Rattle.sp_law_candidate.proofs.Ready.{suggests_alone}
use Rattle.sp_law_exchange.specs.Laws.{any_variable, any_time}
use Rattle.sp_law_decided.specs.Decided.{told_times, StandApart, HasLink, IsDecided}
use Rattle.sp_law_decided.specs.Test.{is_compared, are_compared, is_told, is_told_from, is_named, all_else, leaves_nothing}
use Rattle.sp_law_decided.proofs.Sources.{link_is}

one_passes : {A : Type 0} (test : A → Bool) (xs : List A) → list_all test xs ≡ true → (x : A) → Member x xs → test x ≡ true
one_passes test [] e x m = absurd m
one_passes test (y ∷ ys) e x (inl k) = subst (λ z. test z ≡ true) k (and_parts (test y) (list_all test ys) e).0
one_passes test (y ∷ ys) e x (inr m) = one_passes test ys (and_parts (test y) (list_all test ys) e).1 x m

-- and each with each
two_pass : {A : Type 0} (test : A → A → Bool) (xs : List A) → list_all (λ x. list_all (test x) xs) xs ≡ true → (x y : A) → Member x xs → Member y xs → test x y ≡ true
two_pass test xs e x y m k = one_passes (test x) xs (one_passes (λ z. list_all (test z) xs) xs e x m) y k

compared : (order : List (ℕ × ℕ)) (i j : ℕ) → is_compared order i j ≡ true → (i ≡ j → ⊥) → (is_before order i j ≡ true) ⊎ (is_before order j i ≡ true)
compared order i j e n = ⊎_elim (λ k. absurd (n (eqb-true i j k))) (λ k. or_cases (is_before order i j) (is_before order j i) k) (or_cases (i == j) (is_before order i j || is_before order j i) e)

-- ---- unequal pairs

pair_is : (p : Term Variable × Term Variable) (t u : Term Variable) → (alike p.0 t && alike p.1 u) ≡ true → p ≡ (t, u)
pair_is p t u e = let both = and_parts (alike p.0 t) (alike p.1 u) e in ap₂ (λ (a b : Term Variable). (a, b)) (alike_same p.0 t both.0) (alike_same p.1 u both.1)

pub apart_there : (pairs : List (Term Variable × Term Variable)) (t u : Term Variable) → are_apart pairs t u ≡ true → Member (t, u) pairs ⊎ Member (u, t) pairs
apart_there [] t u e = absurd cc
apart_there (p ∷ pairs) t u e =
    ⊎_elim
    (λ k. ⊎_elim (λ l. inl (inl (pair_is p t u l))) (λ l. inr (inl (pair_is p u t l))) (or_cases (alike p.0 t && alike p.1 u) (alike p.0 u && alike p.1 t) k))
    (λ k. ⊎_elim (λ m. inl (inr m)) (λ m. inr (inr m)) (apart_there pairs t u k))
    (or_cases (alike p.0 t && alike p.1 u || alike p.0 u && alike p.1 t) (are_apart pairs t u) e)

-- what is said of sorts that differ isn't said of one
not_other : (a b : Sort) → not (same_sort a b) ≡ true → a ≡ b → ⊥
not_other a b e same =
    let differ = not-true (same_sort a b) e in
    let itself = subst (λ (c : Sort). same_sort a c ≡ true) same (same_sort_itself a) in cc

told : (s : System) (x y : Variable) → is_told s x y ≡ true → x.sort ≡ y.sort → (x ≡ y → ⊥) → StandApart s (var x) (var y)
told s x y e same n =
    ⊎_elim (λ k. absurd (n ((same_variable_decides x y).0 k)))
    (λ k. ⊎_elim (λ l. absurd (not_other x.sort y.sort l same)) (λ l. apart_there s.unequal (var x) (var y) l) (or_cases (not (same_sort x.sort y.sort)) (are_apart s.unequal (var x) (var y)) k))
    (or_cases (same_variable x y) (not (same_sort x.sort y.sort) || are_apart s.unequal (var x) (var y)) e)

told_from : (s : System) (constants : List (List ℕ)) (x : Variable) → is_told_from s constants x ≡ true → x.sort ≡ Pub → (c : List ℕ) → Member c constants → StandApart s (var x) (constant c)
told_from s constants x e same c m =
    ⊎_elim (λ l. absurd (not_other x.sort Pub l same))
    (λ l. apart_there s.unequal (var x) (constant c) (one_passes (λ (d : List ℕ). are_apart s.unequal (var x) (constant d)) constants l c m))
    (or_cases (not (same_sort x.sort Pub)) (list_all (λ (d : List ℕ). are_apart s.unequal (var x) (constant d)) constants) e)

-- ---- what suggests a log

listable : (constants : List (List ℕ)) (s : System) → is_some (candidate constants s) ≡ true → IsListable s
listable constants s e = at (candidate constants s) refl e
  where
    at : (o : Option (List Entry)) → candidate constants s ≡ o → is_some o ≡ true → IsListable s
    at None h k = absurd cc
    at (Some entries) h k = suggests_alone constants s entries h

source_linked : (s : System) (i p : ℕ) → HasSourceEvent s i p → HasLink s i p
source_linked s i p h = let is = link_is s.links i p h.0 h.1 in (h.0, is.0, is.1, is.2)

module _ (constants : List (List ℕ)) (s : System) (numbered : IsNumbered (names_in constants) s) (once : HappenOnce s.events) (e : leaves_nothing constants s ≡ true) where
  pub tested : IsDecided constants s
  tested =
      let xs = in_events s.events in
      let suggests = is_some (candidate constants s) in
      let from = list_all (is_told_from s constants) xs in
      let apart = list_all (λ (x : Variable). list_all (is_told s x) xs) xs in
      let named = list_all is_named xs in
      let p0 = and_parts (are_compared s.order (told_times s)) (all_else constants s) e in
      let p1 = and_parts s.closed (named && (apart && (from && suggests))) p0.1 in
      let p2 = and_parts named (apart && (from && suggests)) p1.1 in
      let p3 = and_parts apart (from && suggests) p2.1 in
      let p4 = and_parts from suggests p3.1 in
      let h = listable constants s p4.1 in
      record {
        closed = p1.0;
        once = once;
        compared = λ i j m k n. compared s.order i j (two_pass (is_compared s.order) (told_times s) p0.0 i j m k) n;
        names = every_weaken (InEvent (names_in constants) (λ x. x.number < s.next) (λ i. i < s.next)) (InEvent (names_in constants) any_variable any_time)
            (event_weaken (names_in constants) (λ x. x.number < s.next) any_variable (λ i. i < s.next) any_time (λ x k. tt) (λ i k. tt)) s.events numbered.events;
        named = λ x m is. not_other x.sort Msg (one_passes is_named xs p2.0 x m) is;
        apart = λ x y m k same n. told s x y (two_pass (is_told s) xs p3.0 x y m k) same n;
        others = λ x m same c k. told_from s constants x (one_passes (is_told_from s constants) xs p4.0 x m) same c k;
        settled = h.settled;
        linked = λ d m p f a none. source_linked s d.time p (h.given d m p f a none);
        placed = h.placed;
      }
