-- The unifier of terms over the symbols binds variables to terms over them.
use Rattle.std.proofs.Common.{◌≡◌, ⊎_elim, inl, inr, ℕ, suc, Bool, true, false, cond, ◌&&◌, ◌||◌, List, [], ◌∷◌, Some, refl, sym, ap, ◌∙◌, subst, true≢false, nat_eq}
use Rattle.std.proofs.lemmas.Bool.{and_from, and_parts, or_left, or_right, or_cases, eqb-true, eq-eqb}
use Rattle.std.proofs.lemmas.Slice.Eq.{bytes_eq-Decides}
use Rattle.std.specs.Str.{bytes_eq}
use Rattle.sp_spec.specs.Lists.{Member, Every}
use Rattle.sp_spec.specs.Term.{Sort, Msg, Fresh, Pub, Variable, Term, var, constant, name, app, Terms, none, more, Ground, Grounds, count, Values, valued, valued_all}
use Rattle.sp_spec.specs.Signature.{Symbol, HasSymbol, IsOver, AreOver, HasSort}
use Rattle.sp_spec.specs.Substitution.{Binding, bound_to}
use Rattle.sp_spec.specs.Unifier.{Pair, MakesSame, mgu}
use Rattle.sp_law_unify.specs.MostGeneral.{AreSolution}
use Rattle.sp_law_unify.proofs.Unique.{unifier_law}
use Rattle.sp_law_equal.specs.Right.{IsTermOver, AreTermsOver}
use Rattle.sp_law_decide.proofs.Terms.{count_valued}

-- whether it is one of the symbols
abbrev has_symbol : List Symbol → List ℕ → ℕ → Bool
has_symbol [] f n = false
has_symbol (s ∷ symbols) f n = (bytes_eq s.name f && nat_eq s.arity n) || has_symbol symbols f n

abbrev made : List ℕ → ℕ → Bool → Symbol
made f n p = record { name = f; arity = n; private = p }

has_symbol_tells : (symbols : List Symbol) (f : List ℕ) (n : ℕ) → has_symbol symbols f n ≡ true → HasSymbol symbols f n
has_symbol_tells [] f n e = absurd (true≢false (sym e))
has_symbol_tells (s ∷ symbols) f n e =
    ⊎_elim
    (λ h.
    let k = and_parts (bytes_eq s.name f) (nat_eq s.arity n) h in
    (s.private, inl (ap (λ g. made g s.arity s.private) ((bytes_eq-Decides s.name f).0 k.0) ∙ ap (λ m. made f m s.private) (eqb-true s.arity n k.1))))
    (λ h. let r = has_symbol_tells symbols f n h in (r.0, inr r.1))
    (or_cases (bytes_eq s.name f && nat_eq s.arity n) (has_symbol symbols f n) e)

has_symbol_from : (symbols : List Symbol) (f : List ℕ) (n : ℕ) (p : Bool) → Member (made f n p) symbols → has_symbol symbols f n ≡ true
has_symbol_from [] f n p m = absurd m
has_symbol_from (s ∷ symbols) f n p (inl e) =
    or_left (bytes_eq s.name f && nat_eq s.arity n) (has_symbol symbols f n)
    (and_from _ _ ((bytes_eq-Decides s.name f).1 (ap (λ z. z.name) e)) (eq-eqb s.arity n (ap (λ z. z.arity) e)))
has_symbol_from (s ∷ symbols) f n p (inr m) =
    or_right (bytes_eq s.name f && nat_eq s.arity n) (has_symbol symbols f n) (has_symbol_from symbols f n p m)

module _ (symbols : List Symbol) where
  -- another term in place of each one with another symbol
  abbrev mutual
    clean : Ground → Ground
    clean (var x) = var x
    clean (constant c) = constant c
    clean (name n) = name n
    clean (app f ts) = cond (has_symbol symbols f (count ts)) (app f (clean_all ts)) (constant [])

    clean_all : Grounds → Grounds
    clean_all none = none
    clean_all (more t ts) = more (clean t) (clean_all ts)

  count_clean : (ts : Grounds) → count (clean_all ts) ≡ count ts
  count_clean none = refl
  count_clean (more t ts) = ap (λ k. suc k) (count_clean ts)

  mutual
    clean_over : (t : Ground) → IsOver symbols (clean t)
    clean_over (var x) = absurd x
    clean_over (constant c) = tt
    clean_over (name n) = tt
    clean_over (app f ts) = by_test (clean_all_over ts) (has_symbol symbols f (count ts)) refl
      where
        by_test : AreOver symbols (clean_all ts) → (c : Bool) → has_symbol symbols f (count ts) ≡ c → IsOver symbols (cond c (app f (clean_all ts)) (constant []))
        by_test o true e = (subst (HasSymbol symbols f) (sym (count_clean ts)) (has_symbol_tells symbols f (count ts) e), o)
        by_test o false e = tt

    clean_all_over : (ts : Grounds) → AreOver symbols (clean_all ts)
    clean_all_over none = tt
    clean_all_over (more t ts) = (clean_over t, clean_all_over ts)

  clean_sort : (s : Sort) (t : Ground) → HasSort s t → HasSort s (clean t)
  clean_sort Msg t h = tt
  clean_sort s (var x) h = absurd x
  clean_sort s (constant c) h = h
  clean_sort s (name n) h = h
  clean_sort Fresh (app f ts) h = absurd h
  clean_sort Pub (app f ts) h = absurd h

  mutual
    clean_valued : (v : Values) (t : Term Variable) → IsTermOver symbols t → clean (valued v t) ≡ valued (λ x. clean (v x)) t
    clean_valued v (var x) o = refl
    clean_valued v (constant c) o = refl
    clean_valued v (name n) o = refl
    clean_valued v (app f ts) o =
        ap (λ c. cond c (app f (clean_all (valued_all v ts))) (constant []))
        (ap (has_symbol symbols f) (count_valued v ts) ∙ has_symbol_from symbols f (count ts) o.0.0 o.0.1)
        ∙ ap (app f) (clean_all_valued v ts o.1)

    clean_all_valued : (v : Values) (ts : Terms Variable) → AreTermsOver symbols ts → clean_all (valued_all v ts) ≡ valued_all (λ x. clean (v x)) ts
    clean_all_valued v none o = refl
    clean_all_valued v (more t ts) o = cc (clean_valued v t o.0, clean_all_valued v ts o.1)

  mutual
    -- a term is over the symbols if a value of it is
    over_from : (v : Values) (t : Term Variable) → IsOver symbols (valued v t) → IsTermOver symbols t
    over_from v (var x) o = tt
    over_from v (constant c) o = tt
    over_from v (name n) o = tt
    over_from v (app f ts) o = (subst (HasSymbol symbols f) (count_valued v ts) o.0, all_over_from v ts o.1)

    all_over_from : (v : Values) (ts : Terms Variable) → AreOver symbols (valued_all v ts) → AreTermsOver symbols ts
    all_over_from v none o = tt
    all_over_from v (more t ts) o = (over_from v t o.0, all_over_from v ts o.1)

  mutual
    pub over_at : (v : Values) → ((x : Variable) → IsOver symbols (v x)) → (t : Term Variable) → IsTermOver symbols t → IsOver symbols (valued v t)
    over_at v h (var x) o = h x
    over_at v h (constant c) o = tt
    over_at v h (name n) o = tt
    over_at v h (app f ts) o = (subst (HasSymbol symbols f) (sym (count_valued v ts)) o.0, all_over_at v h ts o.1)

    pub all_over_at : (v : Values) → ((x : Variable) → IsOver symbols (v x)) → (ts : Terms Variable) → AreTermsOver symbols ts → AreOver symbols (valued_all v ts)
    all_over_at v h none o = tt
    all_over_at v h (more t ts) o = (over_at v h t o.0, all_over_at v h ts o.1)

  mutual
    pub over_put : (s : Variable → Term Variable) → ((x : Variable) → IsTermOver symbols (s x)) → (t : Term Variable) → IsTermOver symbols t → IsTermOver symbols (valued s t)
    over_put s h (var x) o = h x
    over_put s h (constant c) o = tt
    over_put s h (name n) o = tt
    over_put s h (app f ts) o = (subst (HasSymbol symbols f) (sym (count_valued s ts)) o.0, all_over_put s h ts o.1)

    all_over_put : (s : Variable → Term Variable) → ((x : Variable) → IsTermOver symbols (s x)) → (ts : Terms Variable) → AreTermsOver symbols ts → AreTermsOver symbols (valued_all s ts)
    all_over_put s h none o = tt
    all_over_put s h (more t ts) o = (over_put s h t o.0, all_over_put s h ts o.1)

  abbrev pub IsPairOver : Pair → Type 0
  IsPairOver p = IsTermOver symbols p.0 × IsTermOver symbols p.1

  clean_same : (v : Values) (pairs : List Pair) → Every IsPairOver pairs → MakesSame v pairs → MakesSame (λ x. clean (v x)) pairs
  clean_same v [] o h = tt
  clean_same v (p ∷ pairs) o h = (sym (clean_valued v p.0 o.0.0) ∙ ap clean h.0 ∙ clean_valued v p.1 o.0.1, clean_same v pairs o.1 h.1)

  -- a solution with other symbols put out is one too, and is what it is after the bindings
  pub unifier_over : (pairs : List Pair) (bs : List Binding) → mgu pairs ≡ Some bs → Every IsPairOver pairs → (x : Variable) → IsTermOver symbols (bound_to bs x)
  unifier_over pairs bs is o x =
      let solved = unifier_law.solved pairs bs is in
      let v : Values = λ y. clean (solved.0 y) in
      let solution : AreSolution pairs v = record {
        respects = λ y. clean_sort y.sort (solved.0 y) (solved.1.respects y);
        makes_same = clean_same solved.0 pairs o solved.1.makes_same;
      } in
      let most = unifier_law.some pairs bs is in
      over_from v (bound_to bs x) (subst (IsOver symbols) (most.fixes v solution x) (clean_over (solved.0 x)))
