-- What the tests of a step tell.
use Rattle.std.proofs.Common.{◌≡◌, ⊎_elim, ℕ, List, [], ◌∷◌, Bool, true, false, Some, None, if◌then◌else◌, inl, inr, refl, sym, ap, ◌∙◌}
use Rattle.std.proofs.lemmas.Bool.{and_parts, and_from, or_cases, or_left, or_right, both_ways}
use Rattle.std.proofs.lemmas.Slice.Eq.{bytes_eq-Decides}
use Rattle.std.specs.Bool.{Decides}
use Rattle.std.specs.Str.{bytes_eq}
use Rattle.sp_spec.specs.Lists.{Member}
use Rattle.sp_spec.specs.Same.{same_term}
use Rattle.sp_spec.specs.Term.{Sort, Ground}
use Rattle.sp_spec.specs.Signature.{Signature, IsValue}
use Rattle.sp_spec.specs.Rule.{Rule, rule_named}
use Rattle.sp_spec.specs.Execution.{Step, make_fresh, use_rule, take_out, put_in, know_public, make_own, apply_symbol, State, IsNew}
use Rattle.sp_law_equal.specs.Matching.{Bound, has_sort}
use Rattle.sp_spec.proofs.Same.{same_term_decides}
use Rattle.sp_law_equal.proofs.Tests.{has_sort_decides}
use Rattle.sp_law_run.proofs.Instances.{AreValues}
use Rattle.sp_norm.specs.Over.{over}
use Rattle.sp_norm.proofs.Symbols.{over_decides}
use Rattle.sp_exec.specs.Next.{is_value, are_values, is_made, is_made_twice}

-- a rule that is found is one of the rules, and has the name
pub named_some : (x : List ℕ) (rules : List Rule) (r : Rule) → rule_named x rules ≡ Some r → Member r rules × (r.name ≡ x)
named_some x [] r e = absurd cc
named_some x (q ∷ rules) r e = by_test (bytes_eq q.name x) (λ t. (bytes_eq-Decides q.name x).0 t) e (λ k. named_some x rules r k)
  where
    by_test : (b : Bool) → (b ≡ true → q.name ≡ x) → (if b then Some q else rule_named x rules) ≡ Some r → (rule_named x rules ≡ Some r → Member r rules × (r.name ≡ x))
        → Member r (q ∷ rules) × (r.name ≡ x)
    by_test true t e k = let same : q ≡ r = cc in (inl same, ap (λ (z : Rule). z.name) (sym same) ∙ t refl)
    by_test false t e k = let h = k e in (inr h.0, h.1)

-- a rule that isn't found isn't there
pub named_none : (x : List ℕ) (rules : List Rule) → rule_named x rules ≡ None → (r : Rule) → Member r rules → r.name ≡ x → ⊥
named_none x [] e r m n = m
named_none x (q ∷ rules) e r m n =
    by_test (bytes_eq q.name x) (λ t. (bytes_eq-Decides q.name x).1 t) e (λ k l. named_none x rules k r l n) m
  where
    by_test : (b : Bool) → (q.name ≡ x → b ≡ true) → (if b then Some q else rule_named x rules) ≡ None → (rule_named x rules ≡ None → Member r rules → ⊥) → Member r (q ∷ rules) → ⊥
    by_test true t e k m = absurd cc
    by_test false t e k (inl m) = both_ways false refl (t (ap (λ (z : Rule). z.name) m ∙ n))
    by_test false t e k (inr m) = k e m

pub is_value_decides : (signature : Signature) (s : Sort) (t : Ground) → Decides (is_value signature.symbols s t) (IsValue signature s t)
is_value_decides signature s t =
    let sorts = has_sort_decides s t in
    let symbols = over_decides signature.symbols t in (
      λ e. let both = and_parts (has_sort s t) (over signature.symbols t) e in (sorts.0 both.0, symbols.0 both.1),
      λ h. and_from (has_sort s t) (over signature.symbols t) (sorts.1 h.0) (symbols.1 h.1),
    )

pub are_values_decides : (signature : Signature) (bs : List Bound) → Decides (are_values signature.symbols bs) (AreValues signature bs)
are_values_decides signature [] = (λ e. tt, λ h. refl)
are_values_decides signature (b ∷ bs) =
    let first = is_value_decides signature b.0.sort b.1 in
    let others = are_values_decides signature bs in (
      λ e. let both = and_parts (is_value signature.symbols b.0.sort b.1) (are_values signature.symbols bs) e in (first.0 both.0, others.0 both.1),
      λ h. and_from (is_value signature.symbols b.0.sort b.1) (are_values signature.symbols bs) (first.1 h.0) (others.1 h.1),
    )

is_made_tells : (t : Ground) (made : List Ground) → is_made t made ≡ true → Member t made
is_made_tells t [] e = absurd cc
is_made_tells t (u ∷ us) e =
    ⊎_elim (λ h. inl ((same_term_decides u t).0 h)) (λ h. inr (is_made_tells t us h)) (or_cases (same_term u t) (is_made t us) e)

is_made_from : (t : Ground) (made : List Ground) → Member t made → is_made t made ≡ true
is_made_from t [] m = absurd m
is_made_from t (u ∷ us) m =
    ⊎_elim
    (λ h. or_left (same_term u t) (is_made t us) ((same_term_decides u t).1 h))
    (λ h. or_right (same_term u t) (is_made t us) (is_made_from t us h))
    m

pub made_twice : (step : Step) (made : List Ground) (state : State) → ((t : Ground) → Member t made → Member t state.made) →
    is_made_twice step made ≡ true → IsNew step state → ⊥
made_twice (make_fresh t) made state h e n = n (h t (is_made_tells t made e))
made_twice (use_rule x given) made state h e n = absurd cc
made_twice (take_out t) made state h e n = absurd cc
made_twice (put_in t) made state h e n = absurd cc
made_twice (know_public t) made state h e n = absurd cc
made_twice (make_own t) made state h e n = absurd cc
made_twice (apply_symbol f ts) made state h e n = absurd cc

pub made_once : (step : Step) (made : List Ground) (state : State) → ((t : Ground) → Member t state.made → Member t made) →
    is_made_twice step made ≡ false → IsNew step state
made_once (make_fresh t) made state h e = λ m. both_ways (is_made t made) e (is_made_from t made (h t m))
made_once (use_rule x given) made state h e = tt
made_once (take_out t) made state h e = tt
made_once (put_in t) made state h e = tt
made_once (know_public t) made state h e = tt
made_once (make_own t) made state h e = tt
made_once (apply_symbol f ts) made state h e = tt
