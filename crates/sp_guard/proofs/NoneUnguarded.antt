-- No variable is unguarded exactly where the guarded form is guarded.
use Rattle.std.proofs.Common.{arith, ◌≡◌, refl, sym, ap, ap₂, ◌∙◌, ℕ, zero, suc, ◌+◌, zero-add, Bool, true, false, ◌&&◌, List, [], ◌∷◌, ◌++◌, Option, Some, None, option_map}
use Rattle.std.specs.Prelude.{◌↔◌}
use Rattle.std.specs.Option.{option_or, is_none}
use Rattle.std.proofs.Math.Bool.{and_assoc, and-true}
use Rattle.sp_spec.specs.Formula.{Written, Formula, truth, falsity, happens, equals, precedes, not_so, both, either, implies, for_all, for_some}
use Rattle.sp_spec.specs.Guarded.{Binder, message, time, Atom, acts, same, same_time, before, last, Guarded, Guardeds, holds, fails, all_of, one_of, some, every, no_more, and_then, parts_of, guardeds_of}
use Rattle.sp_spec.specs.Guarded as guarded
use Rattle.sp_spec_text.specs.Formulas.{equivalent}
use Rattle.sp_law_guard.specs.GuardedForm.{meant, time_place, placed_action, term_time, acts_at, before_at, equality_at, binder_of, conjuncts, disjuncts, conjunction, disjunction, negated_atom, negate, negate_each, guard_in, rest_in, body_of, existential, guarded_form}
use Rattle.sp_law_guard.specs.IsGuarded.{message_guarded, messages_in, each_guarded, is_guarded, are_guarded}
use Rattle.sp_spec.proofs.Options.{mapped}
use Rattle.sp_law_guard.proofs.Kept.{joined_forms}
use Rattle.sp_guard.specs.Unguarded.{QuantifierAbove, nothing_above, turned, one_more, below_some, below_all, first_guarded, outermost_guarded, named_unless, unguarded, first_unguarded, UnguardedIsTold}
use Rattle.sp_law_guard.proofs.Negated.{negated_guarded}

-- the form is guarded, where its outermost quantifier is joined with the one above
abbrev counted : QuantifierAbove → Guarded → Bool
counted above (some bs guard g) = each_guarded (above.of_some + messages_in bs) guard bs && is_guarded g
counted above (every bs guard g) = each_guarded (above.of_all + messages_in bs) guard bs && is_guarded g
counted above g = is_guarded g

none_above : (g : Guarded) → counted nothing_above g ≡ is_guarded g
none_above guarded.truth = refl
none_above guarded.falsity = refl
none_above (holds a) = refl
none_above (fails a) = refl
none_above (all_of gs) = refl
none_above (one_of gs) = refl
none_above (some bs guard g) = ap (λ (n : ℕ). each_guarded n guard bs && is_guarded g) (zero-add (messages_in bs))
none_above (every bs guard g) = ap (λ (n : ℕ). each_guarded n guard bs && is_guarded g) (zero-add (messages_in bs))

-- negation changes no guard
every_turned : (bs : List Binder) (guard : List Atom) (g : Guarded) → is_guarded (negate g) ≡ is_guarded g → is_guarded (negate (every bs guard g)) ≡ is_guarded (every bs guard g)
every_turned [] (acts a i ∷ []) guarded.falsity below = refl
every_turned bs guard g below = ap (λ (b : Bool). each_guarded (messages_in bs) guard bs && b) below

mutual
  guarded_turned : (g : Guarded) → is_guarded (negate g) ≡ is_guarded g
  guarded_turned guarded.truth = refl
  guarded_turned guarded.falsity = refl
  guarded_turned (holds a) = negated_guarded a
  guarded_turned (fails a) = refl
  guarded_turned (all_of gs) = each_turned gs
  guarded_turned (one_of gs) = each_turned gs
  guarded_turned (some bs guard g) = ap (λ (b : Bool). each_guarded (messages_in bs) guard bs && b) (guarded_turned g)
  guarded_turned (every bs guard g) = every_turned bs guard g (guarded_turned g)

  each_turned : (gs : Guardeds) → are_guarded (negate_each gs) ≡ are_guarded gs
  each_turned no_more = refl
  each_turned (and_then g gs) = ap₂ (λ (a b : Bool). a && b) (guarded_turned g) (each_turned gs)

atom_counted : (above : QuantifierAbove) (a : Atom) → counted above (negated_atom a) ≡ true
atom_counted above (acts a i) = refl
atom_counted above (same t u) = refl
atom_counted above (same_time i j) = refl
atom_counted above (before i j) = refl
atom_counted above (last i) = refl

every_counted : (above : QuantifierAbove) (bs : List Binder) (guard : List Atom) (g : Guarded) → is_guarded (negate g) ≡ is_guarded g → counted above (negate (every bs guard g)) ≡ counted (turned above) (every bs guard g)
every_counted above [] (acts a i ∷ []) guarded.falsity below = refl
every_counted above bs guard g below = ap (λ (b : Bool). each_guarded (above.of_some + messages_in bs) guard bs && b) below

counted_turned : (above : QuantifierAbove) (g : Guarded) → counted above (negate g) ≡ counted (turned above) g
counted_turned above guarded.truth = refl
counted_turned above guarded.falsity = refl
counted_turned above (holds a) = atom_counted above a
counted_turned above (fails a) = refl
counted_turned above (all_of gs) = each_turned gs
counted_turned above (one_of gs) = each_turned gs
counted_turned above (some bs guard g) = ap (λ (b : Bool). each_guarded (above.of_all + messages_in bs) guard bs && b) (guarded_turned g)
counted_turned above (every bs guard g) = every_counted above bs guard g (guarded_turned g)

-- conjunctions and disjunctions
parts_guarded : (gs : Guardeds) → are_guarded (guardeds_of (parts_of gs)) ≡ are_guarded gs
parts_guarded no_more = refl
parts_guarded (and_then g gs) = ap (λ (b : Bool). is_guarded g && b) (parts_guarded gs)

conjuncts_guarded : (g : Guarded) → are_guarded (guardeds_of (conjuncts g)) ≡ is_guarded g
conjuncts_guarded (all_of gs) = parts_guarded gs
conjuncts_guarded g = and-true _

disjuncts_guarded : (g : Guarded) → are_guarded (guardeds_of (disjuncts g)) ≡ is_guarded g
disjuncts_guarded (one_of gs) = parts_guarded gs
disjuncts_guarded g = and-true _

appended_guarded : (gs hs : List Guarded) → are_guarded (guardeds_of (gs ++ hs)) ≡ are_guarded (guardeds_of gs) && are_guarded (guardeds_of hs)
appended_guarded [] hs = refl
appended_guarded (g ∷ gs) hs = ap (λ (b : Bool). is_guarded g && b) (appended_guarded gs hs) ∙ sym (and_assoc (is_guarded g) (are_guarded (guardeds_of gs)) (are_guarded (guardeds_of hs)))

conjunction_guarded : (g h : Guarded) → is_guarded (conjunction g h) ≡ is_guarded g && is_guarded h
conjunction_guarded g h = appended_guarded (conjuncts g) (conjuncts h) ∙ ap₂ (λ (a b : Bool). a && b) (conjuncts_guarded g) (conjuncts_guarded h)

disjunction_guarded : (g h : Guarded) → is_guarded (disjunction g h) ≡ is_guarded g && is_guarded h
disjunction_guarded g h = appended_guarded (disjuncts g) (disjuncts h) ∙ ap₂ (λ (a b : Bool). a && b) (disjuncts_guarded g) (disjuncts_guarded h)

-- quantifiers
rest_guarded : (gs : List Guarded) → are_guarded (guardeds_of (rest_in gs)) ≡ are_guarded (guardeds_of gs)
rest_guarded [] = refl
rest_guarded (holds (acts a i) ∷ gs) = rest_guarded gs
rest_guarded (holds (same t u) ∷ gs) = rest_guarded gs
rest_guarded (holds (same_time i j) ∷ gs) = rest_guarded gs
rest_guarded (holds (before i j) ∷ gs) = rest_guarded gs
rest_guarded (holds (last i) ∷ gs) = rest_guarded gs
rest_guarded (g ∷ gs) = ap (λ (b : Bool). is_guarded g && b) (rest_guarded gs)

body_guarded : (gs : List Guarded) → is_guarded (body_of gs) ≡ are_guarded (guardeds_of gs)
body_guarded [] = refl
body_guarded (g ∷ []) = sym (and-true (is_guarded g))
body_guarded (g ∷ h ∷ gs) = refl

quantified_guarded : (g : Guarded) → is_guarded (body_of (rest_in (conjuncts g))) ≡ is_guarded g
quantified_guarded g = body_guarded (rest_in (conjuncts g)) ∙ rest_guarded (conjuncts g) ∙ conjuncts_guarded g

pub one_within : (n k : ℕ) → n + suc k ≡ suc n + k
one_within n k = omega arith

-- one more binder of the same quantifier
each_within : (n : ℕ) (guard : List Atom) (b : Binder) (bs : List Binder)
    → each_guarded (n + messages_in (b ∷ bs)) guard (b ∷ bs) ≡ first_guarded n guard (b ∷ bs) && each_guarded (one_more b n + messages_in bs) guard bs
each_within n guard (message sort) bs = ap (λ (k : ℕ). message_guarded (n + suc (messages_in bs)) guard (messages_in bs) && each_guarded k guard bs) (one_within n (messages_in bs))
each_within n guard time bs = refl

abbrev within : Binder → QuantifierAbove → QuantifierAbove
within b above = record { of_some = one_more b above.of_some; of_all = zero }

joined_counted : (above : QuantifierAbove) (b : Binder) (bs : List Binder) (guard : List Atom) (g : Guarded)
    → counted above (some (b ∷ bs) guard g) ≡ first_guarded above.of_some guard (b ∷ bs) && counted (within b above) (some bs guard g)
joined_counted above b bs guard g =
    ap (λ (c : Bool). c && is_guarded g) (each_within above.of_some guard b bs)
    ∙ and_assoc (first_guarded above.of_some guard (b ∷ bs)) (each_guarded (one_more b above.of_some + messages_in bs) guard bs) (is_guarded g)

single_counted : (above : QuantifierAbove) (b : Binder) (g : Guarded) (c : Bool) → is_guarded g ≡ c
    → counted above (some (b ∷ []) (guard_in (conjuncts g)) (body_of (rest_in (conjuncts g)))) ≡ first_guarded above.of_some (guard_in (conjuncts g)) (b ∷ []) && c
single_counted above b g c e =
    let guard = guard_in (conjuncts g) in
    let body = body_of (rest_in (conjuncts g)) in
    ap (λ (d : Bool). d && is_guarded body) (each_within above.of_some guard b [] ∙ and-true (first_guarded above.of_some guard (b ∷ [])))
    ∙ ap (λ (d : Bool). first_guarded above.of_some guard (b ∷ []) && d) (quantified_guarded g ∙ e)

existential_counted : (above : QuantifierAbove) (b : Binder) (g : Guarded) → counted above (existential b g) ≡ outermost_guarded above.of_some (Some (existential b g)) && counted (within b above) g
existential_counted above b (some bs guard g) = joined_counted above b bs guard g
existential_counted above b (every bs guard g) = single_counted above b (every bs guard g) _ (sym (none_above (every bs guard g)))
existential_counted above b guarded.truth = single_counted above b guarded.truth true refl
existential_counted above b guarded.falsity = single_counted above b guarded.falsity true refl
existential_counted above b (holds a) = single_counted above b (holds a) true refl
existential_counted above b (fails a) = single_counted above b (fails a) true refl
existential_counted above b (all_of gs) = single_counted above b (all_of gs) (are_guarded gs) refl
existential_counted above b (one_of gs) = single_counted above b (one_of gs) (are_guarded gs) refl

same_outermost : (n : ℕ) (b : Binder) (g : Guarded) → outermost_guarded n (Some (negate (existential b g))) ≡ outermost_guarded n (Some (existential b g))
same_outermost n b (some bs guard g) = refl
same_outermost n b g = refl

-- what is named
unless_none : (x : Written) (b : Bool) (later : Option (List ℕ)) → is_none (named_unless x b later) ≡ b && is_none later
unless_none x true later = refl
unless_none x false later = refl

or_none : (first second : Option (List ℕ)) → is_none (option_or first second) ≡ is_none first && is_none second
or_none None second = refl
or_none (Some x) second = refl

some_told : (above : QuantifierAbove) (x : Written) (later : Option (List ℕ)) (o : Option Guarded) (h : Guarded) → o ≡ Some (existential (binder_of x.mark) h)
    → is_none later ≡ counted (below_some x above) h → is_none (named_unless x (outermost_guarded above.of_some o) later) ≡ counted above (existential (binder_of x.mark) h)
some_told above x later o h e told =
    unless_none x (outermost_guarded above.of_some o) later
    ∙ ap₂ (λ (a b : Bool). a && b) (ap (outermost_guarded above.of_some) e) told
    ∙ sym (existential_counted above (binder_of x.mark) h)

all_told : (above : QuantifierAbove) (x : Written) (later : Option (List ℕ)) (o : Option Guarded) (h : Guarded) → o ≡ Some (negate (existential (binder_of x.mark) (negate h)))
    → is_none later ≡ counted (below_all x above) h → is_none (named_unless x (outermost_guarded above.of_all o) later) ≡ counted above (negate (existential (binder_of x.mark) (negate h)))
all_told above x later o h e told =
    unless_none x (outermost_guarded above.of_all o) later
    ∙ ap₂ (λ (a b : Bool). a && b) (ap (outermost_guarded above.of_all) e ∙ same_outermost above.of_all (binder_of x.mark) (negate h))
    (told ∙ sym (counted_turned (within (binder_of x.mark) (turned above)) h))
    ∙ sym (existential_counted (turned above) (binder_of x.mark) (negate h))
    ∙ sym (counted_turned above (existential (binder_of x.mark) (negate h)))

both_told : (first second : Option (List ℕ)) (g h : Guarded) → is_none first ≡ counted nothing_above g → is_none second ≡ counted nothing_above h
    → is_none (option_or first second) ≡ is_guarded g && is_guarded h
both_told first second g h e k = or_none first second ∙ ap₂ (λ (a b : Bool). a && b) (e ∙ none_above g) (k ∙ none_above h)

told : (bs : List Written) (above : QuantifierAbove) (f : Formula) (g : Guarded) → guarded_form bs f ≡ Some g → is_none (unguarded bs above f) ≡ counted above g
told bs above truth g e = ap (counted above) (let k : guarded.truth ≡ g = cc in k)
told bs above falsity g e = ap (counted above) (let k : guarded.falsity ≡ g = cc in k)
told bs above (happens a i) g e = ap (counted above) (sym (mapped holds (acts_at (placed_action bs a) (time_place (meant bs i.name))) g e).2)
told bs above (equals t u) g e = ap (counted above) (sym (mapped holds (equality_at bs t u (term_time bs t) (term_time bs u)) g e).2)
told bs above (precedes i j) g e = ap (counted above) (sym (mapped holds (before_at (time_place (meant bs i.name)) (time_place (meant bs j.name))) g e).2)
told bs above (not_so f) g e =
    let r = mapped negate (guarded_form bs f) g e in
    told bs (turned above) f r.0 r.1 ∙ sym (counted_turned above r.0) ∙ ap (counted above) (sym r.2)
told bs above (both f k) g e =
    let r = joined_forms conjunction (guarded_form bs f) (guarded_form bs k) g e in
    both_told _ _ r.0 r.1 (told bs nothing_above f r.0 r.2) (told bs nothing_above k r.1 r.3) ∙ sym (conjunction_guarded r.0 r.1) ∙ ap (counted above) (sym r.4)
told bs above (either f k) g e =
    let r = joined_forms disjunction (guarded_form bs f) (guarded_form bs k) g e in
    both_told _ _ r.0 r.1 (told bs nothing_above f r.0 r.2) (told bs nothing_above k r.1 r.3) ∙ sym (disjunction_guarded r.0 r.1) ∙ ap (counted above) (sym r.4)
told bs above (implies f k) g e =
    let r = joined_forms disjunction (option_map negate (guarded_form bs f)) (guarded_form bs k) g e in
    let q = mapped negate (guarded_form bs f) r.0 r.2 in
    both_told _ _ q.0 r.1 (told bs nothing_above f q.0 q.1) (told bs nothing_above k r.1 r.3)
    ∙ ap (λ (b : Bool). b && is_guarded r.1) (sym (ap is_guarded q.2 ∙ guarded_turned q.0))
    ∙ sym (disjunction_guarded r.0 r.1) ∙ ap (counted above) (sym r.4)
told bs above (for_all x f) g e =
    let r = mapped (λ (k : Guarded). negate (existential (binder_of x.mark) (negate k))) (guarded_form (x ∷ bs) f) g e in
    all_told above x (unguarded (x ∷ bs) (below_all x above) f) (guarded_form bs (for_all x f)) r.0 (e ∙ ap (λ (k : Guarded). Some k) r.2) (told (x ∷ bs) (below_all x above) f r.0 r.1)
    ∙ ap (counted above) (sym r.2)
told bs above (for_some x f) g e =
    let r = mapped (existential (binder_of x.mark)) (guarded_form (x ∷ bs) f) g e in
    some_told above x (unguarded (x ∷ bs) (below_some x above) f) (guarded_form bs (for_some x f)) r.0 (e ∙ ap (λ (k : Guarded). Some k) r.2) (told (x ∷ bs) (below_some x above) f r.0 r.1)
    ∙ ap (counted above) (sym r.2)

none_is : (o : Option (List ℕ)) (b : Bool) → is_none o ≡ b → (o ≡ None) ↔ (b ≡ true)
none_is None b e = ((λ k. sym e), (λ k. refl))
none_is (Some x) b e = ((λ k. absurd (cc k)), (λ k. absurd (cc (e, k))))

pub none_told : (f : Formula) (g : Guarded) → guarded_form [] f ≡ Some g → (first_unguarded f ≡ None) ↔ (is_guarded g ≡ true)
none_told f g e = none_is (first_unguarded f) (is_guarded g) (told [] nothing_above f g e ∙ none_above g)

once_more : (first second : Option (List ℕ)) → option_or (option_or first second) (option_or second first) ≡ option_or first second
once_more None None = refl
once_more None (Some y) = refl
once_more (Some x) second = refl

-- f <=> g
pub equivalence_unguarded : (bs : List Written) (above : QuantifierAbove) (f g : Formula)
    → unguarded bs above (equivalent f g) ≡ option_or (unguarded bs nothing_above f) (unguarded bs nothing_above g)
equivalence_unguarded bs above f g = once_more (unguarded bs nothing_above f) (unguarded bs nothing_above g)

pub unguarded_is_told : UnguardedIsTold
unguarded_is_told = record { none = none_told; equivalences = equivalence_unguarded [] nothing_above }
