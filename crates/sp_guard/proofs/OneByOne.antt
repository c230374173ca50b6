-- The variables of one All or Ex, taken together and one after the other.
use Rattle.std.proofs.Common.{◌≡◌, refl, sym, ap, ap₂, subst, ◌∙◌, ℕ, suc, ◌+◌, Bool, true, false, List, [], ◌∷◌, ◌++◌, Option, Some, None, option_map}
use Rattle.std.specs.Option.{option_or}
use Rattle.sp_spec.specs.Formula.{Written, Formula, for_all, for_some}
use Rattle.sp_spec.specs.Guarded.{Binder, message, time, Atom, Guarded, truth, falsity, holds, fails, all_of, one_of, some, every}
use Rattle.sp_spec_text.specs.Shapes.{quantified}
use Rattle.sp_spec_text.specs.Formulas.{quantified_some}
use Rattle.sp_spec.specs.Lists.{newest_first}
use Rattle.sp_law_guard.specs.GuardedForm.{binder_of, conjuncts, guard_in, rest_in, body_of, negate, existential, guarded_form}
use Rattle.sp_law_guard.specs.IsGuarded.{message_guarded, messages_in}
use Rattle.sp_guard.specs.Unguarded.{QuantifierAbove, turned, one_more, below_some, below_all, first_guarded, outermost_guarded, named_unless, unguarded}
use Rattle.sp_guard.specs.FirstNamed.{named_in, named_in_form, below_each}
use Rattle.sp_walk.proofs.Collected.{regrouped}
use Rattle.sp_guard.proofs.NoneUnguarded.{one_within}
use Rattle.sp_guard.specs.Bound.{for_all_form, for_some_form}

abbrev Name : Type 0
Name = Option (List ℕ)

unless_or : (x : Written) (b : Bool) (first later : Name) → named_unless x b (option_or first later) ≡ option_or (named_unless x b first) later
unless_or x true first later = refl
unless_or x false first later = refl

-- one binder more, the outermost
one_named : (n : ℕ) (guard : List Atom) (b : Binder) (bs : List Binder) (x : Written) (xs : List Written)
    → named_unless x (first_guarded n guard (b ∷ bs)) (named_in (one_more b n + messages_in bs) guard bs xs) ≡ named_in (n + messages_in (b ∷ bs)) guard (b ∷ bs) (x ∷ xs)
one_named n guard (message sort) bs x xs =
    ap (λ (k : ℕ). named_unless x (message_guarded (n + suc (messages_in bs)) guard (messages_in bs)) (named_in k guard bs xs)) (sym (one_within n (messages_in bs)))
one_named n guard time bs x xs = refl

single_named : (n : ℕ) (guard : List Atom) (b : Binder) (x : Written) (later : Name) → later ≡ None
    → named_unless x (first_guarded n guard (b ∷ [])) later ≡ named_in (n + messages_in (b ∷ [])) guard (b ∷ []) (x ∷ [])
single_named n guard b x later e = ap (named_unless x (first_guarded n guard (b ∷ []))) e ∙ one_named n guard b [] x []

no_names : (n : ℕ) (o : Option Guarded) → named_in_form n o [] ≡ None
no_names n None = refl
no_names n (Some truth) = refl
no_names n (Some falsity) = refl
no_names n (Some (holds a)) = refl
no_names n (Some (fails a)) = refl
no_names n (Some (all_of gs)) = refl
no_names n (Some (one_of gs)) = refl
no_names n (Some (some [] guard g)) = refl
no_names n (Some (some (b ∷ bs) guard g)) = refl
no_names n (Some (every [] guard g)) = refl
no_names n (Some (every (b ∷ bs) guard g)) = refl

none_left : (n : ℕ) (guard : List Atom) (bs : List Binder) → named_in n guard bs [] ≡ None
none_left n guard [] = refl
none_left n guard (b ∷ bs) = refl

-- a quantifier as it is made
pub record IsSome (b : Binder) (g : Guarded) : Type 0 where
  pub others : List Binder
  pub guard : List Atom
  pub body : Guarded
  pub is : g ≡ some (b ∷ others) guard body

existential_is : (b : Binder) (g : Guarded) → IsSome b (existential b g)
existential_is b (some bs guard g) = record { others = bs; guard = guard; body = g; is = refl }
existential_is b g = record { others = []; guard = guard_in (conjuncts g); body = body_of (rest_in (conjuncts g)); is = refl }

abbrev SplitsOff : ℕ → Written → List Written → Option Guarded → Option Guarded → Type 0
SplitsOff n x xs outer inner = named_unless x (outermost_guarded n outer) (named_in_form (one_more (binder_of x.mark) n) inner xs) ≡ named_in_form n outer (x ∷ xs)

-- the last name
last_splits_off : (n : ℕ) (x : Written) (bs : List Binder) (guard : List Atom) (o : Option Guarded)
    → named_unless x (first_guarded n guard (binder_of x.mark ∷ bs)) (named_in_form (one_more (binder_of x.mark) n) o []) ≡ named_in (n + messages_in (binder_of x.mark ∷ bs)) guard (binder_of x.mark ∷ bs) (x ∷ [])
last_splits_off n x bs guard o =
    let b = binder_of x.mark in
    ap (named_unless x (first_guarded n guard (b ∷ bs))) (no_names (one_more b n) o ∙ sym (none_left (one_more b n + messages_in bs) guard bs)) ∙ one_named n guard b bs x []

some_last : (n : ℕ) (x : Written) (o : Option Guarded) → SplitsOff n x [] (option_map (for_some_form x) o) o
some_last n x None = refl
some_last n x (Some g) =
    let r = existential_is (binder_of x.mark) g in
    subst (λ (h : Guarded). SplitsOff n x [] (Some h) (Some g)) (sym r.is) (last_splits_off n x r.others r.guard (Some g))

all_last : (n : ℕ) (x : Written) (o : Option Guarded) → SplitsOff n x [] (option_map (for_all_form x) o) o
all_last n x None = refl
all_last n x (Some g) =
    let r = existential_is (binder_of x.mark) (negate g) in
    subst (λ (h : Guarded). SplitsOff n x [] (Some (negate h)) (Some g)) (sym r.is) (last_splits_off n x r.others r.guard (Some g))

-- a name before others
some_more : (n : ℕ) (x y : Written) (ys : List Written) (o : Option Guarded) → SplitsOff n x (y ∷ ys) (option_map (for_some_form x) (option_map (for_some_form y) o)) (option_map (for_some_form y) o)
some_more n x y ys None = refl
some_more n x y ys (Some g) =
    let r = existential_is (binder_of y.mark) g in
    subst (λ (h : Guarded). SplitsOff n x (y ∷ ys) (Some (for_some_form x h)) (Some h)) (sym r.is) (one_named n r.guard (binder_of x.mark) (binder_of y.mark ∷ r.others) x (y ∷ ys))

all_more : (n : ℕ) (x y : Written) (ys : List Written) (o : Option Guarded) → SplitsOff n x (y ∷ ys) (option_map (for_all_form x) (option_map (for_all_form y) o)) (option_map (for_all_form y) o)
all_more n x y ys None = refl
all_more n x y ys (Some g) =
    let r = existential_is (binder_of y.mark) (negate g) in
    subst (λ (h : Guarded). SplitsOff n x (y ∷ ys) (Some (for_all_form x (negate h))) (Some (negate h))) (sym r.is) (one_named n r.guard (binder_of x.mark) (binder_of y.mark ∷ r.others) x (y ∷ ys))

some_splits_off : (bs : List Written) (n : ℕ) (x : Written) (xs : List Written) (f : Formula) → SplitsOff n x xs (guarded_form bs (for_some x (quantified_some xs f))) (guarded_form (x ∷ bs) (quantified_some xs f))
some_splits_off bs n x [] f = some_last n x (guarded_form (x ∷ bs) f)
some_splits_off bs n x (y ∷ ys) f = some_more n x y ys (guarded_form (y ∷ x ∷ bs) (quantified_some ys f))

all_splits_off : (bs : List Written) (n : ℕ) (x : Written) (xs : List Written) (f : Formula) → SplitsOff n x xs (guarded_form bs (for_all x (quantified xs f))) (guarded_form (x ∷ bs) (quantified xs f))
all_splits_off bs n x [] f = all_last n x (guarded_form (x ∷ bs) f)
all_splits_off bs n x (y ∷ ys) f = all_more n x y ys (guarded_form (y ∷ x ∷ bs) (quantified ys f))

-- one name after the other
pub some_one_by_one : (bs : List Written) (above : QuantifierAbove) (xs : List Written) (f : Formula)
    → unguarded bs above (quantified_some xs f) ≡ option_or (named_in_form above.of_some (guarded_form bs (quantified_some xs f)) xs) (unguarded (newest_first xs ++ bs) (below_each xs above) f)
some_one_by_one bs above [] f = ap (λ (o : Name). option_or o (unguarded bs above f)) (sym (no_names above.of_some (guarded_form bs f)))
some_one_by_one bs above (x ∷ xs) f =
    let outer = guarded_form bs (for_some x (quantified_some xs f)) in
    let first = named_in_form (one_more (binder_of x.mark) above.of_some) (guarded_form (x ∷ bs) (quantified_some xs f)) xs in
    let below = below_each xs (below_some x above) in
    let guarded = outermost_guarded above.of_some outer in
    ap (named_unless x guarded) (some_one_by_one (x ∷ bs) (below_some x above) xs f)
    ∙ unless_or x guarded first (unguarded (newest_first xs ++ (x ∷ bs)) below f)
    ∙ ap₂ (λ (o p : Name). option_or o p) (some_splits_off bs above.of_some x xs f) (ap (λ (cs : List Written). unguarded cs below f) (sym (regrouped xs bs x)))

pub all_one_by_one : (bs : List Written) (above : QuantifierAbove) (xs : List Written) (f : Formula)
    → unguarded bs above (quantified xs f) ≡ option_or (named_in_form above.of_all (guarded_form bs (quantified xs f)) xs) (unguarded (newest_first xs ++ bs) (turned (below_each xs (turned above))) f)
all_one_by_one bs above [] f = ap (λ (o : Name). option_or o (unguarded bs above f)) (sym (no_names above.of_all (guarded_form bs f)))
all_one_by_one bs above (x ∷ xs) f =
    let outer = guarded_form bs (for_all x (quantified xs f)) in
    let first = named_in_form (one_more (binder_of x.mark) above.of_all) (guarded_form (x ∷ bs) (quantified xs f)) xs in
    let below = turned (below_each xs (below_some x (turned above))) in
    let guarded = outermost_guarded above.of_all outer in
    ap (named_unless x guarded) (all_one_by_one (x ∷ bs) (below_all x above) xs f)
    ∙ unless_or x guarded first (unguarded (newest_first xs ++ (x ∷ bs)) below f)
    ∙ ap₂ (λ (o p : Name). option_or o p) (all_splits_off bs above.of_all x xs f) (ap (λ (cs : List Written). unguarded cs below f) (sym (regrouped xs bs x)))
