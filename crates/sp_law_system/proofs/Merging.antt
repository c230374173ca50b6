-- Facts that have the same values give pairs that have.
use Rattle.std.proofs.Common.{◌≡◌, ℕ, Bool, true, false, ◌&&◌, if◌then◌else◌, List, [], ◌∷◌, ◌++◌, map, Option, Some, None, option_map, refl, sym, ap}
use Rattle.std.proofs.lemmas.Slice.Eq.{bytes_eq-Decides}
use Rattle.std.specs.Str.{bytes_eq}
use Rattle.sp_spec.specs.Lists.{Every}
use Rattle.sp_spec.specs.Term.{Names, Variable, Terms, none, more, Values, valued, valued_all, AllMadeOf}
use Rattle.sp_spec.specs.Rule.{Fact, Action, Facts, fact_at, action_at, facts_at, FactsMadeOf}
use Rattle.sp_spec.specs.Unifier.{Pair, MakesSame}
use Rattle.sp_law_system.specs.Laws.{PairsUnder}
use Rattle.sp_spec_forms.specs.Alike.{same_flag}
use Rattle.sp_spec_system.specs.Equating.{argument_pairs, both_pairs, fact_pairs, action_pair, action_pairs}
use Rattle.sp_spec.proofs.Lists.{every_append}
use Rattle.sp_law_system.proofs.Solutions.{Under}

-- pairs that are there, have one value each, and have numbers below the limit
pub record Paired (N : Names) (v : Values) (n : ℕ) (o : Option (List Pair)) : Type 0 where
  pub pairs : List Pair
  pub there : o ≡ Some pairs
  pub same : MakesSame v pairs
  pub under : PairsUnder N n pairs

pub same_append : (v : Values) (ps qs : List Pair) → MakesSame v ps → MakesSame v qs → MakesSame v (ps ++ qs)
same_append v [] qs h k = k
same_append v (p ∷ ps) qs h k = (h.0, same_append v ps qs h.1 k)

both_paired : {N : Names} → (v : Values) (n : ℕ) (o u : Option (List Pair)) → Paired N v n o → Paired N v n u → Paired N v n (both_pairs o u)
both_paired v n o u a b = record {
  pairs = a.pairs ++ b.pairs;
  there = cc (a.there, b.there);
  same = same_append v a.pairs b.pairs a.same b.same;
  under = every_append _ a.pairs b.pairs a.under b.under;
}

pub argument_paired : {N : Names} → (v : Values) (n : ℕ) (ts us : Terms Variable) → AllMadeOf N (Under n) ts → AllMadeOf N (Under n) us → valued_all v ts ≡ valued_all v us → Paired N v n (argument_pairs ts us)
argument_paired v n none none a b e = record { pairs = []; there = refl; same = tt; under = tt }
argument_paired v n none (more u us) a b e = absurd cc
argument_paired v n (more t ts) none a b e = absurd cc
argument_paired v n (more t ts) (more u us) a b e =
    let tail : valued_all v ts ≡ valued_all v us = cc in
    let head : valued v t ≡ valued v u = cc in
    let r = argument_paired v n ts us a.1 b.1 tail in
    let p : Pair = (t, u) in
    record {
      pairs = p ∷ r.pairs;
      there = ap (option_map (λ (pairs : List Pair). p ∷ pairs)) r.there;
      same = (head, r.same);
      under = ((a.0, b.0), r.under);
    }

same_text : (c d : List ℕ) → c ≡ d → bytes_eq c d ≡ true
same_text c d e = (bytes_eq-Decides c d).1 e

pub flag_same : (a b : Bool) → a ≡ b → same_flag a b ≡ true
flag_same true b e = sym e
flag_same false true e = absurd cc
flag_same false false e = refl

pub fact_paired : {N : Names} → (v : Values) (n : ℕ) (fs gs : List (Fact Variable)) → Every (λ (f : Fact Variable). AllMadeOf N (Under n) f.args) fs → Every (λ (f : Fact Variable). AllMadeOf N (Under n) f.args) gs
    → map (fact_at v) fs ≡ map (fact_at v) gs → Paired N v n (fact_pairs fs gs)
fact_paired v n [] [] a b e = record { pairs = []; there = refl; same = tt; under = tt }
fact_paired v n [] (g ∷ gs) a b e = absurd cc
fact_paired v n (f ∷ fs) [] a b e = absurd cc
fact_paired v n (f ∷ fs) (g ∷ gs) a b e =
    let head : fact_at v f ≡ fact_at v g = cc in
    let tail : map (fact_at v) fs ≡ map (fact_at v) gs = cc in
    let symbol : f.symbol ≡ g.symbol = ap (λ (x : Fact ⊥). x.symbol) head in
    let flag : f.persistent ≡ g.persistent = ap (λ (x : Fact ⊥). x.persistent) head in
    let args : valued_all v f.args ≡ valued_all v g.args = ap (λ (x : Fact ⊥). x.args) head in
    let r = both_paired v n _ _ (argument_paired v n f.args g.args a.0 b.0 args) (fact_paired v n fs gs a.1 b.1 tail) in
    rw (same_text f.symbol g.symbol symbol, flag_same f.persistent g.persistent flag) r

pub action_paired : {N : Names} → (v : Values) (n : ℕ) (a b : Action Variable) → AllMadeOf N (Under n) a.args → AllMadeOf N (Under n) b.args → action_at v a ≡ action_at v b → Paired N v n (action_pair a b)
action_paired v n a b k l e =
    let symbol : a.symbol ≡ b.symbol = ap (λ (x : Action ⊥). x.symbol) e in
    let args : valued_all v a.args ≡ valued_all v b.args = ap (λ (x : Action ⊥). x.args) e in
    rw (same_text a.symbol b.symbol symbol) (argument_paired v n a.args b.args k l args)

actions_paired : {N : Names} → (v : Values) (n : ℕ) (xs ys : List (Action Variable)) → Every (λ (a : Action Variable). AllMadeOf N (Under n) a.args) xs → Every (λ (a : Action Variable). AllMadeOf N (Under n) a.args) ys
    → map (action_at v) xs ≡ map (action_at v) ys → Paired N v n (action_pairs xs ys)
actions_paired v n [] [] a b e = record { pairs = []; there = refl; same = tt; under = tt }
actions_paired v n [] (y ∷ ys) a b e = absurd cc
actions_paired v n (x ∷ xs) [] a b e = absurd cc
actions_paired v n (x ∷ xs) (y ∷ ys) a b e =
    let head : action_at v x ≡ action_at v y = cc in
    let tail : map (action_at v) xs ≡ map (action_at v) ys = cc in
    both_paired v n _ _ (action_paired v n x y a.0 b.0 head) (actions_paired v n xs ys a.1 b.1 tail)

-- what makes two steps of one rule one
abbrev pub step_pairs : List ℕ → Facts Variable → List ℕ → Facts Variable → Option (List Pair)
step_pairs r f q g =
    if bytes_eq r q
    then both_pairs (fact_pairs f.premises g.premises) (both_pairs (action_pairs f.actions g.actions) (fact_pairs f.conclusions g.conclusions))
    else None

-- Two steps of one rule whose facts have the same values.
pub steps_paired : {N : Names} → (v : Values) (n : ℕ) (r q : List ℕ) (f g : Facts Variable) → FactsMadeOf N (Under n) f → FactsMadeOf N (Under n) g → r ≡ q → facts_at v f ≡ facts_at v g
    → Paired N v n (step_pairs r f q g)
steps_paired v n r q f g a b named e =
    let p = fact_paired v n f.premises g.premises a.premises b.premises (ap (λ (x : Facts ⊥). x.premises) e) in
    let s = actions_paired v n f.actions g.actions a.actions b.actions (ap (λ (x : Facts ⊥). x.actions) e) in
    let c = fact_paired v n f.conclusions g.conclusions a.conclusions b.conclusions (ap (λ (x : Facts ⊥). x.conclusions) e) in
    rw (same_text r q named) (both_paired v n _ _ p (both_paired v n _ _ s c))

-- The pairs' variables are those of the facts.
abbrev pub OptionUnder : Names → ℕ → Option (List Pair) → Type 0
OptionUnder N n None = Unit {0}
OptionUnder N n (Some pairs) = PairsUnder N n pairs

both_under : (N : Names) → (n : ℕ) (o u : Option (List Pair)) → OptionUnder N n o → OptionUnder N n u → OptionUnder N n (both_pairs o u)
both_under N n None u a b = tt
both_under N n (Some ps) None a b = tt
both_under N n (Some ps) (Some qs) a b = every_append _ ps qs a b

if_under : (N : Names) → (n : ℕ) (b : Bool) (o : Option (List Pair)) → OptionUnder N n o → OptionUnder N n (if b then o else None)
if_under N n true o a = a
if_under N n false o a = tt

one_more_under : (N : Names) → (n : ℕ) (p : Pair) (o : Option (List Pair)) → PairsUnder N n (p ∷ []) → OptionUnder N n o → OptionUnder N n (option_map (λ (pairs : List Pair). p ∷ pairs) o)
one_more_under N n p None h k = tt
one_more_under N n p (Some ps) h k = (h.0, k)

pub argument_under : (N : Names) → (n : ℕ) (ts us : Terms Variable) → AllMadeOf N (Under n) ts → AllMadeOf N (Under n) us → OptionUnder N n (argument_pairs ts us)
argument_under N n none none a b = tt
argument_under N n none (more u us) a b = tt
argument_under N n (more t ts) none a b = tt
argument_under N n (more t ts) (more u us) a b = one_more_under N n (t, u) (argument_pairs ts us) ((a.0, b.0), tt) (argument_under N n ts us a.1 b.1)

fact_under : (N : Names) → (n : ℕ) (fs gs : List (Fact Variable)) → Every (λ (f : Fact Variable). AllMadeOf N (Under n) f.args) fs → Every (λ (f : Fact Variable). AllMadeOf N (Under n) f.args) gs → OptionUnder N n (fact_pairs fs gs)
fact_under N n [] [] a b = tt
fact_under N n [] (g ∷ gs) a b = tt
fact_under N n (f ∷ fs) [] a b = tt
fact_under N n (f ∷ fs) (g ∷ gs) a b =
    if_under N n (bytes_eq f.symbol g.symbol && same_flag f.persistent g.persistent) (both_pairs (argument_pairs f.args g.args) (fact_pairs fs gs))
    (both_under N n (argument_pairs f.args g.args) (fact_pairs fs gs) (argument_under N n f.args g.args a.0 b.0) (fact_under N n fs gs a.1 b.1))

pub action_under : (N : Names) → (n : ℕ) (a b : Action Variable) → AllMadeOf N (Under n) a.args → AllMadeOf N (Under n) b.args → OptionUnder N n (action_pair a b)
action_under N n a b h k = if_under N n (bytes_eq a.symbol b.symbol) (argument_pairs a.args b.args) (argument_under N n a.args b.args h k)

actions_under : (N : Names) → (n : ℕ) (xs ys : List (Action Variable)) → Every (λ (a : Action Variable). AllMadeOf N (Under n) a.args) xs → Every (λ (a : Action Variable). AllMadeOf N (Under n) a.args) ys → OptionUnder N n (action_pairs xs ys)
actions_under N n [] [] a b = tt
actions_under N n [] (y ∷ ys) a b = tt
actions_under N n (x ∷ xs) [] a b = tt
actions_under N n (x ∷ xs) (y ∷ ys) a b = both_under N n (action_pair x y) (action_pairs xs ys) (action_under N n x y a.0 b.0) (actions_under N n xs ys a.1 b.1)

pub steps_under : (N : Names) → (n : ℕ) (r q : List ℕ) (f g : Facts Variable) → FactsMadeOf N (Under n) f → FactsMadeOf N (Under n) g → OptionUnder N n (step_pairs r f q g)
steps_under N n r q f g a b =
    if_under N n (bytes_eq r q) (both_pairs (fact_pairs f.premises g.premises) (both_pairs (action_pairs f.actions g.actions) (fact_pairs f.conclusions g.conclusions)))
    (both_under N n (fact_pairs f.premises g.premises) (both_pairs (action_pairs f.actions g.actions) (fact_pairs f.conclusions g.conclusions)) (fact_under N n f.premises g.premises a.premises b.premises)
    (both_under N n (action_pairs f.actions g.actions) (fact_pairs f.conclusions g.conclusions) (actions_under N n f.actions g.actions a.actions b.actions) (fact_under N n f.conclusions g.conclusions a.conclusions b.conclusions)))
