-- What matching with facts finds: values that agree with the bindings make the pattern's arguments those of the facts, and each binding is of its
-- variable's sort and a part of the facts' arguments.
use Rattle.std.proofs.Common.{◌≡◌, ℕ, Bool, true, false, cond, List, [], ◌∷◌, ◌++◌, Option, Some, None, option_and_then, refl, sym, subst}
use Rattle.sp_spec.specs.Lists.{Every}
use Rattle.sp_spec.proofs.Lists.{every_append}
use Rattle.sp_spec.proofs.Options.{some_same, if_some, then_some}
use Rattle.sp_spec.specs.Term.{Variable, Term, var, app, Terms, more, Ground, Grounds, Values, valued_all}
use Rattle.sp_spec.specs.Same.{no_test, same_by, same_variable}
use Rattle.sp_spec.specs.Signature.{Symbol, HasSort, IsOver, AreOver}
use Rattle.sp_spec.specs.Matching.{never_has_sort, has_sort_by, bound_by, Agrees}
use Rattle.sp_spec.specs.Rule.{Fact, Action, Facts, OfArguments}
use Rattle.sp_spec.proofs.Same.{no_test_decides, same_variable_decides}
use Rattle.sp_spec.proofs.Matching.{Matches, matched_all_so}
use Rattle.sp_spec.proofs.Bindings as bindings
use Rattle.sp_law_equal.specs.Matching.{Bound, lookup, by_bound, matched_all}
use Rattle.sp_law_equal.specs.Pointwise.{EachWith}
use Rattle.sp_law_equal.proofs.Tests.{has_sort_decides}
use Rattle.sp_law_log_steps.specs.Found.{matched_facts, matched_actions, matched_instance}

-- ---- the facts' arguments

abbrev pub HasArgs : Values → Fact Variable → Fact ⊥ → Type 0
HasArgs v f g = valued_all v f.args ≡ g.args

abbrev pub HasActionArgs : Values → Action Variable → Action ⊥ → Type 0
HasActionArgs v a b = valued_all v a.args ≡ b.args

-- the values make the arguments of each fact and action those of the facts
pub record MakesArgs (v : Values) (p : Facts Variable) (f : Facts ⊥) : Type 0 where
  pub premises : EachWith (HasArgs v) p.premises f.premises
  pub actions : EachWith (HasActionArgs v) p.actions f.actions
  pub conclusions : EachWith (HasArgs v) p.conclusions f.conclusions

facts_args : (v : Values) (fs : List (Fact Variable)) (gs : List (Fact ⊥)) (bs cs : List Bound) → matched_facts fs gs bs ≡ Some cs → Agrees v cs
    → EachWith (HasArgs v) fs gs × Agrees v bs
facts_args v [] [] bs cs e a = (tt, subst (Agrees v) (some_same bs cs e) a)
facts_args v [] (g ∷ gs) bs cs e a = absurd cc
facts_args v (f ∷ fs) [] bs cs e a = absurd cc
facts_args v (f ∷ fs) (g ∷ gs) bs cs e a =
    let h = then_some (λ (ds : List Bound). matched_facts fs gs ds) (matched_all f.args g.args bs) cs e in
    let later = facts_args v fs gs h.0 cs h.2 a in
    let here = (bindings.all_given no_test no_test_decides never_has_sort f.args g.args bs h.0 h.1).agree v later.1 in
    ((here.0, later.0), here.1)

actions_args : (v : Values) (xs : List (Action Variable)) (ys : List (Action ⊥)) (bs cs : List Bound) → matched_actions xs ys bs ≡ Some cs → Agrees v cs
    → EachWith (HasActionArgs v) xs ys × Agrees v bs
actions_args v [] [] bs cs e a = (tt, subst (Agrees v) (some_same bs cs e) a)
actions_args v [] (y ∷ ys) bs cs e a = absurd cc
actions_args v (x ∷ xs) [] bs cs e a = absurd cc
actions_args v (x ∷ xs) (y ∷ ys) bs cs e a =
    let h = then_some (λ (ds : List Bound). matched_actions xs ys ds) (matched_all x.args y.args bs) cs e in
    let later = actions_args v xs ys h.0 cs h.2 a in
    let here = (bindings.all_given no_test no_test_decides never_has_sort x.args y.args bs h.0 h.1).agree v later.1 in
    ((here.0, later.0), here.1)

pub instance_args : (v : Values) (p : Facts Variable) (f : Facts ⊥) (cs : List Bound) → matched_instance p f ≡ Some cs → Agrees v cs → MakesArgs v p f
instance_args v p f cs e a =
    let h = then_some (λ bs. option_and_then (λ ds. matched_facts p.conclusions f.conclusions ds) (matched_actions p.actions f.actions bs)) (matched_facts p.premises f.premises []) cs e in
    let k = then_some (λ ds. matched_facts p.conclusions f.conclusions ds) (matched_actions p.actions f.actions h.0) cs h.2 in
    let conclusions = facts_args v p.conclusions f.conclusions k.0 cs k.2 a in
    let actions = actions_args v p.actions f.actions h.0 k.0 k.1 conclusions.1 in
    let premises = facts_args v p.premises f.premises [] h.0 h.1 actions.1 in
    record { premises = premises.0; actions = actions.0; conclusions = conclusions.0 }

-- ---- the bindings

-- what holds of terms, and of their arguments
pub record IsInherited (P : Ground → Type 0) (Q : Grounds → Type 0) : Type 0 where
  pub under : (f : List ℕ) (ts : Grounds) → P (app f ts) → Q ts
  pub first : (t : Ground) (ts : Grounds) → Q (more t ts) → P t
  pub rest : (t : Ground) (ts : Grounds) → Q (more t ts) → Q ts

-- holds of the bindings' values where it holds of the facts' arguments; and each is of its variable's sort
module _ (P : Ground → Type 0) (Q : Grounds → Type 0) (inherited : IsInherited P Q) where
  abbrev pub IsBoundTo : Bound → Type 0
  IsBoundTo b = HasSort b.0.sort b.1 × P b.1

  abbrev pub AreBoundTo : List Bound → Type 0
  AreBoundTo bs = Every IsBoundTo bs

  abbrev KeepsValues : Term Variable → Ground → List Bound → List Bound → Type 0
  KeepsValues p t bs cs = P t → AreBoundTo bs → AreBoundTo cs

  abbrev KeepValues : Terms Variable → Grounds → List Bound → List Bound → Type 0
  KeepValues ps ts bs cs = Q ts → AreBoundTo bs → AreBoundTo cs

  variable_value : (o : Option Ground) (x : Variable) (t : Ground) (bs cs : List Bound) → by_bound o x t bs ≡ Some cs → KeepsValues (var x) t bs cs
  variable_value (Some u) x t bs cs e has old = subst AreBoundTo (sym (some_same bs cs (if_some (same_by no_test u t) (Some bs) cs e).1)) old
  variable_value None x t bs cs e has old =
      let more : List Bound = bs ++ (x, t) ∷ [] in
      let h = if_some (has_sort_by never_has_sort x.sort t) (Some more) cs e in
      subst AreBoundTo (sym (some_same more cs h.1))
      (every_append IsBoundTo bs ((x, t) ∷ []) old (((has_sort_decides x.sort t).0 h.0, has), tt))

  keeps : Matches (bound_by no_test never_has_sort) KeepsValues KeepValues
  keeps = record {
    leaf = λ x t bs cs e. variable_value (lookup bs x) x t bs cs e;
    constants = λ c bs has old. old;
    names = λ n bs has old. old;
    under = λ f ps ts bs cs h has old. h (inherited.under f ts has) old;
    end = λ bs has old. old;
    beside = λ p t ps ts bs cs ds h k has old. k (inherited.rest t ts has) (h (inherited.first t ts has) old);
  }

  all_values : (ps : Terms Variable) (ts : Grounds) (bs cs : List Bound) → matched_all ps ts bs ≡ Some cs → KeepValues ps ts bs cs
  all_values ps ts bs cs e = matched_all_so (bound_by no_test never_has_sort) KeepsValues KeepValues keeps ps ts bs cs e

  facts_values : (fs : List (Fact Variable)) (gs : List (Fact ⊥)) (bs cs : List Bound) → matched_facts fs gs bs ≡ Some cs
      → Every (λ (g : Fact ⊥). Q g.args) gs → AreBoundTo bs → AreBoundTo cs
  facts_values [] [] bs cs e has old = subst AreBoundTo (sym (some_same bs cs e)) old
  facts_values [] (g ∷ gs) bs cs e has old = absurd cc
  facts_values (f ∷ fs) [] bs cs e has old = absurd cc
  facts_values (f ∷ fs) (g ∷ gs) bs cs e has old =
      let h = then_some (λ (ds : List Bound). matched_facts fs gs ds) (matched_all f.args g.args bs) cs e in
      facts_values fs gs h.0 cs h.2 has.1 (all_values f.args g.args bs h.0 h.1 has.0 old)

  actions_values : (xs : List (Action Variable)) (ys : List (Action ⊥)) (bs cs : List Bound) → matched_actions xs ys bs ≡ Some cs
      → Every (λ (y : Action ⊥). Q y.args) ys → AreBoundTo bs → AreBoundTo cs
  actions_values [] [] bs cs e has old = subst AreBoundTo (sym (some_same bs cs e)) old
  actions_values [] (y ∷ ys) bs cs e has old = absurd cc
  actions_values (x ∷ xs) [] bs cs e has old = absurd cc
  actions_values (x ∷ xs) (y ∷ ys) bs cs e has old =
      let h = then_some (λ (ds : List Bound). matched_actions xs ys ds) (matched_all x.args y.args bs) cs e in
      actions_values xs ys h.0 cs h.2 has.1 (all_values x.args y.args bs h.0 h.1 has.0 old)

  instance_values : (p : Facts Variable) (f : Facts ⊥) (cs : List Bound) → matched_instance p f ≡ Some cs → OfArguments Q f → AreBoundTo cs
  instance_values p f cs e has =
      let h = then_some (λ bs. option_and_then (λ ds. matched_facts p.conclusions f.conclusions ds) (matched_actions p.actions f.actions bs)) (matched_facts p.premises f.premises []) cs e in
      let k = then_some (λ ds. matched_facts p.conclusions f.conclusions ds) (matched_actions p.actions f.actions h.0) cs h.2 in
      facts_values p.conclusions f.conclusions k.0 cs k.2 has.conclusions
      (actions_values p.actions f.actions h.0 k.0 k.1 has.actions (facts_values p.premises f.premises [] h.0 h.1 has.premises tt))

  bound_there : (bs : List Bound) → AreBoundTo bs → (x : Variable) (t : Ground) → lookup bs x ≡ Some t → HasSort x.sort t × P t
  bound_there [] h x t e = absurd cc
  bound_there (b ∷ bs) h x t e = by_test (same_variable b.0 x) refl e (bound_there bs h.1 x t)
    where
      by_test : (c : Bool) → same_variable b.0 x ≡ c → cond c (Some b.1) (lookup bs x) ≡ Some t → (lookup bs x ≡ Some t → HasSort x.sort t × P t)
          → HasSort x.sort t × P t
      by_test true s k next =
          let same : b.1 ≡ t = cc in
          subst (λ (y : Variable). HasSort y.sort t × P t) ((same_variable_decides b.0 x).0 s)
          (subst (λ (u : Ground). HasSort b.0.sort u × P u) same h.0)
      by_test false s k next = next k

  -- what is found for a variable
  pub value_found : (p : Facts Variable) (f : Facts ⊥) (bs : List Bound) → matched_instance p f ≡ Some bs → OfArguments Q f
      → (x : Variable) (t : Ground) → lookup bs x ≡ Some t → HasSort x.sort t × P t
  value_found p f bs e has = bound_there bs (instance_values p f bs e has)

-- of terms over the symbols
pub over_inherited : (symbols : List Symbol) → IsInherited (IsOver symbols) (AreOver symbols)
over_inherited symbols = record { under = λ f ts h. h.1; first = λ t ts h. h.0; rest = λ t ts h. h.1 }
