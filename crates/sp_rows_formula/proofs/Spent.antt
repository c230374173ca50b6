-- What is made the same after a formula is spent may as well be made the same before.
use Rattle.std.proofs.Common.{◌≡◌, ℕ, zero, suc, Bool, true, false, if◌then◌else◌, List, [], ◌∷◌, ◌++◌, take, drop, length, map, Option, Some, None, option_map, option_and_then, refl, sym, ap, ap₂, ◌∙◌, subst, ◌==◌}
use Rattle.std.proofs.lemmas.List.{map-append, take-map, drop-map, length-map}
use Rattle.sp_spec.specs.Term.{Variable, Term}
use Rattle.sp_spec.specs.Guarded.{Guarded}
use Rattle.sp_spec.specs.Change.{changed, free_change}
use Rattle.sp_spec.specs.Substitution.{Binding, bound_to}
use Rattle.sp_spec.specs.Unifier.{mgu}
use Rattle.sp_spec_system.specs.System.{System, with_events}
use Rattle.sp_spec_system.specs.Equating.{Merging, merging, order_changed, system_changed}
use Rattle.sp_spec_system.specs.MakingOne.{Joining, MergingEvents, all_joined, at_times, joined, learnt_by_at, made_one, merging_events, one_time, turn, unified, with_times}
use Rattle.sp_spec_formula.specs.Equate.{Equation, equal_terms, equal_times, equated}
use Rattle.sp_system.specs.SpendView.{spending_at}
use Rattle.sp_merge.proofs.Merges.{cut, cut_map}

abbrev spent : ℕ → Option System → Option System
spent k o = option_map (λ t. spending_at t k []) o

spent_changed : (terms : Variable → Term Variable) (times : ℕ → ℕ) (s : System) (k : ℕ) → system_changed terms times (spending_at s k []) ≡ spending_at (system_changed terms times s) k []
unfolding cut
spent_changed terms times s k =
    let g : Guarded → Guarded = changed (free_change terms times) in
    let t : System = system_changed terms times s in
    let made : List Guarded → List Guarded → System = λ fs ds. record t { formulas = fs; spent = ds } in
    ap₂ made (cut_map g k s.formulas)
    (map-append g s.spent (take 1 (drop k s.formulas))
    ∙ ap (λ (xs : List Guarded). map g s.spent ++ xs) (sym (take-map g 1 (drop k s.formulas)) ∙ ap (take 1) (sym (drop-map g k s.formulas))))

-- the same of a system whose times are being made one
abbrev spent_joining : ℕ → Joining → Joining
spent_joining k j = record { system = spending_at j.system k []; pairs = j.pairs; times = j.times }

module _ (k : ℕ) where
  joined_spent : (p : ℕ × ℕ) (j : Joining) (o : Option MergingEvents) → joined p (spent_joining k j) o ≡ option_map (spent_joining k) (joined p j o)
  joined_spent p j None =
      ap (λ (t : System). let made : Joining = record { system = t; pairs = j.pairs; times = map (order_changed (one_time p)) j.times } in Some made)
      (spent_changed (bound_to []) (one_time p) j.system k)
  joined_spent p j (Some r) = at (merging r.first.happening r.second.happening)
    where
      at : (o : Option Merging) → option_map
          (λ (m : Merging). record {
            system = system_changed (bound_to []) (one_time p) (with_events (spending_at j.system k []) (learnt_by_at r.first.time m.way r.others));
            pairs = j.pairs ++ m.pairs;
            times = map (order_changed (one_time p)) (j.times ++ m.times);
          })
          o
          ≡ option_map (spent_joining k)
          (option_map
          (λ (m : Merging). record {
            system = system_changed (bound_to []) (one_time p) (with_events j.system (learnt_by_at r.first.time m.way r.others));
            pairs = j.pairs ++ m.pairs;
            times = map (order_changed (one_time p)) (j.times ++ m.times);
          })
          o)
      at None = refl
      at (Some m) =
          ap (λ (t : System). let made : Joining = record { system = t; pairs = j.pairs ++ m.pairs; times = map (order_changed (one_time p)) (j.times ++ m.times) } in Some made)
          (spent_changed (bound_to []) (one_time p) (with_events j.system (learnt_by_at r.first.time m.way r.others)) k)

  turn_spent : (again : Joining → Option Joining) → ((j : Joining) → again (spent_joining k j) ≡ option_map (spent_joining k) (again j)) → (j : Joining) (times : List (ℕ × ℕ))
      → turn again (spent_joining k j) times ≡ option_map (spent_joining k) (turn again j times)
  turn_spent again h j [] = refl
  turn_spent again h j (p ∷ times) =
      let o = merging_events (at_times p.0 p.1) j.system.events in
      ap (option_and_then again) (joined_spent p (with_times j times) o) ∙ at (joined p (with_times j times) o)
    where
      at : (o : Option Joining) → option_and_then again (option_map (spent_joining k) o) ≡ option_map (spent_joining k) (option_and_then again o)
      at None = refl
      at (Some i) = h i

  all_spent : (n : ℕ) (j : Joining) → all_joined n (spent_joining k j) ≡ option_map (spent_joining k) (all_joined n j)
  all_spent zero j = turn_spent (λ i. None) (λ i. refl) j j.times
  all_spent (suc n) j = turn_spent (all_joined n) (all_spent n) j j.times

  unified_spent : (j : Joining) → unified (spent_joining k j) ≡ spent k (unified j)
  unified_spent j = at (mgu j.pairs)
    where
      at : (o : Option (List Binding)) → option_map (λ (bs : List Binding). system_changed (bound_to bs) (λ i. i) (spending_at j.system k [])) o
          ≡ spent k (option_map (λ (bs : List Binding). system_changed (bound_to bs) (λ i. i) j.system) o)
      at None = refl
      at (Some bs) = ap Some (spent_changed (bound_to bs) (λ i. i) j.system k)

  one_spent : (s : System) (p : ℕ × ℕ) → made_one (spending_at s k []) p ≡ spent k (made_one s p)
  one_spent s p =
      let j : Joining = record { system = s; pairs = []; times = p ∷ [] } in
      ap (option_and_then unified) (all_spent (suc (length s.events)) j) ∙ at (all_joined (suc (length s.events)) j)
    where
      at : (o : Option Joining) → option_and_then unified (option_map (spent_joining k) o) ≡ spent k (option_and_then unified o)
      at None = refl
      at (Some j) = unified_spent j

module _ (s : System) (k : ℕ) where
  pub equated_spent : (e : Equation) → equated (spending_at s k []) e ≡ spent k (equated s e)
  equated_spent (equal_terms p) = at (mgu (p ∷ []))
    where
      at : (o : Option (List Binding)) → option_map (λ bs. system_changed (bound_to bs) (λ i. i) (spending_at s k [])) o ≡ spent k (option_map (λ bs. system_changed (bound_to bs) (λ i. i) s) o)
      at None = refl
      at (Some bs) = ap Some (spent_changed (bound_to bs) (λ i. i) s k)
  equated_spent (equal_times i j) = at (i == j) (made_one s (i, j)) (one_spent k s (i, j))
    where
      at : (b : Bool) (o : Option System) {p : Option System} → p ≡ spent k o → (if b then Some (spending_at s k []) else p) ≡ spent k (if b then Some s else o)
      at true o e = refl
      at false o e = e

-- it has so many formulas
abbrev HasMany : ℕ → Option System → Type 0
HasMany n None = Unit {0}
HasMany n (Some t) = length t.formulas ≡ n

abbrev JoiningHasMany : ℕ → Option Joining → Type 0
JoiningHasMany n None = Unit {0}
JoiningHasMany n (Some j) = length j.system.formulas ≡ n

many_changed : (terms : Variable → Term Variable) (times : ℕ → ℕ) (s : System) → length (system_changed terms times s).formulas ≡ length s.formulas
many_changed terms times s = length-map s.formulas (changed (free_change terms times))

module _ (n : ℕ) where
  many_joined : (p : ℕ × ℕ) (j : Joining) (o : Option MergingEvents) → length j.system.formulas ≡ n → JoiningHasMany n (joined p j o)
  many_joined p j None h = many_changed (bound_to []) (one_time p) j.system ∙ h
  many_joined p j (Some r) h = at (merging r.first.happening r.second.happening)
    where
      at : (o : Option Merging) → JoiningHasMany n
          (option_map
          (λ (m : Merging). record {
            system = system_changed (bound_to []) (one_time p) (with_events j.system (learnt_by_at r.first.time m.way r.others));
            pairs = j.pairs ++ m.pairs;
            times = map (order_changed (one_time p)) (j.times ++ m.times);
          })
          o)
      at None = tt
      at (Some m) = many_changed (bound_to []) (one_time p) (with_events j.system (learnt_by_at r.first.time m.way r.others)) ∙ h

  many_turn : (again : Joining → Option Joining) → ((j : Joining) → length j.system.formulas ≡ n → JoiningHasMany n (again j)) → (j : Joining) (times : List (ℕ × ℕ))
      → length j.system.formulas ≡ n → JoiningHasMany n (turn again j times)
  many_turn again go j [] h = h
  many_turn again go j (p ∷ times) h =
      let o = merging_events (at_times p.0 p.1) j.system.events in
      at (joined p (with_times j times) o) (many_joined p (with_times j times) o h)
    where
      at : (o : Option Joining) → JoiningHasMany n o → JoiningHasMany n (option_and_then again o)
      at None k = tt
      at (Some i) k = go i k

  many_all : (turns : ℕ) (j : Joining) → length j.system.formulas ≡ n → JoiningHasMany n (all_joined turns j)
  many_all zero j h = many_turn (λ i. None) (λ i e. tt) j j.times h
  many_all (suc turns) j h = many_turn (all_joined turns) (many_all turns) j j.times h

  many_unified : (o : Option Joining) → JoiningHasMany n o → HasMany n (option_and_then unified o)
  many_unified None h = tt
  many_unified (Some j) h = at (mgu j.pairs)
    where
      at : (o : Option (List Binding)) → HasMany n (option_map (λ (bs : List Binding). system_changed (bound_to bs) (λ i. i) j.system) o)
      at None = tt
      at (Some bs) = many_changed (bound_to bs) (λ i. i) j.system ∙ h

module _ (s : System) where
  many_one : (p : ℕ × ℕ) → HasMany (length s.formulas) (made_one s p)
  many_one p =
      let j : Joining = record { system = s; pairs = []; times = p ∷ [] } in
      many_unified (length s.formulas) (all_joined (suc (length s.events)) j) (many_all (length s.formulas) (suc (length s.events)) j refl)

  many_equated : (e : Equation) → HasMany (length s.formulas) (equated s e)
  many_equated (equal_terms p) = at (mgu (p ∷ []))
    where
      at : (o : Option (List Binding)) → HasMany (length s.formulas) (option_map (λ bs. system_changed (bound_to bs) (λ i. i) s) o)
      at None = tt
      at (Some bs) = many_changed (bound_to bs) (λ i. i) s
  many_equated (equal_times i j) = at (i == j) (made_one s (i, j)) (many_one (i, j))
    where
      at : (b : Bool) (o : Option System) → HasMany (length s.formulas) o → HasMany (length s.formulas) (if b then Some s else o)
      at true o h = refl
      at false o h = h

  pub as_many : (e : Equation) (t : System) → equated s e ≡ Some t → length t.formulas ≡ length s.formulas
  as_many e t is = subst (HasMany (length s.formulas)) is (many_equated e)
