-- The names of a decided system: none of its events' variables is a message, and what may be one name or two is said to be two.
use Rattle.std.proofs.Common.{◌≡◌, ⊎_elim, ◌<◌, ℕ, Bool, true, false, not, ◌&&◌, if◌then◌else◌, List, [], ◌∷◌, ◌++◌, map, flat_map, inl, inr, refl, sym, ap, ap₂, subst, arith}
use Rattle.std.specs.Ordering.{is_lt, nat_cmp}
use Rattle.std.specs.Cmp.Lexicographic.{slice_cmp}
use Rattle.std.proofs.lemmas.Bool.{lt-ltb, cases_order}
use Rattle.sp_spec.specs.Lists.{Member}
use Rattle.sp_spec.specs.Term.{Sort, Msg, Fresh, Pub, Variable, Term, var, constant, in_term}
use Rattle.sp_spec.specs.Same.{same_variable}
use Rattle.sp_spec.proofs.Lists.{member_left, member_map}
use Rattle.sp_spec.proofs.Listed.{listed_member, listed_append}
use Rattle.sp_spec.proofs.Same.{same_fields, same_variable_decides}
use Rattle.sp_spec_system.specs.System.{Way, anyhow, public_name, own_name, constructed, chain_begun, chain_done, Happening, rule_step, sending, learning, Event, System}
use Rattle.sp_spec_system.specs.Occurring.{way_variables, happening_variables, variables_in, names_of}
use Rattle.sp_spec_system.specs.Move.{Side, fresh_side, public_side, constant_side, top, same, Context}
use Rattle.sp_spec_formula.specs.Sides.{side_term, are_in_order, stands_there, are_apart, is_undecided}
use Rattle.sp_spec_formula.specs.Top.{of_number, has_variable}
use Rattle.sp_spec_solved.specs.Naming.{in_chain, in_way, in_step, in_events}
use Rattle.sp_spec_proof.specs.Deciding.{counted, placed_by_bytes, sorted_by_bytes, sides_at, sides, sames, tops}
use Rattle.sp_spec_proof.specs.Finish.{is_decided}
use Rattle.sp_spec_proof.specs.Kinds.{of_rank}
use Rattle.sp_law_system.specs.Proofs.{IsWellMade}
use Rattle.sp_law_forms.proofs.Lists.{member_flat_map, any_passes}
use Rattle.sp_law_decided.specs.Decided.{StandApart}
use Rattle.sp_law_decided.proofs.Tested.{apart_there}
use Rattle.sp_law_progress.proofs.Occurring.{variable_under}
use Rattle.sp_law_finish.proofs.Moves.{none_decides, never, rest_fails, not_fails}
use Rattle.sp_law_finish.proofs.Pairs.{InFront, two_there, front_left, front_both, front_flat, counted_there, counted_front}

-- ---- the variables of events stand in the system

chain_same : (ts : List (Term Variable)) → in_chain ts ≡ flat_map in_term ts
chain_same [] = refl
chain_same (t ∷ ts) = ap (λ (xs : List Variable). in_term t ++ xs) (chain_same ts)

way_same : (way : Way) → in_way way ≡ way_variables way
way_same anyhow = refl
way_same public_name = refl
way_same own_name = refl
way_same constructed = refl
way_same (chain_begun i k ts) = chain_same ts
way_same (chain_done i k ts) = chain_same ts

step_same : (h : Happening) → in_step h ≡ happening_variables h
step_same (rule_step r facts) = refl
step_same (sending m) = refl
step_same (learning m way) = ap (λ (xs : List Variable). in_term m ++ xs) (way_same way)

events_same : (events : List Event) → in_events events ≡ flat_map (λ (e : Event). happening_variables e.happening) events
events_same [] = refl
events_same (e ∷ events) = ap₂ (λ (xs ys : List Variable). xs ++ ys) (step_same e.happening) (events_same events)

stands : (s : System) (x : Variable) → Member x (in_events s.events) → has_variable s x ≡ true
stands s x m =
    any_passes (same_variable x) x (variables_in s)
    (member_left x (flat_map (λ (e : Event). happening_variables e.happening) s.events) _ (subst (λ (xs : List Variable). Member x xs) (events_same s.events) m))
    ((same_variable_decides x x).1 refl)

-- ---- names, the lower ones first

module _ (c : List ℕ) where
  placed_there : (ds : List (List ℕ)) → Member c (placed_by_bytes c ds)
  placed_there [] = inl refl
  placed_there (d ∷ ds) = at (is_lt (slice_cmp nat_cmp d c)) (placed_there ds)
    where
      at : (b : Bool) → Member c (placed_by_bytes c ds) → Member c (if b then d ∷ placed_by_bytes c ds else c ∷ d ∷ ds)
      at true later = inr later
      at false later = inl refl

  placed_too : (a : List ℕ) (ds : List (List ℕ)) → Member a ds → Member a (placed_by_bytes c ds)
  placed_too a [] m = absurd m
  placed_too a (d ∷ ds) m = at (is_lt (slice_cmp nat_cmp d c)) m (placed_too a ds)
    where
      at : (b : Bool) → Member a (d ∷ ds) → (Member a ds → Member a (placed_by_bytes c ds)) → Member a (if b then d ∷ placed_by_bytes c ds else c ∷ d ∷ ds)
      at true (inl e) later = inl e
      at true (inr k) later = inr (later k)
      at false k later = inr k

sorted_there : (c : List ℕ) (cs : List (List ℕ)) → Member c cs → Member c (sorted_by_bytes cs)
sorted_there c [] m = absurd m
sorted_there c (d ∷ cs) (inl e) = subst (λ (z : List ℕ). Member z (placed_by_bytes d (sorted_by_bytes cs))) e (placed_there d (sorted_by_bytes cs))
sorted_there c (d ∷ cs) (inr m) = placed_too d c (sorted_by_bytes cs) (sorted_there c cs m)

turned : (s : System) (t u : Term Variable) → StandApart s t u → StandApart s u t
turned s t u (inl m) = inr m
turned s t u (inr m) = inl m

-- ---- those of a decided system

module _ (context : Context) (s : System) (e : is_decided context s ≡ true) (made : IsWellMade context s) where
  abbrev HasNumber : Variable → Type 0
  HasNumber x = (has_variable s (of_number x.sort x.number) ≡ true) × (x.number < s.next)

  numbered : (x : Variable) → Member x (in_events s.events) → HasNumber x
  numbered x m =
      let there = stands s x m in
      (subst (λ (y : Variable). has_variable s y ≡ true) (same_fields x (of_number x.sort x.number) refl refl) there, variable_under s made.numbered x there)

  pub named : (x : Variable) → Member x (in_events s.events) → x.sort ≡ Msg → ⊥
  named x m is =
      let has = numbered x m in
      let below = has.1 in
      let among = member_map top x.number (counted 0 s.next) (counted_there 0 s.next x.number (omega arith) (omega (arith, below))) in
      let there = subst (λ (sort : Sort). has_variable s (of_number sort x.number) ≡ true) is has.0 in
      let none = never (has_variable s (of_number Msg x.number)) _ (none_decides context s e (of_rank 15 tops) (inr (inr (inr (inr (inl refl))))) (top x.number) among) in
      cc

  -- sides of which the one stands in front of the other are decided
  sides_apart : (a b : Side) → InFront a b (sides context.public_names s) → are_in_order a b ≡ true → stands_there context.public_names s a ≡ true
      → stands_there context.public_names s b ≡ true → StandApart s (side_term a) (side_term b)
  sides_apart a b front in_order first second =
      let constants = context.public_names in
      let among = two_there (λ c d. same c d ∷ []) a b (sides constants s) front (same a b) (inl refl) in
      let none : is_undecided constants s a b ≡ false = never (is_undecided constants s a b) _ (none_decides context s e (of_rank 13 sames) (inr (inr (inl refl))) (same a b) among) in
      let apart = are_apart s.unequal (side_term a) (side_term b) in
      let there = rest_fails (are_in_order a b) (stands_there constants s a && (stands_there constants s b && not apart)) in_order none in
      let both = rest_fails (stands_there constants s a) (stands_there constants s b && not apart) first there in
      apart_there s.unequal (side_term a) (side_term b) (not_fails apart (rest_fails (stands_there constants s b) (not apart) second both))

  abbrev variables : List Side
  variables = flat_map sides_at (counted 0 s.next)

  abbrev constants_too : List Side
  constants_too = map constant_side (sorted_by_bytes context.public_names)

  both_front : (i j : ℕ) → i < j → j < s.next → (a b : Side) → Member a (sides_at i) → Member b (sides_at j) → InFront a b (sides context.public_names s)
  both_front i j less below a b m k =
      front_left a b variables constants_too
      (front_flat sides_at i j (counted 0 s.next) (counted_front 0 s.next i j (omega arith) less (omega (arith, below))) a b m k)

  -- two numbers of one sort, the lower one first
  numbers_apart : (sort : Sort) (i j : ℕ) → (sort ≡ Msg → ⊥) → has_variable s (of_number sort i) ≡ true → has_variable s (of_number sort j) ≡ true
      → i < j → j < s.next → StandApart s (var (of_number sort i)) (var (of_number sort j))
  numbers_apart Msg i j other first second less below = absurd (other refl)
  numbers_apart Fresh i j other first second less below =
      sides_apart (fresh_side i) (fresh_side j) (both_front i j less below (fresh_side i) (fresh_side j) (inl refl) (inl refl)) (lt-ltb i j less) first second
  numbers_apart Pub i j other first second less below =
      sides_apart (public_side i) (public_side j) (both_front i j less below (public_side i) (public_side j) (inr (inl refl)) (inr (inl refl))) (lt-ltb i j less) first second

  -- two variables
  variables_apart : (x y : Variable) → Member x (in_events s.events) → Member y (in_events s.events) → x.sort ≡ y.sort → x.number < y.number → StandApart s (var x) (var y)
  variables_apart x y m k one less =
      let first = numbered x m in
      let second = numbered y k in
      let of_one : (sort : Sort) → Variable → Type 0 = λ sort z. has_variable s (of_number sort z.number) ≡ true in
      let apart = numbers_apart x.sort x.number y.number (named x m) first.0 (subst (λ (sort : Sort). of_one sort y) (sym one) second.0) less second.1 in
      subst (λ (z : Variable). StandApart s (var z) (var y)) (same_fields (of_number x.sort x.number) x refl refl)
      (subst (λ (z : Variable). StandApart s (var (of_number x.sort x.number)) (var z)) (same_fields (of_number x.sort y.number) y one refl) apart)

  pub apart : (x y : Variable) → Member x (in_events s.events) → Member y (in_events s.events) → x.sort ≡ y.sort → (x ≡ y → ⊥) → StandApart s (var x) (var y)
  apart x y m k one differ =
      ⊎_elim (λ same_number. absurd (differ (same_fields x y one same_number)))
      (λ order. ⊎_elim (variables_apart x y m k one) (λ l. turned s (var y) (var x) (variables_apart y x k m (sym one) l)) order)
      (cases_order x.number y.number)

  -- a public variable and a constant
  pub others : (x : Variable) → Member x (in_events s.events) → x.sort ≡ Pub → (c : List ℕ) → Member c context.public_names → StandApart s (var x) (constant c)
  others x m is c k =
      let i = x.number in
      let has = numbered x m in
      let below = has.1 in
      let there = subst (λ (sort : Sort). has_variable s (of_number sort i) ≡ true) is has.0 in
      let among = member_flat_map sides_at i (public_side i) (counted 0 s.next) (counted_there 0 s.next i (omega arith) (omega (arith, below))) (inr (inl refl)) in
      let listed = member_map constant_side c (sorted_by_bytes context.public_names) (sorted_there c context.public_names k) in
      let front = front_both (public_side i) (constant_side c) variables constants_too among listed in
      let named_there = listed_append c context.public_names (names_of s) (listed_member c context.public_names k) in
      subst (λ (z : Variable). StandApart s (var z) (constant c)) (same_fields (of_number Pub i) x (sym is) refl)
      (sides_apart (public_side i) (constant_side c) front refl there named_there)
