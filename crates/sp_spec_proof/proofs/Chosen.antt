-- The move that is chosen is an instance, and never the one that leaves a leaf open.
use Rattle.std.proofs.Common.{◌≡◌, ℕ, Bool, true, false, List, [], ◌∷◌, ◌++◌, map, Option, Some, None, option_map, IfSome, refl}
use Rattle.std.specs.Prelude.{flat_map, if◌then◌else◌}
use Rattle.std.specs.List.{list_any}
use Rattle.std.specs.Option.{option_or}
use Rattle.std.proofs.lemmas.Bool.{cond_both}
use Rattle.std.proofs.lemmas.Option.{IfSome_then}
use Rattle.sp_spec.specs.Lists.{Every}
use Rattle.sp_spec.proofs.Lists.{every_map, every_all, every_append, every_weaken}
use Rattle.sp_spec.specs.Term.{Variable, Term}
use Rattle.sp_spec_system.specs.System.{System, Happening, Event, happening_premises}
use Rattle.sp_spec_system.specs.Move.{Side, Move, simplify, contradiction, unproved, solved, Root, Context, or, action, premise, know, chain, induction, compare, top, same, more_events, finish}
use Rattle.sp_spec_system.specs.Picked.{first_some}
use Rattle.sp_spec_know.specs.Know.{learnt_anyhow, is_message_variable}
use Rattle.sp_spec_proof.specs.Deciding.{counted, each_two, tells_apart, compare_told, told_comparisons, comparisons, sides, sames, tops}
use Rattle.sp_spec_proof.specs.Kinds.{Picker, of_rank, only, places_from, at_each_formula, premises_of, passed_last, no_message_variable, is_fresh_variable, is_application, if_of_kind, at_message, EventKind, event_kinds, at_each_event, all_at, event_pickers, deciding_pickers, pickers_by, last_picker, are_consecutive, first_pickers, pickers}
use Rattle.sp_spec_proof.specs.Choice.{Ranked, with_rank, is_instance, first_instance, picked, choice}
use Rattle.sp_spec_proof.specs.Growth.{is_unproved}

pub IfSome_map : {A B : Type 0} (f : A → B) (P : B → Type 0) (o : Option A) → IfSome o (λ x. P (f x)) → IfSome (option_map f o) P
IfSome_map f P None h = tt
IfSome_map f P (Some x) h = h

IfSome_or : {A : Type 0} (P : A → Type 0) (o later : Option A) → IfSome o P → IfSome later P → IfSome (option_or o later) P
IfSome_or P None later h k = k
IfSome_or P (Some x) later h k = h

-- ---- the moves of each kind

-- the moves of all kinds but the last, those on two names left out, and no open leaf
abbrev pub is_plain : Move → Bool
is_plain unproved = false
is_plain finish = false
is_plain (same a b) = false
is_plain move = true

abbrev ArePlain : List Move → Type 0
ArePlain moves = Every (λ (m : Move). is_plain m ≡ true) moves

map_plain : {A : Type 0} (move : A → Move) → ((x : A) → is_plain (move x) ≡ true) → (xs : List A) → ArePlain (map move xs)
map_plain {A = A} move each xs =
    every_map (λ (x : A). is_plain (move x) ≡ true) (λ (m : Move). is_plain m ≡ true) move (λ x h. h) xs (every_all (λ (x : A). is_plain (move x) ≡ true) each xs)

flat_have : {A : Type 0} (P : Move → Type 0) (moves : A → List Move) → ((x : A) → Every P (moves x)) → (xs : List A) → Every P (flat_map moves xs)
flat_have P moves each [] = tt
flat_have P moves each (x ∷ xs) = every_append P (moves x) (flat_map moves xs) (each x) (flat_have P moves each xs)

two_have : {A : Type 0} (P : Move → Type 0) (moves : A → A → List Move) → ((x y : A) → Every P (moves x y)) → (xs : List A) → Every P (each_two moves xs)
two_have P moves each [] = tt
two_have P moves each (x ∷ xs) = every_append P (flat_map (moves x) xs) (each_two moves xs) (flat_have P (moves x) (each x) xs) (two_have P moves each xs)

told_plain : (i j : ℕ) (b : Bool) → ArePlain (if b then compare i j ∷ [] else [])
told_plain i j true = (refl, tt)
told_plain i j false = tt

each_plain : {A : Type 0} (move : ℕ → Move) → ((p : ℕ) → is_plain (move p) ≡ true) → (xs : List A) → ArePlain (map move (places_from 0 xs))
each_plain move each xs = map_plain move each (places_from 0 xs)

premises_plain : (e : Event) → ArePlain (premises_of e)
premises_plain e = each_plain (premise e.time) (λ p. refl) (happening_premises e.happening)

message_plain : (move : ℕ → Move) → ((i : ℕ) → is_plain (move i) ≡ true) → (message : Happening → Option (Term Variable)) (kind : Term Variable → Bool) (e : Event)
    → ArePlain (at_message move message kind e)
message_plain move each message kind e = at (message e.happening)
  where
    at : (o : Option (Term Variable)) → ArePlain (if_of_kind move kind e.time o)
    at None = tt
    at (Some m) = cond_both (kind m) (move e.time ∷ []) [] ArePlain (λ _. (each e.time, tt)) (λ _. tt)

abbrev EventPlain : EventKind → Type 0
EventPlain kind = (e : Event) → ArePlain (kind.1 e)

event_kinds_plain : Every EventPlain event_kinds
event_kinds_plain = (
  message_plain chain (λ i. refl) passed_last no_message_variable,
  (
    premises_plain,
    (
      message_plain know (λ i. refl) learnt_anyhow is_fresh_variable,
      (message_plain know (λ i. refl) learnt_anyhow is_application, (message_plain chain (λ i. refl) passed_last is_message_variable, tt)),
    ),
  ),
)

all_at_plain : (kinds : List EventKind) → Every EventPlain kinds → (e : Event) → ArePlain (all_at kinds e)
all_at_plain [] h e = tt
all_at_plain (kind ∷ kinds) h e = every_append (λ (m : Move). is_plain m ≡ true) (kind.1 e) (all_at kinds e) (h.0 e) (all_at_plain kinds h.1 e)

-- what is so of plain moves, and of those on the names of the system, is so of the moves of each kind but the last
module _ (context : Context) (s : System) (P : Move → Type 0) (plain : (m : Move) → is_plain m ≡ true → P m) (on_names : Every P (sames context s)) where
  abbrev pub Has : Picker → Type 0
  Has kind = Every P (kind.moves context s)

  from : (moves : List Move) → ArePlain moves → Every P moves
  from moves h = every_weaken (λ (m : Move). is_plain m ≡ true) P plain moves h

  each_event_has : (consecutive : Bool) → Every Has (event_pickers consecutive)
  each_event_has false =
      every_map EventPlain Has (λ (kind : EventKind). of_rank kind.0 (at_each_event kind.1))
      (λ kind h. from (flat_map kind.1 s.events) (flat_have (λ (m : Move). is_plain m ≡ true) kind.1 h s.events)) event_kinds event_kinds_plain
  each_event_has true =
      (from (flat_map (all_at event_kinds) s.events) (flat_have (λ (m : Move). is_plain m ≡ true) (all_at event_kinds) (all_at_plain event_kinds event_kinds_plain) s.events), tt)

  deciding_has : Every Has deciding_pickers
  deciding_has =
      let Plain : Move → Type 0 = λ m. is_plain m ≡ true in
      let told = two_have Plain (compare_told s) (λ i j. told_plain i j (list_any (tells_apart i j) s.formulas)) (counted 0 s.next) in
      let times = two_have Plain (λ (i j : ℕ). compare i j ∷ []) (λ i j. (refl, tt)) (counted 0 s.next) in
      (from (told_comparisons context s) told, (from (comparisons context s) times, (on_names, ((plain more_events refl, tt), (from (tops context s) (map_plain top (λ k. refl) (counted 0 s.next)), tt)))))

  pub all_have : (consecutive : Bool) → Every Has (pickers_by consecutive)
  all_have consecutive =
      let ors = from (at_each_formula or context s) (each_plain or (λ p. refl) s.formulas) in
      let actions = from (at_each_formula action context s) (each_plain action (λ p. refl) s.formulas) in
      ((plain contradiction refl, tt), ((plain simplify refl, tt), ((plain solved refl, tt), (ors, (actions, every_append Has (event_pickers consecutive) deciding_pickers (each_event_has consecutive) deciding_has)))))

  pub first_has : (o : Option Root) → Every Has (first_pickers o)
  first_has None = tt
  first_has (Some r) = cond_both r.begins_with_induction (of_rank 0 (only induction) ∷ []) [] (Every Has) (λ _. ((plain induction refl, tt), tt)) (λ _. tt)

  -- and with the last kind of what is chosen
  first_instance_has : (moves : List Move) → Every P moves → IfSome (first_instance context s moves) (λ m. (is_instance context s m ≡ true) × P m)
  first_instance_has [] h = tt
  first_instance_has (move ∷ moves) h =
      cond_both (is_instance context s move) (Some move) (first_instance context s moves) (λ (o : Option Move). IfSome o (λ m. (is_instance context s m ≡ true) × P m))
      (λ e. (e, h.0)) (λ _. first_instance_has moves h.1)

  picked_has : (kinds : List Picker) → Every Has kinds → IfSome (first_some (picked context s) kinds) (λ (r : Ranked). (is_instance context s r.move ≡ true) × P r.move)
  picked_has [] h = tt
  picked_has (kind ∷ kinds) h =
      let Made : Ranked → Type 0 = λ r. (is_instance context s r.move ≡ true) × P r.move in
      IfSome_or Made (picked context s kind) (first_some (picked context s) kinds)
      (IfSome_map (with_rank kind.rank) Made (first_instance context s (kind.moves context s)) (first_instance_has (kind.moves context s) h.0))
      (picked_has kinds h.1)

  pub choice_has : P finish → IfSome (choice context s) (λ (r : Ranked). (is_instance context s r.move ≡ true) × P r.move)
  unfolding choice
  choice_has last =
      picked_has (pickers context)
      (every_append Has (first_pickers context.root) (pickers_by (are_consecutive context.root) ++ last_picker ∷ []) (first_has context.root)
      (every_append Has (pickers_by (are_consecutive context.root)) (last_picker ∷ []) (all_have (are_consecutive context.root)) ((last, tt), tt)))

-- ---- what is offered, and what is chosen

-- each move but an open leaf and the last kind's
abbrev pub is_offered : Move → Bool
is_offered unproved = false
is_offered finish = false
is_offered move = true

abbrev pub AllOffered : List Move → Type 0
AllOffered moves = Every (λ (m : Move). is_offered m ≡ true) moves

plain_offered : (m : Move) → is_plain m ≡ true → is_offered m ≡ true
plain_offered unproved e = absurd cc
plain_offered finish e = absurd cc
plain_offered move e = refl

plain_proper : (m : Move) → is_plain m ≡ true → is_unproved m ≡ false
plain_proper unproved e = absurd cc
plain_proper move e = refl

module _ (context : Context) (s : System) where
  abbrev pub Offers : Picker → Type 0
  Offers kind = AllOffered (kind.moves context s)

  pub all_prove : (consecutive : Bool) → Every Offers (pickers_by consecutive)
  all_prove consecutive =
      all_have context s (λ m. is_offered m ≡ true) plain_offered
      (two_have (λ (m : Move). is_offered m ≡ true) (λ (a b : Side). same a b ∷ []) (λ a b. (refl, tt)) (sides context.public_names s)) consecutive

  choice_is_made : IfSome (choice context s) (λ (r : Ranked). (is_instance context s r.move ≡ true) × (is_unproved r.move ≡ false))
  choice_is_made =
      choice_has context s (λ m. is_unproved m ≡ false) plain_proper
      (two_have (λ (m : Move). is_unproved m ≡ false) (λ (a b : Side). same a b ∷ []) (λ a b. (refl, tt)) (sides context.public_names s)) refl

  pub choice_is_instance : IfSome (choice context s) (λ (r : Ranked). is_instance context s r.move ≡ true)
  choice_is_instance = IfSome_then (choice context s) choice_is_made (λ r h. h.0)

  pub choice_is_proper : IfSome (choice context s) (λ (r : Ranked). is_unproved r.move ≡ false)
  choice_is_proper = IfSome_then (choice context s) choice_is_made (λ r h. h.1)
