-- Progress: where a system isn't closed, or a proof begins from something, some move is chosen.
use Rattle.std.proofs.Common.{◌≡◌, ◌⊎◌, ⊎_elim, suc, codes, Bool, true, false, not, ◌&&◌, ◌||◌, if◌then◌else◌, List, [], ◌∷◌, ◌++◌, map, Option, Some, None, option_map, is_some, refl, sym, ap, ap₂, ◌∙◌}
use Rattle.std.specs.Prelude.{flat_map, find}
use Rattle.std.specs.List.{list_any}
use Rattle.std.specs.Option.{option_or}
use Rattle.std.proofs.lemmas.List.Folds.{list_any-append}
use Rattle.sp_spec.specs.Lists.{Every}
use Rattle.sp_spec.specs.Signature.{msg}
use Rattle.sp_spec_system.specs.System.{anyhow, sending, learning, Event, System, with_closed}
use Rattle.sp_spec_system.specs.Move.{Move, simplify, contradiction, solved, or, action, more_events, finish, Context, Case}
use Rattle.sp_spec_system.specs.Picked.{first_some}
use Rattle.sp_spec_system.proofs.Picked.{first_some_append}
use Rattle.sp_spec_graph.specs.More.{with_another, each_step}
use Rattle.sp_spec_proof.specs.Deciding.{told_comparisons, comparisons, sames, tops}
use Rattle.sp_spec_proof.specs.ButFinish.{raw_but_finish}
use Rattle.sp_spec_proof.specs.Cases.{simple_case}
use Rattle.sp_spec_proof.specs.Finish.{has_instance}
use Rattle.sp_spec_proof.specs.Kinds.{Picker, of_rank, only, EventKind, event_kinds, at_each_formula, at_each_event, all_at, event_pickers, deciding_pickers, pickers_by, last_picker, are_consecutive, first_pickers}
use Rattle.sp_spec_proof.specs.Choice.{with_rank, is_instance, first_instance, picked, choice}
use Rattle.sp_spec_proof.proofs.Chosen.{is_offered, AllOffered, Offers, all_prove}

-- ---- a choice is made where some kind has an instance

is_found : {A : Type 0} (test : A → Bool) (xs : List A) → is_some (find test xs) ≡ list_any test xs
is_found test [] = refl
is_found test (x ∷ xs) = at (test x) (is_found test xs)
  where
    at : (b : Bool) → is_some (find test xs) ≡ list_any test xs → is_some (if b then Some x else find test xs) ≡ (b || list_any test xs)
    at true e = refl
    at false e = e

is_some_map : {A B : Type 0} (f : A → B) (o : Option A) → is_some (option_map f o) ≡ is_some o
is_some_map f None = refl
is_some_map f (Some x) = refl

is_some_or : {A : Type 0} (o later : Option A) → is_some (option_or o later) ≡ (is_some o || is_some later)
is_some_or None later = refl
is_some_or (Some x) later = refl

module _ (context : Context) (s : System) where
  -- some move of the kind is an instance, the last kind's among them
  abbrev has_any : Picker → Bool
  has_any kind = list_any (is_instance context s) (kind.moves context s)

  some_picked : (kinds : List Picker) → is_some (first_some (picked context s) kinds) ≡ list_any has_any kinds
  some_picked [] = refl
  some_picked (kind ∷ kinds) =
      is_some_or (picked context s kind) (first_some (picked context s) kinds)
      ∙ ap₂ (λ (a b : Bool). a || b)
      (is_some_map (with_rank kind.rank) (first_instance context s (kind.moves context s)) ∙ is_found (is_instance context s) (kind.moves context s))
      (some_picked kinds)

  -- each move that is offered is an instance where it has cases before they are simplified
  offered_instance : (m : Move) → is_offered m ≡ true → is_instance context s m ≡ is_some (raw_but_finish context s m)
  offered_instance finish e = absurd cc
  offered_instance move e = is_some_map (map (simple_case context.rules)) (raw_but_finish context s move)

  same_any : (moves : List Move) → AllOffered moves → list_any (is_instance context s) moves ≡ list_any (λ (m : Move). is_some (raw_but_finish context s m)) moves
  same_any [] h = refl
  same_any (m ∷ moves) h = ap₂ (λ (a b : Bool). a || b) (offered_instance m h.0) (same_any moves h.1)

  same_kinds : (kinds : List Picker) → Every (Offers context s) kinds → list_any has_any kinds ≡ list_any (has_instance context s) kinds
  same_kinds [] h = refl
  same_kinds (kind ∷ kinds) h = ap₂ (λ (a b : Bool). a || b) (same_any (kind.moves context s) h.0) (same_kinds kinds h.1)

  -- ---- consecutive or not, the same moves are asked

  any_flat : {A : Type 0} (test : Move → Bool) (moves : A → List Move) (xs : List A) → list_any test (flat_map moves xs) ≡ list_any (λ (x : A). list_any test (moves x)) xs
  any_flat test moves [] = refl
  any_flat test moves (x ∷ xs) = list_any-append test (moves x) (flat_map moves xs) ∙ ap (λ (b : Bool). list_any test (moves x) || b) (any_flat test moves xs)

  none_any : {A : Type 0} (xs : List A) → list_any (λ (x : A). false) xs ≡ false
  none_any [] = refl
  none_any (x ∷ xs) = none_any xs

  either_any : {A : Type 0} (p q : A → Bool) (xs : List A) → (list_any p xs || list_any q xs) ≡ list_any (λ (x : A). p x || q x) xs
  either_any p q [] = refl
  either_any p q (x ∷ xs) = four (p x) (q x) (list_any p xs) (list_any q xs) ∙ ap (λ (b : Bool). (p x || q x) || b) (either_any p q xs)
    where
      four : (a b c d : Bool) → ((a || c) || (b || d)) ≡ ((a || b) || (c || d))
      four true b c d = refl
      four false true true d = refl
      four false true false d = refl
      four false false c d = refl

  -- of each kind at each event, or at each event of each kind
  kinds_at_events : (test : Move → Bool) (kinds : List EventKind) (events : List Event)
      → list_any (λ (kind : EventKind). list_any test (flat_map kind.1 events)) kinds ≡ list_any test (flat_map (all_at kinds) events)
  kinds_at_events test [] events = sym (any_flat test (all_at []) events ∙ none_any events)
  kinds_at_events test (kind ∷ kinds) events =
      ap₂ (λ (a b : Bool). a || b) (any_flat test kind.1 events) (kinds_at_events test kinds events ∙ any_flat test (all_at kinds) events)
      ∙ either_any (λ (e : Event). list_any test (kind.1 e)) (λ (e : Event). list_any test (all_at kinds e)) events
      ∙ each events
      ∙ sym (any_flat test (all_at (kind ∷ kinds)) events)
    where
      each : (es : List Event) → list_any (λ (e : Event). list_any test (kind.1 e) || list_any test (all_at kinds e)) es ≡ list_any (λ (e : Event). list_any test (all_at (kind ∷ kinds) e)) es
      each [] = refl
      each (e ∷ es) = ap (λ (b : Bool). b || list_any (λ (d : Event). list_any test (kind.1 d) || list_any test (all_at kinds d)) es) (sym (list_any-append test (kind.1 e) (all_at kinds e)))
          ∙ ap (λ (b : Bool). list_any test (all_at (kind ∷ kinds) e) || b) (each es)

  any_map : {A B : Type 0} (test : B → Bool) (f : A → B) (xs : List A) → list_any test (map f xs) ≡ list_any (λ (x : A). test (f x)) xs
  any_map test f [] = refl
  any_map test f (x ∷ xs) = ap (λ (b : Bool). test (f x) || b) (any_map test f xs)

  or_false : (b : Bool) → (b || false) ≡ b
  or_false true = refl
  or_false false = refl

  abbrev counts : Move → Bool
  counts m = is_some (raw_but_finish context s m)

  events_alike : (consecutive : Bool) → list_any (has_instance context s) (event_pickers consecutive) ≡ list_any (has_instance context s) (event_pickers false)
  events_alike false = refl
  events_alike true =
      or_false (list_any counts (flat_map (all_at event_kinds) s.events)) ∙ sym (kinds_at_events counts event_kinds s.events)
      ∙ sym (any_map (has_instance context s) (λ (kind : EventKind). of_rank kind.0 (at_each_event kind.1)) event_kinds)

  pickers_alike : (consecutive : Bool) → list_any (has_instance context s) (pickers_by consecutive) ≡ list_any (has_instance context s) (pickers_by false)
  pickers_alike consecutive =
      let has = has_instance context s in
      let deciding = list_any has deciding_pickers in
      behind has first_kinds (event_pickers consecutive ++ deciding_pickers) (event_pickers false ++ deciding_pickers)
      (list_any-append has (event_pickers consecutive) deciding_pickers ∙ ap (λ (b : Bool). b || deciding) (events_alike consecutive) ∙ sym (list_any-append has (event_pickers false) deciding_pickers))
    where
      first_kinds : List Picker
      first_kinds = of_rank 1 (only contradiction) ∷ of_rank 2 (only simplify) ∷ of_rank 3 (only solved) ∷ of_rank 4 (at_each_formula or) ∷ of_rank 5 (at_each_formula action) ∷ []

      behind : (test : Picker → Bool) (xs ys zs : List Picker) → list_any test ys ≡ list_any test zs → list_any test (xs ++ ys) ≡ list_any test (xs ++ zs)
      behind test [] ys zs e = e
      behind test (x ∷ xs) ys zs e = ap (λ (b : Bool). test x || b) (behind test xs ys zs e)

  -- some kind but the last answers exactly where some move of these kinds is an instance
  pub none_left : (consecutive : Bool) → is_some (first_some (picked context s) (pickers_by consecutive)) ≡ list_any (has_instance context s) (pickers_by false)
  none_left consecutive = some_picked (pickers_by consecutive) ∙ same_kinds (pickers_by consecutive) (all_prove context s consecutive) ∙ pickers_alike consecutive

  -- ---- some move is chosen

  abbrev before_deciding : List Picker
  before_deciding =
      of_rank 1 (only contradiction) ∷ of_rank 2 (only simplify) ∷ of_rank 3 (only solved) ∷ of_rank 4 (at_each_formula or) ∷ of_rank 5 (at_each_formula action) ∷ event_pickers false

  fourth : (a b c d e : Bool) → d ≡ true → (a || (b || (c || (d || e)))) ≡ true
  fourth true b c d e h = refl
  fourth false true c d e h = refl
  fourth false false true d e h = refl
  fourth false false false true e h = refl
  fourth false false false false e h = absurd cc

  second : (a b : Bool) → b ≡ true → (a || b) ≡ true
  second true b h = refl
  second false b h = h

  -- more may happen in what isn't closed
  open_counts : s.closed ≡ false → list_any (has_instance context s) (pickers_by false) ≡ true
  open_counts e =
      let has = has_instance context s in
      list_any-append has before_deciding deciding_pickers
      ∙ second (list_any has before_deciding) (list_any has deciding_pickers)
      (fourth (has (of_rank 11 told_comparisons)) (has (of_rank 12 comparisons)) (has (of_rank 13 sames)) (has (of_rank 14 (only more_events))) (list_any has (of_rank 15 tops ∷ []))
      (at s.closed e))
    where
      at : (b : Bool) → b ≡ false → (is_some (let r : Option (List Case) = if b then None else Some (record { name = codes "closed"; system = with_closed s true } ∷ (each_step context.rules.forms s
          ++ record { name = codes "Send"; system = with_another s (sending (msg (suc s.next))) 1 }
          ∷ record { name = codes "Learn"; system = with_another s (learning (msg (suc s.next)) anyhow) 1 } ∷ [])) in r) || false) ≡ true
      at true h = absurd cc
      at false h = refl

  -- the proof begins from something, or the system isn't closed
  abbrev pub MayGoOn : Type 0
  MayGoOn = (s.closed ≡ false) ⊎ (is_some context.root ≡ true)

  is_last : (any : Bool) → any ≡ list_any (has_instance context s) (pickers_by false) → MayGoOn → (any || is_some (first_some (picked context s) (last_picker ∷ []))) ≡ true
  is_last true e h = refl
  is_last false e h =
      some_picked (last_picker ∷ []) ∙ ends s.closed (is_some context.root) (list_any (has_instance context s) (pickers_by false)) (sym e) (closed_or s.closed refl) (rooted h)
    where
      closed_or : (b : Bool) → s.closed ≡ b → s.closed ≡ true
      closed_or true k = k
      closed_or false k = absurd (let c = open_counts k in cc)

      rooted : MayGoOn → is_some context.root ≡ true
      rooted k = ⊎_elim (λ c. absurd (let d = open_counts c in cc)) (λ r. r) k

      ends : (closed root any : Bool) → any ≡ false → closed ≡ true → root ≡ true
          → ((is_some (option_map (map (simple_case context.rules)) (let r : Option (List Case) = if closed && (root && not any) then Some [] else None in r)) || false) || false) ≡ true
      ends true true false a c r = refl
      ends closed root true a c r = absurd cc
      ends closed false any a c r = absurd cc
      ends false root any a c r = absurd cc

  pub is_chosen : MayGoOn → is_some (choice context s) ≡ true
  unfolding choice
  is_chosen h =
      let by = pickers_by (are_consecutive context.root) in
      ap is_some (first_some_append (picked context s) (first_pickers context.root) (by ++ last_picker ∷ []))
      ∙ is_some_or (first_some (picked context s) (first_pickers context.root)) (first_some (picked context s) (by ++ last_picker ∷ []))
      ∙ second (is_some (first_some (picked context s) (first_pickers context.root))) (is_some (first_some (picked context s) (by ++ last_picker ∷ [])))
      (ap is_some (first_some_append (picked context s) by (last_picker ∷ [])) ∙ is_some_or (first_some (picked context s) by) (first_some (picked context s) (last_picker ∷ []))
      ∙ is_last (is_some (first_some (picked context s) by)) (none_left (are_consecutive context.root)) h)
