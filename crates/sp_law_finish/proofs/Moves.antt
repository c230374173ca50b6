-- Where a system is decided, no move of any kind but the last is an instance.
use Rattle.std.proofs.Common.{◌≡◌, Bool, true, false, not, ◌&&◌, if◌then◌else◌, List, [], ◌∷◌, Option, Some, None, is_some, inl, inr, refl, subst}
use Rattle.std.specs.List.{list_any}
use Rattle.std.proofs.lemmas.Bool.{and_parts, or_parts, not-true}
use Rattle.sp_spec.specs.Lists.{Member}
use Rattle.sp_spec.proofs.Lists.{member_left, member_right, member_map}
use Rattle.sp_spec_system.specs.System.{Event, System}
use Rattle.sp_spec_system.specs.Move.{Move, simplify, Context}
use Rattle.sp_spec_proof.specs.Rows.{Row, rows, by_row, by_rows, first_of, fails_somewhere, has_place}
use Rattle.sp_spec_proof.specs.ButFinish.{raw_but_finish}
use Rattle.sp_spec_proof.specs.Kinds.{Picker, of_rank, only, EventKind, event_kinds, at_each_event, event_pickers, deciding_pickers, pickers_by}
use Rattle.sp_spec_proof.specs.Finish.{has_instance, is_decided}
use Rattle.sp_law_forms.proofs.Lists.{member_flat_map}

-- ---- what a test doesn't find

none_passes : {A : Type 0} (test : A → Bool) (xs : List A) → list_any test xs ≡ false → (x : A) → Member x xs → test x ≡ false
none_passes test [] e x m = absurd m
none_passes test (y ∷ ys) e x (inl k) = subst (λ z. test z ≡ false) k (or_parts (test y) (list_any test ys) e).0
none_passes test (y ∷ ys) e x (inr m) = none_passes test ys (or_parts (test y) (list_any test ys) e).1 x m

nothing_there : {A : Type 0} (o : Option A) → is_some o ≡ false → o ≡ None
nothing_there None e = refl
nothing_there (Some x) e = absurd cc

-- where nothing is given the test failed
pub never : {A : Type 0} (b : Bool) (x : A) → (if b then Some x else None) ≡ None → b ≡ false
never true x k = absurd cc
never false x k = refl

pub rest_fails : (b c : Bool) → b ≡ true → (b && c) ≡ false → c ≡ false
rest_fails true c e h = h
rest_fails false c e h = absurd cc

pub not_fails : (b : Bool) → not b ≡ false → b ≡ true
not_fails true e = refl
not_fails false e = absurd cc

-- rows of which the first that applies is none
no_row : (rules : _) (s : System) (list : List Row) → by_rows rules list s ≡ None → (row : Row) → Member row list → by_row rules row s ≡ None
no_row rules s [] e row m = absurd m
no_row rules s (r ∷ list) e row m = at (by_row rules r s) refl e m (λ k l. no_row rules s list k row l)
  where
    at : (o : Option System) → by_row rules r s ≡ o → first_of o (by_rows rules list s) ≡ None → Member row (r ∷ list)
        → (by_rows rules list s ≡ None → Member row list → by_row rules row s ≡ None) → by_row rules row s ≡ None
    at (Some t) k h here later = absurd cc
    at None k h (inl f) later = subst (λ (x : Row). by_row rules x s ≡ None) f k
    at None k h (inr l) later = later h l

-- ---- the moves of a decided system

module _ (context : Context) (s : System) (e : is_decided context s ≡ true) where
  pub is_closed : s.closed ≡ true
  is_closed = (and_parts s.closed (is_some context.root && not (list_any (has_instance context s) (pickers_by false))) e).0

  no_kind : list_any (has_instance context s) (pickers_by false) ≡ false
  no_kind =
      let none = list_any (has_instance context s) (pickers_by false) in
      let open_yet = (and_parts s.closed (is_some context.root && not none) e).1 in
      not-true none (and_parts (is_some context.root) (not none) open_yet).1

  -- No move of a kind is an instance,
  pub no_move : (p : Picker) → Member p (pickers_by false) → (m : Move) → Member m (p.moves context s) → raw_but_finish context s m ≡ None
  no_move p k m l =
      nothing_there (raw_but_finish context s m)
      (none_passes (λ (n : Move). is_some (raw_but_finish context s n)) (p.moves context s) (none_passes (has_instance context s) (pickers_by false) no_kind p k) m l)

  -- such as decides what is open,
  pub none_decides : (p : Picker) → Member p deciding_pickers → (m : Move) → Member m (p.moves context s) → raw_but_finish context s m ≡ None
  none_decides p k m l = no_move p (inr (inr (inr (inr (inr (member_right p (event_pickers false) deciding_pickers k)))))) m l

  -- or one at an event;
  pub none_at : (kind : EventKind) → Member kind event_kinds → (d : Event) → Member d s.events → (m : Move) → Member m (kind.1 d) → raw_but_finish context s m ≡ None
  none_at kind k d l m h =
      let kinds = event_pickers false in
      let picker : EventKind → Picker = λ (x : EventKind). of_rank x.0 (at_each_event x.1) in
      no_move (picker kind) (inr (inr (inr (inr (inr (member_left (picker kind) kinds deciding_pickers (member_map picker kind event_kinds k)))))))
      m (member_flat_map kind.1 d m s.events l h)

  -- and no row has a place.
  pub no_place : (row : Row) → Member row rows → by_row context.rules row s ≡ None
  no_place row m = no_row context.rules s rows (nothing_there (by_rows context.rules rows s) (or_parts (is_some (by_rows context.rules rows s)) (fails_somewhere s) nowhere).0) row m
    where
      nowhere : has_place context.rules s ≡ false
      nowhere = never (has_place context.rules s) _ (no_move (of_rank 2 (only simplify)) (inr (inl refl)) simplify (inl refl))
