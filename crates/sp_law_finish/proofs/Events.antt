-- The event that is found at a time, and the move at what an event learns.
use Rattle.std.proofs.Common.{◌≡◌, ℕ, ◌==◌, Bool, true, false, if◌then◌else◌, List, [], ◌∷◌, map, Option, Some, None, option_map, option_and_then, inl, inr, refl, sym, ap, ◌∙◌, subst}
use Rattle.std.specs.Option.{option_or}
use Rattle.std.proofs.lemmas.Bool.{eqb-true, eq-eqb}
use Rattle.sp_spec.specs.Lists.{Member}
use Rattle.sp_spec.specs.Term.{Variable, Term}
use Rattle.sp_spec.proofs.Lists.{member_map}
use Rattle.sp_spec_system.specs.System.{Happening, Event}
use Rattle.sp_spec_system.specs.Numbered.{HappenOnce}
use Rattle.sp_spec_system.specs.Picked.{first_some}
use Rattle.sp_spec_system.specs.MakingOne.{event_at}
use Rattle.sp_spec_system.specs.Move.{Move}
use Rattle.sp_spec_proof.specs.Kinds.{if_of_kind, at_message}

-- no two have one time
pub event_itself : (events : List Event) → HappenOnce events → (d : Event) → Member d events → event_at d.time events ≡ Some d
event_itself [] once d m = absurd m
event_itself (e ∷ events) once d m = at (e.time == d.time) refl m (λ k. event_itself events once.1 d k)
  where
    at : (b : Bool) → (e.time == d.time) ≡ b → Member d (e ∷ events) → (Member d events → event_at d.time events ≡ Some d)
        → (if b then Some e else event_at d.time events) ≡ Some d
    at true k (inl one) later = ap (λ (x : Event). Some x) one
    at true k (inr l) later =
        absurd (once.0 (subst (λ (i : ℕ). Member i (map (λ (x : Event). x.time) events)) (sym (eqb-true e.time d.time k)) (member_map (λ (x : Event). x.time) d events l)))
    at false k (inl one) later = let same = eq-eqb e.time d.time (ap (λ (x : Event). x.time) one) in absurd cc
    at false k (inr l) later = later l

-- what is asked of the event at its time is asked of it
pub none_of : {A : Type 0} (pick : Event → Option A) (events : List Event) → HappenOnce events → (d : Event) → Member d events
    → option_and_then pick (event_at d.time events) ≡ None → pick d ≡ None
none_of {A} pick events once d m e = sym (ap (λ (o : Option Event). option_and_then pick o) (event_itself events once d m)) ∙ e

-- ---- what isn't picked

pub no_image : {A B : Type 0} (f : A → B) (o : Option A) → option_map f o ≡ None → o ≡ None
no_image f None e = refl
no_image f (Some x) e = absurd cc

pub none_picked : {A B : Type 0} (pick : A → Option B) (xs : List A) → first_some pick xs ≡ None → (x : A) → Member x xs → pick x ≡ None
none_picked pick [] e x m = absurd m
none_picked {A} {B} pick (y ∷ xs) e x m = at (pick y) refl e m (λ k l. none_picked pick xs k x l)
  where
    at : (o : Option B) → pick y ≡ o → option_or o (first_some pick xs) ≡ None → Member x (y ∷ xs) → (first_some pick xs ≡ None → Member x xs → pick x ≡ None) → pick x ≡ None
    at (Some z) k h here later = absurd cc
    at None k h (inl one) later = subst (λ (w : A). pick w ≡ None) one k
    at None k h (inr l) later = later h l

-- ---- the move at a message of a kind

pub kind_there : (move : ℕ → Move) (message : Happening → Option (Term Variable)) (kind : Term Variable → Bool) (d : Event) (m : Term Variable)
    → message d.happening ≡ Some m → kind m ≡ true → Member (move d.time) (at_message move message kind d)
kind_there move message kind d m e passes = subst (λ (o : Option (Term Variable)). Member (move d.time) (if_of_kind move kind d.time o)) (sym e) there
  where
    there : Member (move d.time) (if kind m then move d.time ∷ [] else [])
    there = subst (λ (b : Bool). Member (move d.time) (if b then move d.time ∷ [] else [])) (sym passes) (inl refl)
