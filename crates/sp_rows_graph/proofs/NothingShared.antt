-- An event that has nothing to share shares nothing with any other.
use Rattle.std.proofs.Common.{◌≡◌, Bool, true, false, ◌&&◌, ◌||◌, if◌then◌else◌, List, [], ◌∷◌, ◌++◌, None, refl, ap, ◌∙◌}
use Rattle.std.specs.Prelude.{is_none}
use Rattle.sp_spec.specs.Term.{Variable, Term}
use Rattle.sp_spec.specs.Rule.{Fact}
use Rattle.sp_spec.specs.Log.{is_fr}
use Rattle.sp_spec_system.specs.System.{anyhow, public_name, own_name, constructed, chain_begun, chain_done, Happening, rule_step, sending, learning, Event, System}
use Rattle.sp_spec_system.specs.MakingOne.{made_one}
use Rattle.sp_spec_system.specs.Picked.{first_with, some_with}
use Rattle.sp_spec_graph.specs.Fresh.{first_term, fresh_terms, happening_fresh, share_one}
use Rattle.sp_spec_know.specs.LearnOnce.{learn_one}
use Rattle.sp_rows_graph.specs.FreshView.{may_use_fresh, takes_fr}
use Rattle.sp_rows_graph.specs.SharedView.{is_learning, may_share, share, stay_two}
use Rattle.sp_rows_graph.proofs.PairSearches.{none_with, none_some}
use Rattle.sp_rows_graph.specs.declared.shared.Shared.{Shared}
use Rattle.sp_rows_graph.specs.declared.shared.Shared.TheVariants.{Fresh, Learnt}

none_taken : (fs : List (Fact Variable)) → takes_fr fs ≡ false → fresh_terms fs ≡ []
none_taken [] e = refl
none_taken (f ∷ fs) e = at (is_fr f) (none_taken fs) e
  where
    at : (b : Bool) → (takes_fr fs ≡ false → fresh_terms fs ≡ []) → (b || takes_fr fs) ≡ false → ((if b then first_term f.args else []) ++ fresh_terms fs) ≡ []
    at true others h = absurd cc
    at false others h = others h

unused : (h : Happening) → may_use_fresh h ≡ false → happening_fresh h ≡ []
unused (rule_step r facts) e = none_taken facts.premises e
unused (sending m) e = refl
unused (learning m anyhow) e = refl
unused (learning m public_name) e = refl
unused (learning m own_name) e = absurd cc
unused (learning m constructed) e = refl
unused (learning m (chain_begun i k ts)) e = refl
unused (learning m (chain_done i k ts)) e = refl

none_of_none : (ts : List (Term Variable)) → share_one ts [] ≡ false
none_of_none [] = refl
none_of_none (t ∷ ts) = none_of_none ts

pub none_used : (ts : List (Term Variable)) (h : Happening) → may_use_fresh h ≡ false → share_one ts (happening_fresh h) ≡ false
none_used ts h e = ap (share_one ts) (unused h e) ∙ none_of_none ts

none_learnt : (h other : Happening) → is_learning h ≡ false → learn_one h other ≡ false
none_learnt (rule_step r facts) other e = refl
none_learnt (sending m) other e = refl
none_learnt (learning m way) other e = absurd cc

nothing_shared : (shared : Shared) (e d : Event) → may_share shared e ≡ false → share shared e d ≡ false
nothing_shared Fresh e d h = ap (λ ts. share_one ts (happening_fresh d.happening)) (unused e.happening h)
nothing_shared Learnt e d h = none_learnt e.happening d.happening h

pub none_shared : (shared : Shared) (e : Event) (ds : List Event) → may_share shared e ≡ false → first_with (share shared) e ds ≡ None
none_shared shared e ds h = none_with (share shared) e (λ d. nothing_shared shared e d h) ds

-- and there is none that it can't be one with
pub none_apart : (shared : Shared) (s : System) (e : Event) (ds : List Event) → may_share shared e ≡ false → some_with (stay_two shared s) e ds ≡ false
none_apart shared s e ds h =
    none_some (stay_two shared s) e (λ d. ap (λ b. b && is_none (made_one s (e.time, d.time))) (nothing_shared shared e d h)) ds
