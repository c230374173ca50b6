-- What the adversary does at a time: a log whose entry there does it solves the case for it.
use Rattle.std.proofs.Common.{◌≡◌, ◌<◌, ℕ, Bool, true, false, if◌then◌else◌, List, [], ◌∷◌, ◌++◌, codes, bytes_eq, sym, subst, le_refl}
use Rattle.sp_spec.specs.Lists.{Every, AtPosition}
use Rattle.sp_spec.specs.Term.{Names, Variable, Term, Terms, none, more, Ground, valued, valued_all, AllMadeOf}
use Rattle.sp_spec.specs.Theory.{Theory}
use Rattle.sp_spec.specs.Log.{Log, How, send, learn}
use Rattle.sp_spec.proofs.Lists.{every_append}
use Rattle.sp_spec_system.specs.System.{anyhow, Happening, sending, learning, Event, System, with_events}
use Rattle.sp_spec_system.specs.Solutions.{Valuation, HappensAt, HappensIn, Solves}
use Rattle.sp_spec_system.specs.Numbered.{InHappening, InEvent, IsNumbered}
use Rattle.sp_spec_system.specs.Covering.{NoneSolved}
use Rattle.sp_spec_formula.specs.Action.{done_there, by_adversary}
use Rattle.sp_spec_system.specs.Move.{systems_in}
use Rattle.sp_law_system.proofs.Solutions.{Under, TimeUnder, agrees_itself}
use Rattle.sp_law_system.proofs.With.{events_solve, found_behind, events_numbered}
use Rattle.sp_law_formula.proofs.Merged.{Later}

-- a list of one message
only_message : (P : Terms Variable → Type 0) (values : Variable → Ground) (args : Terms Variable) (t : Ground) → valued_all values args ≡ more t none
    → ((m : Term Variable) → valued values m ≡ t → P (more m none)) → P args
only_message P values none t e given = absurd cc
only_message P values (more m none) t e given = given m (let message : valued values m ≡ t = cc in message)
only_message P values (more m (more u us)) t e given = absurd cc

module _ (theory : Theory) (log : Log) (v : Valuation) (s : System) (h : Solves theory log v s) (i : ℕ) where
  done_solved : (x : Happening) → HappensAt log (v.times i) v x → Solves theory log v (with_events s (s.events ++ record { time = i; happening = x } ∷ []))
  done_solved x k =
      let event : Event = record { time = i; happening = x } in
      events_solve theory log v s h (s.events ++ event ∷ []) (found_behind v s.events (event ∷ [])) (every_append (HappensIn log v) s.events (event ∷ []) h.events (k, tt))

  abbrev NoneOf : List ℕ → Terms Variable → Type 0
  NoneOf symbol args = NoneSolved theory log v s.next (systems_in (by_adversary s i symbol args))

  pub send_covered : (symbol : List ℕ) (args : Terms Variable) (t : Ground) → symbol ≡ codes "K" → valued_all v.terms args ≡ more t none
      → AtPosition log (v.times i) (send t) → NoneOf symbol args → ⊥
  send_covered symbol args t named one here =
      only_message (λ us. NoneOf symbol us → ⊥) v.terms args t one
      (λ m e none_solved.
      let k : NoneOf (codes "K") (more m none) = subst (λ (x : List ℕ). NoneOf x (more m none)) named none_solved in
      k.0 v (agrees_itself s.next v) (done_solved (sending m) (subst (λ (g : Ground). AtPosition log (v.times i) (send g)) (sym e) here)))

  pub learn_covered : (symbol : List ℕ) (args : Terms Variable) (t : Ground) (how : How) → symbol ≡ codes "KU" → valued_all v.terms args ≡ more t none
      → AtPosition log (v.times i) (learn t how)
      → NoneOf symbol args → ⊥
  learn_covered symbol args t how named one here =
      only_message (λ us. NoneOf symbol us → ⊥) v.terms args t one
      (λ m e none_solved.
      let k : NoneOf (codes "KU") (more m none) = subst (λ (x : List ℕ). NoneOf x (more m none)) named none_solved in
      k.0 v (agrees_itself s.next v) (done_solved (learning m anyhow) (how, subst (λ (g : Ground). AtPosition log (v.times i) (learn g how)) (sym e) here, tt)))

module _ (N : Names) (s : System) (n : IsNumbered N s) (i : ℕ) (i_under : i < s.next) where
  done_numbered : (x : Happening) → InHappening N (Under s.next) (TimeUnder s.next) x
      → Later N s.next (with_events s (s.events ++ record { time = i; happening = x } ∷ []))
  done_numbered x k =
      let event : Event = record { time = i; happening = x } in (
        events_numbered s n (s.events ++ event ∷ [])
            (every_append (InEvent N (Under s.next) (TimeUnder s.next)) s.events (event ∷ []) n.events ((i_under, k), tt)),
        le_refl s.next,
      )

  pub adversary_numbered : (symbol : List ℕ) (args : Terms Variable) → AllMadeOf N (Under s.next) args
      → Every (Later N s.next) (systems_in (by_adversary s i symbol args))
  adversary_numbered symbol none u = tt
  adversary_numbered symbol (more m (more t ts)) u = tt
  adversary_numbered symbol (more m none) u = at (bytes_eq symbol (codes "K")) (bytes_eq symbol (codes "KU"))
    where
      at : (b c : Bool) → Every (Later N s.next) (systems_in (
          if b then done_there (codes "Send") s i (sending m) ∷ []
          else if c then done_there (codes "Learn") s i (learning m anyhow) ∷ [] else []))
      at true c = (done_numbered (sending m) u.0, tt)
      at false true = (done_numbered (learning m anyhow) (u.0, tt), tt)
      at false false = tt
