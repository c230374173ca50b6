-- Up a way, beside the instances of the arguments there, each symbol above gives the instance of the term in which the way begins.
use Rattle.std.proofs.Common.{◌≡◌, ℕ, suc, ◌+◌, List, [], ◌∷◌, ◌++◌, take, drop, length, map, refl, sym, ap, ap₂, ◌∙◌, append_assoc}
use Rattle.std.proofs.Math.Seq.{take-append_seam, drop-append_seam, drop-append-add}
use Rattle.sp_spec.specs.Term.{Variable, Term, app, Terms, none, more, Ground, Grounds, joined, count, Values, valued, valued_all, list_of}
use Rattle.sp_spec.specs.Execution.{Step, apply_symbol}
use Rattle.sp_spec.specs.Destruction.{Fork}
use Rattle.sp_law_log.specs.Ways.{args_with, sides, IsWay}
use Rattle.sp_law_log_execution.specs.Executed.{level_of, in_front, args_between, sides_below, raised, raising}

module _ (v : Values) where
  -- the instances of the terms
  abbrev pub shown : Terms Variable → List Ground
  shown ts = list_of (valued_all v ts)

  shown_length : (ts : Terms Variable) → length (shown ts) ≡ count ts
  shown_length none = refl
  shown_length (more t ts) = ap suc (shown_length ts)

  shown_joined : (ts us : Terms Variable) → shown (joined ts us) ≡ shown ts ++ shown us
  shown_joined none us = refl
  shown_joined (more t ts) us = ap (λ (ms : List Ground). valued v t ∷ ms) (shown_joined ts us)

  in_front_none : (ts : Terms Variable) → in_front (shown ts) none ≡ valued_all v ts
  in_front_none none = refl
  in_front_none (more t ts) = ap (more (valued v t)) (in_front_none ts)

  in_front_joined : (ts us : Terms Variable) → in_front (shown ts) (valued_all v us) ≡ valued_all v (joined ts us)
  in_front_joined none us = refl
  in_front_joined (more t ts) us = ap (more (valued v t)) (in_front_joined ts us)

  -- as many as there are terms
  first_shown : (ts : Terms Variable) (ms : List Ground) → take (count ts) (shown ts ++ ms) ≡ shown ts
  first_shown ts ms = ap (λ (n : ℕ). take n (shown ts ++ ms)) (sym (shown_length ts)) ∙ take-append_seam (shown ts) ms

  behind_shown : (ts : Terms Variable) (ms : List Ground) → drop (count ts) (shown ts ++ ms) ≡ ms
  behind_shown ts ms = ap (λ (n : ℕ). drop n (shown ts ++ ms)) (sym (shown_length ts)) ∙ drop-append_seam (shown ts) ms

  module _ (f : Fork) (ms : List Ground) where
    -- the side messages at the fork, and those below it
    abbrev at_fork : List Ground
    at_fork = shown f.front ++ (shown f.back ++ ms)

    args_are : args_between (level_of f) at_fork (valued v f.entered) ≡ valued_all v (args_with f f.entered)
    args_are =
        let back : take (count f.back) (drop (count f.front) at_fork) ≡ shown f.back =
        ap (take (count f.back)) (behind_shown f.front (shown f.back ++ ms)) ∙ first_shown f.back ms in
        let behind : more (valued v f.entered) (in_front (take (count f.back) (drop (count f.front) at_fork)) none) ≡ valued_all v (more f.entered f.back) =
        ap (λ (xs : List Ground). more (valued v f.entered) (in_front xs none)) back ∙ ap (more (valued v f.entered)) (in_front_none f.back) in
        ap₂ in_front (first_shown f.front (shown f.back ++ ms)) behind ∙ in_front_joined f.front (more f.entered f.back)

    below_are : sides_below (level_of f) at_fork ≡ ms
    below_are =
        ap (λ (n : ℕ). drop (n + count f.back) at_fork) (sym (shown_length f.front))
        ∙ drop-append-add (shown f.front) (shown f.back ++ ms) (count f.back)
        ∙ behind_shown f.back ms

  fork_sides : (f : Fork) (forks : List Fork) → shown (sides (f ∷ forks)) ≡ at_fork f (shown (sides forks))
  fork_sides f forks =
      shown_joined (joined f.front f.back) (sides forks)
      ∙ ap (λ (ms : List Ground). ms ++ shown (sides forks)) (shown_joined f.front f.back)
      ∙ append_assoc (shown f.front) (shown f.back) (shown (sides forks))

  -- below the fork is what is raised from the way's end
  abbrev IsEntered : Fork → List Fork → Term Variable → Type 0
  IsEntered f forks q = raised (map level_of forks) (shown (sides forks)) (valued v q) ≡ valued v f.entered

  -- so the arguments at the fork are those of the instance
  fork_args : (f : Fork) (forks : List Fork) (q : Term Variable) → IsEntered f forks q
      → (sides_below (level_of f) (shown (sides (f ∷ forks))) ≡ shown (sides forks))
      × (args_between (level_of f) (shown (sides (f ∷ forks)))
      (raised (map level_of forks) (sides_below (level_of f) (shown (sides (f ∷ forks)))) (valued v q)) ≡ valued_all v (args_with f f.entered))
  fork_args f forks q is =
      let levels = map level_of forks in
      let below : sides_below (level_of f) (shown (sides (f ∷ forks))) ≡ shown (sides forks) =
      ap (sides_below (level_of f)) (fork_sides f forks) ∙ below_are f (shown (sides forks)) in
      let entered : raised levels (sides_below (level_of f) (shown (sides (f ∷ forks)))) (valued v q) ≡ valued v f.entered =
      ap (λ (ms : List Ground). raised levels ms (valued v q)) below ∙ is in (
        below,
        ap₂ (args_between (level_of f)) (fork_sides f forks) entered ∙ args_are f (shown (sides forks)),
      )

  pub raised_is : (t : Term Variable) (forks : List Fork) (q : Term Variable) → IsWay t forks q
      → raised (map level_of forks) (shown (sides forks)) (valued v q) ≡ valued v t
  raised_is t [] q way = ap (valued v) (sym way)
  raised_is t (f ∷ forks) q way =
      ap (app f.symbol) (fork_args f forks q (raised_is f.entered forks q way.1)).1 ∙ ap (valued v) (sym way.0)

  -- the steps up a way: those up to the first fork, and then its symbol is applied
  pub raising_is : (f : Fork) (forks : List Fork) (q : Term Variable) → IsWay f.entered forks q
      → raising (map level_of (f ∷ forks)) (shown (sides (f ∷ forks))) (valued v q)
      ≡ apply_symbol f.symbol (valued_all v (args_with f f.entered)) ∷ raising (map level_of forks) (shown (sides forks)) (valued v q)
  raising_is f forks q way =
      let parts = fork_args f forks q (raised_is f.entered forks q way) in
      ap₂ (λ (ts : Grounds) (steps : List Step). apply_symbol f.symbol ts ∷ steps) parts.1
      (ap (λ (ms : List Ground). raising (map level_of forks) ms (valued v q)) parts.0)
