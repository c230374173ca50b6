-- Shapes, by computation: a case that is renamed, one that is joined, and one that can't be.
use Rattle.std.proofs.Common.{◌≡◌, ℕ, true, false, List, [], ◌∷◌, Some, None, refl, codes}
use Rattle.sp_spec.specs.Term.{Fresh, Msg, Variable, Term, var, app, none, more}
use Rattle.sp_spec_system.specs.System.{Way, anyhow, constructed, learning, Event, System}
use Rattle.sp_spec_system.specs.Head.{symbol_head, start_of}
use Rattle.sp_spec_system.specs.Together.{renamed_from, joined_at}

abbrev fresh : ℕ → Term Variable
fresh n = var (record { sort = Fresh; number = n })

abbrev msg : ℕ → Term Variable
msg n = var (record { sort = Msg; number = n })

abbrev system : List Event → List (ℕ × ℕ) → ℕ → System
system events order next = record { events = events; formulas = []; spent = []; unequal = []; links = []; order = order; last = None; closed = false; next = next }

abbrev learnt : ℕ → Term Variable → Way → Event
learnt i m way = record { time = i; happening = learning m way }

-- the case of h/1 in which it is made
abbrev case_made : System
case_made = system (learnt 0 (app (codes "h") (more (msg 1) none)) constructed ∷ learnt 2 (msg 1) anyhow ∷ []) ((2, 0) ∷ []) 3

starts : start_of [] (symbol_head (codes "h") 1) ≡ system (learnt 0 (app (codes "h") (more (msg 1) none)) anyhow ∷ []) [] 2
starts = refl

renamed : renamed_from 7 case_made ≡ system (learnt 7 (app (codes "h") (more (msg 8) none)) constructed ∷ learnt 9 (msg 8) anyhow ∷ []) ((9, 7) ∷ []) 10
renamed = refl

-- joined where h of a fresh name is learnt anyhow at time 4
is_joined : joined_at (system (learnt 4 (app (codes "h") (more (fresh 6) none)) anyhow ∷ []) [] 7) case_made 4
    ≡ Some (system (learnt 4 (app (codes "h") (more (fresh 6) none)) constructed ∷ learnt 9 (fresh 6) anyhow ∷ []) ((9, 4) ∷ []) 10)
is_joined = refl

-- the two messages don't unify
is_apart : joined_at (system (learnt 4 (app (codes "h") (more (fresh 6) none)) anyhow ∷ []) [] 7) (system (learnt 0 (app (codes "g") (more (msg 1) none)) constructed ∷ []) [] 2) 4 ≡ None
is_apart = refl

-- what is said of the last time, and that nothing more happens, is kept where a case is joined
abbrev ended : System → System
ended s = record s { last = Some 4; closed = true }

is_kept : joined_at (ended (system (learnt 4 (app (codes "h") (more (fresh 6) none)) anyhow ∷ []) [] 7)) case_made 4
    ≡ Some (ended (system (learnt 4 (app (codes "h") (more (fresh 6) none)) constructed ∷ learnt 9 (fresh 6) anyhow ∷ []) ((9, 4) ∷ []) 10))
is_kept = refl
