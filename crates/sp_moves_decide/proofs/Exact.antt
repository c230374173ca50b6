-- A move that decides what is open has cases exactly where no clause of its condition fails.
use Rattle.std.proofs.Common.{◌≡◌, ℕ, Bool, true, false, not, ◌&&◌, ◌||◌, nat_lt, if◌then◌else◌, List, Option, Some, None, is_none, is_some, refl}
use Rattle.sp_spec.specs.Term.{Msg, Fresh, Pub}
use Rattle.sp_spec_system.specs.System.{System}
use Rattle.sp_spec_system.specs.Order.{is_before}
use Rattle.sp_spec_system.specs.Occurring.{has_time}
use Rattle.sp_spec_system.specs.Rules.{Rules}
use Rattle.sp_spec_system.specs.Move.{Side, fresh_side, public_side, constant_side, Move, compare, top, same, more_events, Case}
use Rattle.sp_spec_formula.specs.Induction.{is_empty}
use Rattle.sp_spec_formula.specs.Top.{of_number, has_variable}
use Rattle.sp_spec_formula.specs.Sides.{side_term, are_in_order, stands_there, are_apart}
use Rattle.sp_moves.specs.Clause.{Clause, absent, other_kind, condition, HasCases}
use Rattle.sp_moves_decide.specs.WhyNot.{has_name_variable, stands_somewhere, why_not_decide, deciding_cases}

-- ---- how two times lie

by_times : (some_event below first second undecided : Bool) (cs : List Case)
    → is_none (let r : Option Clause = if first && second then (if some_event && (below && (first && (second && undecided))) then None else Some condition) else Some absent in r)
    ≡ is_some (let r : Option (List Case) = if some_event && (below && (first && (second && undecided))) then Some cs else None in r)
by_times false below false second undecided cs = refl
by_times false below true false undecided cs = refl
by_times false below true true undecided cs = refl
by_times true false false second undecided cs = refl
by_times true false true false undecided cs = refl
by_times true false true true undecided cs = refl
by_times true true false second undecided cs = refl
by_times true true true false undecided cs = refl
by_times true true true true false cs = refl
by_times true true true true true cs = refl

-- ---- what stands for a message

by_sorts : (message named : Bool) (cs : List Case)
    → is_none (let r : Option Clause = if message then None else (if named then Some other_kind else Some absent) in r)
    ≡ is_some (let r : Option (List Case) = if message then Some cs else None in r)
by_sorts true named cs = refl
by_sorts false true cs = refl
by_sorts false false cs = refl

-- ---- whether two names are the same

of_fresh : (m f p : Bool) → f ≡ true → (m || (f || p)) ≡ true
of_fresh true f p e = refl
of_fresh false true p e = refl
of_fresh false false p e = absurd cc

of_public : (m f p : Bool) → p ≡ true → (m || (f || p)) ≡ true
of_public true f p e = refl
of_public false true p e = refl
of_public false false p e = e

somewhere : (constants : List (List ℕ)) (s : System) (a : Side) → stands_there constants s a ≡ true → stands_somewhere constants s a ≡ true
somewhere constants s (fresh_side k) e = of_fresh (has_variable s (of_number Msg k)) (has_variable s (of_number Fresh k)) (has_variable s (of_number Pub k)) e
somewhere constants s (public_side k) e = of_public (has_variable s (of_number Msg k)) (has_variable s (of_number Fresh k)) (has_variable s (of_number Pub k)) e
somewhere constants s (constant_side c) e = e

differ : false ≡ true → ⊥
differ e = absurd cc

-- somewhere, and as that side, is the one and the other
by_sides : (u v order first second apart : Bool) (cs : List Case) → (first ≡ true → u ≡ true) → (second ≡ true → v ≡ true)
    → is_none (let r : Option Clause =
    if u && v then (if first && second then (if order && (first && (second && not apart)) then None else Some condition) else Some other_kind) else Some absent in r)
    ≡ is_some (let r : Option (List Case) = if order && (first && (second && not apart)) then Some cs else None in r)
by_sides true true false false second apart cs g h = refl
by_sides true true false true false apart cs g h = refl
by_sides true true false true true apart cs g h = refl
by_sides true true true false second apart cs g h = refl
by_sides true true true true false apart cs g h = refl
by_sides true true true true true false cs g h = refl
by_sides true true true true true true cs g h = refl
by_sides false v order true second apart cs g h = absurd (differ (g refl))
by_sides false v false false second apart cs g h = refl
by_sides false v true false second apart cs g h = refl
by_sides true false order first true apart cs g h = absurd (differ (h refl))
by_sides true false false first false apart cs g h = refl
by_sides true false true false false apart cs g h = refl
by_sides true false true true false apart cs g h = refl

-- ---- whether more happens

by_closed : (closed : Bool) (cs : List Case)
    → is_none (let r : Option Clause = if closed then Some condition else None in r) ≡ is_some (let r : Option (List Case) = if closed then None else Some cs in r)
by_closed true cs = refl
by_closed false cs = refl

pub exactly : (rules : Rules) (constants : List (List ℕ)) (s : System) (m : Move) → HasCases (why_not_decide constants s m) (deciding_cases rules constants s m)
exactly rules constants s (compare i j) =
    record { exact = by_times (not (is_empty s.events)) (nat_lt i j) (has_time i s) (has_time j s) (not (is_before s.order i j || is_before s.order j i)) _ }
exactly rules constants s (top k) = record { exact = by_sorts (has_variable s (of_number Msg k)) (has_name_variable s k) _ }
exactly rules constants s (same a b) =
    record {
      exact = by_sides (stands_somewhere constants s a) (stands_somewhere constants s b) (are_in_order a b) (stands_there constants s a) (stands_there constants s b)
          (are_apart s.unequal (side_term a) (side_term b)) _ (somewhere constants s a) (somewhere constants s b);
    }
exactly rules constants s more_events = record { exact = by_closed s.closed _ }
exactly rules constants s move = record { exact = refl }
