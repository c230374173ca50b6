-- Turns, as often as the budget says.
use Rattle.std.proofs.Common.{◌≡◌, ℕ, suc, ◌+◌, ◌<◌, ◌≤◌, ◌-◌, Bool, true, false, Option, Some, None, refl, sym, ap, ◌∙◌, arith, true≢false}
use Rattle.sp_spec_system.specs.System.{System}
use Rattle.sp_spec_proof.specs.Tree.{Tree, found_log}
use Rattle.sp_spec_system.specs.Move.{Context}
use Rattle.std.specs.Prelude.{is_some, if◌then◌else◌}
use Rattle.sp_spec_proof.specs.Growth.{grown_by, grown_once, go_on, grown}
use Rattle.sp_search.specs.Kept.{Kept, shown, log_in}
use Rattle.sp_search.specs.Growing.{least_kept, turn_at, turn}
use Rattle.sp_search.proofs.Turns.{Belongs, Became, least_is, grow_is, grow_belongs}
use Rattle.sp_search.proofs.Ends.{log_is, end_is}

at_is : (context : Context) (s : System) (t : Kept) → Belongs context 0 s t → (k : Option ℕ)
    → Became (shown t) (shown (turn_at context t k).0) (turn_at context t k).1 (grown_by context s (shown t) k)
at_is context s t b None = (refl, refl)
at_is context s t b (Some k) = grow_is context k 0 s t b

at_belongs : (context : Context) (s : System) (t : Kept) → Belongs context 0 s t → (k : Option ℕ) → Belongs context 0 s (turn_at context t k).0
at_belongs context s t b None = b
at_belongs context s t b (Some k) = grow_belongs context k 0 s t b

pub turn_belongs : (context : Context) (s : System) (t : Kept) → Belongs context 0 s t → Belongs context 0 s (turn context t).0
turn_belongs context s t b = by_end (is_some (log_in t))
  where
    by_end : (ends : Bool) → Belongs context 0 s (let r : Kept × Bool = if ends then (t, false) else turn_at context t (least_kept t) in r).0
    by_end true = b
    by_end false = at_belongs context s t b (least_kept t)

unless_ended : (context : Context) (s : System) (t : Kept) → Belongs context 0 s t → (ends : Bool) → (r : Kept × Bool) → r ≡ (if ends then (t, false) else turn_at context t (least_kept t))
    → Became (shown t) (shown r.0) r.1 (if ends then None else grown_by context s (shown t) (least_kept t))
unless_ended context s t b true r is = rw is (refl, refl)
unless_ended context s t b false r is = rw is (at_is context s t b (least_kept t))

turn_is : (context : Context) (s : System) (t : Kept) → Belongs context 0 s t
    → Became (shown t) (shown (turn context t).0) (turn context t).1 (grown_once context s (shown t))
turn_is context s t b = rw (end_is context 0 s t b, ← least_is context 0 s t b) (unless_ended context s t b (is_some (log_in t)) (turn context t) refl)

grew : (again : Tree → Tree) (old now : Tree) (done : Bool) (g : Option Tree) → Became old now done g → done ≡ true → go_on again old g ≡ again now
grew again old now done None e is = absurd (true≢false (sym is ∙ e.1))
grew again old now done (Some u) e is = ap again (sym e.0)

stopped : (again : Tree → Tree) (old now : Tree) (done : Bool) (g : Option Tree) → Became old now done g → done ≡ false → go_on again old g ≡ now
stopped again old now done None e is = sym e.0
stopped again old now done (Some u) e is = absurd (true≢false (sym e.1 ∙ is))

more_turns : (context : Context) (s : System) (n : ℕ) (t : Kept) → Belongs context 0 s t → (turn context t).1 ≡ true
    → grown context s (suc n) (shown t) ≡ grown context s n (shown (turn context t).0)
unfolding grown
more_turns context s n t b is = grew (grown context s n) (shown t) (shown (turn context t).0) (turn context t).1 (grown_once context s (shown t)) (turn_is context s t b) is

no_turn : (context : Context) (s : System) (n : ℕ) (t : Kept) → Belongs context 0 s t → (turn context t).1 ≡ false → grown context s (suc n) (shown t) ≡ shown (turn context t).0
unfolding grown
no_turn context s n t b is = stopped (grown context s n) (shown t) (shown (turn context t).0) (turn context t).1 (grown_once context s (shown t)) (turn_is context s t b) is

no_turns : (context : Context) (s : System) (t : Tree) → grown context s 0 t ≡ t
unfolding grown
no_turns context s t = refl

module _ (context : Context) (s : System) (n i : ℕ) (t next : Kept) (grew : Bool) (whole : Tree) (b : Belongs context 0 s t) (turned : ◌≡◌ {A = Kept × Bool} (next, grew) (turn context t))
    (below : i < n) (so_far : grown context s (n - i) (shown t) ≡ whole) where
  is_next : next ≡ (turn context t).0
  is_next = ap (λ (r : Kept × Bool). r.0) turned

  pub next_log : log_in next ≡ found_log context s (shown next)
  next_log = rw is_next (log_is context 0 s (turn context t).0 (turn_belongs context s t b))

  left : n - i ≡ suc (n - (i + 1))
  left = omega arith

  pub goes_on : grew ≡ true → Belongs context 0 s next × (grown context s (n - (i + 1)) (shown next) ≡ whole)
  goes_on is =
      let e : (turn context t).1 ≡ true = sym (ap (λ (r : Kept × Bool). r.1) turned) ∙ is in
      let here = ap (λ (m : ℕ). grown context s m (shown t)) left ∙ more_turns context s (n - (i + 1)) t b e in
      rw is_next (turn_belongs context s t b, sym here ∙ so_far)

  pub stops : grew ≡ false → shown next ≡ whole
  stops is =
      let e : (turn context t).1 ≡ false = sym (ap (λ (r : Kept × Bool). r.1) turned) ∙ is in
      let here = ap (λ (m : ℕ). grown context s m (shown t)) left ∙ no_turn context s (n - (i + 1)) t b e in
      rw is_next (sym here ∙ so_far)

pub turns_end : (context : Context) (s : System) (n i : ℕ) (t whole : Tree) → grown context s (n - i) t ≡ whole → n ≤ i → t ≡ whole
turns_end context s n i t whole so_far past =
    let none_left : n - i ≡ 0 = omega arith in
    sym (no_turns context s t) ∙ sym (ap (λ (m : ℕ). grown context s m t) none_left) ∙ so_far
