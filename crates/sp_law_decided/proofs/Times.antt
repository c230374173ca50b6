-- The times of a decided system in a solution: the events are listed in the order of the log's positions.
use Rattle.std.proofs.Common.{◌≡◌, ⊎_elim, ◌<◌, ℕ, ◌==◌, Bool, true, false, List, [], ◌∷◌, map, flat_map, inl, inr, refl, sym, subst, arith}
use Rattle.std.proofs.lemmas.Bool.{eqb-true, eq-eqb}
use Rattle.sp_spec.specs.Lists.{Member, Every, Distinct}
use Rattle.sp_spec.proofs.Lists.{every_from, every_member, member_left, member_right, member_map}
use Rattle.sp_spec.specs.Log.{Log}
use Rattle.sp_spec_system.specs.System.{Event, Link, System}
use Rattle.sp_spec_system.specs.Order.{is_before}
use Rattle.sp_spec_system.specs.Occurring.{happening_times, event_times}
use Rattle.sp_spec_system.specs.Solutions.{Valuation, IsBefore}
use Rattle.sp_law_forms.proofs.Lists.{member_flat_map}
use Rattle.sp_law_formula.proofs.InOrder.{before_later}
use Rattle.sp_law_candidate.specs.Laws.{StandBehind}
use Rattle.sp_law_decided.specs.Decided.{told_times, IsDecided}
use Rattle.sp_law_decided.proofs.Places.{Rises}

-- ---- times of the system

module _ (s : System) where
  of_event : (e : Event) (i : ℕ) → Member e s.events → Member i (event_times e) → Member i (told_times s)
  of_event e i m k = member_left i (flat_map event_times s.events) (map (λ (l : Link). l.from) s.links) (member_flat_map event_times e i s.events m k)

  pub event_time : (e : Event) → Member e s.events → Member e.time (told_times s)
  event_time e m = of_event e e.time m (inl refl)

  pub chain_time : (e : Event) (i : ℕ) → Member e s.events → Member i (happening_times e.happening) → Member i (told_times s)
  chain_time e i m k = of_event e i m (inr k)

  pub link_time : (l : Link) → Member l s.links → Member l.from (told_times s)
  link_time l m = member_right l.from (flat_map event_times s.events) (map (λ (k : Link). k.from) s.links) (member_map (λ (k : Link). k.from) l s.links m)

-- ---- their positions

abbrev pub times_of : List Event → List ℕ
times_of events = map (λ (e : Event). e.time) events

module _ (constants : List (List ℕ)) (s : System) (decided : IsDecided constants s) (log : Log) (v : Valuation) (ordered : Every (IsBefore log v) s.order) where
  before_less : (i j : ℕ) → is_before s.order i j ≡ true → v.times i < v.times j
  before_less i j e = before_later log v s.order ordered i j e

  -- times of one position are one
  pub one_time : (i j : ℕ) → Member i (told_times s) → Member j (told_times s) → v.times i ≡ v.times j → i ≡ j
  one_time i j m k e = at (i == j) refl
    where
      apart : (i ≡ j → ⊥) → ⊥
      apart n = ⊎_elim (λ b. let l = before_less i j b in omega arith) (λ b. let l = before_less j i b in omega arith) (decided.compared i j m k n)

      at : (b : Bool) → (i == j) ≡ b → i ≡ j
      at true f = eqb-true i j f
      at false f = absurd (apart (λ g. let h = eq-eqb i j g in cc))

  -- an event that isn't before another, and has another time, is later
  is_less : (e f : Event) → Member e s.events → Member f s.events → (f.time ≡ e.time → ⊥) → is_before s.order f.time e.time ≡ false → v.times e.time < v.times f.time
  is_less e f m k n b = ⊎_elim (λ h. before_less e.time f.time h) (λ h. absurd cc) (decided.compared e.time f.time (event_time s e m) (event_time s f k) (λ g. n (sym g)))

  -- events that stand behind those that are before them rise
  pub listed_rise : (listed : List Event) → Every (λ e. Member e s.events) listed → Distinct (times_of listed) → StandBehind s.order listed → Rises (λ (e : Event). v.times e.time) listed
  listed_rise [] m d b = tt
  listed_rise (e ∷ es) m d b = (
    every_from (λ (f : Event). v.times e.time < v.times f.time) es (λ f k.
        is_less e f m.0 (every_member (λ g. Member g s.events) es f k m.1)
        (λ n. d.0 (subst (λ (i : ℕ). Member i (times_of es)) n (member_map (λ (g : Event). g.time) f es k)))
        (every_member (λ (g : Event). is_before s.order g.time e.time ≡ false) es f k b.0.1)),
    listed_rise es m.1 d.1 b.1,
  )
