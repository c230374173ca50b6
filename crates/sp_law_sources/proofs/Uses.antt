-- An entry's cases joined to a system lose no solution of it.
use Rattle.std.proofs.Common.{◌≡◌, ◌<◌, ℕ, Bool, true, false, if◌then◌else◌, List, [], ◌∷◌, ◌++◌, Option, Some, None, option_and_then, refl, sym, ap, ◌∙◌, subst, arith, lt_of_lt_of_le, nat_eq}
use Rattle.std.proofs.lemmas.Bool.{and_parts, eqb-true}
use Rattle.std.proofs.lemmas.Slice.Eq.{bytes_eq-Decides}
use Rattle.std.specs.Str.{bytes_eq}
use Rattle.sp_spec.specs.Lists.{Member, Every}
use Rattle.sp_spec.specs.Term.{Names, Variable, Term}
use Rattle.sp_spec.specs.Guarded.{Guarded}
use Rattle.sp_spec.specs.Log.{Log, IsLog}
use Rattle.sp_spec.specs.Signature.{Symbol}
use Rattle.sp_spec.specs.Theory.{Theory}
use Rattle.sp_law_equal.specs.RightTheory.{HasNormalInstances}
use Rattle.sp_spec.proofs.Lists.{every_member}
use Rattle.sp_spec.proofs.Options.{mapped, then_some}
use Rattle.sp_spec_system.specs.System.{Way, learning, Event, System}
use Rattle.sp_spec_system.specs.Solutions.{Valuation, HappensAt, HappensIn, FormulaHolds, Solves}
use Rattle.sp_spec_system.specs.Numbered.{InEvent, HappenOnce, IsNumbered}
use Rattle.sp_spec_system.specs.Covering.{Agrees, NoneSolved, Covers}
use Rattle.sp_spec_system.specs.Head.{Head, fresh_head, symbol_head, head_next}
use Rattle.sp_spec_system.specs.Together.{joined_at}
use Rattle.sp_spec_system.specs.Move.{Case, systems_in, TableEntry}
use Rattle.sp_spec_system.specs.Cases.{case_if}
use Rattle.sp_spec_know.specs.Know.{wanted_at}
use Rattle.sp_spec_know.specs.Source.{same_head, head_of, entry_of, joined_cases, source_cases}
use Rattle.sp_law_system.specs.Laws.{UnifierIsRight}
use Rattle.sp_law_system.proofs.Solutions.{Under, TimeUnder}
use Rattle.sp_law_formula.proofs.Merged.{IfThere, SolvedBy}
use Rattle.sp_law_know.proofs.KnowWanted.{Asked, asked}
use Rattle.sp_spec_sources.specs.Entries.{StandsAlone, IsCaseFrom, IsEntry}
use Rattle.sp_law_sources.proofs.Joined.{LaterOnce, values_of, joined_solved, joined_right}
use Rattle.sp_law_sources.proofs.Starting.{alone_hold, message_starts}

-- a first case, if there is one, and others
module _ (theory : Theory) (log : Log) (v : Valuation) (n : ℕ) where
  abbrev IsUnsolved : System → Type 0
  IsUnsolved t = (w : Valuation) → Agrees n v w → Solves theory log w t → ⊥

  none_split : (name : List ℕ) (o : Option System) (rest : List Case) → NoneSolved theory log v n (systems_in (case_if name o ++ rest))
      → IfThere IsUnsolved o × NoneSolved theory log v n (systems_in rest)
  none_split name None rest none = (tt, none)
  none_split name (Some t) rest none = none

  not_both : (o : Option System) (w : Valuation) → Agrees n v w → SolvedBy theory log w o → IfThere IsUnsolved o → ⊥
  not_both None w a h none = h
  not_both (Some t) w a h none = none w a h

pub head_some : (l : Head) → 0 < head_next l
head_some fresh_head = omega arith
head_some (symbol_head f n) = omega arith

module _ (N : Names) (right : UnifierIsRight) (s : System) (n : IsNumbered N s) (i : ℕ) (under : i < s.next) where
  -- where none of the joined cases has a solution, none of the entry's has one at the position of the time
  cases_unsolved : (theory : Theory) (log : Log) (v : Valuation) → Solves theory log v s → (l : Head) (u : Valuation) → u.times 0 ≡ v.times i
      → (cs : List Case) → Every (IsCaseFrom N (head_next l)) cs → NoneSolved theory log v s.next (systems_in (joined_cases s i cs)) → NoneSolved theory log u (head_next l) (systems_in cs)
  cases_unsolved theory log v h l u one [] k none = tt
  cases_unsolved theory log v h l u one (c ∷ cs) k none =
      let parts = none_split theory log v s.next c.name (joined_at s c.system i) (joined_cases s i cs) none in
      let some = lt_of_lt_of_le (head_some l) k.0.next in (
        (λ w a own.
            let both = joined_solved N right s n i under theory log v h c.system k.0.numbered some w own (a.times 0 (head_some l) ∙ one) in
            not_both theory log v s.next (joined_at s c.system i) _ both.0 both.1 parts.0),
        cases_unsolved theory log v h l u one cs k.1 parts.1,
      )

  pub cases_later : HappenOnce s.events → (l : ℕ) → 0 < l → (cs : List Case) → Every (IsCaseFrom N l) cs → Every (LaterOnce N s.next) (systems_in (joined_cases s i cs))
  cases_later once l some [] k = tt
  cases_later once l some (c ∷ cs) k =
      at (joined_at s c.system i) (joined_right N right s n i under once c.system k.0.numbered k.0.once (lt_of_lt_of_le some k.0.next)) (cases_later once l some cs k.1)
    where
      at : (o : Option System) → IfThere (LaterOnce N s.next) o → Every (LaterOnce N s.next) (systems_in (joined_cases s i cs)) → Every (LaterOnce N s.next) (systems_in (case_if c.name o ++ joined_cases s i cs))
      at None h rest = rest
      at (Some t) h rest = (h, rest)

module _ (N : Names) (right : UnifierIsRight) (theory : Theory) (good : HasNormalInstances theory) (taken : List Guarded) (alone : Every (StandsAlone N) taken) where
  pub entry_covers : (e : TableEntry) → IsEntry theory N taken e → (s : System) → IsNumbered N s
      → (d : Event) → Member d s.events → (m : Term Variable) (way : Way) → d.happening ≡ learning m way → head_of m ≡ Some e.head
      → (log : Log) → IsLog theory log → (v : Valuation) → Solves theory log v s → (u : Valuation) → Every (FormulaHolds theory log u) taken
      → NoneSolved theory log v s.next (systems_in (joined_cases s d.time e.cases)) → ⊥
  entry_covers e entry s n d stands m way learns of log is v h u are none =
      let happens = every_member (HappensIn log v) s.events d stands h.events in
      let here = subst (HappensAt log (v.times d.time) v) learns happens in
      let under = (every_member (InEvent N (Under s.next) (TimeUnder s.next)) s.events d stands n.events).0 in
      let true_here = alone_hold N theory log u v taken alone are in
      let start = message_starts N theory good log is v (values_of theory log v s h) taken alone true_here (v.times d.time) here.0 m e.head of here.1 in
      let covers = subst (λ (t : System). Covers theory t (systems_in e.cases)) entry.start entry.covers in
      covers.covers log is start.values start.solves
      (cases_unsolved N right s n d.time under theory log v h e.head start.values start.time e.cases entry.cases none)

pub head_same : (l k : Head) → same_head l k ≡ true → l ≡ k
head_same fresh_head fresh_head h = refl
head_same fresh_head (symbol_head g k) h = absurd cc
head_same (symbol_head f n) fresh_head h = absurd cc
head_same (symbol_head f n) (symbol_head g k) h =
    let parts = and_parts (bytes_eq f g) (nat_eq n k) h in
    let one = (bytes_eq-Decides f g).0 parts.0 in
    let two = eqb-true n k parts.1 in
    cc

-- the entry of a head in a table is a right one of the table
found_entry : (P : TableEntry → Type 0) (l : Head) (table : List TableEntry) (e : TableEntry) → entry_of table l ≡ Some e → Every P table → P e × (e.head ≡ l)
found_entry P l [] e h k = absurd cc
found_entry P l (d ∷ table) e h k = at (same_head d.head l) refl h (λ g. found_entry P l table e g k.1)
  where
    at : (b : Bool) → same_head d.head l ≡ b → (if b then Some d else entry_of table l) ≡ Some e → (entry_of table l ≡ Some e → P e × (e.head ≡ l)) → P e × (e.head ≡ l)
    at true same g later = let one : d ≡ e = cc in subst (λ (x : TableEntry). P x × (x.head ≡ l)) one (k.0, head_same d.head l same)
    at false same g later = later g

-- what the move uses: a message that is asked for, and its entry
pub record Used (symbols : List Symbol) (table : List TableEntry) (P : TableEntry → Type 0) (s : System) (i : ℕ) (cs : List Case) : Type 0 where
  pub message : Term Variable
  pub asked : Asked symbols s i message
  pub entry : TableEntry
  pub right : P entry
  pub head : head_of message ≡ Some entry.head
  pub cases : cs ≡ joined_cases s i entry.cases

pub used : (symbols : List Symbol) (table : List TableEntry) (P : TableEntry → Type 0) → Every P table → (s : System) (i : ℕ) (cs : List Case) → source_cases table symbols s i ≡ Some cs
    → Used symbols table P s i cs
used symbols table P k s i cs h =
    let r = mapped (λ (e : TableEntry). joined_cases s i e.cases) (option_and_then (entry_of table) (option_and_then head_of (wanted_at symbols s i))) cs h in
    let q = then_some (entry_of table) (option_and_then head_of (wanted_at symbols s i)) r.0 r.1 in
    let p = then_some head_of (wanted_at symbols s i) q.0 q.1 in
    let found = found_entry P q.0 table r.0 q.2 k in
    record {
      message = p.0;
      asked = asked symbols s i p.0 p.1;
      entry = r.0;
      right = found.0;
      head = p.2 ∙ ap (λ (l : Head). Some l) (sym found.1);
      cases = r.2;
    }
