-- A chain that has begun: what the system has of it, and what the log says of it.
use Rattle.std.proofs.Common.{◌≡◌, ◌<◌, ℕ, List, [], ◌∷◌, ◌++◌, map, Some, refl, sym, subst}
use Rattle.sp_spec.specs.Lists.{Member, Every, AtPosition}
use Rattle.sp_spec.specs.Term.{Names, Variable, Term, Ground, MadeOf, valued}
use Rattle.sp_spec.specs.Theory.{Theory, signature_of}
use Rattle.sp_spec.specs.Signature.{Signature}
use Rattle.sp_spec.specs.Log.{Log, How, by_chain, learn, IsChain, StartsChain, IsMadeAlone, way_of_learning, made_alone, IsLog}
use Rattle.sp_spec.proofs.Lists.{every_parts, every_member}
use Rattle.sp_spec.proofs.Logs.{IsBehind, entry_behind}
use Rattle.sp_spec.proofs.Options.{then_some}
use Rattle.sp_spec_system.specs.System.{anyhow, public_name, own_name, constructed, chain_begun, chain_done, Happening, rule_step, sending, learning, Event, System}
use Rattle.sp_spec_system.specs.Solutions.{Valuation, HappensAt, HappensIn}
use Rattle.sp_spec_system.specs.Numbered.{InHappening, InEvent, IsNumbered}
use Rattle.sp_spec_system.specs.MakingOne.{event_at}
use Rattle.sp_spec_know.specs.Chain.{Begun, last_of, begun, begun_at}
use Rattle.sp_law_system.proofs.Solutions.{Under, TimeUnder}
use Rattle.sp_law_formula.proofs.Action.{event_found}

-- the happening learns by the chain, of which the first and the other messages are these
abbrev pub HasChain : Happening → Begun → Type 0
HasChain h b =
    (t : Term Variable) × (ts : List (Term Variable)) × (h ≡ learning b.message (chain_begun b.from b.conclusion b.passed))
    × (b.passed ≡ t ∷ ts) × (b.last ≡ last_of t ts)

has_chain : (h : Happening) (b : Begun) → begun h ≡ Some b → HasChain h b
has_chain (rule_step r facts) b e = absurd cc
has_chain (sending m) b e = absurd cc
has_chain (learning m anyhow) b e = absurd cc
has_chain (learning m public_name) b e = absurd cc
has_chain (learning m own_name) b e = absurd cc
has_chain (learning m constructed) b e = absurd cc
has_chain (learning m (chain_done j k ts)) b e = absurd cc
has_chain (learning m (chain_begun j k [])) b e = absurd cc
has_chain (learning m (chain_begun j k (t ∷ ts))) b e =
    let made : Begun = record { message = m; from = j; conclusion = k; passed = t ∷ ts; last = last_of t ts } in
    let same : made ≡ b = cc in
    subst (HasChain (learning m (chain_begun j k (t ∷ ts)))) same (t, ts, refl, refl, refl)

-- what holds of each message holds of the last
last_in : (P : Term Variable → Type 0) (t : Term Variable) (ts : List (Term Variable)) → Every P (t ∷ ts) → P (last_of t ts)
last_in P t [] h = h.0
last_in P t (u ∷ ts) h = last_in P u ts h.1

-- an event at the time learns by it
pub record Chained (s : System) (i : ℕ) (b : Begun) : Type 0 where
  pub event : Event
  pub stands : Member event s.events
  pub at_time : event.time ≡ i
  pub has : HasChain event.happening b

pub chained : (s : System) (i : ℕ) (b : Begun) → begun_at s i ≡ Some b → Chained s i b
chained s i b e =
    let r = then_some _ (event_at i s.events) b e in
    let found = event_found i s.events r.0 r.1 in
    record { event = r.0; stands = found.0; at_time = found.1; has = has_chain r.0.happening b r.2 }

-- its numbers are the system's
pub record ChainUnder (N : Names) (n i : ℕ) (b : Begun) : Type 0 where
  pub time : i < n
  pub from : b.from < n
  pub message : MadeOf N (Under n) b.message
  pub passed : Every (MadeOf N (Under n)) b.passed
  pub last : MadeOf N (Under n) b.last

module _ (s : System) (i : ℕ) (b : Begun) (a : Chained s i b) where
  pub chain_under : (N : Names) → IsNumbered N s → ChainUnder N s.next i b
  chain_under N n =
      let d = every_member (InEvent N (Under s.next) (TimeUnder s.next)) s.events a.event a.stands n.events in
      let x = a.has in
      let inside = subst (InHappening N (Under s.next) (TimeUnder s.next)) x.2 d.1 in
      record {
        time = subst (λ (j : ℕ). j < s.next) a.at_time d.0;
        from = inside.1.0;
        message = inside.0;
        passed = inside.1.1;
        last = subst (MadeOf N (Under s.next)) (sym x.4) (last_in (MadeOf N (Under s.next)) x.0 x.1 (subst (Every (MadeOf N (Under s.next))) x.3 inside.1.1));
      }

  -- a log learns it by a chain that begins so
  pub chain_learnt : (log : Log) (v : Valuation) → Every (HappensIn log v) s.events
      → (others : List Ground) × AtPosition log (v.times i)
      (learn (valued v.terms b.message) (by_chain (v.times b.from) b.conclusion (map (valued v.terms) b.passed ++ others)))
  chain_learnt log v h =
      let happens = every_member (HappensIn log v) s.events a.event a.stands h in
      let here = subst (HappensAt log (v.times a.event.time) v) a.has.2 happens in
      let there = subst (λ (j : ℕ). AtPosition log (v.times j) (learn (valued v.terms b.message) here.0)) a.at_time here.1 in
      (here.2.0, subst (λ (how : How). AtPosition log (v.times i) (learn (valued v.terms b.message) how)) here.2.1 there)

-- what the log says of the messages that are to come
pub record Goes (i : ℕ) (b : Begun) (theory : Theory) (log : Log) (v : Valuation) (others : List Ground) : Type 0 where
  pub behind : IsBehind theory log (v.times i)
      (learn (valued v.terms b.message) (by_chain (v.times b.from) b.conclusion (map (valued v.terms) b.passed ++ others)))
  pub leads : IsChain (signature_of theory) behind.past (valued v.terms b.last) others (valued v.terms b.message)
  pub not_alone : IsMadeAlone (signature_of theory) (valued v.terms b.message) → ⊥

-- the chain leads on from the last message that was passed
leads_on : (signature : Signature) (past : Log) (f : Term Variable → Ground) (t : Term Variable) (ts : List (Term Variable)) (others : List Ground) (m : Ground)
    → IsChain signature past (f t) (map f ts ++ others) m → IsChain signature past (f (last_of t ts)) others m
leads_on signature past f t [] others m h = h
leads_on signature past f t (u ∷ ts) others m h = leads_on signature past f u ts others m h.1

module _ (s : System) (i : ℕ) (b : Begun) (a : Chained s i b) (theory : Theory) (log : Log) (is : IsLog theory log) (v : Valuation) (others : List Ground)
    (there : AtPosition log (v.times i)
    (learn (valued v.terms b.message) (by_chain (v.times b.from) b.conclusion (map (valued v.terms) b.passed ++ others)))) where
  abbrev m : Ground
  m = valued v.terms b.message

  pub chain_goes : Goes i b theory log v others
  chain_goes =
      let how = by_chain (v.times b.from) b.conclusion (map (valued v.terms) b.passed ++ others) in
      let behind = entry_behind theory log is (v.times i) (learn m how) there in
      let may = behind.keeps way_of_learning in
      let x = a.has in
      let starts = subst (λ (ts : List (Term Variable)). StartsChain (signature_of theory) behind.past (map (valued v.terms) ts ++ others) may.4 m) x.3 may.6 in
      let on = leads_on (signature_of theory) behind.past (valued v.terms) x.0 x.1 others m starts.1 in
      record {
        behind = behind;
        leads = subst (λ (t : Term Variable). IsChain (signature_of theory) behind.past (valued v.terms t) others m) (sym x.4) on;
        not_alone = behind.keeps made_alone;
      }

  -- what holds of each message of the chain holds of the last that was passed
  pub chain_last : (P : Ground → Type 0) → Every P (map (valued v.terms) b.passed ++ others) → P (valued v.terms b.last)
  chain_last P h =
      let x = a.has in
      let each = each_mapped P b.passed (every_parts P (map (valued v.terms) b.passed) others h).0 in
      subst (λ (t : Term Variable). P (valued v.terms t)) (sym x.4)
      (last_in (λ t. P (valued v.terms t)) x.0 x.1 (subst (Every (λ (t : Term Variable). P (valued v.terms t))) x.3 each))
    where
      each_mapped : (P : Ground → Type 0) (ts : List (Term Variable)) → Every P (map (valued v.terms) ts)
          → Every (λ (t : Term Variable). P (valued v.terms t)) ts
      each_mapped P [] k = tt
      each_mapped P (t ∷ ts) k = (k.0, each_mapped P ts k.1)
