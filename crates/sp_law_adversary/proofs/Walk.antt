-- From a learnt application the way goes down: what was made has learnt parts, and what was taken out by a chain can be taken further.
use Rattle.std.proofs.Common.{◌≡◌, Bool, true, false, true≢false, if◌then◌else◌, Option, ℕ, List, [], ◌∷◌, ◌++◌, refl, sym, ap, ◌∙◌, subst, append_assoc, Some}
use Rattle.sp_spec.specs.Lists.{Member}
use Rattle.sp_spec.specs.Term.{Fresh, Pub, Variable, Term, app, Terms, none, more, Ground, Grounds, joined, count, Values, valued, valued_all}
use Rattle.sp_spec.specs.Signature.{Equation, HasPublic, HasSort, RespectsSorts}
use Rattle.sp_spec.specs.Theory.{Theory, signature_of}
use Rattle.sp_spec.specs.Destruction.{Fork, way_to}
use Rattle.sp_spec.specs.Log.{How, public_name, own_name, constructed, by_chain, Entry, step, send, learn, Log, IsLearnt, AreLearnt, IsDestructed, MayLearn, Clause, way_of_learning, chain_is_new, Keeps, IsLog}
use Rattle.sp_law_log.specs.Ways.{args_with, sides, IsPublicFork, ArePublic, IsWay, destruction_below}
use Rattle.sp_law_adversary.specs.Held.{HeldChain}
use Rattle.sp_law_log.specs.Laws.{IsPlace}
use Rattle.sp_law_log.proofs.Ways.{sides_end}
use Rattle.sp_law_log.proofs.Destructions.{place_among}
use Rattle.sp_law_run.proofs.Over.{count_valued}
use Rattle.sp_spec.proofs.Lists.{every_append}
use Rattle.sp_law_adversary.proofs.Held.{are_learnt_later, held_later}
use Rattle.sp_law_adversary.specs.Learning.{way_learnt, Chain, with_message, chain_from, chain_down}
use Rattle.sp_law_adversary.proofs.Grown.{learnt_before}
use Rattle.sp_law_adversary.proofs.Absorb.{IsHeldBy, held_by_end}
use Rattle.std.specs.Bool.{Decides}
use Rattle.sp_spec.specs.Same.{same_term}
use Rattle.sp_spec.proofs.Same.{same_term_decides}

module _ (log : Log) (v : Values) where
  pub learnt_joined : (ts us : Terms Variable) → AreLearnt log (valued_all v ts) → AreLearnt log (valued_all v us) → AreLearnt log (valued_all v (joined ts us))
  learnt_joined none us h k = k
  learnt_joined (more t ts) us h k = (h.0, learnt_joined ts us h.1 k)

  -- what stands among learnt terms, and those beside it
  pub learnt_among : (front : Terms Variable) (t : Term Variable) (back : Terms Variable) → AreLearnt log (valued_all v (joined front (more t back)))
      → IsLearnt log (valued v t) × AreLearnt log (valued_all v (joined front back))
  learnt_among none t back h = h
  learnt_among (more u front) t back h = let r = learnt_among front t back h.1 in (r.0, (h.0, r.1))

module _ (theory : Theory) where
  -- its symbol is public and its arguments are learnt
  abbrev pub IsMade : Log → Ground → Type 0
  IsMade log m = (f : List ℕ) × (ts : Grounds) × (m ≡ app f ts) × HasPublic (signature_of theory).symbols f (count ts) × AreLearnt log ts

  -- how a message was learnt, said at the end of the log
  abbrev pub IsKnownBy : Log → Ground → How → Type 0
  IsKnownBy log m public_name = HasSort Pub m
  IsKnownBy log m own_name = HasSort Fresh m
  IsKnownBy log m constructed = IsMade log m
  IsKnownBy log m (by_chain p k chain) = HeldChain (signature_of theory) log p k chain m

  abbrev pub IsKnown : Log → Ground → Type 0
  IsKnown log m = (how : How) × (way_learnt log m ≡ Some how) × IsKnownBy log m how

  known_later : (e : Entry) (log : Log) (m : Ground) (how : How) → IsKnownBy log m how → IsKnownBy (e ∷ log) m how
  known_later e log m public_name h = h
  known_later e log m own_name h = h
  known_later e log m constructed h = (h.0, h.1, h.2, h.3, are_learnt_later (e ∷ []) log h.1 h.4)
  known_later e log m (by_chain p k chain) h = held_later (signature_of theory) (e ∷ []) log p k chain m h

  known_by : (log : Log) (m : Ground) (how : How) → MayLearn (signature_of theory) log m how → Keeps theory chain_is_new (learn m how) log → IsKnownBy log m how
  known_by log m public_name h new = h
  known_by log m own_name h new = h
  known_by log m constructed h new = (h.0, h.1, h.2, h.3, h.4)
  known_by log m (by_chain p k chain) h new =
      record { called = h.0; facts = h.1; sources = h.2; there = h.3; first = h.4; out = h.5; chained = h.6; not_before = new }

  pub known : (log : Log) (m : Ground) → IsLog theory log → IsLearnt log m → IsKnown log m
  known [] m l h = absurd h.1.1
  known (step r facts sources ∷ past) m l h =
      let k = known past m l.0 (learnt_before (step r facts sources) past m (λ how e. absurd cc) h) in
      (k.0, k.1, known_later (step r facts sources) past m k.0 k.2)
  known (send t ∷ past) m l h =
      let k = known past m l.0 (learnt_before (send t) past m (λ how e. absurd cc) h) in (k.0, k.1, known_later (send t) past m k.0 k.2)
  known (learn t how ∷ past) m l h = at (same_term t m) (same_term_decides t m) (λ k. known past m l.0 k)
    where
      at : (b : Bool) → Decides b (t ≡ m) → (IsLearnt past m → IsKnown past m)
          → (found : How) × ((if b then Some how else way_learnt past m) ≡ Some found) × IsKnownBy (learn t how ∷ past) m found
      at true d earlier =
          let keeps = subst (λ (u : Ground). (clause : Clause) → Keeps theory clause (learn u how) past) (d.0 refl) l.1 in
          (how, refl, known_later (learn t how) past m how (known_by past m how (keeps way_of_learning) (keeps chain_is_new)))
      at false d earlier =
          let k = earlier (learnt_before (learn t how) past m (λ other e. true≢false (sym (d.1 (let g : t ≡ m = cc in g)))) h) in
          (k.0, k.1, known_later (learn t how) past m k.0 k.2)

  module _ (log : Log) (l : IsLog theory log) (e : Equation) (m : Member e (signature_of theory).equations) (v : Values) (respects : RespectsSorts v)
      (not_yet : IsLearnt log (valued v e.right) → ⊥) where
    -- a chain that is held and ends where the right side stands
    abbrev pub IsHeldChain : Option Chain → Type 0
    IsHeldChain o = (chain : Chain) × (o ≡ Some chain) × IsHeldBy theory log chain (valued v e.right)

    -- an application that is learnt, and to which a destruction is listed that leads to where the right side stands
    at_place : (t : Term Variable) (f : List ℕ) (ts : Terms Variable) → t ≡ app f ts
        → IsDestructed (signature_of theory) log (valued v t) (valued v e.right) → (below : Option Chain)
        → (HasPublic (signature_of theory).symbols f (count ts) → AreLearnt log (valued_all v ts) → IsHeldChain below)
        → (how : How) → IsKnownBy log (valued v t) how → IsHeldChain (chain_from (Some how) (valued v e.right) below)
    at_place t f ts is d below further public_name h = absurd (subst (λ (u : Term Variable). HasSort Pub (valued v u)) is h)
    at_place t f ts is d below further own_name h = absurd (subst (λ (u : Term Variable). HasSort Fresh (valued v u)) is h)
    at_place t f ts is d below further constructed h =
        let same : app f (valued_all v ts) ≡ app h.0 h.1 = sym (ap (valued v) is) ∙ h.2 in
        let same_symbol : h.0 ≡ f = cc in
        let same_args : h.1 ≡ valued_all v ts = cc in
        further
        (subst (λ (g : List ℕ). HasPublic (signature_of theory).symbols g (count ts)) same_symbol
        (subst (λ (n : ℕ). HasPublic (signature_of theory).symbols h.0 n) (ap count same_args ∙ count_valued v ts) h.3))
        (subst (λ (us : Grounds). AreLearnt log us) same_args h.4)
    at_place t f ts is d below further (by_chain p k chain) h =
        let c : Chain = record { position = p; place = k; messages = chain } in
        (with_message c (valued v e.right), refl, held_by_end theory log c (valued v t) (valued v e.right) h d not_yet)

    -- down from a fork with a public symbol whose arguments are learnt, where those beside the way are learnt
    pub walk : (under : List Fork) (above : List Fork) (f : Fork) → way_to e.right e.left ≡ Some (above ++ f ∷ under) → IsWay f.entered under e.right
        → ArePublic (signature_of theory).symbols above → IsPublicFork (signature_of theory).symbols f
        → AreLearnt log (valued_all v (sides above)) → AreLearnt log (valued_all v (args_with f f.entered))
        → IsHeldChain (chain_down log v (valued v e.right) (f ∷ under))
    walk [] above f found way publics public beside args =
        absurd (not_yet (subst (λ (t : Term Variable). IsLearnt log (valued v t)) way (learnt_among log v f.front f.entered f.back args).0))
    walk (g ∷ under) above f found way publics public beside args =
        let among = learnt_among log v f.front f.entered f.back args in
        let sides_here : AreLearnt log (valued_all v (sides (above ++ f ∷ []))) =
        subst (λ (ts : Terms Variable). AreLearnt log (valued_all v ts)) (sym (sides_end above f))
        (learnt_joined log v (sides above) (joined f.front f.back) beside among.1) in
        let place : IsPlace (signature_of theory).symbols e above f = record { next = g; under = under; way = found; publics = publics; public = public } in
        let one : IsDestructed (signature_of theory) log (valued v f.entered) (valued v e.right) =
        (destruction_below e above f, place_among (signature_of theory) e m above f place, v, respects, refl, sides_here, refl) in
        let k = known log (valued v f.entered) l among.0 in
        subst (λ (o : Option How). IsHeldChain (chain_from o (valued v e.right) (chain_down log v (valued v e.right) (g ∷ under)))) (sym k.1)
        (at_place f.entered g.symbol (args_with g g.entered) way.0 one (chain_down log v (valued v e.right) (g ∷ under))
        (λ public_g args_g.
        walk under (above ++ f ∷ []) g (found ∙ ap (λ (fs : List Fork). Some fs) (sym (append_assoc above (f ∷ []) (g ∷ under)))) way.1
        (every_append (IsPublicFork (signature_of theory).symbols) above (f ∷ []) publics (public, tt)) public_g sides_here args_g)
        k.0 k.2)
