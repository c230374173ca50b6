-- What a log says of what is sent and learnt: a message is learnt at one position; what is sent was learnt before; what a premise In takes was sent before; and
-- in which way some messages are learnt.
use Rattle.std.proofs.Common.{◌≡◌, ◌<◌, ◌&&◌, ℕ, zero, suc, Bool, true, false, not, List, [], ◌∷◌, map, length, codes, refl, sym, ap, ◌∙◌, subst, inl, inr, arith, lt_trans, nat_eq}
use Rattle.std.proofs.lemmas.Bool.{and_parts, eqb-true, eqb-false}
use Rattle.std.proofs.lemmas.Slice.Eq.{bytes_eq-Decides}
use Rattle.std.proofs.Math.Arith.{lt_of_le-ne}
use Rattle.std.specs.Str.{bytes_eq}
use Rattle.sp_spec.specs.Lists.{Member, Every, AtPlace, AtPosition}
use Rattle.sp_spec.specs.Term.{Pub, Fresh, Variable, var, constant, name, app, none, more, Ground, Grounds, Values}
use Rattle.sp_spec.specs.Signature.{Equation, Signature, HasSort}
use Rattle.sp_spec.specs.Rule.{Fact, Facts, fact_at, AreNormalFacts, in_of}
use Rattle.sp_spec.specs.Theory.{Theory, signature_of}
use Rattle.sp_spec.specs.Log.{Log, Entry, step, send, learn, Source, conclusion, How, public_name, own_name, constructed, by_chain, Concludes, LearntAt, IsLearnt, AreLearnt, IsMadeAlone, MayLearn, IsRuleInstance, rule_instance, sent_is_learnt, learnt_once, way_of_learning, made_alone, chain_is_new, Keeps, IsLog, is_fr, is_in}
use Rattle.sp_spec.proofs.Logs.{IsBehind, entry_behind}
use Rattle.sp_spec.proofs.Lists.{every_member, position_below, position_one}
use Rattle.sp_law_equal.specs.RightTheory.{LeavesReserved}
use Rattle.sp_law_graph.proofs.Sources.{source_there}

-- ---- what is learnt

-- it is learnt at an earlier position
abbrev pub IsLearntBefore : Log → ℕ → Ground → Type 0
IsLearntBefore log p m = (q : ℕ) × (how : How) × AtPosition log q (learn m how) × (q < p)

abbrev pub AreLearntBefore : Log → ℕ → Grounds → Type 0
AreLearntBefore log p none = Unit {0}
AreLearntBefore log p (more t ts) = IsLearntBefore log p t × AreLearntBefore log p ts

-- a message is learnt at one position
pub learnt_at_one : (theory : Theory) (log : Log) → IsLog theory log → (p q : ℕ) (m : Ground) (how other : How) → AtPosition log p (learn m how)
    → AtPosition log q (learn m other) → p ≡ q
learnt_at_one theory [] is p q m how other a b = absurd a
learnt_at_one theory (e ∷ log) is p q m how other (inl a) (inl b) = a.0 ∙ sym b.0
learnt_at_one theory (e ∷ log) is p q m how other (inl a) (inr b) =
    absurd (subst (λ (x : Entry). Keeps theory learnt_once x log) a.1 (is.1 learnt_once) (q, (other, b)))
learnt_at_one theory (e ∷ log) is p q m how other (inr a) (inl b) =
    absurd (subst (λ (x : Entry). Keeps theory learnt_once x log) b.1 (is.1 learnt_once) (p, (how, a)))
learnt_at_one theory (e ∷ log) is p q m how other (inr a) (inr b) = learnt_at_one theory log is.0 p q m how other a b

-- at each position of a log stands an entry
position_there : (log : Log) (q : ℕ) → q < length log → (e : Entry) × AtPosition log q e
position_there [] q l = absurd (omega (arith, l))
position_there (e ∷ log) q l = at (nat_eq q (length log)) refl (λ k. position_there log q k)
  where
    at : (b : Bool) → nat_eq q (length log) ≡ b → (q < length log → (d : Entry) × AtPosition log q d) → (d : Entry) × AtPosition (e ∷ log) q d
    at true k later = (e, inl (eqb-true q (length log) k, refl))
    at false k later = let other = eqb-false q (length log) k in let r = later (lt_of_le-ne (omega (arith, l)) other) in (r.0, inr r.1)

module _ (signature : Signature) (past : Log) (m : Ground) where
  pub public_way : HasSort Pub m → (how : How) → MayLearn signature past m how
      → ((p k : ℕ) (chain : List Ground) → how ≡ by_chain p k chain → IsMadeAlone signature m → ⊥) → how ≡ public_name
  public_way s public_name may alone = refl
  public_way s own_name may alone = absurd (both m s may)
    where
      both : (t : Ground) → HasSort Pub t → HasSort Fresh t → ⊥
      both (var x) a b = x
      both (constant c) a b = b
      both (name n) a b = a
      both (app f ts) a b = a
  public_way s constructed may alone = absurd (subst (HasSort Pub) may.2 s)
  public_way s (by_chain p k chain) may alone = absurd (alone p k chain refl (inr (inr s)))

  -- what is made alone by applying a symbol is learnt so, of arguments that were learnt
  pub made_way : (f : List ℕ) (ts : Grounds) → m ≡ app f ts → IsMadeAlone signature m → (how : How) → MayLearn signature past m how
      → ((p k : ℕ) (chain : List Ground) → how ≡ by_chain p k chain → IsMadeAlone signature m → ⊥) → (how ≡ constructed) × AreLearnt past ts
  made_way f ts e made public_name may alone = absurd (subst (HasSort Pub) e may)
  made_way f ts e made own_name may alone = absurd (subst (HasSort Fresh) e may)
  made_way f ts e made constructed may alone =
      let same : app may.0 may.1 ≡ app f ts = sym may.2 ∙ e in
      let args : may.1 ≡ ts = cc in
      (refl, subst (AreLearnt past) args may.4)
  made_way f ts e made (by_chain p k chain) may alone = absurd (alone p k chain refl made)

module _ (theory : Theory) (log : Log) (is : IsLog theory log) where
  earlier : (p : ℕ) (e : Entry) → (b : IsBehind theory log p e) → (m : Ground) → IsLearnt b.past m → IsLearntBefore log p m
  earlier p e b m h =
      let at = h.1 in
      (h.0, at.0, b.still_there h.0 (learn m at.0) at.1, subst (λ (n : ℕ). h.0 < n) (sym b.position) (position_below b.past h.0 (learn m at.0) at.1))

  -- what is sent was learnt before
  pub sent_learnt : (p : ℕ) (m : Ground) → AtPosition log p (send m) → IsLearntBefore log p m
  sent_learnt p m a = let b = entry_behind theory log is p (send m) a in earlier p (send m) b m (b.keeps sent_is_learnt)

  pub all_earlier : (p : ℕ) (e : Entry) → (b : IsBehind theory log p e) → (ts : Grounds) → AreLearnt b.past ts → AreLearntBefore log p ts
  all_earlier p e b none h = tt
  all_earlier p e b (more t ts) h = (earlier p e b t h.0, all_earlier p e b ts h.1)

  module _ (p : ℕ) (m : Ground) (how : How) (there : AtPosition log p (learn m how)) where
    alone : (b : IsBehind theory log p (learn m how)) → (c k : ℕ) (chain : List Ground) → how ≡ by_chain c k chain → IsMadeAlone (signature_of theory) m → ⊥
    alone b c k chain e = subst (λ (x : How). Keeps theory made_alone (learn m x) b.past) e (b.keeps made_alone)

    -- a public name is learnt as one
    pub learnt_public : HasSort Pub m → how ≡ public_name
    learnt_public s =
        let b = entry_behind theory log is p (learn m how) there in public_way (signature_of theory) b.past m s how (b.keeps way_of_learning) (alone b)

    pub learnt_made : (f : List ℕ) (ts : Grounds) → m ≡ app f ts → IsMadeAlone (signature_of theory) m → (how ≡ constructed) × AreLearntBefore log p ts
    learnt_made f ts e made =
        let b = entry_behind theory log is p (learn m how) there in
        let r = made_way (signature_of theory) b.past m f ts e made how (b.keeps way_of_learning) (alone b) in
        (r.0, all_earlier p (learn m how) b ts r.1)

  -- no message of a chain was learnt before the chain's step
  pub chain_not_before : (p : ℕ) (m : Ground) (c k : ℕ) (chain : List Ground) → AtPosition log p (learn m (by_chain c k chain)) → (t : Ground) → Member t chain
      → (q : ℕ) (how : How) → AtPosition log q (learn t how) → q < c → ⊥
  chain_not_before p m c k chain there t among q how learnt before =
      let e = learn m (by_chain c k chain) in
      let b = entry_behind theory log is p e there in
      let may = b.keeps way_of_learning in
      let below = position_below b.past c (step may.0 may.1 may.2) may.3 in
      let d = position_there b.past q (lt_trans before below) in
      let one : d.0 ≡ learn t how = position_one log q d.0 (learn t how) (b.still_there q d.0 d.1) learnt in
      every_member (λ (t : Ground). (q : ℕ) → q < c → LearntAt b.past q t → ⊥) chain t among (b.keeps chain_is_new) q before
      (how, subst (λ (x : Entry). AtPosition b.past q x) one d.1)

-- ---- what is sent

-- what concludes a fact in normal form is of the fact's symbol
symbol_there : (es : List Equation) (v : Values) (fs : List (Fact Variable)) (gs : List (Fact ⊥)) → AreNormalFacts es (map (fact_at v) fs) gs
    → (k : ℕ) (g : Fact ⊥) → AtPlace gs k g
    → (f : Fact Variable) × Member f fs × (f.symbol ≡ g.symbol)
symbol_there es v [] [] h k g a = absurd a
symbol_there es v [] (d ∷ gs) h k g a = absurd h
symbol_there es v (f ∷ fs) [] h k g a = absurd h
symbol_there es v (f ∷ fs) (d ∷ gs) h zero g a = (f, inl refl, h.0 ∙ ap (λ (x : Fact ⊥). x.symbol) a)
symbol_there es v (f ∷ fs) (d ∷ gs) h (suc k) g a = let r = symbol_there es v fs gs h.3 k g a in (r.0, inr r.1, r.2)

in_symbol : {V : Type 0} → (f : Fact V) → is_in f ≡ true → f.symbol ≡ codes "In"
in_symbol f e = (bytes_eq-Decides f.symbol (codes "In")).0 (and_parts (bytes_eq f.symbol (codes "In")) (not f.persistent) e).0

in_no_fr : (f : Fact ⊥) → is_in f ≡ true → is_fr f ≡ false
in_no_fr f e = subst (λ (s : List ℕ). (bytes_eq s (codes "Fr") && not f.persistent) ≡ false) (sym (in_symbol f e)) refl

-- what a premise In takes is sent at an earlier position
pub record Sent (log : Log) (q : ℕ) (sources : List Source) (a : ℕ) (f : Fact ⊥) : Type 0 where
  pub position : ℕ
  pub message : Ground
  pub there : AtPosition log position (send message)
  pub earlier : position < q
  pub named : AtPlace sources a (conclusion position zero)
  pub is : f ≡ in_of message

module _ (theory : Theory) (reserved : Every LeavesReserved theory.rules) where
  -- no rule concludes an In
  no_rule_sends : (r : List ℕ) (facts : Facts ⊥) → IsRuleInstance theory r facts → (k : ℕ) (f : Fact ⊥) → AtPlace facts.conclusions k f → is_in f ≡ true → ⊥
  no_rule_sends r facts is k f a e =
      let g = symbol_there (signature_of theory).equations is.3 is.0.facts.conclusions facts.conclusions is.5.conclusions k f a in
      let leaves = every_member LeavesReserved theory.rules is.0 is.1 reserved in
      every_member (λ (x : Fact Variable). Member x.symbol (codes "In" ∷ codes "Fr" ∷ codes "K" ∷ []) → ⊥) is.0.facts.conclusions g.0 g.1 leaves.conclusions
      (inl (sym (g.2 ∙ in_symbol f e)))

  pub input_sent : (log : Log) → IsLog theory log → (q : ℕ) (r : List ℕ) (facts : Facts ⊥) (sources : List Source) → AtPosition log q (step r facts sources)
      → (a : ℕ) (f : Fact ⊥) → AtPlace facts.premises a f → is_in f ≡ true → Sent log q sources a f
  input_sent log is q r facts sources there a f premise e =
      let g = source_there theory log is q r facts sources there a f premise (in_no_fr f e) in
      at g.0 g.1 g.2 g.3 g.4 g.5 g.6
    where
      at : (p k : ℕ) → AtPlace sources a (conclusion p k) → (d : Entry) → AtPosition log p d → p < q → Concludes d k f → Sent log q sources a f
      at p k named (step o others other_sources) here less c =
          absurd (no_rule_sends o others ((entry_behind theory log is p (step o others other_sources) here).keeps rule_instance) k f c e)
      at p k named (send m) here less c =
          record { position = p; message = m; there = here; earlier = less; named = subst (λ (j : ℕ). AtPlace sources a (conclusion p j)) c.0 named; is = c.1 }
      at p k named (learn m how) here less c = absurd c
