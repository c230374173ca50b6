-- What stays when entries are added to a log, and chains that go on by a link.
use Rattle.std.proofs.Common.{◌<◌, inl, inr, ℕ, List, [], ◌∷◌, ◌++◌, length, refl, sym, subst, arith}
use Rattle.sp_spec.specs.Lists.{AtPosition}
use Rattle.sp_spec.specs.Term.{none, more, Ground, Grounds}
use Rattle.sp_spec.specs.Signature.{Signature}
use Rattle.sp_spec.specs.Log.{Entry, Log, IsLearnt, AreLearnt, IsDestructed, IsChain, StartsChain}
use Rattle.sp_spec.proofs.Lists.{every_weaken, every_append, position_below}
use Rattle.sp_law_adversary.specs.Held.{NotBefore, HeldChain}

pub position_later : (new : List Entry) (log : Log) (p : ℕ) (e : Entry) → AtPosition log p e → AtPosition (new ++ log) p e
position_later [] log p e at = at
position_later (x ∷ new) log p e at = inr (position_later new log p e at)

length_later : (new : List Entry) (log : Log) (p : ℕ) → p < length log → p < length (new ++ log)
length_later [] log p l = l
length_later (x ∷ new) log p l = let k = length_later new log p l in omega arith

pub position_sooner : (new : List Entry) (log : Log) (p : ℕ) (e : Entry) → p < length log → AtPosition (new ++ log) p e → AtPosition log p e
position_sooner [] log p e l at = at
position_sooner (x ∷ new) log p e l (inl at) = let k = length_later new log p l in let is = at.0 in absurd (omega arith)
position_sooner (x ∷ new) log p e l (inr at) = position_sooner new log p e l at

pub learnt_later : (new : List Entry) (log : Log) (m : Ground) → IsLearnt log m → IsLearnt (new ++ log) m
learnt_later new log m h = (h.0, (h.1.0, position_later new log h.0 _ h.1.1))

pub are_learnt_later : (new : List Entry) (log : Log) (ts : Grounds) → AreLearnt log ts → AreLearnt (new ++ log) ts
are_learnt_later new log none h = tt
are_learnt_later new log (more t ts) h = (learnt_later new log t h.0, are_learnt_later new log ts h.1)

module _ (signature : Signature) where
  module _ (new : List Entry) (log : Log) where
    pub destructed_later : (t u : Ground) → IsDestructed signature log t u → IsDestructed signature (new ++ log) t u
    destructed_later t u h = (h.0, h.1, h.2, h.3, h.4, are_learnt_later new log _ h.5, h.6)

    pub chain_later : (t : Ground) (chain : List Ground) (m : Ground) → IsChain signature log t chain m → IsChain signature (new ++ log) t chain m
    chain_later t [] m h = h
    chain_later t (u ∷ chain) m h = (destructed_later t u h.0, chain_later u chain m h.1)

    pub starts_later : (chain : List Ground) (first m : Ground) → StartsChain signature log chain first m → StartsChain signature (new ++ log) chain first m
    starts_later [] first m h = absurd h
    starts_later (t ∷ chain) first m h = (h.0, chain_later t chain m h.1)

    -- a chain that is held stays so
    pub held_later : (p k : ℕ) (chain : List Ground) (m : Ground) → HeldChain signature log p k chain m → HeldChain signature (new ++ log) p k chain m
    held_later p k chain m h =
        let l = position_below log p _ h.there in
        record {
          called = h.called;
          facts = h.facts;
          sources = h.sources;
          there = position_later new log p _ h.there;
          first = h.first;
          out = h.out;
          chained = starts_later chain h.first m h.chained;
          not_before =
              every_weaken (NotBefore log p) (NotBefore (new ++ log) p)
              (λ t n q b at. n q b (at.0, position_sooner new log q _ (omega arith) at.1)) chain h.not_before;
        }

  module _ (log : Log) where
    chain_end : (t : Ground) (chain : List Ground) (m u : Ground) → IsChain signature log t chain m → IsDestructed signature log m u
        → IsChain signature log t (chain ++ u ∷ []) u
    chain_end t [] m u h d = (subst (λ (w : Ground). IsDestructed signature log w u) (sym h) d, refl)
    chain_end t (w ∷ chain) m u h d = (h.0, chain_end w chain m u h.1 d)

    starts_end : (chain : List Ground) (first m u : Ground) → StartsChain signature log chain first m → IsDestructed signature log m u
        → StartsChain signature log (chain ++ u ∷ []) first u
    starts_end [] first m u h d = absurd h
    starts_end (t ∷ chain) first m u h d = (h.0, chain_end t chain m u h.1 d)

    -- it goes on by a link to a message that isn't learnt
    pub held_end : (p k : ℕ) (chain : List Ground) (m u : Ground) → HeldChain signature log p k chain m → IsDestructed signature log m u → (IsLearnt log u → ⊥)
        → HeldChain signature log p k (chain ++ u ∷ []) u
    held_end p k chain m u h d new = record {
      called = h.called;
      facts = h.facts;
      sources = h.sources;
      there = h.there;
      first = h.first;
      out = h.out;
      chained = starts_end chain h.first m u h.chained d;
      not_before = every_append (NotBefore log p) chain (u ∷ []) h.not_before ((λ q below at. new (q, at)), tt);
    }
