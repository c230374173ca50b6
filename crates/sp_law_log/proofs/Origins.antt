-- Which entry of a log uses a fresh name that stands in it: what a step concludes it has from a premise, a premise is what an earlier entry
-- concludes, what is sent was learnt, and what is learnt is made of what was learnt, or stands in what a step put out.
use Rattle.std.proofs.Common.{◌≡◌, ◌⊎◌, ⊎_elim, ℕ, Bool, true, false, List, [], ◌∷◌, length, refl, sym, ap, ◌∙◌, subst, inl, inr}
use Rattle.sp_spec.specs.Lists.{Member, Every, AtPosition}
use Rattle.sp_spec.specs.Term.{app, name, none, more, Ground, Grounds, valued}
use Rattle.sp_spec.specs.Signature.{Signature}
use Rattle.sp_spec.specs.Rule.{Fact, Action, Facts, out_of}
use Rattle.sp_spec.specs.Theory.{Theory, signature_of}
use Rattle.sp_spec.specs.Log.{Source, fresh_rule, conclusion, How, public_name, own_name, constructed, by_chain, Entry, step, send, learn, Log, is_fr, fresh_of, fresh_uses, Concludes, HasSources, IsLearnt, AreLearnt, IsDestructed, IsChain, StartsChain, MayLearn, IsRuleInstance, Clause, rule_instance, premise_sources, sent_is_learnt, way_of_learning, Keeps, IsLog}
use Rattle.sp_law_equal.specs.Parts.{IsPart, IsPartOfOne}
use Rattle.sp_law_equal.specs.RightTheory.{HasNormalInstances, TakesFreshNames, BindsActions, BindsConclusions}
use Rattle.sp_law_equal.proofs.Parts.{part_valued}
use Rattle.sp_law_log.proofs.Destructions.{gives_part}
use Rattle.sp_law_log.proofs.NameParts.{part_within, in_public, in_fresh}
use Rattle.sp_law_log.proofs.Instances.{normal_step, fr_premise, conclusion_from, action_from}
use Rattle.sp_spec.proofs.Lists.{place_member}

-- a premise that is no Fr is what an earlier entry concludes
pub source_of : (past : Log) (fs : List (Fact ⊥)) (sources : List Source) → HasSources fs sources past → (f : Fact ⊥) → Member f fs → is_fr f ≡ false
    → (p : ℕ) × (k : ℕ) × (e : Entry) × AtPosition past p e × Concludes e k f
source_of past [] sources has f m e = absurd m
source_of past (g ∷ fs) [] has f m e = absurd has
source_of past (g ∷ fs) (fresh_rule ∷ sources) has f (inl m) e = let k : is_fr f ≡ true = ap (λ (x : Fact ⊥). is_fr x) (sym m) ∙ has.0 in absurd cc
source_of past (g ∷ fs) (fresh_rule ∷ sources) has f (inr m) e = source_of past fs sources has.1 f m e
source_of past (g ∷ fs) (conclusion p k ∷ sources) has f (inl m) e =
    let given = has.1 in
    (p, k, given.0, given.1, subst (λ (x : Fact ⊥). Concludes given.0 k x) m given.2)
source_of past (g ∷ fs) (conclusion p k ∷ sources) has f (inr m) e = source_of past fs sources has.2 f m e

-- What stands in a message of a chain stands in the first.
module _ (signature : Signature) (past : Log) (r : Ground) where
  in_taken : (t u : Ground) → IsDestructed signature past t u → IsPart r u → IsPart r t
  in_taken t u h p =
      let d = h.0 in
      let part = part_valued h.2 d.result d.pattern (gives_part signature d h.1) in
      subst (IsPart r) (sym h.4) (part_within r (valued h.2 d.result) (subst (IsPart r) h.6 p) (valued h.2 d.pattern) part)

  in_chain : (t : Ground) (chain : List Ground) (m : Ground) → IsChain signature past t chain m → (u : Ground) → Member u (t ∷ chain) → IsPart r u → IsPart r t
  in_chain t chain m h u (inl e) p = subst (IsPart r) (sym e) p
  in_chain t [] m h u (inr k) p = absurd k
  in_chain t (w ∷ chain) m h u (inr k) p = in_taken t w h.0 (in_chain w chain m h.1 u k p)

  in_first : (chain : List Ground) (first m : Ground) → StartsChain signature past chain first m → (u : Ground) → Member u chain → IsPart r u → IsPart r first
  in_first [] first m h u k p = absurd k
  in_first (t ∷ chain) first m h u k p = subst (IsPart r) h.0 (in_chain t chain m h.1 u k p)

-- the message that is learnt is the last of the chain
module _ (signature : Signature) (past : Log) where
  chain_end : (t : Ground) (chain : List Ground) (m : Ground) → IsChain signature past t chain m → Member m (t ∷ chain)
  chain_end t [] m h = inl h
  chain_end t (u ∷ chain) m h = inr (chain_end u chain m h.1)

  ends_chain : (chain : List Ground) (first m : Ground) → StartsChain signature past chain first m → Member m chain
  ends_chain [] first m h = absurd h
  ends_chain (t ∷ chain) first m h = chain_end t chain m h.1

-- an entry of the log uses the name
abbrev pub IsUsed : Log → ℕ → Type 0
IsUsed log n = (q : ℕ) × (e : Entry) × AtPosition log q e × Member (name n) (fresh_uses e)

used_later : (log : Log) (e : Entry) (n : ℕ) → IsUsed log n → IsUsed (e ∷ log) n
used_later log e n u = (u.0, u.1, inr u.2, u.3)

-- an entry uses each name in what the log's entries conclude, and in what is learnt
pub record Origins (log : Log) : Type 0 where
  pub concluded : (p : ℕ) (e : Entry) → AtPosition log p e → (k : ℕ) (f : Fact ⊥) → Concludes e k f → (n : ℕ) → IsPartOfOne (name n) f.args → IsUsed log n
  pub learnt : (p : ℕ) (m : Ground) (how : How) → AtPosition log p (learn m how) → (n : ℕ) → IsPart (name n) m → IsUsed log n

-- Where that holds of what came before an entry.
module _ (past : Log) (o : Origins past) (n : ℕ) where
  pub premise_used : (fs : List (Fact ⊥)) (sources : List Source) → HasSources fs sources past → (f : Fact ⊥) → Member f fs → is_fr f ≡ false → IsPartOfOne (name n) f.args → IsUsed past n
  premise_used fs sources has f m e p =
      let s = source_of past fs sources has f m e in
      o.concluded s.0 s.2 s.3 s.1 f s.4 n p

  pub known_used : (m : Ground) → IsLearnt past m → IsPart (name n) m → IsUsed past n
  known_used m h p = let at = h.1 in o.learnt h.0 m at.0 at.1 n p

  among_used : (ts : Grounds) → AreLearnt past ts → IsPartOfOne (name n) ts → IsUsed past n
  among_used none h p = absurd p
  among_used (more t ts) h (inl p) = known_used t h.0 p
  among_used (more t ts) h (inr p) = among_used ts h.1 p

  made_used : (f : List ℕ) (ts : Grounds) → AreLearnt past ts → IsPart (name n) (app f ts) → IsUsed past n
  made_used f ts h (inl p) = absurd cc
  made_used f ts h (inr p) = among_used ts h p

  pub chain_used : (signature : Signature) (m : Ground) (c k : ℕ) (chain : List Ground) → MayLearn signature past m (by_chain c k chain)
      → (t : Ground) → Member t chain → IsPart (name n) t → IsUsed past n
  chain_used signature m c k chain h t i p =
      let first = h.4 in
      o.concluded c (step h.0 h.1 h.2) h.3 k (out_of first) h.5 n (inl (in_first signature past (name n) chain first m h.6 t i p))

  pub learnt_used : (signature : Signature) (m : Ground) (how : How) → MayLearn signature past m how → (how ≡ own_name → ⊥) → IsPart (name n) m → IsUsed past n
  learnt_used signature m public_name h other p = absurd (in_public n m h p)
  learnt_used signature m own_name h other p = absurd (other refl)
  learnt_used signature m constructed h other p = made_used h.0 h.1 h.4 (subst (IsPart (name n)) h.2 p)
  learnt_used signature m (by_chain c k chain) h other p = chain_used signature m c k chain h m (ends_chain signature past chain h.4 m h.6) p

module _ (theory : Theory) (good : HasNormalInstances theory) (shown : Every BindsActions theory.rules) (bound : Every BindsConclusions theory.rules) (fresh : Every TakesFreshNames theory.rules) where
  module _ (past : Log) (o : Origins past) (n : ℕ) where
    -- a step uses itself the name in one of its premises, or an earlier entry does
    from_premise : (r : List ℕ) (facts : Facts ⊥) (sources : List Source) → IsRuleInstance theory r facts → HasSources facts.premises sources past
        → (g : Fact ⊥) × Member g facts.premises × IsPartOfOne (name n) g.args → Member (name n) (fresh_of facts.premises) ⊎ IsUsed past n
    from_premise r facts sources is has g = at (is_fr g.0) refl
      where
        at : (b : Bool) → is_fr g.0 ≡ b → Member (name n) (fresh_of facts.premises) ⊎ IsUsed past n
        at true e = inl (fr_premise theory good shown bound fresh facts (normal_step theory good shown bound fresh r facts is) n g.0 g.1 e g.2).1
        at false e = inr (premise_used past o n facts.premises sources has g.0 g.1 e g.2)

    -- and so the name in one of its conclusions, or of its actions
    pub conclusion_used : (r : List ℕ) (facts : Facts ⊥) (sources : List Source) → IsRuleInstance theory r facts → HasSources facts.premises sources past
        → (f : Fact ⊥) → Member f facts.conclusions → IsPartOfOne (name n) f.args → Member (name n) (fresh_of facts.premises) ⊎ IsUsed past n
    conclusion_used r facts sources is has f m p =
        from_premise r facts sources is has (conclusion_from theory good shown bound fresh facts (normal_step theory good shown bound fresh r facts is) n f m p)

    pub action_used : (r : List ℕ) (facts : Facts ⊥) (sources : List Source) → IsRuleInstance theory r facts → HasSources facts.premises sources past
        → (a : Action ⊥) → Member a facts.actions → IsPartOfOne (name n) a.args → Member (name n) (fresh_of facts.premises) ⊎ IsUsed past n
    action_used r facts sources is has a m p =
        from_premise r facts sources is has (action_from theory good shown bound fresh facts (normal_step theory good shown bound fresh r facts is) n a m p)

    -- so it is of each entry
    entry_concludes : (e : Entry) → ((clause : Clause) → Keeps theory clause e past) → (k : ℕ) (f : Fact ⊥) → Concludes e k f → IsPartOfOne (name n) f.args → IsUsed (e ∷ past) n
    entry_concludes (step r facts sources) keeps k f c p =
        ⊎_elim
        (λ m. (length past, step r facts sources, inl (refl, refl), m))
        (λ u. used_later past (step r facts sources) n u)
        (conclusion_used r facts sources (keeps rule_instance) (keeps premise_sources).0 f (place_member facts.conclusions k f c) p)
    entry_concludes (send m) keeps k f c p =
        let only : IsPartOfOne (name n) (more m none) = subst (λ (x : Fact ⊥). IsPartOfOne (name n) x.args) c.1 p in
        used_later past (send m) n (known_used past o n m (keeps sent_is_learnt) (⊎_elim (λ k. k) (λ k. absurd k) only))
    entry_concludes (learn m how) keeps k f c p = absurd c

    learnt_other : (m : Ground) (how : How) → MayLearn (signature_of theory) past m how → (how ≡ own_name → ⊥) → IsPart (name n) m → IsUsed (learn m how ∷ past) n
    learnt_other m how may other p = used_later past (learn m how) n (learnt_used past o n (signature_of theory) m how may other p)

    entry_learns : (m : Ground) (how : How) → MayLearn (signature_of theory) past m how → IsPart (name n) m → IsUsed (learn m how ∷ past) n
    entry_learns m public_name may p = learnt_other m public_name may (λ e. cc) p
    entry_learns m own_name may p = (length past, learn m own_name, inl (refl, refl), inl (in_fresh n m may p))
    entry_learns m constructed may p = learnt_other m constructed may (λ e. cc) p
    entry_learns m (by_chain c k chain) may p = learnt_other m (by_chain c k chain) may (λ e. cc) p

  grown : (past : Log) (e : Entry) → Origins past → ((clause : Clause) → Keeps theory clause e past) → Origins (e ∷ past)
  grown past e o keeps = record { concluded = concluded; learnt = learnt }
    where
      concluded : (p : ℕ) (d : Entry) → AtPosition (e ∷ past) p d → (k : ℕ) (f : Fact ⊥) → Concludes d k f → (n : ℕ) → IsPartOfOne (name n) f.args → IsUsed (e ∷ past) n
      concluded p d (inl a) k f c n part = entry_concludes past o n e keeps k f (subst (λ (x : Entry). Concludes x k f) (sym a.1) c) part
      concluded p d (inr a) k f c n part = used_later past e n (o.concluded p d a k f c n part)

      learnt : (p : ℕ) (m : Ground) (how : How) → AtPosition (e ∷ past) p (learn m how) → (n : ℕ) → IsPart (name n) m → IsUsed (e ∷ past) n
      learnt p m how (inl a) n part =
          let may = subst (λ (x : Entry). Keeps theory way_of_learning x past) a.1 (keeps way_of_learning) in
          subst (λ (x : Entry). IsUsed (x ∷ past) n) (sym a.1) (entry_learns past o n m how may part)
      learnt p m how (inr a) n part = used_later past e n (o.learnt p m how a n part)

  pub origins : (log : Log) → IsLog theory log → Origins log
  origins [] is = record { concluded = λ p e a. absurd a; learnt = λ p m how a. absurd a }
  origins (e ∷ past) is = grown past e (origins past is.0) is.1
