-- Fresh names come of earlier entries: what is said of the log before an entry, said of positions.
use Rattle.std.proofs.Common.{◌≡◌, ◌⊎◌, ⊎_elim, ◌<◌, ℕ, Bool, true, false, List, refl, sym, subst, le_refl, le_of_lt}
use Rattle.sp_spec.specs.Lists.{Member, Every, AtPosition}
use Rattle.sp_spec.specs.Term.{name}
use Rattle.sp_spec.specs.Rule.{Fact, Facts, fr}
use Rattle.sp_spec.specs.Theory.{Theory, signature_of}
use Rattle.sp_spec.specs.Log.{Source, own_name, by_chain, Entry, step, send, learn, Log, is_fr, fresh_of, fresh_uses, rule_instance, premise_sources, sent_is_learnt, way_of_learning, IsLog}
use Rattle.sp_spec.proofs.Lists.{position_below}
use Rattle.sp_spec.proofs.Logs.{IsBehind, entry_behind}
use Rattle.sp_law_equal.specs.Parts.{IsPartOfOne}
use Rattle.sp_law_equal.specs.RightTheory.{HasNormalInstances, TakesFreshNames, BindsActions, BindsConclusions}
use Rattle.sp_law_log.specs.Laws.{IsUsedBefore, IsUsedUntil, HasOrigins}
use Rattle.sp_law_log.proofs.NameParts.{in_fresh}
use Rattle.sp_law_log.proofs.Instances.{normal_step, fr_premise}
use Rattle.sp_law_log.proofs.Origins.{IsUsed, Origins, origins, premise_used, known_used, chain_used, learnt_used, conclusion_used, action_used}

module _ (theory : Theory) (good : HasNormalInstances theory) (shown : Every BindsActions theory.rules) (bound : Every BindsConclusions theory.rules) (fresh : Every TakesFreshNames theory.rules)
    (log : Log) (is : IsLog theory log) where
  -- whatever uses a name before the entry does so at an earlier position
  used_before : (p : ℕ) (e : Entry) → (b : IsBehind theory log p e) → (n : ℕ) → IsUsed b.past n → IsUsedBefore log p n
  used_before p e b n u = (u.0, u.1, b.still_there u.0 u.1 u.2, u.3, subst (λ (m : ℕ). u.0 < m) (sym b.position) (position_below b.past u.0 u.1 u.2))

  before : (p : ℕ) (e : Entry) → AtPosition log p e → (n : ℕ) → ((b : IsBehind theory log p e) → Origins b.past → IsUsed b.past n) → IsUsedBefore log p n
  before p e a n gives = let b = entry_behind theory log is p e a in used_before p e b n (gives b (origins theory good shown bound fresh b.past b.is_log))

  -- the step itself uses it, or an earlier entry does
  until : (p : ℕ) (r : List ℕ) (facts : Facts ⊥) (sources : List Source) → AtPosition log p (step r facts sources) → (n : ℕ)
      → ((b : IsBehind theory log p (step r facts sources)) → Origins b.past → Member (name n) (fresh_of facts.premises) ⊎ IsUsed b.past n) → IsUsedUntil log p n
  until p r facts sources a n gives =
      let b = entry_behind theory log is p (step r facts sources) a in
      ⊎_elim
      (λ k. (p, step r facts sources, a, k, le_refl p))
      (λ u. let q = used_before p (step r facts sources) b n u in (q.0, q.1, q.2, q.3, le_of_lt q.4))
      (gives b (origins theory good shown bound fresh b.past b.is_log))

  module _ (p : ℕ) (r : List ℕ) (facts : Facts ⊥) (sources : List Source) (a : AtPosition log p (step r facts sources)) (f : Fact ⊥) (n : ℕ) (part : IsPartOfOne (name n) f.args) where
    fresh_premise : Member f facts.premises → is_fr f ≡ true → (f ≡ fr (name n)) × Member (name n) (fresh_uses (step r facts sources))
    fresh_premise m e =
        let b = entry_behind theory log is p (step r facts sources) a in
        fr_premise theory good shown bound fresh facts (normal_step theory good shown bound fresh r facts (b.keeps rule_instance)) n f m e part

    premise : Member f facts.premises → (f ≡ fr (name n) → ⊥) → IsUsedBefore log p n
    premise m other = at (is_fr f) refl
      where
        at : (b : Bool) → is_fr f ≡ b → IsUsedBefore log p n
        at true e = absurd (other (fresh_premise m e).0)
        at false e = before p (step r facts sources) a n (λ b o. premise_used b.past o n facts.premises sources (b.keeps premise_sources).0 f m e part)

    conclusion : Member f facts.conclusions → IsUsedUntil log p n
    conclusion m = until p r facts sources a n (λ b o. conclusion_used theory good shown bound fresh b.past o n r facts sources (b.keeps rule_instance) (b.keeps premise_sources).0 f m part)

  pub has_origins : HasOrigins log
  has_origins = record {
    fresh_premise = λ p r facts sources a f m e n part. fresh_premise p r facts sources a f n part m e;
    premise = λ p r facts sources a f m n other part. premise p r facts sources a f n part m other;
    action = λ p r facts sources a x m n part.
        until p r facts sources a n (λ b o. action_used theory good shown bound fresh b.past o n r facts sources (b.keeps rule_instance) (b.keeps premise_sources).0 x m part);
    conclusion = λ p r facts sources a f m n part. conclusion p r facts sources a f n part m;
    sent = λ p m a n part. before p (send m) a n (λ b o. known_used b.past o n m (b.keeps sent_is_learnt) part);
    own = λ p m a n part. in_fresh n m ((entry_behind theory log is p (learn m own_name) a).keeps way_of_learning) part;
    learnt = λ p m how a other n part. before p (learn m how) a n (λ b o. learnt_used b.past o n (signature_of theory) m how (b.keeps way_of_learning) other part);
    chain = λ p c k m messages a t i n part.
        before p (learn m (by_chain c k messages)) a n (λ b o. chain_used b.past o n (signature_of theory) m c k messages (b.keeps way_of_learning) t i part);
  }
