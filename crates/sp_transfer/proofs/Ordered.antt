-- A log that follows facts follows them in another order, and those that are new in normal form.
use Rattle.std.proofs.Common.{◌≡◌, inl, inr, List, [], ◌∷◌, ◌++◌, map, if◌then◌else◌, refl, sym, ap, ap₂, subst, append_assoc}
use Rattle.sp_spec.specs.Lists.{Member, Distinct}
use Rattle.sp_spec.specs.Term.{Ground}
use Rattle.sp_spec.specs.Signature.{Equation}
use Rattle.sp_spec.specs.Rule.{Fact}
use Rattle.sp_spec.specs.Theory.{Theory, signature_of}
use Rattle.sp_spec.specs.Execution.{Trace}
use Rattle.sp_spec.specs.Log.{Source, fresh_rule, conclusion, Log, fresh_of, all_fresh_uses, linear_sources, all_sources, Concludes, IsLearnt}
use Rattle.sp_law_equal.specs.NormalForms.{HaveNormalForms}
use Rattle.sp_law_equal.specs.Normal.{normal, normal_all, normal_fact}
use Rattle.sp_law_equal.specs.Pointwise.{EachWith}
use Rattle.sp_law_equal.proofs.Forms.{normal_of_normal, normal_all_of_normal, are_normal}
use Rattle.sp_law_run.proofs.Taking.{map_append, normals}
use Rattle.sp_law_log.proofs.Rearranged.{Covers, covers_moved, covers_distinct}
use Rattle.sp_law_log.proofs.Taking.{have_append, linear_append, fresh_append}
use Rattle.sp_law_adversary.proofs.Followed.{HasOrigin, Followed}
use Rattle.sp_law_adversary.proofs.RuleStep.{fresh_share_same}
use Rattle.sp_transfer.specs.Construction.{Given}

abbrev pub facts_of : List Given → List (Fact ⊥)
facts_of gs = map (λ (g : Given). g.fact) gs

abbrev pub sources_of : List Given → List Source
sources_of gs = map (λ (g : Given). g.source) gs

-- two parts and what is behind them, in the other order
covers_turned : {A : Type 0} (xs ys zs : List A) → Covers ((xs ++ ys) ++ zs) ((ys ++ xs) ++ zs)
covers_turned {A} xs ys zs =
    subst (λ (all : List A). Covers all ((ys ++ xs) ++ zs)) (sym (append_assoc xs ys zs))
    (subst (λ (all : List A). Covers (xs ++ (ys ++ zs)) all) (sym (append_assoc ys xs zs)) (covers_moved xs ys zs))

-- what goes with a list in two parts goes with each of them
halves : (R : Fact ⊥ → Source → Type 0) (new left : List Given) → EachWith R (facts_of new ++ facts_of left) (sources_of new ++ sources_of left)
    → EachWith R (facts_of new) (sources_of new) × EachWith R (facts_of left) (sources_of left)
halves R [] left h = (tt, h)
halves R (g ∷ new) left h = let r = halves R new left h.1 in ((h.0, r.0), r.1)

module _ (theory : Theory) (made : List Ground) (trace : Trace) (log : Log) where
  abbrev es : List Equation
  es = (signature_of theory).equations

  abbrev Has : Fact ⊥ → Source → Type 0
  Has = HasOrigin es log

  -- what is new may stand at the end
  pub followed_turned : (new left : List Given) → Followed theory (facts_of new ++ facts_of left) (sources_of new ++ sources_of left) made trace log
      → Followed theory (facts_of (left ++ new)) (sources_of (left ++ new)) made trace log
  followed_turned new left old =
      let parts = halves Has new left old.have_origins in
      let a : List Source = linear_sources (facts_of new) (sources_of new) in
      let b : List Source = linear_sources (facts_of left) (sources_of left) in
      let c : List Ground = fresh_of (facts_of new) in
      let d : List Ground = fresh_of (facts_of left) in
      let before : linear_sources (facts_of new ++ facts_of left) (sources_of new ++ sources_of left) ≡ a ++ b =
      linear_append es Has (facts_of new) (facts_of left) (sources_of new) (sources_of left) parts.0 in
      let behind : linear_sources (facts_of left ++ facts_of new) (sources_of left ++ sources_of new) ≡ b ++ a =
      linear_append es Has (facts_of left) (facts_of new) (sources_of left) (sources_of new) parts.1 in
      let sources : Covers (linear_sources (facts_of new ++ facts_of left) (sources_of new ++ sources_of left) ++ all_sources log)
      (linear_sources (facts_of left ++ facts_of new) (sources_of left ++ sources_of new) ++ all_sources log) =
      subst
      (λ (xs : List Source). Covers (xs ++ all_sources log)
      (linear_sources (facts_of left ++ facts_of new) (sources_of left ++ sources_of new) ++ all_sources log))
      (sym before)
      (subst (λ (xs : List Source). Covers ((a ++ b) ++ all_sources log) (xs ++ all_sources log)) (sym behind) (covers_turned a b (all_sources log))) in
      let fresh : Covers (fresh_of (facts_of new ++ facts_of left) ++ all_fresh_uses log) (fresh_of (facts_of left ++ facts_of new) ++ all_fresh_uses log) =
      subst (λ (xs : List Ground). Covers (xs ++ all_fresh_uses log) (fresh_of (facts_of left ++ facts_of new) ++ all_fresh_uses log))
      (sym (fresh_append (facts_of new) (facts_of left)))
      (subst (λ (xs : List Ground). Covers ((c ++ d) ++ all_fresh_uses log) (xs ++ all_fresh_uses log)) (sym (fresh_append (facts_of left) (facts_of new)))
      (covers_turned c d (all_fresh_uses log))) in
      let turned : Followed theory (facts_of left ++ facts_of new) (sources_of left ++ sources_of new) made trace log =
      record {
        have_origins = have_append es Has (facts_of left) (facts_of new) (sources_of left) (sources_of new) parts.1 parts.0;
        sources_once = covers_distinct _ _ sources old.sources_once;
        sources_below = λ o m. old.sources_below o (sources.members o m);
        fresh_once = covers_distinct _ _ fresh old.fresh_once;
        fresh_made = λ t m. old.fresh_made t (fresh.members t m);
        is_log = old.is_log;
        shows = old.shows;
      } in
      subst (λ (fs : List (Fact ⊥)). Followed theory fs (sources_of (left ++ new)) made trace log) (sym (map_append (λ (g : Given). g.fact) left new))
      (subst (λ (os : List Source). Followed theory (facts_of left ++ facts_of new) os made trace log)
      (sym (map_append (λ (g : Given). g.source) left new)) turned)

  module _ (good : HaveNormalForms (signature_of theory).equations) where
    normal_twice : (f : Fact ⊥) → normal_fact es (normal_fact es f) ≡ normal_fact es f
    normal_twice f =
        ap (λ ts. record { symbol = f.symbol; persistent = f.persistent; args = ts })
        (normal_all_of_normal es (normal_all es f.args) (are_normal es good f.args))

    normal_origin : (f : Fact ⊥) (o : Source) → Has f o → Has (normal_fact es f) o
    normal_origin f fresh_rule (inl h) =
        let twice = normal_of_normal es (normal es h.0) (good.is_normal h.0) in
        inl (normal es h.0, ap (normal_fact es) h.1, subst (λ (t : Ground). IsLearnt log t) (sym twice) h.2)
    normal_origin f fresh_rule (inr h) = inr (h.0, ap (normal_fact es) h.1)
    normal_origin f (conclusion p k) h = (h.0, h.1, (h.2.0, h.2.1, subst (λ (g : Fact ⊥). Concludes h.2.0 k g) (sym (normal_twice f)) h.2.2))

    normal_origins : (cs rest : List (Fact ⊥)) (os : List Source) → EachWith Has (cs ++ rest) os → EachWith Has (normals es cs ++ rest) os
    normal_origins [] rest os h = h
    normal_origins (f ∷ cs) rest [] h = absurd h
    normal_origins (f ∷ cs) rest (o ∷ os) h = (normal_origin f o h.0, normal_origins cs rest os h.1)

    normal_linear : (cs rest : List (Fact ⊥)) (os : List Source) → linear_sources (normals es cs ++ rest) os ≡ linear_sources (cs ++ rest) os
    normal_linear [] rest os = refl
    normal_linear (f ∷ cs) rest [] = refl
    normal_linear (f ∷ cs) rest (fresh_rule ∷ os) = normal_linear cs rest os
    normal_linear (f ∷ cs) rest (conclusion p k ∷ os) =
        ap (λ (xs : List Source). (if f.persistent then [] else conclusion p k ∷ []) ++ xs) (normal_linear cs rest os)

    normal_fresh : (cs rest : List (Fact ⊥)) (os : List Source) → EachWith Has (cs ++ rest) os → fresh_of (normals es cs ++ rest) ≡ fresh_of (cs ++ rest)
    normal_fresh [] rest os h = refl
    normal_fresh (f ∷ cs) rest [] h = absurd h
    normal_fresh (f ∷ cs) rest (o ∷ os) h = ap₂ (λ (xs ys : List Ground). xs ++ ys) (fresh_share_same es log f o h.0) (normal_fresh cs rest os h.1)

    -- what is new may be in normal form
    pub followed_normal : (cs rest : List (Fact ⊥)) (os : List Source) → Followed theory (cs ++ rest) os made trace log
        → Followed theory (normals es cs ++ rest) os made trace log
    followed_normal cs rest os old =
        let linear = normal_linear cs rest os in
        let fresh = normal_fresh cs rest os old.have_origins in
        record {
          have_origins = normal_origins cs rest os old.have_origins;
          sources_once = subst (λ (xs : List Source). Distinct (xs ++ all_sources log)) (sym linear) old.sources_once;
          sources_below = λ o m. old.sources_below o (subst (λ (xs : List Source). Member o (xs ++ all_sources log)) linear m);
          fresh_once = subst (λ (xs : List Ground). Distinct (xs ++ all_fresh_uses log)) (sym fresh) old.fresh_once;
          fresh_made = λ t m. old.fresh_made t (subst (λ (xs : List Ground). Member t (xs ++ all_fresh_uses log)) fresh m);
          is_log = old.is_log;
          shows = old.shows;
        }
