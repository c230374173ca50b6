-- The step of a rule keeps what is kept: it is appended to the log.
use Rattle.std.proofs.Common.{◌≡◌, ⊎_elim, inl, inr, ℕ, zero, suc, ◌+◌, true, List, [], ◌∷◌, ◌++◌, map, length, refl, sym, ap, ap₂, ◌∙◌, subst, append_assoc, zero-add, arith}
use Rattle.std.specs.Prelude.{codes}
use Rattle.sp_spec.specs.Lists.{Member, Every, Distinct, AtPlace}
use Rattle.sp_spec.specs.Term.{Variable, name, Ground, Values}
use Rattle.sp_spec.specs.Signature.{Equation, IsValuation}
use Rattle.sp_spec.specs.Rule.{Fact, Action, Facts, Rule, fact_at, facts_at, SameFact, fr, knows}
use Rattle.sp_spec.specs.Theory.{Theory, signature_of}
use Rattle.sp_spec.specs.Execution.{Trace, with_entry}
use Rattle.sp_spec.specs.Log.{Source, fresh_rule, conclusion, Entry, step, Log, is_fr, fresh_of, all_fresh_uses, linear_sources, all_sources, HasSources, IsLog, visible_trace}
use Rattle.sp_spec.proofs.Lists.{member_either, distinct_right, place_map, every_map, every_weaken}
use Rattle.sp_spec.proofs.Logs.{step_keeps}
use Rattle.sp_law_equal.specs.NormalForms.{HaveNormalForms}
use Rattle.sp_law_equal.specs.Normal.{normal_fact, normal_action, normal_facts}
use Rattle.sp_law_equal.specs.Pointwise.{EachWith}
use Rattle.sp_law_equal.proofs.Facts.{facts_normal_form, normal_facts_same}
use Rattle.sp_law_log.proofs.Rearranged.{Covers, covers_distinct, covers_used}
use Rattle.sp_law_log.proofs.Taking.{fresh_share, fresh_append}
use Rattle.sp_law_log.proofs.Sources.{is_not_fr, no_fresh_share, linear_normal}
use Rattle.sp_law_log.proofs.Below.{IsBelow, below_later, numbered, numbered_below, numbered_distinct}
use Rattle.sp_law_run.specs.NormalStep.{normal_trace}
use Rattle.sp_law_equal.specs.RightTheory.{LeavesReserved}
use Rattle.sp_law_log.proofs.Taking.{Taken, have_append, linear_append}
use Rattle.sp_law_adversary.proofs.Followed.{HasOrigin, origins_later, Followed}

-- the fact isn't named so
abbrev IsApart : {V : Type 0} → List ℕ → Fact V → Type 0
IsApart s f = f.symbol ≡ s → ⊥

-- what isn't named so in a rule isn't in what is found for it
founds_apart : (es : List Equation) (s : List ℕ) (v : Values) (ps : List (Fact Variable)) (founds : List (Fact ⊥))
    → Every (IsApart s) ps → EachWith (SameFact es) (map (fact_at v) ps) founds
    → Every (IsApart s) founds
founds_apart es s v [] [] own same = tt
founds_apart es s v [] (g ∷ founds) own same = absurd same
founds_apart es s v (p ∷ ps) [] own same = absurd same
founds_apart es s v (p ∷ ps) (g ∷ founds) own same = ((λ e. own.0 (same.0.0 ∙ e)), founds_apart es s v ps founds own.1 same.1)

no_fresh : (fs : List (Fact ⊥)) → Every (IsApart (codes "Fr")) fs → fresh_of fs ≡ []
no_fresh [] h = refl
no_fresh (f ∷ fs) h = ap₂ (λ (xs ys : List Ground). xs ++ ys) (no_fresh_share f h.0) (no_fresh fs h.1)

shown_entry : (es : List Equation) (actions : List (Action ⊥)) (trace visible : Trace) → visible ≡ normal_trace es trace
    → with_entry (map (normal_action es) actions) visible ≡ normal_trace es (with_entry actions trace)
shown_entry es [] trace visible e = e
shown_entry es (a ∷ actions) trace visible e = ap (λ (x : Trace). map (normal_action es) (a ∷ actions) ∷ x) e

module _ (es : List Equation) (log : Log) where
  normal_fresh : (f : Fact ⊥) (n : ℕ) → f ≡ fr (name n) → normal_fact es f ≡ f
  normal_fresh f n e = subst (λ (g : Fact ⊥). normal_fact es g ≡ g) (sym e) refl

  fr_is_fr : (f : Fact ⊥) (n : ℕ) → f ≡ fr (name n) → is_fr (normal_fact es f) ≡ true
  fr_is_fr f n e = subst (λ (g : Fact ⊥). is_fr (normal_fact es g) ≡ true) (sym e) refl

  known_symbol : (f : Fact ⊥) (t : Ground) → f ≡ knows t → f.symbol ≡ codes "K"
  known_symbol f t e = ap (λ (g : Fact ⊥). g.symbol) e

  -- facts that aren't what is known have their sources in the log
  has_sources : (fs : List (Fact ⊥)) (os : List Source) → Every (IsApart (codes "K")) fs → EachWith (HasOrigin es log) fs os
      → HasSources (map (normal_fact es) fs) os log
  has_sources [] [] own h = tt
  has_sources [] (o ∷ os) own h = absurd h
  has_sources (f ∷ fs) [] own h = absurd h
  has_sources (f ∷ fs) (fresh_rule ∷ os) own h =
      (⊎_elim (λ k. absurd (own.0 (known_symbol f k.0 k.1))) (λ e. fr_is_fr f e.0 e.1) h.0, has_sources fs os own.1 h.1)
  has_sources (f ∷ fs) (conclusion p k ∷ os) own h = (is_not_fr (normal_fact es f) h.0.0, h.0.2, has_sources fs os own.1 h.1)

  pub fresh_share_same : (f : Fact ⊥) (o : Source) → HasOrigin es log f o → fresh_share (normal_fact es f) ≡ fresh_share f
  fresh_share_same f fresh_rule h =
      ⊎_elim (λ k. subst (λ (g : Fact ⊥). fresh_share (normal_fact es g) ≡ fresh_share g) (sym k.1) refl) (λ e. ap fresh_share (normal_fresh f e.0 e.1)) h
  fresh_share_same f (conclusion p k) h = no_fresh_share (normal_fact es f) h.0 ∙ sym (no_fresh_share f h.0)

  fresh_normal : (fs : List (Fact ⊥)) (os : List Source) → EachWith (HasOrigin es log) fs os → fresh_of (map (normal_fact es) fs) ≡ fresh_of fs
  fresh_normal [] os h = refl
  fresh_normal (f ∷ fs) [] h = absurd h
  fresh_normal (f ∷ fs) (o ∷ os) h = ap₂ (λ (xs ys : List Ground). xs ++ ys) (fresh_share_same f o h.0) (fresh_normal fs os h.1)

  -- the conclusions of a step are where they come from
  module _ (r : List ℕ) (facts : Facts ⊥) (sources : List Source) where
    numbered_origins : (fs : List (Fact ⊥)) (k : ℕ) → Every (IsApart (codes "Fr")) fs → Every (IsApart (codes "K")) fs
        → ((j : ℕ) (f : Fact ⊥) → AtPlace fs j f → AtPlace facts.conclusions (k + j) (normal_fact es f))
        → EachWith (HasOrigin es (step r facts sources ∷ log)) fs (numbered (length log) k fs)
    numbered_origins [] k apart own at = tt
    numbered_origins (f ∷ fs) k apart own at =
        let here : AtPlace facts.conclusions k (normal_fact es f) =
        subst (λ (j : ℕ). AtPlace facts.conclusions j (normal_fact es f)) (omega arith) (at zero f refl) in (
          (apart.0, own.0, (step r facts sources, inl (refl, refl), here)),
          numbered_origins fs (suc k) apart.1 own.1 (λ j g a. subst (λ (i : ℕ). AtPlace facts.conclusions i (normal_fact es g)) (next j) (at (suc j) g a)),
        )
      where
        next : (j : ℕ) → k + suc j ≡ suc k + j
        next j = omega arith

module _ (theory : Theory) (good : HaveNormalForms (signature_of theory).equations)
    (r : Rule) (member : Member r theory.rules) (reserved : LeavesReserved r) (v : Values) (valuation : IsValuation (signature_of theory) v)
    (log : Log) (facts : List (Fact ⊥)) (origins : List Source) (rest : List (Fact ⊥)) (made : List Ground) (earlier : Trace)
    (old : Followed theory facts origins made earlier log)
    (t : Taken (signature_of theory).equations (HasOrigin (signature_of theory).equations log) (facts_at v r.facts).premises facts origins rest) where
  abbrev used : Facts ⊥
  used = facts_at v r.facts

  abbrev shown : Facts ⊥
  shown = normal_facts (signature_of theory).equations used

  abbrev entry : Entry
  entry = step r.name shown t.sources

  abbrev new_origins : List Source
  new_origins = numbered (length log) zero used.conclusions

  own : Every (IsApart (codes "K")) t.founds
  own =
      founds_apart (signature_of theory).equations (codes "K") v r.facts.premises t.founds
      (every_weaken _ (IsApart (codes "K")) (λ f h e. h (inr (inl (sym e)))) r.facts.premises reserved.premises) t.same

  apart : Every (IsApart (codes "Fr")) used.conclusions
  apart = every_map _ (IsApart (codes "Fr")) (fact_at v) (λ f h e. h (inr (inl (sym e)))) r.facts.conclusions reserved.conclusions

  unknown : Every (IsApart (codes "K")) used.conclusions
  unknown = every_map _ (IsApart (codes "K")) (fact_at v) (λ f h e. h (inr (inr (inl (sym e))))) r.facts.conclusions reserved.conclusions

  premises_are : map (normal_fact (signature_of theory).equations) t.founds ≡ shown.premises
  premises_are = sym (normal_facts_same (signature_of theory).equations good used.premises t.founds t.same)

  step_sources : HasSources shown.premises t.sources log
  step_sources =
      subst (λ (fs : List (Fact ⊥)). HasSources fs t.sources log) premises_are
      (has_sources (signature_of theory).equations log t.founds t.sources own t.have_sources)

  sources_are : linear_sources t.founds t.sources ≡ linear_sources shown.premises t.sources
  sources_are =
      sym (linear_normal (signature_of theory).equations t.founds t.sources) ∙ ap (λ (fs : List (Fact ⊥)). linear_sources fs t.sources) premises_are

  fresh_are : fresh_of t.founds ≡ fresh_of shown.premises
  fresh_are = sym (fresh_normal (signature_of theory).equations log t.founds t.sources t.have_sources) ∙ ap fresh_of premises_are

  covers_sources : Covers (linear_sources facts origins ++ all_sources log) (linear_sources rest t.left ++ all_sources (entry ∷ log))
  covers_sources =
      subst (λ (xs : List Source). Covers (linear_sources facts origins ++ all_sources log) (linear_sources rest t.left ++ (xs ++ all_sources log)))
      sources_are
      (covers_used (linear_sources facts origins) (linear_sources t.founds t.sources) (linear_sources rest t.left) (all_sources log) t.linear)

  covers_fresh : Covers (fresh_of facts ++ all_fresh_uses log) (fresh_of rest ++ all_fresh_uses (entry ∷ log))
  covers_fresh =
      subst (λ (xs : List Ground). Covers (fresh_of facts ++ all_fresh_uses log) (fresh_of rest ++ (xs ++ all_fresh_uses log))) fresh_are
      (covers_used (fresh_of facts) (fresh_of t.founds) (fresh_of rest) (all_fresh_uses log) t.fresh)

  once_left : Distinct (linear_sources rest t.left ++ all_sources (entry ∷ log))
  once_left = covers_distinct _ _ covers_sources old.sources_once

  fresh_left : Distinct (fresh_of rest ++ all_fresh_uses (entry ∷ log))
  fresh_left = covers_distinct _ _ covers_fresh old.fresh_once

  conclusions_have : EachWith (HasOrigin (signature_of theory).equations (entry ∷ log)) used.conclusions new_origins
  conclusions_have =
      numbered_origins (signature_of theory).equations log r.name shown t.sources used.conclusions zero apart unknown
      (λ j f a.
      subst (λ (i : ℕ). AtPlace shown.conclusions i (normal_fact (signature_of theory).equations f)) (sym (zero-add j))
      (place_map (normal_fact (signature_of theory).equations) used.conclusions j f a))

  fresh_stays : fresh_of (used.conclusions ++ rest) ≡ fresh_of rest
  fresh_stays = fresh_append used.conclusions rest ∙ ap (λ (xs : List Ground). xs ++ fresh_of rest) (no_fresh used.conclusions apart)

  -- the new sources, those that were left, and those that the log names
  all_are : linear_sources used.conclusions new_origins ++ (linear_sources rest t.left ++ all_sources (entry ∷ log))
      ≡ linear_sources (used.conclusions ++ rest) (new_origins ++ t.left) ++ all_sources (entry ∷ log)
  all_are =
      sym (append_assoc (linear_sources used.conclusions new_origins) (linear_sources rest t.left) (all_sources (entry ∷ log)))
      ∙ ap (λ (xs : List Source). xs ++ all_sources (entry ∷ log))
      (sym (linear_append (signature_of theory).equations
      (HasOrigin (signature_of theory).equations (entry ∷ log)) used.conclusions rest new_origins t.left conclusions_have))

  below_left : (o : Source) → Member o (linear_sources rest t.left ++ all_sources (entry ∷ log)) → IsBelow (length log) o
  below_left o m = old.sources_below o (covers_sources.members o m)

  all_once : Distinct (linear_sources used.conclusions new_origins ++ (linear_sources rest t.left ++ all_sources (entry ∷ log)))
  all_once = numbered_distinct (length log) used.conclusions zero (linear_sources rest t.left ++ all_sources (entry ∷ log)) below_left once_left

  all_below : (o : Source) → Member o (linear_sources used.conclusions new_origins ++ (linear_sources rest t.left ++ all_sources (entry ∷ log)))
      → IsBelow (suc (length log)) o
  all_below o m =
      ⊎_elim (λ a. numbered_below (length log) used.conclusions zero o a) (λ b. below_later (length log) o (below_left o b))
      (member_either o (linear_sources used.conclusions new_origins) (linear_sources rest t.left ++ all_sources (entry ∷ log)) m)

  new_log : IsLog theory (entry ∷ log)
  new_log = (
    old.is_log,
    step_keeps theory log r.name shown t.sources (r, member, refl, v, valuation, facts_normal_form (signature_of theory).equations good used) step_sources
        (distinct_right (linear_sources rest t.left) (all_sources (entry ∷ log)) once_left)
        (distinct_right (fresh_of rest) (all_fresh_uses (entry ∷ log)) fresh_left),
  )

  pub rule_step : Followed theory (used.conclusions ++ rest) (new_origins ++ t.left) made (with_entry used.actions earlier) (entry ∷ log)
  rule_step = record {
    have_origins =
        have_append (signature_of theory).equations
        (HasOrigin (signature_of theory).equations (entry ∷ log)) used.conclusions rest new_origins t.left conclusions_have
        (origins_later (signature_of theory).equations (entry ∷ []) log rest t.left t.have_left);
    sources_once = subst (λ (xs : List Source). Distinct xs) all_are all_once;
    sources_below = λ o m. all_below o (subst (λ (xs : List Source). Member o xs) (sym all_are) m);
    fresh_once = subst (λ (xs : List Ground). Distinct (xs ++ all_fresh_uses (entry ∷ log))) (sym fresh_stays) fresh_left;
    fresh_made = λ n m.
        old.fresh_made n (covers_fresh.members n (subst (λ (xs : List Ground). Member n (xs ++ all_fresh_uses (entry ∷ log))) fresh_stays m));
    is_log = new_log;
    shows = shown_entry (signature_of theory).equations used.actions earlier (visible_trace log) old.shows;
  }
