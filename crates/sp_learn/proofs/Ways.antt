-- The tests of how a message is learnt tell what the definition of logs says.
use Rattle.std.proofs.Common.{◌≡◌, ⊎_elim, ℕ, Bool, true, ◌&&◌, ◌==◌, List, [], ◌∷◌, slice_get, codes, Option, Some, None, inl, inr, refl, sym, ap, ◌∙◌, subst, arith}
use Rattle.std.specs.Bool.{Decides}
use Rattle.std.specs.Str.{bytes_eq}
use Rattle.std.proofs.lemmas.Bool.{and_parts, and_from, or_cases, or_left, or_right, eqb-true, eq-eqb}
use Rattle.std.proofs.lemmas.Slice.Eq.{bytes_eq-Decides}
use Rattle.sp_spec.specs.Lists.{AtPlace, newest_first}
use Rattle.sp_spec.specs.Term.{Pub, Fresh, var, constant, name, app, none, more, Ground, Grounds, count}
use Rattle.sp_spec.specs.Same.{same_term}
use Rattle.sp_spec.specs.Signature.{Signature, HasPublic, HasSort}
use Rattle.sp_spec.specs.Equal.{IsNormal}
use Rattle.sp_spec.specs.Rule.{out_of}
use Rattle.sp_spec.specs.Log.{How, public_name, own_name, constructed, by_chain, Entry, step, send, learn, Log, AreLearnt, IsDestructed, IsChain, IsMadeAlone, MayLearn}
use Rattle.sp_spec.proofs.Lists.{place_got, place_found}
use Rattle.sp_spec.proofs.Same.{same_term_decides}
use Rattle.sp_law_equal.specs.Normal.{normal}
use Rattle.sp_law_equal.specs.NormalForms.{HaveNormalForms}
use Rattle.sp_law_equal.proofs.Forms.{normal_of_normal}
use Rattle.sp_law_equal.proofs.Tests.{has_sort_decides}
use Rattle.sp_norm.specs.Over.{any_public}
use Rattle.sp_norm.proofs.Symbols.{any_public_decides}
use Rattle.sp_learn.specs.Learning.{learnt_in, are_among, is_made, puts_out, leads, is_chain, may_learn, is_made_alone}
use Rattle.sp_learn.proofs.Learnt.{are_learnt_decides}
use Rattle.sp_log.proofs.Premises.{position_there, position_found, is_fact_tells, is_fact_from}

module _ (signature : Signature) (earlier : List Entry) where
  abbrev past : Log
  past = newest_first earlier

  -- ---- made by a symbol

  module _ (good : HaveNormalForms signature.equations) where
    made_tells : (m : Ground) → is_made signature (learnt_in earlier) m ≡ true → MayLearn signature past m constructed
    made_tells (var x) e = absurd cc
    made_tells (constant c) e = absurd cc
    made_tells (name n) e = absurd cc
    made_tells (app f ts) e =
        let both = and_parts (any_public signature.symbols f (count ts)) (are_among (learnt_in earlier) ts && same_term (normal signature.equations (app f ts)) (app f ts)) e in
        let rest = and_parts (are_among (learnt_in earlier) ts) (same_term (normal signature.equations (app f ts)) (app f ts)) both.1 in
        let stays : normal signature.equations (app f ts) ≡ app f ts = (same_term_decides (normal signature.equations (app f ts)) (app f ts)).0 rest.1 in (
          f,
          ts,
          refl,
          (any_public_decides signature.symbols f (count ts)).0 both.0,
          (are_learnt_decides earlier ts).0 rest.0,
          subst (λ (t : Ground). IsNormal signature.equations t) stays (good.is_normal (app f ts)),
        )

    app_made : (f : List ℕ) (ts : Grounds) → HasPublic signature.symbols f (count ts) → AreLearnt past ts → IsNormal signature.equations (app f ts)
        → is_made signature (learnt_in earlier) (app f ts) ≡ true
    app_made f ts p l n =
        and_from _ _ ((any_public_decides signature.symbols f (count ts)).1 p)
        (and_from _ _ ((are_learnt_decides earlier ts).1 l)
        ((same_term_decides (normal signature.equations (app f ts)) (app f ts)).1 (normal_of_normal signature.equations (app f ts) n)))

    made_from : (m : Ground) → MayLearn signature past m constructed → is_made signature (learnt_in earlier) m ≡ true
    made_from m h =
        subst (λ (t : Ground). is_made signature (learnt_in earlier) t ≡ true) (sym h.2)
        (app_made h.0 h.1 h.3 h.4 (subst (λ (t : Ground). IsNormal signature.equations t) h.2 h.5))

  -- ---- by a chain

  module _ (link : Ground → Ground → Bool) (decides : (t u : Ground) → Decides (link t u) (IsDestructed signature past t u)) where
    leads_tells : (t : Ground) (chain : List Ground) (m : Ground) → leads link t chain m ≡ true → IsChain signature past t chain m
    leads_tells t [] m e = (same_term_decides t m).0 e
    leads_tells t (u ∷ chain) m e =
        let both = and_parts (link t u) (leads link u chain m) e in
        ((decides t u).0 both.0, leads_tells u chain m both.1)

    leads_from : (t : Ground) (chain : List Ground) (m : Ground) → IsChain signature past t chain m → leads link t chain m ≡ true
    leads_from t [] m h = (same_term_decides t m).1 h
    leads_from t (u ∷ chain) m h = and_from (link t u) (leads link u chain m) ((decides t u).1 h.0) (leads_from u chain m h.1)

    chain_tells : (p k : ℕ) (chain : List Ground) (m : Ground) → is_chain link earlier p k chain m ≡ true → MayLearn signature past m (by_chain p k chain)
    chain_tells p k [] m e = absurd cc
    chain_tells p k (t ∷ chain) m e =
        let both = and_parts (puts_out (slice_get earlier p) k t) (leads link t chain m) e in
        by_entry (slice_get earlier p) refl both.0 (leads_tells t chain m both.1)
      where
        by_entry : (o : Option Entry) → slice_get earlier p ≡ o → puts_out o k t ≡ true → IsChain signature past t chain m
            → MayLearn signature past m (by_chain p k (t ∷ chain))
        by_entry None is e l = absurd cc
        by_entry (Some (send n)) is e l = absurd cc
        by_entry (Some (learn n how)) is e l = absurd cc
        by_entry (Some (step r facts sources)) is e l = (
          r,
          facts,
          sources,
          position_there earlier p (step r facts sources) is,
          t,
          place_got facts.conclusions k (out_of t) (is_fact_tells (slice_get facts.conclusions k) (out_of t) e),
          (refl, l),
        )

    chain_from : (p k : ℕ) (chain : List Ground) (m : Ground) → MayLearn signature past m (by_chain p k chain) → is_chain link earlier p k chain m ≡ true
    chain_from p k [] m h = absurd h.6
    chain_from p k (t ∷ chain) m h =
        let at = position_found earlier p (step h.0 h.1 h.2) h.3 in
        let there : AtPlace h.1.conclusions k (out_of t) = subst (λ (u : Ground). AtPlace h.1.conclusions k (out_of u)) (sym h.6.0) h.5 in
        let out : puts_out (slice_get earlier p) k t ≡ true =
        ap (λ (o : Option Entry). puts_out o k t) at ∙ is_fact_from (slice_get h.1.conclusions k) (out_of t) (place_found h.1.conclusions k (out_of t) there) in
        and_from (puts_out (slice_get earlier p) k t) (leads link t chain m) out (leads_from t chain m h.6.1)

    -- ---- in any way

    pub may_learn_decides : HaveNormalForms signature.equations → (m : Ground) (how : How) → Decides (may_learn signature link earlier m how) (MayLearn signature past m how)
    may_learn_decides good m public_name = has_sort_decides Pub m
    may_learn_decides good m own_name = has_sort_decides Fresh m
    may_learn_decides good m constructed = (made_tells good m, made_from good m)
    may_learn_decides good m (by_chain p k chain) = (chain_tells p k chain m, chain_from p k chain m)

-- ---- made alone

no_terms : (ts : Grounds) → count ts ≡ 0 → ts ≡ none
no_terms none e = refl
no_terms (more t ts) e = absurd (omega (arith, e))

two_terms : (ts : Grounds) → count ts ≡ 2 → (t : Ground) × (u : Ground) × (ts ≡ more t (more u none))
two_terms none e = absurd (omega (arith, e))
two_terms (more t none) e = absurd (omega (arith, e))
two_terms (more t (more u none)) e = (t, u, refl)
two_terms (more t (more u (more w ts))) e = absurd (omega (arith, e))

module _ (signature : Signature) where
  alone_tells : (m : Ground) → is_made_alone signature m ≡ true → IsMadeAlone signature m
  alone_tells (var x) e = absurd x
  alone_tells (constant c) e = inr (inr tt)
  alone_tells (name n) e = absurd cc
  alone_tells (app f ts) e =
      ⊎_elim
      (λ t.
      let both = and_parts (bytes_eq f (codes "pair")) (count ts == 2) t in
      let two = two_terms ts (eqb-true (count ts) 2 both.1) in
      inl (two.0, two.1, ap (λ g. app g ts) ((bytes_eq-Decides f (codes "pair")).0 both.0) ∙ ap (app (codes "pair")) two.2))
      (λ t.
      let both = and_parts (count ts == 0) (any_public signature.symbols f 0) t in
      inr (inl (f, (any_public_decides signature.symbols f 0).0 both.1, ap (app f) (no_terms ts (eqb-true (count ts) 0 both.0)))))
      (or_cases (bytes_eq f (codes "pair") && (count ts == 2)) ((count ts == 0) && any_public signature.symbols f 0) e)

  public_is_made : (m : Ground) → HasSort Pub m → is_made_alone signature m ≡ true
  public_is_made (var x) h = absurd x
  public_is_made (constant c) h = refl
  public_is_made (name n) h = absurd h
  public_is_made (app f ts) h = absurd h

  alone_from : (m : Ground) → IsMadeAlone signature m → is_made_alone signature m ≡ true
  alone_from m (inl h) =
      subst (λ (t : Ground). is_made_alone signature t ≡ true) (sym h.2)
      (or_left _ ((2 == 0) && any_public signature.symbols (codes "pair") 0) (and_from _ _ ((bytes_eq-Decides (codes "pair") (codes "pair")).1 refl) (eq-eqb 2 2 refl)))
  alone_from m (inr (inl h)) =
      subst (λ (t : Ground). is_made_alone signature t ≡ true) (sym h.2)
      (or_right (bytes_eq h.0 (codes "pair") && (0 == 2)) _ (and_from _ _ (eq-eqb 0 0 refl) ((any_public_decides signature.symbols h.0 0).1 h.1)))
  alone_from m (inr (inr h)) = public_is_made m h

  pub made_alone_decides : (m : Ground) → Decides (is_made_alone signature m) (IsMadeAlone signature m)
  made_alone_decides m = (alone_tells m, alone_from m)
