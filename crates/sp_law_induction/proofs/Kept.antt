-- What holds of formulas exactly where it holds of their parts, and of times that are said to be the last, holds of a formula's hypothesis: so it is with
-- what holds of each atom, with being closed, and with the actions that are named.
use Rattle.std.proofs.Common.{ℕ, suc, zero, ◌<◌, List, [], ◌∷◌, ◌++◌, arith}
use Rattle.std.specs.Prelude.{◌↔◌}
use Rattle.sp_spec.specs.Lists.{Every}
use Rattle.sp_spec.specs.Guarded.{bound_time, Binder, message, time, Atom, last, Guarded, Guardeds, truth, falsity, holds, fails, all_of, one_of, some, every, no_more, and_then, guardeds_of}
use Rattle.sp_spec.proofs.Lists.{every_append, every_parts}
use Rattle.sp_law_truth.specs.Shown.{times_within, guard_names, action_names, all_action_names}
use Rattle.sp_law_truth.proofs.AsTrue.{as_itself, as_both, as_through}
use Rattle.sp_law_guard.specs.GuardedForm.{negate}
use Rattle.sp_law_guard.specs.Closed.{IsClosedAtom, IsClosed, AreClosed}
use Rattle.sp_law_guard.proofs.Parts.{EachIs, IsOfParts, conjunction_is, disjunction_is}
use Rattle.sp_law_guard.proofs.Throughout.{Throughout, ThroughoutEach, negate_throughout}
use Rattle.sp_law_induction.specs.Hypothesis.{lasts, not_lasts, or_else, and_also, hypothesis, hypotheses}
use Rattle.sp_law_induction.specs.Covering.{inductive}
use Rattle.sp_law_induction.proofs.Parts.{times_rise}

-- with n times bound outside; of a quantifier exactly where it is so of the guard and of the body
pub record IsOfBodies (R : ℕ → Guarded → Type 0) (G : ℕ → List Atom → Type 0) : Type 0 where
  pub parts : (n : ℕ) → IsOfParts (R n)
  pub of_some : (n : ℕ) (bs : List Binder) (guard : List Atom) (g : Guarded) → R n (some bs guard g) ↔ (G (times_within bs n) guard × R (times_within bs n) g)
  pub of_every : (n : ℕ) (bs : List Binder) (guard : List Atom) (g : Guarded) → R n (every bs guard g) ↔ (G (times_within bs n) guard × R (times_within bs n) g)
  pub of_last : (n k : ℕ) → k < n → R n (holds (last (bound_time k))) × R n (fails (last (bound_time k)))

module _ (R : Guarded → Type 0) (parts : IsOfParts R) where
  -- of what is so of each part it is so of all and of one
  all_listed : (ps : List Guarded) → Every R ps → R (all_of (guardeds_of ps)) × R (one_of (guardeds_of ps))
  all_listed [] e = ((parts.of_all no_more).1 tt, (parts.of_one no_more).1 tt)
  all_listed (p ∷ ps) e =
      let later = all_listed ps e.1 in (
        (parts.of_all (guardeds_of (p ∷ ps))).1 (e.0, (parts.of_all (guardeds_of ps)).0 later.0),
        (parts.of_one (guardeds_of (p ∷ ps))).1 (e.0, (parts.of_one (guardeds_of ps)).0 later.1),
      )

  or_else_is : (ps : List Guarded) (g : Guarded) → Every R ps → R g → R (or_else ps g)
  or_else_is [] g e r = r
  or_else_is (p ∷ ps) g e r = disjunction_is R parts (one_of (guardeds_of (p ∷ ps))) g (all_listed (p ∷ ps) e).1 r

  and_also_is : (ps : List Guarded) (g : Guarded) → Every R ps → R g → R (and_also g ps)
  and_also_is [] g e r = r
  and_also_is (p ∷ ps) g e r = conjunction_is R parts g (all_of (guardeds_of (p ∷ ps))) r (all_listed (p ∷ ps) e).0

module _ (R : ℕ → Guarded → Type 0) (G : ℕ → List Atom → Type 0) (is : IsOfBodies R G) where
  lasts_are : (bs : List Binder) (n : ℕ) → Every (R (times_within bs n)) (lasts bs)
  lasts_are [] n = tt
  lasts_are (message sort ∷ bs) n = lasts_are bs n
  lasts_are (time ∷ bs) n = ((is.of_last (times_within bs (suc n)) (times_within bs zero) (times_rise bs zero (suc n) (omega arith))).0, lasts_are bs (suc n))

  not_lasts_are : (bs : List Binder) (n : ℕ) → Every (R (times_within bs n)) (not_lasts bs)
  not_lasts_are [] n = tt
  not_lasts_are (message sort ∷ bs) n = not_lasts_are bs n
  not_lasts_are (time ∷ bs) n = ((is.of_last (times_within bs (suc n)) (times_within bs zero) (times_rise bs zero (suc n) (omega arith))).1, not_lasts_are bs (suc n))

  mutual
    pub hypothesis_is : (n : ℕ) (f : Guarded) → R n f → R n (hypothesis f)
    hypothesis_is n truth r = r
    hypothesis_is n falsity r = r
    hypothesis_is n (holds a) r = r
    hypothesis_is n (fails a) r = r
    hypothesis_is n (all_of gs) r = ((is.parts n).of_all (hypotheses gs)).1 (hypotheses_are n gs (((is.parts n).of_all gs).0 r))
    hypothesis_is n (one_of gs) r = ((is.parts n).of_one (hypotheses gs)).1 (hypotheses_are n gs (((is.parts n).of_one gs).0 r))
    hypothesis_is n (some bs guard g) r =
        let k = times_within bs n in
        let b = (is.of_some n bs guard g).0 r in
        (is.of_some n bs guard (and_also (hypothesis g) (not_lasts bs))).1 (b.0, and_also_is (R k) (is.parts k) (not_lasts bs) (hypothesis g) (not_lasts_are bs n) (hypothesis_is k g b.1))
    hypothesis_is n (every bs guard g) r =
        let k = times_within bs n in
        let b = (is.of_every n bs guard g).0 r in
        (is.of_every n bs guard (or_else (lasts bs) (hypothesis g))).1 (b.0, or_else_is (R k) (is.parts k) (lasts bs) (hypothesis g) (lasts_are bs n) (hypothesis_is k g b.1))

    hypotheses_are : (n : ℕ) (gs : Guardeds) → EachIs (R n) gs → EachIs (R n) (hypotheses gs)
    hypotheses_are n no_more r = tt
    hypotheses_are n (and_then g gs) r = (hypothesis_is n g r.0, hypotheses_are n gs r.1)

-- each atom
module _ (P : ℕ → Atom → Type 0) (of_last : (n k : ℕ) → k < n → P n (last (bound_time k))) where
  throughout_bodies : IsOfBodies (Throughout P) (λ k guard. Every (P k) guard)
  throughout_bodies = record {
    parts = λ n. record { of_truth = tt; of_all = each n; of_one = each n };
    of_some = λ n bs guard g. as_itself;
    of_every = λ n bs guard g. as_itself;
    of_last = λ n k l. (of_last n k l, of_last n k l);
  }
    where
      each : (n : ℕ) (gs : Guardeds) → ThroughoutEach P n gs ↔ EachIs (Throughout P n) gs
      each n no_more = as_itself
      each n (and_then g gs) = as_both as_itself (each n gs)

  pub hypothesis_throughout : (n : ℕ) (f : Guarded) → Throughout P n f → Throughout P n (hypothesis f)
  hypothesis_throughout n f t = hypothesis_is (Throughout P) (λ k guard. Every (P k) guard) throughout_bodies n f t

  pub inductive_throughout : (others : List Guarded) (lemma : Guarded) → Every (Throughout P zero) others → Throughout P zero lemma → Throughout P zero (inductive others lemma)
  inductive_throughout [] lemma e l = l
  inductive_throughout (f ∷ others) lemma e l =
      disjunction_is (Throughout P zero) (throughout_bodies.parts zero) (negate f) (inductive others lemma) (negate_throughout P zero f e.0) (inductive_throughout others lemma e.1 l)

pub hypothesis_closed : (f : Guarded) → IsClosed f → IsClosed (hypothesis f)
hypothesis_closed f c =
    hypothesis_is (λ n. IsClosed) (λ k guard. Every IsClosedAtom guard)
    (record {
      parts = λ n. record { of_truth = tt; of_all = each; of_one = each };
      of_some = λ n bs guard g. as_itself;
      of_every = λ n bs guard g. as_itself;
      of_last = λ n k l. (tt, tt);
    }) zero f c
  where
    each : (gs : Guardeds) → AreClosed gs ↔ EachIs IsClosed gs
    each no_more = as_itself
    each (and_then g gs) = as_both as_itself (each gs)

module _ (N : List ℕ → Type 0) where
  abbrev AreNamed : Guarded → Type 0
  AreNamed g = Every N (action_names g)

  named_both : (xs ys : List (List ℕ)) → Every N (xs ++ ys) ↔ (Every N xs × Every N ys)
  named_both xs ys = (every_parts N xs ys, (λ x. every_append N xs ys x.0 x.1))

  each_named : (gs : Guardeds) → Every N (all_action_names gs) ↔ EachIs AreNamed gs
  each_named no_more = as_itself
  each_named (and_then g gs) = as_through (named_both (action_names g) (all_action_names gs)) (as_both as_itself (each_named gs))

  pub hypothesis_named : (f : Guarded) → Every N (action_names f) → Every N (action_names (hypothesis f))
  hypothesis_named f e =
      hypothesis_is (λ n. AreNamed) (λ k guard. Every N (guard_names guard))
      (record {
        parts = λ n. record { of_truth = tt; of_all = each_named; of_one = each_named };
        of_some = λ n bs guard g. named_both (guard_names guard) (action_names g);
        of_every = λ n bs guard g. named_both (guard_names guard) (action_names g);
        of_last = λ n k l. (tt, tt);
      }) zero f e
