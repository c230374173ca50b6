-- What is learnt in entries, the oldest first, is what the definition of logs says is learnt.
use Rattle.std.proofs.Common.{◌≡◌, ◌<◌, ℕ, zero, suc, true, not, List, [], ◌∷◌, take, slice_get, Some, inl, inr, refl, ap, subst, arith}
use Rattle.std.specs.Bool.{Decides}
use Rattle.std.proofs.lemmas.Bool.{and_parts, and_from, not-true, both_ways}
use Rattle.sp_spec.specs.Lists.{Member, Every, newest_first}
use Rattle.sp_spec.specs.Term.{none, more, Ground, Grounds}
use Rattle.sp_spec.specs.Same.{same_term}
use Rattle.sp_spec.specs.Log.{How, Entry, step, send, learn, Log, LearntAt, IsLearnt, AreLearnt}
use Rattle.sp_spec.proofs.Lists.{member_right}
use Rattle.sp_spec.proofs.Same.{same_term_decides}
use Rattle.sp_learn.specs.Learning.{learnt_by, learnt_in, is_among, are_among, none_among}
use Rattle.sp_log.proofs.New.{is_not, one_tells, one_from}
use Rattle.sp_log.proofs.Premises.{position_there, position_found}

pub among_decides : (ms : List Ground) (m : Ground) → Decides (is_among ms m) (Member m ms)
among_decides ms m = (one_tells same_term same_term_decides ms m, one_from same_term same_term_decides ms m)

-- ---- in a list

-- the entry at some place learns the message
abbrev LearntIn : List Entry → Ground → Type 0
LearntIn xs m = (q : ℕ) × (how : How) × (slice_get xs q ≡ Some (learn m how))

learnt_tells : (xs : List Entry) (m : Ground) → Member m (learnt_in xs) → LearntIn xs m
learnt_tells [] m k = absurd k
learnt_tells (step r facts sources ∷ xs) m k = let h = learnt_tells xs m k in (suc h.0, h.1, h.2)
learnt_tells (send n ∷ xs) m k = let h = learnt_tells xs m k in (suc h.0, h.1, h.2)
learnt_tells (learn n how ∷ xs) m (inl e) = (zero, how, ap (λ x. Some (learn x how)) e)
learnt_tells (learn n how ∷ xs) m (inr k) = let h = learnt_tells xs m k in (suc h.0, h.1, h.2)

learnt_from : (xs : List Entry) (q : ℕ) (m : Ground) (how : How) → slice_get xs q ≡ Some (learn m how) → Member m (learnt_in xs)
learnt_from [] q m how e = absurd cc
learnt_from (x ∷ xs) zero m how e =
    let same : learn m how ≡ x = cc in
    subst (λ (y : Entry). Member m (learnt_in (y ∷ xs))) same (inl refl)
learnt_from (x ∷ xs) (suc q) m how e = member_right m (learnt_by x) (learnt_in xs) (learnt_from xs q m how e)

-- ---- among the first of a list

taken_tells : {A : Type 0} (xs : List A) (p q : ℕ) (y : A) → slice_get (take p xs) q ≡ Some y → (q < p) × (slice_get xs q ≡ Some y)
taken_tells [] zero q y e = absurd cc
taken_tells [] (suc p) q y e = absurd cc
taken_tells (x ∷ xs) zero q y e = absurd cc
taken_tells (x ∷ xs) (suc p) zero y e = (omega arith, e)
taken_tells (x ∷ xs) (suc p) (suc q) y e = let h = taken_tells xs p q y e in let l = h.0 in (omega (arith, l), h.1)

taken_from : {A : Type 0} (xs : List A) (p q : ℕ) (y : A) → q < p → slice_get xs q ≡ Some y → slice_get (take p xs) q ≡ Some y
taken_from [] p q y l e = absurd cc
taken_from (x ∷ xs) zero q y l e = absurd (omega (arith, l))
taken_from (x ∷ xs) (suc p) zero y l e = e
taken_from (x ∷ xs) (suc p) (suc q) y l e = taken_from xs p q y (omega (arith, l)) e

-- ---- in a log

module _ (earlier : List Entry) where
  abbrev past : Log
  past = newest_first earlier

  pub member_learnt : (m : Ground) → Member m (learnt_in earlier) → IsLearnt past m
  member_learnt m k = let h = learnt_tells earlier m k in (h.0, (h.1, position_there earlier h.0 (learn m h.1) h.2))

  pub learnt_member : (m : Ground) → IsLearnt past m → Member m (learnt_in earlier)
  learnt_member m h = learnt_from earlier h.0 m h.1.0 (position_found earlier h.0 (learn m h.1.0) h.1.1)

  pub learnt_decides : (m : Ground) → Decides (is_among (learnt_in earlier) m) (IsLearnt past m)
  learnt_decides m =
      let d = among_decides (learnt_in earlier) m in
      (λ t. member_learnt m (d.0 t), λ h. d.1 (learnt_member m h))

  are_tells : (ts : Grounds) → are_among (learnt_in earlier) ts ≡ true → AreLearnt past ts
  are_tells none e = tt
  are_tells (more t ts) e =
      let both = and_parts (is_among (learnt_in earlier) t) (are_among (learnt_in earlier) ts) e in
      ((learnt_decides t).0 both.0, are_tells ts both.1)

  are_from : (ts : Grounds) → AreLearnt past ts → are_among (learnt_in earlier) ts ≡ true
  are_from none h = refl
  are_from (more t ts) h = and_from _ _ ((learnt_decides t).1 h.0) (are_from ts h.1)

  pub are_learnt_decides : (ts : Grounds) → Decides (are_among (learnt_in earlier) ts) (AreLearnt past ts)
  are_learnt_decides ts = (are_tells ts, are_from ts)

  -- not learnt before a position
  abbrev NotBefore : ℕ → Ground → Type 0
  NotBefore p t = (q : ℕ) → q < p → LearntAt past q t → ⊥

  none_tells : (p : ℕ) (ts : List Ground) → none_among (learnt_in (take p earlier)) ts ≡ true → Every (NotBefore p) ts
  none_tells p [] e = tt
  none_tells p (t ∷ ts) e =
      let ms = learnt_in (take p earlier) in
      let both = and_parts (not (is_among ms t)) (none_among ms ts) e in (
        λ q l h.
            let there = taken_from earlier p q (learn t h.0) l (position_found earlier q (learn t h.0) h.1) in
            both_ways (is_among ms t) (not-true (is_among ms t) both.0) ((among_decides ms t).1 (learnt_from (take p earlier) q t h.0 there)),
        none_tells p ts both.1,
      )

  none_from : (p : ℕ) (ts : List Ground) → Every (NotBefore p) ts → none_among (learnt_in (take p earlier)) ts ≡ true
  none_from p [] h = refl
  none_from p (t ∷ ts) h =
      let ms = learnt_in (take p earlier) in
      and_from (not (is_among ms t)) (none_among ms ts)
      (is_not (is_among ms t)
      (λ t'.
      let k = (among_decides ms t).0 t' in
      let l = learnt_tells (take p earlier) t k in
      let there = taken_tells earlier p l.0 (learn t l.1) l.2 in
      h.0 l.0 there.0 (l.1, position_there earlier l.0 (learn t l.1) there.1)))
      (none_from p ts h.1)

  pub none_decides : (p : ℕ) (ts : List Ground) → Decides (none_among (learnt_in (take p earlier)) ts) (Every (NotBefore p) ts)
  none_decides p ts = (none_tells p ts, none_from p ts)
