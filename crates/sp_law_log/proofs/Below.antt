-- The sources that the conclusions of a new entry are.
use Rattle.std.proofs.Common.{◌≡◌, ⊎_elim, ℕ, suc, ◌<◌, ◌≤◌, Bool, true, false, if◌then◌else◌, List, [], ◌∷◌, ◌++◌, refl, sym, subst, arith}
use Rattle.sp_spec.specs.Lists.{Member, Distinct}
use Rattle.sp_spec.specs.Rule.{Fact}
use Rattle.sp_spec.specs.Log.{Source, fresh_rule, conclusion, linear_sources}
use Rattle.sp_spec.proofs.Lists.{member_either}
use Rattle.sp_law_log.proofs.Taking.{source_share}

-- the source is in an entry before that position
abbrev pub IsBelow : ℕ → Source → Type 0
IsBelow n fresh_rule = Unit {0}
IsBelow n (conclusion p k) = p < n

pub below_later : (n : ℕ) (o : Source) → IsBelow n o → IsBelow (suc n) o
below_later n fresh_rule h = tt
below_later n (conclusion p k) h = omega arith

-- the conclusions of the entry at position p, from the k-th on
abbrev pub numbered : ℕ → ℕ → List (Fact ⊥) → List Source
numbered p k [] = []
numbered p k (f ∷ fs) = conclusion p k ∷ numbered p (suc k) fs

-- a conclusion of that position, none before the k-th
abbrev pub IsFrom : ℕ → ℕ → Source → Type 0
IsFrom p k fresh_rule = ⊥
IsFrom p k (conclusion q j) = (q ≡ p) × (k ≤ j)

from_sooner : (p k : ℕ) (o : Source) → IsFrom p (suc k) o → IsFrom p k o
from_sooner p k fresh_rule h = h
from_sooner p k (conclusion q j) h = let at = h.1 in (h.0, omega arith)

member_share : (f : Fact ⊥) (p k : ℕ) (o : Source) → Member o (source_share f (conclusion p k)) → conclusion p k ≡ o
member_share f p k o m = at f.persistent m
  where
    at : (b : Bool) → Member o (if b then [] else conclusion p k ∷ []) → conclusion p k ≡ o
    at true n = absurd n
    at false n = ⊎_elim (λ e. e) (λ h. absurd h) n

pub numbered_from : (p : ℕ) (fs : List (Fact ⊥)) (k : ℕ) (o : Source) → Member o (linear_sources fs (numbered p k fs)) → IsFrom p k o
numbered_from p [] k o m = absurd m
numbered_from p (f ∷ fs) k o m =
    ⊎_elim (λ n. subst (IsFrom p k) (member_share f p k o n) (refl, omega arith)) (λ n. from_sooner p k o (numbered_from p fs (suc k) o n))
    (member_either o (source_share f (conclusion p k)) (linear_sources fs (numbered p (suc k) fs)) m)

pub numbered_below : (p : ℕ) (fs : List (Fact ⊥)) (k : ℕ) (o : Source) → Member o (linear_sources fs (numbered p k fs)) → IsBelow (suc p) o
numbered_below p fs k o m = at o (numbered_from p fs k o m)
  where
    at : (o : Source) → IsFrom p k o → IsBelow (suc p) o
    at fresh_rule h = tt
    at (conclusion q j) h = let e = h.0 in omega arith

-- new sources are none of the old ones
pub numbered_distinct : (p : ℕ) (fs : List (Fact ⊥)) (k : ℕ) (old : List Source) → ((o : Source) → Member o old → IsBelow p o) → Distinct old
    → Distinct (linear_sources fs (numbered p k fs) ++ old)
numbered_distinct p [] k old below d = d
numbered_distinct p (f ∷ fs) k old below d = at f.persistent (numbered_distinct p fs (suc k) old below d)
  where
    not_later : (o : Source) → conclusion p k ≡ o → IsFrom p (suc k) o → ⊥
    not_later o e h = let w = subst (IsFrom p (suc k)) (sym e) h in let n = w.1 in omega arith

    not_old : IsBelow p (conclusion p k) → ⊥
    not_old h = omega arith

    at : (b : Bool) → Distinct (linear_sources fs (numbered p (suc k) fs) ++ old)
        → Distinct ((if b then [] else conclusion p k ∷ []) ++ linear_sources fs (numbered p (suc k) fs) ++ old)
    at true h = h
    at false h = (
      λ m. ⊎_elim (λ a. not_later (conclusion p k) refl (numbered_from p fs (suc k) (conclusion p k) a)) (λ b. not_old (below (conclusion p k) b))
          (member_either (conclusion p k) (linear_sources fs (numbered p (suc k) fs)) old m),
      h,
    )
