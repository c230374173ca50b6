-- The tests of sources and of what is new tell what the definition of logs says.
use Rattle.std.proofs.Common.{◌≡◌, ℕ, zero, suc, true, not, List, [], ◌∷◌, ◌++◌, length, slice_get, Option, Some, None, inl, inr, refl, sym, ap, ◌∙◌, subst, arith}
use Rattle.std.specs.Bool.{Decides}
use Rattle.std.proofs.lemmas.Bool.{and_parts, and_from, eqb-true, eq-eqb, not-true, not_from_false}
use Rattle.sp_spec.specs.Lists.{AtPosition, newest_first}
use Rattle.sp_spec.specs.Rule.{Fact, in_of}
use Rattle.sp_spec.specs.Log.{Source, fresh_rule, conclusion, Entry, step, send, learn, Log, is_fr, Concludes, HasSources}
use Rattle.sp_law_run.specs.Taken.{same_fact}
use Rattle.sp_law_run.proofs.Counted.{same_fact_tells}
use Rattle.sp_log.specs.Checking.{is_fact, concludes, has_source, have_sources, same_source}
use Rattle.sp_spec.proofs.Lists.{place_got, place_found}

-- ---- places and positions

length_one_more : {A : Type 0} (xs : List A) (x : A) → length (xs ++ x ∷ []) ≡ suc (length xs)
length_one_more [] x = refl
length_one_more (y ∷ ys) x = ap suc (length_one_more ys x)

-- the oldest is at position 0, and the others are one later for it
oldest : {A : Type 0} (ys : List A) (x : A) → AtPosition (ys ++ x ∷ []) zero x
oldest [] x = inl (refl, refl)
oldest (y ∷ ys) x = inr (oldest ys x)

later : {A : Type 0} (ys : List A) (x : A) (p : ℕ) (z : A) → AtPosition ys p z → AtPosition (ys ++ x ∷ []) (suc p) z
later [] x p z a = absurd a
later (y ∷ ys) x p z (inl a) = inl (ap suc a.0 ∙ sym (length_one_more ys x), a.1)
later (y ∷ ys) x p z (inr a) = inr (later ys x p z a)

is_oldest : {A : Type 0} (ys : List A) (x z : A) → AtPosition (ys ++ x ∷ []) zero z → x ≡ z
is_oldest [] x z (inl a) = a.1
is_oldest [] x z (inr a) = absurd a
is_oldest (y ∷ ys) x z (inl a) = let e = a.0 ∙ length_one_more ys x in absurd (omega (arith, e))
is_oldest (y ∷ ys) x z (inr a) = is_oldest ys x z a

is_later : {A : Type 0} (ys : List A) (x : A) (p : ℕ) (z : A) → AtPosition (ys ++ x ∷ []) (suc p) z → AtPosition ys p z
is_later [] x p z (inl a) = let e = a.0 in absurd (omega (arith, e))
is_later [] x p z (inr a) = absurd a
is_later (y ∷ ys) x p z (inl a) = let e = a.0 ∙ length_one_more ys x in inl (omega (arith, e), a.1)
is_later (y ∷ ys) x p z (inr a) = inr (is_later ys x p z a)

pub position_there : {A : Type 0} (xs : List A) (p : ℕ) (z : A) → slice_get xs p ≡ Some z → AtPosition (newest_first xs) p z
position_there [] p z e = absurd cc
position_there (x ∷ xs) zero z e =
    let same : x ≡ z = cc in
    subst (λ w. AtPosition (newest_first xs ++ x ∷ []) zero w) same (oldest (newest_first xs) x)
position_there (x ∷ xs) (suc p) z e = later (newest_first xs) x p z (position_there xs p z e)

pub position_found : {A : Type 0} (xs : List A) (p : ℕ) (z : A) → AtPosition (newest_first xs) p z → slice_get xs p ≡ Some z
position_found [] p z a = absurd a
position_found (x ∷ xs) zero z a = ap Some (is_oldest (newest_first xs) x z a)
position_found (x ∷ xs) (suc p) z a = position_found xs p z (is_later (newest_first xs) x p z a)

-- ---- sources of premises

pub is_fact_tells : (o : Option (Fact ⊥)) (f : Fact ⊥) → is_fact o f ≡ true → o ≡ Some f
is_fact_tells None f e = absurd cc
is_fact_tells (Some g) f e = ap Some ((same_fact_tells g f).0 e)

pub is_fact_from : (o : Option (Fact ⊥)) (f : Fact ⊥) → o ≡ Some f → is_fact o f ≡ true
is_fact_from None f e = absurd cc
is_fact_from (Some g) f e = (same_fact_tells g f).1 cc

entry_tells : (e : Entry) (k : ℕ) (f : Fact ⊥) → concludes (Some e) k f ≡ true → Concludes e k f
entry_tells (step r facts sources) k f h = place_got facts.conclusions k f (is_fact_tells (slice_get facts.conclusions k) f h)
entry_tells (send m) k f h = let both = and_parts _ (same_fact f (in_of m)) h in (eqb-true k zero both.0, (same_fact_tells f (in_of m)).0 both.1)
entry_tells (learn m how) k f h = absurd cc

entry_from : (e : Entry) (k : ℕ) (f : Fact ⊥) → Concludes e k f → concludes (Some e) k f ≡ true
entry_from (step r facts sources) k f h = is_fact_from (slice_get facts.conclusions k) f (place_found facts.conclusions k f h)
entry_from (send m) k f h = and_from _ _ (eq-eqb k zero h.0) ((same_fact_tells f (in_of m)).1 h.1)
entry_from (learn m how) k f h = absurd h

module _ (earlier : List Entry) where
  abbrev past : Log
  past = newest_first earlier

  concludes_tells : (p k : ℕ) (f : Fact ⊥) → concludes (slice_get earlier p) k f ≡ true → (e : Entry) × AtPosition past p e × Concludes e k f
  concludes_tells p k f h = by_entry (slice_get earlier p) refl h
    where
      by_entry : (o : Option Entry) → slice_get earlier p ≡ o → concludes o k f ≡ true → (e : Entry) × AtPosition past p e × Concludes e k f
      by_entry None is c = absurd cc
      by_entry (Some e) is c = (e, position_there earlier p e is, entry_tells e k f c)

  concludes_from : (p k : ℕ) (f : Fact ⊥) (e : Entry) → AtPosition past p e → Concludes e k f → concludes (slice_get earlier p) k f ≡ true
  concludes_from p k f e at c = ap (λ o. concludes o k f) (position_found earlier p e at) ∙ entry_from e k f c

  sources_tell : (fs : List (Fact ⊥)) (os : List Source) → have_sources fs os earlier ≡ true → HasSources fs os past
  sources_tell [] [] e = tt
  sources_tell [] (o ∷ os) e = absurd cc
  sources_tell (f ∷ fs) [] e = absurd cc
  sources_tell (f ∷ fs) (fresh_rule ∷ os) e = let both = and_parts (is_fr f) (have_sources fs os earlier) e in (both.0, sources_tell fs os both.1)
  sources_tell (f ∷ fs) (conclusion p k ∷ os) e =
      let both = and_parts (has_source f (conclusion p k) earlier) (have_sources fs os earlier) e in
      let here = and_parts (not (is_fr f)) (concludes (slice_get earlier p) k f) both.0 in
      (not-true (is_fr f) here.0, concludes_tells p k f here.1, sources_tell fs os both.1)

  sources_from : (fs : List (Fact ⊥)) (os : List Source) → HasSources fs os past → have_sources fs os earlier ≡ true
  sources_from [] [] h = refl
  sources_from [] (o ∷ os) h = absurd h
  sources_from (f ∷ fs) [] h = absurd h
  sources_from (f ∷ fs) (fresh_rule ∷ os) h = and_from _ _ h.0 (sources_from fs os h.1)
  sources_from (f ∷ fs) (conclusion p k ∷ os) h =
      and_from _ _ (and_from _ _ (not_from_false (is_fr f) h.0) (concludes_from p k f h.1.0 h.1.1 h.1.2)) (sources_from fs os h.2)

  pub sources_decide : (fs : List (Fact ⊥)) (os : List Source) → Decides (have_sources fs os earlier) (HasSources fs os past)
  sources_decide fs os = (sources_tell fs os, sources_from fs os)

source_tells : (o u : Source) → same_source o u ≡ true → o ≡ u
source_tells fresh_rule fresh_rule e = refl
source_tells fresh_rule (conclusion q j) e = absurd cc
source_tells (conclusion p k) fresh_rule e = absurd cc
source_tells (conclusion p k) (conclusion q j) e =
    let both = and_parts _ _ e in
    ap (λ x. conclusion x k) (eqb-true p q both.0) ∙ ap (conclusion q) (eqb-true k j both.1)

source_itself : (o : Source) → same_source o o ≡ true
source_itself fresh_rule = refl
source_itself (conclusion p k) = and_from _ _ (eq-eqb p p refl) (eq-eqb k k refl)

pub same_source_decides : (o u : Source) → Decides (same_source o u) (o ≡ u)
same_source_decides o u = (source_tells o u, λ e. subst (λ (x : Source). same_source o x ≡ true) e (source_itself o))
