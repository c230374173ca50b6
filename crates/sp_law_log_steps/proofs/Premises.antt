-- The premises of an entry: those named Fr are over fresh names, each used once, and the others are conclusions of the log that no entry has taken.
use Rattle.std.proofs.Common.{◌≡◌, ⊎_elim, ℕ, Bool, true, false, not, if◌then◌else◌, List, [], ◌∷◌, ◌++◌, map, inl, inr, refl, sym, ap, subst}
use Rattle.std.specs.Prelude.{codes}
use Rattle.std.specs.Str.{bytes_eq}
use Rattle.std.proofs.lemmas.Bool.{and_parts, not-true}
use Rattle.std.proofs.lemmas.Slice.Eq.{bytes_eq-Decides}
use Rattle.sp_spec.specs.Lists.{Member, Every, Distinct, AtPosition}
use Rattle.sp_spec.proofs.Lists.{member_right, distinct_right}
use Rattle.sp_spec.specs.Term.{Fresh, Variable, Ground, Values, valued_all}
use Rattle.sp_spec.specs.Signature.{HasSort, RespectsSorts}
use Rattle.sp_spec.specs.Rule.{Fact, fact_at, fr, IsFreshVariable}
use Rattle.sp_spec.specs.Log.{Source, fresh_rule, conclusion, Entry, Log, Concludes, is_fr, first_arg, fresh_of, linear_sources, all_sources, HasSources}
use Rattle.sp_law_log.proofs.Taking.{source_share, fresh_share, linear_cons}
use Rattle.sp_law_log_steps.proofs.Labels.{Labelled, labelled, Apart}
use Rattle.sp_spec.proofs.Facts.{same_fact_parts}

-- ---- fresh names

-- a premise Fr is over a fresh name
abbrev pub IsOfFresh : Fact ⊥ → Type 0
IsOfFresh f = is_fr f ≡ true → (t : Ground) × HasSort Fresh t × (f ≡ fr t)

abbrev pub AreOfFresh : List (Fact ⊥) → Type 0
AreOfFresh fs = Every IsOfFresh fs

-- so it is where the rule has a fresh variable there
pub of_fresh : (w : Values) → RespectsSorts w → (fs : List (Fact Variable)) → Every (λ (f : Fact Variable). is_fr f ≡ true → IsFreshVariable f.args) fs → AreOfFresh (map (fact_at w) fs)
of_fresh w respects [] h = tt
of_fresh w respects (f ∷ fs) h = (one, of_fresh w respects fs h.1)
  where
    one : is_fr f ≡ true → (t : Ground) × HasSort Fresh t × (fact_at w f ≡ fr t)
    one e =
        let x = h.0 e in
        let both = and_parts (bytes_eq f.symbol (codes "Fr")) (not f.persistent) e in (
          w x.0,
          subst (λ s. HasSort s (w x.0)) x.1 (respects x.0),
          same_fact_parts (fact_at w f) (fr (w x.0)) ((bytes_eq-Decides f.symbol (codes "Fr")).0 both.0) (not-true f.persistent both.1) (ap (valued_all w) x.2),
        )

pub fresh_sorts : (fs : List (Fact ⊥)) → AreOfFresh fs → Every (λ (t : Ground). HasSort Fresh t) (fresh_of fs)
fresh_sorts [] h = tt
fresh_sorts (f ∷ fs) h = at (is_fr f) refl (fresh_sorts fs h.1)
  where
    at : (b : Bool) → is_fr f ≡ b → Every (λ (t : Ground). HasSort Fresh t) (fresh_of fs)
        → Every (λ (t : Ground). HasSort Fresh t) ((if b then first_arg f.args else []) ++ fresh_of fs)
    at true e later =
        let t = h.0 e in
        subst (λ (g : Fact ⊥). Every (λ (u : Ground). HasSort Fresh u) (first_arg g.args ++ fresh_of fs)) (sym t.2) (t.1, later)
    at false e later = later

-- a premise uses its name
pub fresh_member : (t : Ground) (fs : List (Fact ⊥)) → Member (fr t) fs → Member t (fresh_of fs)
fresh_member t [] m = absurd m
fresh_member t (f ∷ fs) (inl e) = subst (λ (g : Fact ⊥). Member t (fresh_share g ++ fresh_of fs)) (sym e) (inl refl)
fresh_member t (f ∷ fs) (inr m) = member_right t (fresh_share f) (fresh_of fs) (fresh_member t fs m)

-- ---- linear sources

pub labelled_member : (o : Source) (f : Fact ⊥) (fs : List (Fact ⊥)) (os : List Source) → Member (o, f) (labelled fs os) → Member f fs
labelled_member o f [] os m = absurd m
labelled_member o f (g ∷ fs) [] m = absurd m
labelled_member o f (g ∷ fs) (p ∷ os) (inl e) = inl (ap (λ (z : Labelled). z.1) e)
labelled_member o f (g ∷ fs) (p ∷ os) (inr m) = inr (labelled_member o f fs os m)

share_itself : (f : Fact ⊥) (p k : ℕ) → f.persistent ≡ false → source_share f (conclusion p k) ≡ conclusion p k ∷ []
share_itself f p k e = ap (λ (b : Bool). if b then [] else conclusion p k ∷ []) e

-- a linear premise names its source
pub linear_member : (p k : ℕ) (f : Fact ⊥) → f.persistent ≡ false → (fs : List (Fact ⊥)) (os : List Source) → Member (conclusion p k, f) (labelled fs os)
    → Member (conclusion p k) (linear_sources fs os)
linear_member p k f linear [] os m = absurd m
linear_member p k f linear (g ∷ fs) [] m = absurd m
linear_member p k f linear (g ∷ fs) (o ∷ os) m =
    let x = conclusion p k in
    let rest = linear_sources fs os in
    let here : Member x (source_share f x ++ rest) = subst (λ (zs : List Source). Member x (zs ++ rest)) (sym (share_itself f p k linear)) (inl refl) in
    subst (λ (zs : List Source). Member x zs) (sym (linear_cons g fs o os))
    (⊎_elim (λ e. subst (λ (z : Labelled). Member x (source_share z.1 z.0 ++ rest)) (sym e) here)
    (λ later. member_right x (source_share g o) rest (linear_member p k f linear fs os later)) m)

-- no linear premise is there twice
pub premises_apart : (past : Log) (fs : List (Fact ⊥)) (os : List Source) → HasSources fs os past → AreOfFresh fs
    → Distinct (linear_sources fs os) → Distinct (fresh_of fs) → Apart (labelled fs os)
premises_apart past [] os h made d n = tt
premises_apart past (f ∷ fs) [] h made d n = tt
premises_apart past (f ∷ fs) (fresh_rule ∷ os) h made d n =
    let t = made.0 h.0 in
    let once : Distinct (t.0 ∷ fresh_of fs) = subst (λ (g : Fact ⊥). Distinct (fresh_share g ++ fresh_of fs)) t.2 n in (
      λ linear m. once.0 (fresh_member t.0 fs (subst (λ (g : Fact ⊥). Member g fs) t.2 (labelled_member fresh_rule f fs os m))),
      premises_apart past fs os h.1 made.1 d once.1,
    )
premises_apart past (f ∷ fs) (conclusion p k ∷ os) h made d n = (
  λ linear m.
      let once : Distinct (conclusion p k ∷ linear_sources fs os) = subst (λ (zs : List Source). Distinct (zs ++ linear_sources fs os)) (share_itself f p k linear) d in
      once.0 (linear_member p k f linear fs os m),
  premises_apart past fs os h.2 made.1 (distinct_right (source_share f (conclusion p k)) (linear_sources fs os) d) (distinct_right (fresh_share f) (fresh_of fs) n),
)

-- ---- what a state has

-- Some facts may be left aside: what a state has of them is said elsewhere.
module _ (IsAside : Fact ⊥ → Type 0) where
  -- each other conclusion of the log stands in the state, if it isn't linear and taken
  pub record HasConclusions (log : Log) (state : List Labelled) : Type 0 where
    pub there : (p k : ℕ) (e : Entry) (f : Fact ⊥) → AtPosition log p e → Concludes e k f → (IsAside f → ⊥) → (f.persistent ≡ false → Member (conclusion p k) (all_sources log) → ⊥)
        → Member (conclusion p k, f) state

  abbrev pub AreNotAside : List (Fact ⊥) → Type 0
  AreNotAside fs = Every (λ (f : Fact ⊥). IsAside f → ⊥) fs

  -- so premises with their sources in the log stand there, where theirs are no sources that were named before
  pub premises_there : (past : Log) (fs : List (Fact ⊥)) (os : List Source) (state : List Labelled) → HasSources fs os past → AreOfFresh fs → AreNotAside fs → HasConclusions past state
      → ((o : Source) → Member o (linear_sources fs os) → Member o (all_sources past) → ⊥) → ((t : Ground) → Member t (fresh_of fs) → Member (fresh_rule, fr t) state)
      → Every (λ (p : Labelled). Member p state) (labelled fs os)
  premises_there past [] os state h made other keeps old fresh = tt
  premises_there past (f ∷ fs) [] state h made other keeps old fresh = tt
  premises_there past (f ∷ fs) (fresh_rule ∷ os) state h made other keeps old fresh =
      let t = made.0 h.0 in (
        subst (λ (g : Fact ⊥). Member (fresh_rule, g) state) (sym t.2) (fresh t.0 (fresh_member t.0 (f ∷ fs) (inl t.2))),
        premises_there past fs os state h.1 made.1 other.1 keeps old (λ u m. fresh u (member_right u (fresh_share f) (fresh_of fs) m)),
      )
  premises_there past (f ∷ fs) (conclusion p k ∷ os) state h made other keeps old fresh = (
    keeps.there p k h.1.0 f h.1.1 h.1.2 other.0 (λ linear named. old (conclusion p k) (linear_member p k f linear (f ∷ fs) (conclusion p k ∷ os) (inl refl)) named),
    premises_there past fs os state h.2 made.1 other.1 keeps (λ o m. old o (member_right o (source_share f (conclusion p k)) (linear_sources fs os) m))
        (λ u m. fresh u (member_right u (fresh_share f) (fresh_of fs) m)),
  )
