-- What the facts that a step of the adversary takes tell of the log.
use Rattle.std.proofs.Common.{◌≡◌, inl, inr, ℕ, List, [], ◌∷◌, refl, sym, ap, ◌∙◌, subst}
use Rattle.std.specs.Prelude.{codes}
use Rattle.sp_spec.specs.Lists.{AtPosition, AtPlace}
use Rattle.sp_spec.specs.Term.{name, none, more, Ground, Grounds}
use Rattle.sp_spec.specs.Rule.{Fact, Facts, SameFact, fr, in_of, out_of, knows}
use Rattle.sp_spec.specs.Theory.{Theory, signature_of}
use Rattle.sp_spec.specs.Execution.{known_all}
use Rattle.sp_spec.specs.Log.{Source, fresh_rule, conclusion, Entry, step, send, learn, Log, fresh_of, Concludes, IsLearnt, AreLearnt}
use Rattle.sp_law_equal.specs.NormalForms.{HaveNormalForms}
use Rattle.sp_law_equal.specs.Normal.{normal, normal_all, normal_fact}
use Rattle.sp_law_equal.specs.Pointwise.{EachWith}
use Rattle.sp_law_equal.proofs.Facts.{same_fact_decides}
use Rattle.sp_law_equal.proofs.Pairs.{names_apart}
use Rattle.sp_law_adversary.proofs.Followed.{HasOrigin}

module _ (theory : Theory) (good : HaveNormalForms (signature_of theory).equations) (log : Log) where
  abbrev pub Has : Fact ⊥ → Source → Type 0
  Has = HasOrigin (signature_of theory).equations log

  normal_same : (f g : Fact ⊥) → SameFact (signature_of theory).equations f g
      → normal_fact (signature_of theory).equations f ≡ normal_fact (signature_of theory).equations g
  normal_same f g s = (same_fact_decides (signature_of theory).equations good f g).0 s

  symbol_of : (f g : Fact ⊥) → f ≡ g → f.symbol ≡ g.symbol
  symbol_of f g e = ap (λ (x : Fact ⊥). x.symbol) e

  -- an argument known is learnt
  pub known_found : (t : Ground) (g : Fact ⊥) (o : Source) → SameFact (signature_of theory).equations (knows t) g → Has g o
      → IsLearnt log (normal (signature_of theory).equations t)
  known_found t g fresh_rule s (inl h) =
      let e : knows (normal (signature_of theory).equations t) ≡ knows (normal (signature_of theory).equations h.0) =
      normal_same (knows t) g s ∙ ap (normal_fact (signature_of theory).equations) h.1 in
      let args : more (normal (signature_of theory).equations t) none ≡ more (normal (signature_of theory).equations h.0) none =
      ap (λ (x : Fact ⊥). x.args) e in
      let same : normal (signature_of theory).equations h.0 ≡ normal (signature_of theory).equations t = cc in
      subst (λ (m : Ground). IsLearnt log m) same h.2
  known_found t g fresh_rule s (inr h) = absurd (names_apart (codes "K") (codes "Fr") refl (s.0 ∙ symbol_of g (fr (name h.0)) h.1))
  known_found t g (conclusion p k) s h = absurd (h.1 (sym s.0))

  pub all_known : (ts : Grounds) (founds : List (Fact ⊥)) (os : List Source) → EachWith (SameFact (signature_of theory).equations) (known_all ts) founds
      → EachWith Has founds os
      → AreLearnt log (normal_all (signature_of theory).equations ts)
  all_known none founds os s h = tt
  all_known (more t ts) [] os s h = absurd s
  all_known (more t ts) (g ∷ founds) [] s h = absurd h
  all_known (more t ts) (g ∷ founds) (o ∷ os) s h = (known_found t g o s.0 h.0, all_known ts founds os s.1 h.1)

  -- the Out conclusion of that place of the step at that position
  abbrev pub IsOut : Ground → ℕ → ℕ → Type 0
  IsOut m p k = (r : List ℕ) × (facts : Facts ⊥) × (sources : List Source) × AtPosition log p (step r facts sources) × AtPlace facts.conclusions k (out_of m)

  -- the first of the sources is where the message was put out
  abbrev pub IsOutOf : Ground → List Source → Type 0
  IsOutOf m (conclusion p k ∷ sources) = IsOut m p k
  IsOutOf m sources = ⊥

  out_of_entry : (m : Ground) (p k : ℕ) (e : Entry) → AtPosition log p e → Concludes e k (out_of m) → IsOut m p k
  out_of_entry m p k (step r facts sources) at c = (r, facts, sources, at, c)
  out_of_entry m p k (send u) at c = absurd (names_apart (codes "Out") (codes "In") refl (symbol_of (out_of m) (in_of u) c.1))
  out_of_entry m p k (learn u how) at c = absurd c

  out_found : (t : Ground) (g : Fact ⊥) (o : Source) (os : List Source) → SameFact (signature_of theory).equations (out_of t) g → Has g o
      → IsOutOf (normal (signature_of theory).equations t) (o ∷ os)
  out_found t g fresh_rule os s (inl h) = absurd (names_apart (codes "Out") (codes "K") refl (s.0 ∙ symbol_of g (knows h.0) h.1))
  out_found t g fresh_rule os s (inr h) = absurd (names_apart (codes "Out") (codes "Fr") refl (s.0 ∙ symbol_of g (fr (name h.0)) h.1))
  out_found t g (conclusion p k) os s h =
      out_of_entry (normal (signature_of theory).equations t) p k h.2.0 h.2.1
      (subst (λ (f : Fact ⊥). Concludes h.2.0 k f) (sym (normal_same (out_of t) g s)) h.2.2)

  pub one_out : (t : Ground) (founds : List (Fact ⊥)) (os : List Source) → EachWith (SameFact (signature_of theory).equations) (out_of t ∷ []) founds
      → EachWith Has founds os
      → IsOutOf (normal (signature_of theory).equations t) os
  one_out t [] os s h = absurd s
  one_out t (g ∷ founds) [] s h = absurd h
  one_out t (g ∷ founds) (o ∷ os) s h = out_found t g o os s.0 h.0

  -- a fresh name that is taken is the one
  fresh_found : (n : ℕ) (g : Fact ⊥) (o : Source) → SameFact (signature_of theory).equations (fr (name n)) g → Has g o → g ≡ fr (name n)
  fresh_found n g fresh_rule s (inl h) = absurd (names_apart (codes "Fr") (codes "K") refl (s.0 ∙ symbol_of g (knows h.0) h.1))
  fresh_found n g fresh_rule s (inr h) =
      let e : fr (name n) ≡ fr (name h.0) = normal_same (fr (name n)) g s ∙ ap (normal_fact (signature_of theory).equations) h.1 in
      h.1 ∙ sym e
  fresh_found n g (conclusion p k) s h = absurd (h.0 (sym s.0))

  pub one_fresh : (n : ℕ) (founds : List (Fact ⊥)) (os : List Source) → EachWith (SameFact (signature_of theory).equations) (fr (name n) ∷ []) founds
      → EachWith Has founds os
      → fresh_of founds ≡ name n ∷ []
  one_fresh n [] os s h = absurd s
  one_fresh n (g ∷ []) [] s h = absurd h
  one_fresh n (g ∷ []) (o ∷ os) s h = ap (λ (f : Fact ⊥). fresh_of (f ∷ [])) (fresh_found n g o s.0 h.0)
  one_fresh n (g ∷ f ∷ founds) os s h = absurd s.1
