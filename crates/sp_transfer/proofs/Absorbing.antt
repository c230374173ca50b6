-- The end of a chain is learnt as what it is: no pair, or a pair by its parts.
use Rattle.std.proofs.Common.{◌≡◌, ◌==◌, ◌&&◌, Bool, true, false, ℕ, zero, suc, List, ◌∷◌, if◌then◌else◌, refl, sym, ap, ◌∙◌, Vec, Global, arith}
use Rattle.std.proofs.lemmas.Bool.{ne_eqb}
use Rattle.std.specs.declared.rc.Rc.{Rc}
use Rattle.std.specs.Prelude.{codes}
use Rattle.std.specs.Str.{bytes_eq}
use Rattle.sp_spec.specs.Term.{app, none, more, Ground, Grounds, count}
use Rattle.sp_spec.specs.Signature.{Symbol}
use Rattle.sp_spec.specs.Log.{constructed, learn, Log}
use Rattle.sp_term.specs.View.{name_of, Never}
use Rattle.sp_term.specs.declared.term.Name.{Name}
use Rattle.sp_term.specs.declared.term.Term.{Term}
use Rattle.sp_term.specs.declared.term.Term.TheVariants.{App}
use Rattle.sp_fact.specs.GroundView.{ground_of, grounds_of}
use Rattle.std.proofs.Math.Bool.{and-true, and-false}
use Rattle.sp_fact.proofs.Applied.{ground_app}
use Rattle.sp_norm.specs.Over.{any_public}
use Rattle.sp_destruct.proofs.Ways.{public_same}
use Rattle.sp_law_adversary.specs.Learning.{Chain, by, is_learnt, learnt_by, unless_learnt, way_at_end, absorbed}
use Rattle.sp_transfer.specs.Absorbing.{absorbed_parts}

abbrev pub is_pair : List ℕ → ℕ → Bool
is_pair f n = bytes_eq f (codes "pair") && (n == 2)

-- another number of arguments
no_pair : (f : List ℕ) (n : ℕ) → (n ≡ 2 → ⊥) → is_pair f n ≡ false
no_pair f n h = ap (λ b. bytes_eq f (codes "pair") && b) (ne_eqb n 2 h) ∙ and-false (bytes_eq f (codes "pair"))

-- an application in memory
pub of_app : {A : Type 0} (g : Ground → A) (m : Term Never) (f : Name) (ts : Rc (Vec (Term Never) Global) Global) (nesting : ℕ) → m ≡ App f ts nesting
    → g (ground_of m) ≡ g (app (name_of f) (grounds_of ts.value.items))
of_app g m f ts nesting e = ap g (ap ground_of e ∙ ground_app f ts nesting)

module _ (symbols : List Symbol) (chain : Chain) (f : List ℕ) where
  pub way_of : (ts : Grounds) → way_at_end symbols chain (app f ts) ≡ (if (count ts == 0) && any_public symbols f 0 then constructed else by chain)
  way_of none = ap (λ b. if b then constructed else by chain) (sym (public_same symbols f zero))
  way_of (more t ts) = ap (λ b. if b && any_public symbols f 0 then constructed else by chain) (sym (ne_eqb (suc (count ts)) 0 (λ k. omega arith)))

  pub absorbed_end : (ts : Grounds) (log : Log) → is_pair f (count ts) ≡ false
      → absorbed symbols chain (app f ts) log ≡ learnt_by log (app f ts) (way_at_end symbols chain (app f ts))
  absorbed_end none log e = refl
  absorbed_end (more t none) log e = refl
  absorbed_end (more t (more u none)) log e =
      let m = app f (more t (more u none)) in
      ap (λ b. unless_learnt log m (if b then learnt_by (absorbed_parts symbols chain (more t (more u none)) log) m constructed else learn m (by chain) ∷ log))
      (sym (and-true (bytes_eq f (codes "pair"))) ∙ e)
  absorbed_end (more t (more u (more w ws))) log e = refl

  pub absorbed_learnt : (ts : Grounds) (log : Log) → is_pair f (count ts) ≡ true → is_learnt log (app f ts) ≡ true → absorbed symbols chain (app f ts) log ≡ log
  absorbed_learnt none log e l = absurd (let k : false ≡ true = sym (no_pair f 0 (λ k. omega arith)) ∙ e in cc)
  absorbed_learnt (more t none) log e l = absurd (let k : false ≡ true = sym (no_pair f 1 (λ k. omega arith)) ∙ e in cc)
  absorbed_learnt (more t (more u none)) log e l =
      let m = app f (more t (more u none)) in
      ap (λ b. if b then log else (if bytes_eq f (codes "pair") then learnt_by (absorbed_parts symbols chain (more t (more u none)) log) m constructed else learn m (by chain) ∷ log)) l
  absorbed_learnt (more t (more u (more w ws))) log e l = absurd (let k : false ≡ true = sym (no_pair f (suc (suc (suc (count ws)))) (λ k. omega arith)) ∙ e in cc)

  pub absorbed_pair : (ts : Grounds) (log : Log) → is_pair f (count ts) ≡ true → is_learnt log (app f ts) ≡ false
      → absorbed symbols chain (app f ts) log ≡ learnt_by (absorbed_parts symbols chain ts log) (app f ts) constructed
  absorbed_pair none log e l = absurd (let k : false ≡ true = sym (no_pair f 0 (λ k. omega arith)) ∙ e in cc)
  absorbed_pair (more t none) log e l = absurd (let k : false ≡ true = sym (no_pair f 1 (λ k. omega arith)) ∙ e in cc)
  absorbed_pair (more t (more u none)) log e l =
      let m = app f (more t (more u none)) in
      let whole = learnt_by (absorbed_parts symbols chain (more t (more u none)) log) m constructed in
      ap (λ b. if b then log else (if bytes_eq f (codes "pair") then whole else learn m (by chain) ∷ log)) l
      ∙ ap (λ b. if b then whole else learn m (by chain) ∷ log) (sym (and-true (bytes_eq f (codes "pair"))) ∙ e)
  absorbed_pair (more t (more u (more w ws))) log e l = absurd (let k : false ≡ true = sym (no_pair f (suc (suc (suc (count ws)))) (λ k. omega arith)) ∙ e in cc)
