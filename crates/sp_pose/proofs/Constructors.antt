-- Terms over a text's symbols in which no destructor stands, told by name and arity, are constructor terms.
use Rattle.std.proofs.Common.{◌≡◌, ℕ, Bool, true, false, not, ◌==◌, List, [], ◌∷◌, ◌++◌, codes, refl, sym, ◌∙◌, subst, true≢false}
use Rattle.std.proofs.lemmas.Bool.{and_from, or_parts, not-false}
use Rattle.std.proofs.lemmas.Bool.Decides.{Decides-and, Decides-not, Decides-eqb}
use Rattle.std.proofs.lemmas.Slice.Eq.{bytes_eq-Decides}
use Rattle.std.specs.Str.{bytes_eq}
use Rattle.sp_spec.specs.Term.{Variable, Term, var, constant, name, app, Terms, none, more, count}
use Rattle.sp_spec.specs.Signature.{Symbol, Equation, HasSymbol, Signature}
use Rattle.sp_spec.specs.Formula.{Written}
use Rattle.sp_law_equal.specs.Destructors.{HasRoot, IsDestructor}
use Rattle.sp_law_equal.specs.Right.{IsTermOver, EquationsAreOver}
use Rattle.sp_law_conv.specs.Accepted.{IsLeftSide, AreAccepted}
use Rattle.sp_law_conv.specs.Laws.{HaveOneArity}
use Rattle.sp_law_decide.specs.Normal.{IsConstructorTerm, AreConstructorTerms}
use Rattle.sp_conv.specs.Tests.{is_application, some_root, is_pair, is_destructor}
use Rattle.sp_conv.proofs.Tests.{some_root_from}
use Rattle.sp_finding.specs.Finding.{Finding, unknown_symbol, told}
use Rattle.sp_finding.specs.TermFindings.{has_symbol, unknown_in, unknown_in_all, has_destructor, have_destructor}
use Rattle.sp_wf_symbols.proofs.UnknownClean.{has_tells}

-- ---- lists without entries

pub none_left : (xs ys : List Finding) → xs ++ ys ≡ [] → (xs ≡ []) × (ys ≡ [])
none_left [] ys e = (refl, e)
none_left (x ∷ xs) ys e = absurd cc

pub not_told : (b : Bool) (f : Finding) (later : List Finding) → told b f later ≡ [] → (b ≡ false) × (later ≡ [])
not_told true f later e = absurd cc
not_told false f later e = (refl, e)

-- ---- destructors

module _ (symbols : List Symbol) (es : List Equation) (one : HaveOneArity symbols) where
  -- a left side with this symbol at its root applies it to as many arguments as its arity says
  applied : (f : List ℕ) (n : ℕ) → HasSymbol symbols f n → (l : Term Variable) → IsLeftSide es l → IsTermOver symbols l → HasRoot f l → (not (is_pair f) ≡ true) × (is_application f n l ≡ true)
  applied f n has (var x) left o r = absurd r
  applied f n has (constant c) left o r = absurd r
  applied f n has (name k) left o r = absurd r
  applied f n has (app g none) left o r = absurd left
  applied f n has (app g (more t ts)) left o r = (
    (Decides-not (is_pair f) (bytes_eq-Decides f (codes "pair"))).1 (λ e. left.0 (r ∙ e)),
    (Decides-and (count (more t ts) == n) (bytes_eq g f) (Decides-eqb (count (more t ts)) n) (bytes_eq-Decides g f)).1
        (one f (count (more t ts)) n (subst (λ h. HasSymbol symbols h (count (more t ts))) r o.0) has, r),
  )

  module _ (over : EquationsAreOver symbols es) (good : AreAccepted symbols es) where
    pub no_destructor : (f : List ℕ) (n : ℕ) → HasSymbol symbols f n → is_destructor es f n ≡ false → IsDestructor es f → ⊥
    no_destructor f n has e d =
        let r = applied f n has d.0.left (good.each d.0 d.1).left (over.left d.0 d.1) d.2 in
        true≢false (sym (and_from (not (is_pair f)) (some_root es f n) r.0 (some_root_from es f n d.0 d.1 r.1)) ∙ e)

-- ---- terms

module _ (s : Signature) (one : HaveOneArity s.symbols) (over : EquationsAreOver s.symbols s.equations) (good : AreAccepted s.symbols s.equations) where
  mutual
    pub constructor_term : (t : Term Written) → unknown_in s.symbols t ≡ [] → has_destructor s.equations t ≡ false → IsConstructorTerm s t
    constructor_term (var x) e d = tt
    constructor_term (constant c) e d = tt
    constructor_term (name n) e d = tt
    constructor_term (app f ts) e d =
        let known = not_told (not (has_symbol s.symbols f (count ts))) (unknown_symbol f (count ts)) (unknown_in_all s.symbols ts) e in
        let plain = or_parts (is_destructor s.equations f (count ts)) (have_destructor s.equations ts) d in
        let has = has_tells s.symbols f (count ts) (not-false (has_symbol s.symbols f (count ts)) known.0) in
        (no_destructor s.symbols s.equations one over good f (count ts) has plain.0, has, constructor_terms ts known.1 plain.1)

    pub constructor_terms : (ts : Terms Written) → unknown_in_all s.symbols ts ≡ [] → have_destructor s.equations ts ≡ false → AreConstructorTerms s ts
    constructor_terms none e d = tt
    constructor_terms (more t ts) e d =
        let known = none_left (unknown_in s.symbols t) (unknown_in_all s.symbols ts) e in
        let plain = or_parts (has_destructor s.equations t) (have_destructor s.equations ts) d in
        (constructor_term t known.0 plain.0, constructor_terms ts known.1 plain.1)
