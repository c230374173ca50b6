-- No unknown symbol is told of exactly where terms are over the symbols.
use Rattle.std.proofs.Common.{◌≡◌, ℕ, Bool, true, not, ◌&&◌, ◌==◌, List, [], ◌∷◌, inl, inr, ⊎_elim, refl, sym, ap, subst}
use Rattle.sp_law_decide.proofs.Terms.{count_valued}
use Rattle.std.proofs.lemmas.Bool.{or_cases, or_left, or_right, not-false}
use Rattle.std.proofs.lemmas.Bool.Decides.{Decides-and, Decides-eqb}
use Rattle.std.proofs.lemmas.Slice.Eq.{bytes_eq-Decides}
use Rattle.std.specs.Bool.{Decides}
use Rattle.std.specs.Str.{bytes_eq}
use Rattle.sp_spec.specs.Lists.{Member}
use Rattle.sp_spec.specs.Term.{Term, var, constant, name, app, Terms, none, more, count, valued, valued_all}
use Rattle.sp_spec.specs.Signature.{Symbol, HasSymbol}
use Rattle.sp_spec.specs.Formula.{Written}
use Rattle.sp_law_equal.specs.Right.{IsTermOver, AreTermsOver}
use Rattle.sp_finding.specs.Finding.{unknown_symbol, are_none}
use Rattle.sp_finding.specs.TermFindings.{has_symbol, unknown_in, unknown_in_all}
use Rattle.sp_finding.proofs.Nothing.{none_told, told_none, none_parts, none_both}
use Rattle.sp_wf_symbols.proofs.SymbolsClean.{symbol, same_parts}

is_it_decides : (s : Symbol) (f : List ℕ) (n : ℕ) → Decides (bytes_eq s.name f && (s.arity == n)) ((s.name ≡ f) × (s.arity ≡ n))
is_it_decides s f n = Decides-and (bytes_eq s.name f) (s.arity == n) (bytes_eq-Decides s.name f) (Decides-eqb s.arity n)

pub has_tells : (symbols : List Symbol) (f : List ℕ) (n : ℕ) → has_symbol symbols f n ≡ true → HasSymbol symbols f n
has_tells [] f n e = absurd cc
has_tells (s ∷ symbols) f n e =
    ⊎_elim (λ h. let k = (is_it_decides s f n).0 h in (s.private, inl (same_parts s (symbol f n s.private) k.0 k.1 refl))) (λ h. let r = has_tells symbols f n h in (r.0, inr r.1))
    (or_cases (bytes_eq s.name f && (s.arity == n)) (has_symbol symbols f n) e)

has_from : (symbols : List Symbol) (f : List ℕ) (n : ℕ) (private : Bool) → Member (symbol f n private) symbols → has_symbol symbols f n ≡ true
has_from [] f n private m = absurd m
has_from (s ∷ symbols) f n private (inl m) =
    or_left (bytes_eq s.name f && (s.arity == n)) (has_symbol symbols f n) ((is_it_decides s f n).1 (ap (λ (x : Symbol). x.name) m, ap (λ (x : Symbol). x.arity) m))
has_from (s ∷ symbols) f n private (inr m) = or_right (bytes_eq s.name f && (s.arity == n)) (has_symbol symbols f n) (has_from symbols f n private m)

module _ (symbols : List Symbol) where
  mutual
    pub known_over : (t : Term Written) → are_none (unknown_in symbols t) ≡ true → IsTermOver symbols t
    known_over (var x) e = tt
    known_over (constant c) e = tt
    known_over (name n) e = tt
    known_over (app f ts) e =
        let k = none_told (not (has_symbol symbols f (count ts))) (unknown_symbol f (count ts)) (unknown_in_all symbols ts) e in
        (has_tells symbols f (count ts) (not-false (has_symbol symbols f (count ts)) k.0), all_known_over ts k.1)

    all_known_over : (ts : Terms Written) → are_none (unknown_in_all symbols ts) ≡ true → AreTermsOver symbols ts
    all_known_over none e = tt
    all_known_over (more t ts) e = let k = none_parts (unknown_in symbols t) (unknown_in_all symbols ts) e in (known_over t k.0, all_known_over ts k.1)

  mutual
    pub over_known : (t : Term Written) → IsTermOver symbols t → are_none (unknown_in symbols t) ≡ true
    over_known (var x) o = refl
    over_known (constant c) o = refl
    over_known (name n) o = refl
    over_known (app f ts) o =
        told_none (not (has_symbol symbols f (count ts))) (unknown_symbol f (count ts)) (unknown_in_all symbols ts)
        (ap not (has_from symbols f (count ts) o.0.0 o.0.1)) (all_over_known ts o.1)

    all_over_known : (ts : Terms Written) → AreTermsOver symbols ts → are_none (unknown_in_all symbols ts) ≡ true
    all_over_known none o = refl
    all_over_known (more t ts) o = none_both (unknown_in symbols t) (unknown_in_all symbols ts) (over_known t o.0) (all_over_known ts o.1)

-- ---- with other variables

module _ {V W : Type 0} (symbols : List Symbol) (v : V → Term W) (each : (x : V) → IsTermOver symbols (v x)) where
  mutual
    pub over_valued : (t : Term V) → IsTermOver symbols t → IsTermOver symbols (valued v t)
    over_valued (var x) o = each x
    over_valued (constant c) o = tt
    over_valued (name n) o = tt
    over_valued (app f ts) o = (subst (λ (k : ℕ). HasSymbol symbols f k) (sym (count_valued v ts)) o.0, all_over_valued ts o.1)

    all_over_valued : (ts : Terms V) → AreTermsOver symbols ts → AreTermsOver symbols (valued_all v ts)
    all_over_valued none o = tt
    all_over_valued (more t ts) o = (over_valued t o.0, all_over_valued ts o.1)

  mutual
    pub valued_over : (t : Term V) → IsTermOver symbols (valued v t) → IsTermOver symbols t
    valued_over (var x) o = tt
    valued_over (constant c) o = tt
    valued_over (name n) o = tt
    valued_over (app f ts) o = (subst (λ (k : ℕ). HasSymbol symbols f k) (count_valued v ts) o.0, all_valued_over ts o.1)

    all_valued_over : (ts : Terms V) → AreTermsOver symbols (valued_all v ts) → AreTermsOver symbols ts
    all_valued_over none o = tt
    all_valued_over (more t ts) o = (valued_over t o.0, all_valued_over ts o.1)
