-- Values for two terms at once: the one has variables with numbers below a bound, the other's are shifted by it.
use Rattle.std.proofs.Common.{◌≡◌, ℕ, ◌+◌, ◌-◌, ◌<◌, ◌≤◌, Bool, true, false, cond, if◌then◌else◌, nat_lt, refl, sym, ap, ◌∙◌, arith}
use Rattle.std.proofs.lemmas.Bool.{cond-true, cond-false, lt-ltb, le-ltb}
use Rattle.sp_spec.specs.Term.{Variable, Term, var, constant, name, app, Terms, none, more, Values, valued, valued_all}
use Rattle.sp_spec.specs.Signature.{HasSort, RespectsSorts}
use Rattle.sp_spec.proofs.Same.{same_fields}
use Rattle.sp_law_unify.proofs.Values.{valued_then}
use Rattle.sp_spec_forms.specs.Shifted.{above, above_all, shifted}

-- values that are the same below the bound give the same values to terms below it
module _ {W : Type 0} (m : ℕ) (v w : Variable → Term W) (same : (x : Variable) → x.number < m → v x ≡ w x) where
  mutual
    pub valued_below : (t : Term Variable) → above t ≤ m → valued v t ≡ valued w t
    valued_below (var x) le = same x (omega (arith, le))
    valued_below (constant c) le = refl
    valued_below (name n) le = refl
    valued_below (app f ts) le = ap (app f) (valued_all_below ts le)

    valued_all_below : (ts : Terms Variable) → above_all ts ≤ m → valued_all v ts ≡ valued_all w ts
    valued_all_below none le = refl
    valued_all_below (more t ts) le = cc (valued_below t (omega (arith, le)), valued_all_below ts (omega (arith, le)))

module _ (m : ℕ) (v w : Values) where
  -- the variable that was shifted to this one
  abbrev unshifted : Variable → Variable
  unshifted x = record { sort = x.sort; number = x.number - m }

  -- v below the bound, and w above it
  abbrev pub joined : Values
  joined x = if nat_lt x.number m then v x else w (unshifted x)

  pub joined_respects : RespectsSorts v → RespectsSorts w → RespectsSorts joined
  joined_respects r s x = by_test (nat_lt x.number m)
    where
      by_test : (b : Bool) → HasSort x.sort (cond b (v x) (w (unshifted x)))
      by_test true = r x
      by_test false = s (unshifted x)

  pub joined_below : (t : Term Variable) → above t ≤ m → valued joined t ≡ valued v t
  joined_below t le = valued_below m joined v (λ x h. cond-true (nat_lt x.number m) (v x) (w (unshifted x)) (lt-ltb x.number m h)) t le

  abbrev shift : Variable → Variable
  shift x = record { sort = x.sort; number = m + x.number }

  joined_at : (x : Variable) → joined (shift x) ≡ w x
  joined_at x =
      let high : m ≤ m + x.number = omega arith in
      let back : m + x.number - m ≡ x.number = omega arith in
      cond-false (nat_lt (m + x.number) m) (v (shift x)) (w (unshifted (shift x))) (le-ltb (m + x.number) m high)
      ∙ ap w (same_fields (unshifted (shift x)) x refl back)

  pub joined_shifted : (t : Term Variable) → valued joined (shifted m t) ≡ valued w t
  joined_shifted t = valued_then joined (λ x. var (shift x)) w (λ x. sym (joined_at x)) t
