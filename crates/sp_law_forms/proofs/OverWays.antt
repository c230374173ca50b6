-- What is narrowed is over the symbols, and so are the pairs that are made the same.
use Rattle.std.proofs.Common.{◌≡◌, suc, List, refl, sym, ap, subst}
use Rattle.sp_spec.specs.Term.{Variable, var, Terms, count}
use Rattle.sp_spec.specs.Signature.{Symbol, Equation, HasSymbol}
use Rattle.sp_spec.specs.Rule.{Facts, OfArguments}
use Rattle.sp_law_equal.specs.Right.{IsTermOver, AreTermsOver, EquationsAreOver}
use Rattle.sp_spec_forms.specs.Narrowing.{narrow_facts}
use Rattle.sp_law_forms.proofs.Shifted.{shift}
use Rattle.sp_law_forms.proofs.Over.{over_put}
use Rattle.sp_law_forms.proofs.Kept.{IsKept, Stays, stays_facts}

module _ (symbols : List Symbol) (es : List Equation) (over : EquationsAreOver symbols es) where
  -- as many arguments
  abbrev OverAs : Terms Variable → Terms Variable → Type 0
  OverAs ts us = AreTermsOver symbols us × (count us ≡ count ts)

  over_kept : IsKept es (IsTermOver symbols) (AreTermsOver symbols) OverAs
  over_kept = record {
    arguments = λ f ts h. h.1;
    first = λ t ts h. h.0;
    rest = λ t ts h. h.1;
    end = (tt, refl);
    beside = λ t u ts us o k. ((o, k.0), ap (λ n. suc n) k.1);
    under = λ f ts us h o. (subst (HasSymbol symbols f) (sym o.1) h.0, o.0);
    fitting = λ ts us o. o.0;
    left = λ e m n. over_put symbols (λ x. var (shift n x)) (λ x. tt) e.left (over.left e m);
    right = λ e m n. over_put symbols (λ x. var (shift n x)) (λ x. tt) e.right (over.right e m);
  }

  pub over_facts : (f : Facts Variable) → OfArguments (AreTermsOver symbols) f
      → Stays (IsTermOver symbols) (narrow_facts es f) (OfArguments (AreTermsOver symbols))
  over_facts f h = stays_facts (IsTermOver symbols) es (AreTermsOver symbols) OverAs over_kept f h
