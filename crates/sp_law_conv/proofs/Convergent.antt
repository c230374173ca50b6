-- Accepted equations are subterm rules that bring in no symbol.
use Rattle.std.proofs.Common.{◌≡◌, ⊎_elim, inl, inr, ℕ, false, List, refl, subst}
use Rattle.std.proofs.lemmas.Bool.{cases_order}
use Rattle.sp_spec.specs.Lists.{Member, AtPlace}
use Rattle.sp_spec.specs.Term.{Variable, Term, var, constant, name, app, none, more}
use Rattle.sp_spec.specs.Signature.{Symbol, Equation, HasPublic}
use Rattle.sp_law_equal.specs.SubtermRules.{IsSimple, DoAgree, AreSubtermRules, BringInNoSymbols}
use Rattle.sp_law_equal.proofs.SubtermRules.{subterm_rules_have_normal_forms}
use Rattle.sp_law_equal.proofs.Over.{keep_symbols}
use Rattle.sp_law_conv.specs.Accepted.{IsConstant, AreAccepted}
use Rattle.sp_law_equal.specs.Right.{EquationsAreOver, KeepPublic}
use Rattle.sp_law_conv.specs.Laws.{HaveOneArity, AcceptedAreConvergent}
use Rattle.sp_law_conv.proofs.Places.{member_place}
use Rattle.sp_law_conv.proofs.Nameless.{accepted_nameless}
use Rattle.sp_law_conv.proofs.Constructors.{left_plain, right_plain}
use Rattle.sp_law_conv.proofs.Agreement.{agree_unless_clash, agree_turned, agrees_itself}
use Rattle.sp_spec.proofs.Lists.{place_one}

-- a constant that the adversary may apply is its symbol without arguments
constant_symbol : (symbols : List Symbol) (t : Term Variable) → IsConstant symbols false t → (c : List ℕ) × (t ≡ app c none) × HasPublic symbols c 0
constant_symbol symbols (var x) h = absurd h
constant_symbol symbols (constant c) h = absurd h
constant_symbol symbols (name n) h = absurd h
constant_symbol symbols (app c none) h = (c, refl, h)
constant_symbol symbols (app c (more t ts)) h = absurd h

module _ (symbols : List Symbol) (es : List Equation) (good : AreAccepted symbols es) where
  keeps_public : KeepPublic symbols es
  keeps_public = record { each = λ e m. ⊎_elim (λ p. inl p) (λ c. inr (constant_symbol symbols e.right c)) (good.each e m).leads }

  no_symbols : BringInNoSymbols symbols es
  no_symbols = record { each = λ e m. ⊎_elim (λ p. inl p) (λ c. inr (c.0, c.1, (false, c.2))) (keeps_public.each e m) }

  simple : (e : Equation) → Member e es → IsSimple e
  simple e m = ⊎_elim (λ p. inl p) (λ c. inr (c.0, c.1)) (keeps_public.each e m)

  -- an equation agrees with itself, and with each that stands at another place
  agree_at : (j k : ℕ) (d e : Equation) → Member d es → AtPlace es j d → AtPlace es k e → DoAgree d e
  agree_at j k d e m p q =
      ⊎_elim
      (λ same. subst (DoAgree d) (place_one es k d e (subst (λ i. AtPlace es i d) same p) q) (agrees_itself d (simple d m)))
      (λ apart.
      ⊎_elim
      (λ less. agree_unless_clash d e (good.agree j k d e p q less))
      (λ less. agree_turned e d (agree_unless_clash e d (good.agree k j e d q p less)))
      apart)
      (cases_order j k)

  agree : (d e : Equation) → Member d es → Member e es → DoAgree d e
  agree d e m n = let p = member_place es d m in let q = member_place es e n in agree_at p.0 q.0 d e m p.1 q.1

  subterm_rules : HaveOneArity symbols → EquationsAreOver symbols es → AreSubtermRules es
  subterm_rules one over = record {
    left_plain = left_plain symbols es one over good;
    right_plain = right_plain symbols es one over good;
    simple = simple;
    agree = agree;
  }

pub convergence_law : AcceptedAreConvergent
convergence_law = record {
  subterm_rules = λ symbols es one over good. subterm_rules symbols es good one over;
  no_symbols = no_symbols;
  no_names = accepted_nameless;
  public = keeps_public;
  normal_forms = λ symbols es one over good. subterm_rules_have_normal_forms es (subterm_rules symbols es good one over);
  keep = λ symbols es good. keep_symbols symbols es (no_symbols symbols es good);
}
