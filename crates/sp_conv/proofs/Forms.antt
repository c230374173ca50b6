-- Which form an equation has.
use Rattle.std.proofs.Common.{◌≡◌, true, false, not, ◌&&◌, List, refl, ⊎_elim}
use Rattle.std.proofs.lemmas.Bool.{and_parts, and_from, both_ways, and_right, not_from_false, cases_Bool}
use Rattle.sp_spec.specs.Signature.{Symbol, Equation}
use Rattle.sp_law_conv.specs.Accepted.{IsWellFormed, HasPrivateConstant, HasWrongShape}
use Rattle.sp_conv.specs.declared.form.Form.{Form}
use Rattle.sp_conv.specs.declared.form.Form.TheVariants.{WellFormed, PrivateConstant, WrongShape}
use Rattle.sp_conv.specs.Forms.{IsForm}
use Rattle.sp_conv.specs.Tests.{is_constant, have_form, leads, is_well_formed, has_private_constant}
use Rattle.sp_conv.proofs.Tests.{is_well_formed_decides, has_private_constant_decides}

module _ (symbols : List Symbol) (es : List Equation) (e : Equation) where
  -- a private constant has the form that is asked for
  private_formed : has_private_constant symbols es e ≡ true → (have_form es e ≡ true) × (is_constant symbols true e.right ≡ true)
  private_formed h =
      let both = and_parts (have_form es e) (is_constant symbols true e.right && not (is_well_formed symbols es e)) h in
      (both.0, (and_parts (is_constant symbols true e.right) (not (is_well_formed symbols es e)) both.1).0)

  pub without_form : have_form es e ≡ false → HasWrongShape symbols es e
  without_form h = record {
    wrong = λ w. both_ways (have_form es e) h (and_parts (have_form es e) (leads symbols e) ((is_well_formed_decides symbols es e).1 w)).0;
    other = λ p. both_ways (have_form es e) h (private_formed ((has_private_constant_decides symbols es e).1 p)).0;
  }

  pub formed_leads : have_form es e ≡ true → leads symbols e ≡ true → IsWellFormed symbols es e
  formed_leads h l = (is_well_formed_decides symbols es e).0 (and_from (have_form es e) (leads symbols e) h l)

  leads_nowhere : leads symbols e ≡ false → IsWellFormed symbols es e → ⊥
  leads_nowhere l w = both_ways (leads symbols e) l (and_parts (have_form es e) (leads symbols e) ((is_well_formed_decides symbols es e).1 w)).1

  pub private_leads : have_form es e ≡ true → leads symbols e ≡ false → is_constant symbols true e.right ≡ true → HasPrivateConstant symbols es e
  private_leads h l p =
      let public = is_well_formed symbols es e in
      (has_private_constant_decides symbols es e).0
      (and_from (have_form es e) (is_constant symbols true e.right && not public) h
      (and_from (is_constant symbols true e.right) (not public) p (not_from_false public (and_right (have_form es e) (leads symbols e) l))))

  pub leads_wrong : leads symbols e ≡ false → is_constant symbols true e.right ≡ false → HasWrongShape symbols es e
  leads_wrong l p = record {
    wrong = leads_nowhere l;
    other = λ q. both_ways (is_constant symbols true e.right) p (private_formed ((has_private_constant_decides symbols es e).1 q)).1;
  }

  -- an equation has one form
  pub one_form : (f g : Form) → IsForm symbols es e f → IsForm symbols es e g → f ≡ g
  one_form WellFormed WellFormed a b = refl
  one_form WellFormed PrivateConstant a b = absurd (b.wrong a)
  one_form WellFormed WrongShape a b = absurd (b.wrong a)
  one_form PrivateConstant WellFormed a b = absurd (a.wrong b)
  one_form PrivateConstant PrivateConstant a b = refl
  one_form PrivateConstant WrongShape a b = absurd (b.other a)
  one_form WrongShape WellFormed a b = absurd (a.wrong b)
  one_form WrongShape PrivateConstant a b = absurd (a.other b)
  one_form WrongShape WrongShape a b = refl

  pub else_well_formed : (HasWrongShape symbols es e → ⊥) → (HasPrivateConstant symbols es e → ⊥) → IsWellFormed symbols es e
  else_well_formed w p =
      ⊎_elim (is_well_formed_decides symbols es e).0
      (λ h. absurd (w (record { wrong = λ k. both_ways (is_well_formed symbols es e) h ((is_well_formed_decides symbols es e).1 k); other = p })))
      (cases_Bool (is_well_formed symbols es e))
