-- Entries of which the same lines tell are alike.
use Rattle.std.proofs.Common.{◌≡◌, ℕ, List, [], ◌∷◌, map, refl, sym, ap, ap₂, subst, ◌∙◌}
use Rattle.sp_spec.proofs.Lists.{every_member}
use Rattle.sp_spec.specs.Term.{Ground}
use Rattle.sp_spec.specs.Signature.{Equation}
use Rattle.sp_spec.specs.Rule.{Facts, Rule, facts_at, Gives, IsNormalFormOf}
use Rattle.sp_spec.specs.Theory.{Theory, signature_of}
use Rattle.sp_spec.specs.Log.{Entry, step, send, learn, entry_actions}
use Rattle.sp_law_equal.specs.Right.{IsRight}
use Rattle.sp_law_equal.specs.RightTheory.{IsRightTheory}
use Rattle.sp_law_equal.proofs.Facts.{one_normal_form}
use Rattle.sp_law_run.proofs.Instances.{one_rule, given_agree}
use Rattle.sp_spec_printed.specs.StepLines.{HaveNames}
use Rattle.sp_spec_log_lines.specs.Line.{Line, rule_line, send_line, learn_line}
use Rattle.sp_spec_log_lines.specs.Told.{IsInstanceBy, IsSaidOf, TellsOf, TellOf}
use Rattle.sp_law_log_lines.specs.Alike.{IsAlike, AreAlike}
use Rattle.sp_law_log_lines.specs.Laws.{LinesTellEntries}
use Rattle.sp_law_log_lines.proofs.ReadBack.{log_lines_are_read_back_lem}

module _ (theory : Theory) (good : IsRightTheory theory) where
  abbrev es : List Equation
  es = (signature_of theory).equations

  -- a rule's name and the values of its variables leave one instance in normal form
  instances_one : (name : List ℕ) (given : List (List ℕ × Ground)) (f g : Facts ⊥) → IsInstanceBy theory name given f → IsInstanceBy theory name given g → f ≡ g
  instances_one name given f g (r, r_in, r_is, v, v_gives, v_valued, v_normal) (q, q_in, q_is, w, w_gives, w_valued, w_normal) =
      let same : q ≡ r = one_rule theory.rules q r good.declared.distinct q_in r_in (q_is ∙ sym r_is) in
      let gives = subst (λ (p : Rule). Gives 0 p.variables given w) same w_gives in
      let agree = given_agree r (every_member IsRight theory.rules r r_in good.declared.each) given v w v_gives gives in
      let normal = subst (λ (h : Facts ⊥). IsNormalFormOf es h g) (ap (λ (p : Rule). facts_at w p.facts) same ∙ sym agree) w_normal in
      one_normal_form es good.instances.forms.normal_forms (facts_at v r.facts) f g v_normal normal

  -- entries of which one line says what it says
  said_alike : (x : Line) (e f : Entry) → IsSaidOf theory x e → IsSaidOf theory x f → IsAlike e f
  said_alike (rule_line name given) (step r facts sources) (step q others from) h k =
      let is : q ≡ r = sym k.0 ∙ h.0 in
      (sym is, instances_one r given facts others h.1 (subst (λ (n : List ℕ). IsInstanceBy theory n given others) is k.1))
  said_alike (send_line m) (send n) (send o) h k = sym h ∙ k
  said_alike (learn_line m way) (learn n how) (learn o other) h k = (sym h.0 ∙ k.0, sym h.1 ∙ k.1)
  said_alike (rule_line name given) (step r facts sources) (send m) h k = absurd k
  said_alike (rule_line name given) (step r facts sources) (learn m how) h k = absurd k
  said_alike (rule_line name given) (send m) f h k = absurd h
  said_alike (rule_line name given) (learn m how) f h k = absurd h
  said_alike (send_line m) (send n) (step r facts sources) h k = absurd k
  said_alike (send_line m) (send n) (learn o how) h k = absurd k
  said_alike (send_line m) (step r facts sources) f h k = absurd h
  said_alike (send_line m) (learn n how) f h k = absurd h
  said_alike (learn_line m way) (learn n how) (step r facts sources) h k = absurd k
  said_alike (learn_line m way) (learn n how) (send o) h k = absurd k
  said_alike (learn_line m way) (step r facts sources) f h k = absurd h
  said_alike (learn_line m way) (send n) f h k = absurd h

  module _ (named : HaveNames (signature_of theory).symbols) where
    told_alike : (text : List ℕ) (e f : Entry) → TellsOf theory text e → TellsOf theory text f → IsAlike e f
    told_alike text e f (x, x_line, x_said) (y, y_line, y_said) =
        let same = log_lines_are_read_back_lem.one (signature_of theory).symbols named text x y x_line y_line in
        said_alike x e f x_said (subst (λ (z : Line). IsSaidOf theory z f) (sym same) y_said)

    all_alike : (texts : List (List ℕ)) (xs ys : List Entry) → TellOf theory texts xs → TellOf theory texts ys → AreAlike xs ys
    all_alike [] [] [] h k = tt
    all_alike [] [] (y ∷ ys) h k = absurd k
    all_alike [] (x ∷ xs) ys h k = absurd h
    all_alike (text ∷ texts) [] ys h k = absurd h
    all_alike (text ∷ texts) (x ∷ xs) [] h k = absurd k
    all_alike (text ∷ texts) (x ∷ xs) (y ∷ ys) h k = (told_alike text x y h.0 k.0, all_alike texts xs ys h.1 k.1)

-- ---- what is alike shows the same

same_actions : (e f : Entry) → IsAlike e f → entry_actions e ≡ entry_actions f
same_actions (step r facts sources) (step q others from) h = ap (λ (x : Facts ⊥). x.actions) h.1
same_actions (step r facts sources) (send m) h = absurd h
same_actions (step r facts sources) (learn m how) h = absurd h
same_actions (send m) (send n) h = ap (λ (x : Ground). entry_actions (send x)) h
same_actions (send m) (step r facts sources) h = absurd h
same_actions (send m) (learn n how) h = absurd h
same_actions (learn m how) (learn n other) h = ap (λ (x : Ground). entry_actions (learn x how)) h.0
same_actions (learn m how) (step r facts sources) h = absurd h
same_actions (learn m how) (send n) h = absurd h

same_trace : (xs ys : List Entry) → AreAlike xs ys → map entry_actions xs ≡ map entry_actions ys
same_trace [] [] h = refl
same_trace [] (y ∷ ys) h = absurd h
same_trace (x ∷ xs) [] h = absurd h
same_trace (x ∷ xs) (y ∷ ys) h = ap₂ (λ a as'. a ∷ as') (same_actions x y h.0) (same_trace xs ys h.1)

pub lines_tell_entries_lem : LinesTellEntries
lines_tell_entries_lem = record {
  alike = all_alike;
  trace = λ theory good named texts xs ys h k. same_trace xs ys (all_alike theory good named texts xs ys h k);
}
