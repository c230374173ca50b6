-- At an application whose arguments have normal values some choice gives the normal form of its value.
use Rattle.std.proofs.Common.{◌≡◌, ⊎_elim, inl, inr, ℕ, ◌+◌, ◌<◌, List, ◌∷◌, Option, Some, None, refl, sym, ap, ◌∙◌, subst, arith}
use Rattle.sp_spec.specs.Lists.{Member}
use Rattle.sp_spec.specs.Term.{Variable, Term, app, Terms, Grounds, Values, valued, valued_all}
use Rattle.sp_spec.specs.Signature.{Equation, Signature, RespectsSorts, IsOver}
use Rattle.sp_spec.specs.Equal.{IsNormal, AreNormal}
use Rattle.sp_spec.specs.Substitution.{Binding}
use Rattle.sp_spec.specs.Unifier.{Pair, mgu}
use Rattle.sp_law_equal.specs.Matching.{value_in}
use Rattle.sp_law_equal.specs.NormalForms.{HasNormalForms}
use Rattle.sp_law_equal.specs.Normal.{reduced, normal}
use Rattle.sp_law_equal.proofs.Forms.{Used, reduced_by, normal_all_of_normal}
use Rattle.sp_law_unify.specs.MostGeneral.{AreSolution}
use Rattle.sp_law_unify.proofs.Unique.{unifier_law}
use Rattle.sp_spec_forms.specs.Shifted.{above, shifted}
use Rattle.sp_law_conv.proofs.Apart.{joined}
use Rattle.sp_spec_forms.specs.Narrowing.{Chosen, if_unified, by_equation, choices}
use Rattle.sp_law_forms.specs.Laws.{IsNormalValuation}
use Rattle.sp_law_forms.proofs.Shifted.{AgreeBelow, shift, shifted_below}
use Rattle.sp_law_forms.proofs.Lists.{member_flat_map}
use Rattle.sp_law_forms.proofs.Ways.{Holds, Begun, Reached, Completes}
use Rattle.sp_law_forms.proofs.Roots.{no_variable}
use Rattle.sp_law_forms.proofs.Values.{within, within_left, within_right, within_good, joined_old, joined_new, joined_good}

-- pairs that have a solution are unified
pub unifies : (pairs : List Pair) (v : Values) → AreSolution pairs v → (bs : List Binding) × (mgu pairs ≡ Some bs)
unifies pairs v h = by_answer (mgu pairs) refl
  where
    by_answer : (o : Option (List Binding)) → mgu pairs ≡ o → (bs : List Binding) × (mgu pairs ≡ Some bs)
    by_answer None e = absurd ((unifier_law.none pairs).0 e v h)
    by_answer (Some bs) e = (bs, e)

pub respects : (signature : Signature) (v : Values) → IsNormalValuation signature v → RespectsSorts v
respects signature v h x = (h.0 x).0

module _ (signature : Signature) (good : HasNormalForms signature) (first : ℕ) (given : Values) where
  abbrev es : List Equation
  es = signature.equations

  module _ (f : List ℕ) (us : Terms Variable) (ns : Grounds) (are_normal : AreNormal es ns) (over : IsOver signature.symbols (app f ns)) where
    abbrev Before : Values → Type 0
    Before w = valued_all w us ≡ ns

    abbrev After : Values → Term Variable → Type 0
    After w t = valued w t ≡ reduced es (app f ns)

    -- that is its normal form
    is_form : normal es (app f ns) ≡ reduced es (app f ns)
    is_form = ap (λ ws. reduced es (app f ws)) (normal_all_of_normal es ns are_normal)

    module _ (s : Chosen) (v : Values) (b : Begun (IsNormalValuation signature) first given s v Before) where
      abbrev Goal : Type 0
      Goal = Reached (IsNormalValuation signature) first given (choices es (app f us) s) s v After

      left : (reduced es (app f ns) ≡ app f ns) → Goal
      left n = record {
        result = (app f us, s);
        among = inl refl;
        values = v;
        begun = record {
          good = b.good;
          starts = b.starts;
          enough = b.enough;
          holds = λ w a. let k = b.holds w a in (k.0, ap (app f) k.1 ∙ sym n);
        };
        agree = λ x lt. refl;
        later = omega arith;
      }

      used : Used es (app f ns) (reduced es (app f ns)) → Goal
      used u = record {
        result = (shifted s.next e.right, state);
        among = inr (member_flat_map (by_equation (app f us) s) e _ es u.2 chosen);
        values = x;
        begun = record {
          good = x_good;
          starts = λ y lt. b.starts y lt ∙ joined_old s.next v m y (let le = b.enough in omega (arith, lt, le));
          enough = let le = b.enough in omega (arith, le);
          holds = holds;
        };
        agree = joined_old s.next v m;
        later = omega arith;
      }
        where
          e : Equation
          e = u.0

          m : Values
          m = within e (value_in u.1)

          x : Values
          x = joined s.next v m

          m_good : IsNormalValuation signature m
          m_good =
              within_good signature e (value_in u.1) f ns (no_variable es good.normal_forms e u.2 (value_in u.1) u.3.respects f ns u.3.gives) u.3.respects u.3.gives
              are_normal over.1
              (subst (IsNormal es) (is_form ∙ u.4) (good.normal_forms.is_normal (app f ns)))
              (subst (IsOver signature.symbols) (is_form ∙ u.4) (good.keeps.kept (app f ns) over))

          x_good : IsNormalValuation signature x
          x_good = joined_good signature s.next v m b.good m_good

          state : Chosen
          state = record { pairs = (app f us, shifted s.next e.left) ∷ s.pairs; next = s.next + (above e.left + above e.right) }

          left_same : valued m e.left ≡ app f ns
          left_same = within_left e (value_in u.1) ∙ u.3.gives

          right_same : valued m e.right ≡ reduced es (app f ns)
          right_same = within_right e (value_in u.1) ∙ sym u.4

          new : (w : Values) → AgreeBelow state.next x w → (y : Variable) → y.number < above e.left + above e.right → w (shift s.next y) ≡ m y
          new w a y lt = sym (a (shift s.next y) (omega (arith, lt))) ∙ joined_new s.next v m y

          holds : Holds state x (λ w. After w (shifted s.next e.right))
          holds w a =
              let k = b.holds w (λ y lt. joined_old s.next v m y lt ∙ a y (omega (arith, lt))) in (
                (
                  ap (app f) k.1 ∙ sym left_same ∙ sym (shifted_below s.next (above e.left + above e.right) m w e.left (omega arith) (new w a)),
                  k.0,
                ),
                shifted_below s.next (above e.left + above e.right) m w e.right (omega arith) (new w a) ∙ right_same,
              )

          chosen : Member {A = Term Variable × Chosen} (shifted s.next e.right, state) (by_equation (app f us) s e)
          chosen =
              let made = unifies state.pairs x (record { respects = respects signature x x_good; makes_same = (holds x (λ y lt. refl)).0 }) in
              subst (λ (o : Option (List Binding)). Member {A = Term Variable × Chosen} (shifted s.next e.right, state) (if_unified o (shifted s.next e.right, state))) (sym made.1) (inl refl)

    pub completes_choices : Completes (IsNormalValuation signature) first given Before (choices es (app f us)) After
    completes_choices s v b = ⊎_elim (λ u. used s v b u) (λ n. left s v b n.0) (reduced_by es (app f ns))
