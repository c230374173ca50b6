-- Equations that don't clash agree: where instances of their left sides are the same term, the right sides are too.
use Rattle.std.proofs.Common.{◌≡◌, ◌≤◌, ⊎_elim, Bool, true, false, List, Option, Some, None, refl, sym, ap, ◌∙◌, arith}
use Rattle.std.proofs.lemmas.Bool.Decides.{not_from_Decides}
use Rattle.sp_spec.specs.Term.{Variable, Term, Terms, Values, valued, valued_all}
use Rattle.sp_spec.specs.Signature.{Equation, RespectsSorts}
use Rattle.sp_spec.specs.Substitution.{Binding, bound_to, Fixes}
use Rattle.sp_spec.specs.Unifier.{mgu}
use Rattle.sp_spec.specs.Same.{same_variable, alike}
use Rattle.sp_spec.proofs.Same.{same_variable_decides, same_by_decides}
use Rattle.sp_law_equal.specs.Parts.{IsPart}
use Rattle.sp_law_equal.specs.SubtermRules.{IsSimple, DoAgree}
use Rattle.sp_law_equal.proofs.Parts.{proper_is_part, part_keeps}
use Rattle.sp_law_unify.specs.MostGeneral.{AreSolution}
use Rattle.sp_law_unify.proofs.Values.{keeps_value}
use Rattle.sp_law_unify.proofs.Unique.{unifier_law}
use Rattle.sp_spec_forms.specs.Shifted.{above, shifted}
use Rattle.sp_law_conv.specs.Clash.{apart, overlap, DoClash}
use Rattle.sp_law_conv.proofs.Apart.{joined, joined_respects, joined_below, joined_shifted}

-- whether two terms are the same can be told
same_unless_differ : (t u : Term Variable) → ((t ≡ u → ⊥) → ⊥) → t ≡ u
same_unless_differ t u h = by_test (alike t u) refl
  where
    by_test : (b : Bool) → alike t u ≡ b → t ≡ u
    by_test true e = (same_by_decides same_variable same_variable_decides t u).0 e
    by_test false e = absurd (h (not_from_Decides (alike t u) (same_by_decides same_variable same_variable_decides t u) e))

-- two equations, renamed apart, and values of each under which their left sides are the same
module _ (d e : Equation) (no_clash : DoClash d e → ⊥) (v w : Values) (r : RespectsSorts v) (s : RespectsSorts w) (same : valued v d.left ≡ valued w e.left) where
  abbrev both : Values
  both = joined (apart d) v w

  left_below : above d.left ≤ apart d
  left_below = omega arith

  right_below : above d.right ≤ apart d
  right_below = omega arith

  solves : AreSolution (overlap d e) both
  solves = record {
    respects = joined_respects (apart d) v w r s;
    makes_same = (joined_below (apart d) v w d.left left_below ∙ same ∙ sym (joined_shifted (apart d) v w e.left), tt);
  }

  -- the right sides are the same under the unifier, and so under the values, which it doesn't change
  by_bindings : (bs : List Binding) → mgu (overlap d e) ≡ Some bs → valued v d.right ≡ valued w e.right
  by_bindings bs is =
      let right : Term Variable = shifted (apart d) e.right in
      let fixed : Fixes both bs = (unifier_law.some (overlap d e) bs is).fixes both solves in
      let one : valued (bound_to bs) d.right ≡ valued (bound_to bs) right =
      same_unless_differ (valued (bound_to bs) d.right) (valued (bound_to bs) right) (λ differ. no_clash (bs, record { unified = is; differ = differ })) in
      sym (joined_below (apart d) v w d.right right_below)
      ∙ sym (keeps_value both bs fixed d.right)
      ∙ ap (valued both) one
      ∙ keeps_value both bs fixed right
      ∙ joined_shifted (apart d) v w e.right

  rights_same : valued v d.right ≡ valued w e.right
  rights_same = by_answer (mgu (overlap d e)) refl
    where
      by_answer : (o : Option (List Binding)) → mgu (overlap d e) ≡ o → valued v d.right ≡ valued w e.right
      by_answer None is = absurd ((unifier_law.none (overlap d e)).0 is both solves)
      by_answer (Some bs) is = by_bindings bs is

pub agree_unless_clash : (d e : Equation) → (DoClash d e → ⊥) → DoAgree d e
agree_unless_clash d e no_clash v w r s same = rights_same d e no_clash v w r s same

pub agree_turned : (d e : Equation) → DoAgree d e → DoAgree e d
agree_turned d e h v w r s same = sym (h w v s r (sym same))

-- values that give a term one value give each of its parts one
part_same : (v w : Values) (r t : Term Variable) → IsPart r t → valued v t ≡ valued w t → valued v r ≡ valued w r
part_same v w r t p same =
    part_keeps (λ (u : Term Variable). valued v u ≡ valued w u) (λ (us : Terms Variable). valued_all v us ≡ valued_all w us) (λ f ts e. cc) (λ u us e. cc) (λ u us e. cc) r t p same

pub agrees_itself : (e : Equation) → IsSimple e → DoAgree e e
agrees_itself e simple v w r s same =
    ⊎_elim
    (λ p. part_same v w e.right e.left (proper_is_part e.right e.left p) same)
    (λ c. ap (valued v) c.1 ∙ sym (ap (valued w) c.1))
    simple
