-- Over subterm rules each term has one normal form.
use Rattle.std.proofs.Common.{◌≡◌, ⊎_elim, ℕ, List, refl, sym, ap, ◌∙◌, subst}
use Rattle.sp_spec.specs.Lists.{Member}
use Rattle.sp_spec.specs.Term.{Variable, Term, var, constant, name, app, none, more, Ground, Grounds, Values, valued}
use Rattle.sp_spec.specs.Signature.{Equation, RespectsSorts}
use Rattle.sp_spec.specs.Equal.{Rewriting, at_root, below, RewritingIn, here, there, Equal, IsNormal, AreNormal}
use Rattle.sp_law_equal.specs.Matching.{value_in}
use Rattle.sp_law_equal.specs.Destructors.{HasRoot, IsDestructor, IsPlain}
use Rattle.sp_law_equal.specs.Parts.{IsProperPart}
use Rattle.sp_law_equal.specs.SubtermRules.{IsPlainBelow, AreSubtermRules}
use Rattle.sp_law_equal.specs.Normal.{reduced, normal, normal_all}
use Rattle.sp_law_equal.specs.NormalForms.{HaveNormalForms}
use Rattle.sp_law_equal.proofs.Chains.{equal_trans, equal_sym, chain_kept}
use Rattle.sp_law_equal.proofs.Parts.{proper_part_valued, part_of_one_normal}
use Rattle.sp_law_equal.proofs.Forms.{Used, reduced_by, normals, normals_respect, to_normal, OthersMatchNone, plain_form, plain_form_all}

module _ (es : List Equation) where
  -- an instance of a left side has the symbol of the left side at its root
  root_of : (v : Values) (l : Term Variable) (f : List ℕ) (us : Grounds) → IsPlainBelow es l → valued v l ≡ app f us → HasRoot f l
  root_of v (var x) f us p e = absurd p
  root_of v (constant c) f us p e = absurd p
  root_of v (name n) f us p e = absurd p
  root_of v (app g ts) f us p e = cc

  others_match_none : AreSubtermRules es → OthersMatchNone es
  others_match_none rules f us other e m v r k = other (e, m, root_of v e.left f us (rules.left_plain e m) k)

  module _ (rules : AreSubtermRules es) where
    -- the normal form of an instance of a left side is that of the root step at the normal forms
    normal_left : (v : Values) (l : Term Variable) → IsPlainBelow es l → normal es (valued v l) ≡ reduced es (valued (normals es v) l)
    normal_left v (var x) p = absurd p
    normal_left v (constant c) p = absurd p
    normal_left v (name n) p = absurd p
    normal_left v (app f ts) p = ap (λ us. reduced es (app f us)) (plain_form_all es (others_match_none rules) v ts p)

    -- both sides of an equation have one normal form
    equation_normal : (e : Equation) → Member e es → (v : Values) → RespectsSorts v → normal es (valued v e.left) ≡ normal es (valued v e.right)
    equation_normal e m v r =
        let w : Values = λ x. normal es (v x) in
        let s = normals_respect es v r in
        normal_left v e.left (rules.left_plain e m)
        ∙ ⊎_elim
        (λ u. u.4 ∙ rules.agree u.0 e u.2 m (value_in u.1) w u.3.respects s u.3.gives)
        (λ n. absurd (n.1 e m w s refl))
        (reduced_by es (valued w e.left))
        ∙ sym (plain_form es (others_match_none rules) v e.right (rules.right_plain e m))

    mutual
      over_rewriting : {t u : Ground} → Rewriting es t u → normal es t ≡ normal es u
      over_rewriting (at_root e m v r is is') = ap (normal es) is ∙ equation_normal e m v r ∙ ap (normal es) (sym is')
      over_rewriting (below {f = f} l) = ap (λ ws. reduced es (app f ws)) (over_rewriting_in l)

      over_rewriting_in : {ts us : Grounds} → RewritingIn es ts us → normal_all es ts ≡ normal_all es us
      over_rewriting_in (here {ts = ts} l) = ap (λ w. more w (normal_all es ts)) (over_rewriting l)
      over_rewriting_in (there {t = t} l) = ap (more (normal es t)) (over_rewriting_in l)

    -- a constant that isn't a destructor is normal
    constant_normal : (c : List ℕ) → (IsDestructor es c → ⊥) → IsNormal es (app c none)
    constant_normal c h = (tt, others_match_none rules c none h)

    used_normal : (f : List ℕ) (us : Grounds) → AreNormal es us → Used es (app f us) (reduced es (app f us)) → IsNormal es (reduced es (app f us))
    used_normal f us n u =
        let e = u.0 in
        let v = value_in u.1 in
        subst (λ (w : Ground). IsNormal es w) (sym u.4)
        (⊎_elim
        (λ p.
        let q : IsProperPart (valued v e.right) (app f us) =
        subst (λ (w : Ground). IsProperPart (valued v e.right) w) u.3.gives (proper_part_valued v e.right e.left p) in
        part_of_one_normal es (valued v e.right) us q n)
        (λ p.
        let plain : IsPlain es (app p.0 none) = subst (λ (r : Term Variable). IsPlain es r) p.1 (rules.right_plain e u.2) in
        subst (λ (r : Term Variable). IsNormal es (valued v r)) (sym p.1) (constant_normal p.0 plain.0))
        (rules.simple e u.2))

  mutual
    form_is_normal : AreSubtermRules es → (t : Ground) → IsNormal es (normal es t)
    form_is_normal rules (var x) = absurd x
    form_is_normal rules (constant c) = tt
    form_is_normal rules (name n) = tt
    form_is_normal rules (app f ts) =
        let us = normal_all es ts in
        ⊎_elim
        (λ u. used_normal rules f us (forms_are_normal rules ts) u)
        (λ n. let whole : IsNormal es (app f us) = (forms_are_normal rules ts, n.1) in subst (λ (w : Ground). IsNormal es w) (sym n.0) whole)
        (reduced_by es (app f us))

    forms_are_normal : AreSubtermRules es → (ts : Grounds) → AreNormal es (normal_all es ts)
    forms_are_normal rules none = tt
    forms_are_normal rules (more t ts) = (form_is_normal rules t, forms_are_normal rules ts)

  pub subterm_rules_have_normal_forms : AreSubtermRules es → HaveNormalForms es
  subterm_rules_have_normal_forms rules = record {
    is_normal = form_is_normal rules;
    equal = λ t. to_normal es t;
    decides = λ t u. (
      λ h. chain_kept es (normal es) (λ w w' l. over_rewriting rules l) t u h,
      λ e. equal_trans es t (normal es t) u (to_normal es t) (subst (λ (w : Ground). Equal es w u) (sym e) (equal_sym es u (normal es u) (to_normal es u))),
    );
  }
