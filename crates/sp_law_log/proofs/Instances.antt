-- A step of a log is the normal form of an instance of a rule under normal values: where a fresh name in its facts comes from.
use Rattle.std.proofs.Common.{◌≡◌, ⊎_elim, ℕ, true, if◌then◌else◌, List, [], ◌∷◌, map, refl, sym, ap, ◌∙◌, subst, inl, inr, codes, not}
use Rattle.std.proofs.lemmas.Bool.{and_parts, not-true}
use Rattle.std.proofs.lemmas.Slice.Eq.{bytes_eq-Decides}
use Rattle.std.specs.Str.{bytes_eq}
use Rattle.sp_spec.specs.Lists.{Member, Every}
use Rattle.sp_spec.specs.Term.{Sort, Pub, Variable, Terms, name, none, more, Ground, Grounds, Values, valued_all}
use Rattle.sp_spec.specs.Signature.{Equation, HasSort, RespectsSorts}
use Rattle.sp_spec.specs.Rule.{Fact, Action, Facts, Rule, IsFreshVariable, fact_at, action_at, facts_at, fr}
use Rattle.sp_spec.specs.Theory.{Theory, signature_of}
use Rattle.sp_spec.specs.Log.{IsRuleInstance, is_fr, first_arg, fresh_of}
use Rattle.sp_spec.proofs.Facts.{same_fact_parts}
use Rattle.sp_spec.proofs.Lists.{every_member, member_map, member_mapped, member_right}
use Rattle.sp_law_equal.specs.Parts.{IsPart, IsPartOfOne}
use Rattle.sp_law_equal.specs.Normal.{normal_all, normal_fact, normal_action, normal_facts}
use Rattle.sp_law_equal.specs.RightTheory.{HasNormalInstances, HasPlainPremises, TakesFreshNames, AreBound, BindsActions, BindsConclusions, HasVariable}
use Rattle.sp_law_equal.proofs.Forms.{normals, normals_respect}
use Rattle.sp_law_equal.proofs.Facts.{facts_normal_form_only, facts_value}
use Rattle.sp_law_equal.proofs.NormalNames.{normal_names_all}
use Rattle.sp_law_equal.proofs.PlainFacts.{plain_facts}
use Rattle.sp_law_log.proofs.NameParts.{from_variables, in_premise, in_public, in_fresh}

-- an Fr over a term uses it
fr_used : (fs : List (Fact ⊥)) (f : Fact ⊥) → Member f fs → is_fr f ≡ true → (t : Ground) → f.args ≡ more t none → Member t (fresh_of fs)
fr_used [] f m e t args = absurd m
fr_used (g ∷ fs) f (inl m) e t args =
    let k : is_fr g ≡ true = ap (λ (z : Fact ⊥). is_fr z) m ∙ e in
    let l : g.args ≡ more t none = ap (λ (z : Fact ⊥). z.args) m ∙ args in
    rw k (rw l (inl refl))
fr_used (g ∷ fs) f (inr m) e t args = member_right t (if is_fr g then first_arg g.args else []) (fresh_of fs) (fr_used fs f m e t args)

-- a fact that is an Fr of a term
is_fr_of : (f : Fact ⊥) (t : Ground) → is_fr f ≡ true → f.args ≡ more t none → f ≡ fr t
is_fr_of f t e args =
    let both = and_parts (bytes_eq f.symbol (codes "Fr")) (not f.persistent) e in
    same_fact_parts f (fr t) ((bytes_eq-Decides f.symbol (codes "Fr")).0 both.0) (not-true f.persistent both.1) args

module _ (theory : Theory) (good : HasNormalInstances theory) (shown : Every BindsActions theory.rules) (bound : Every BindsConclusions theory.rules) (fresh : Every TakesFreshNames theory.rules) where
  abbrev es : List Equation
  es = (signature_of theory).equations

  -- the rule and the normal values of which the step is an instance
  pub record NormalStep (facts : Facts ⊥) : Type 0 where
    pub rule : Rule
    pub is_rule : Member rule theory.rules
    pub values : Values
    pub sorts : RespectsSorts values
    pub premises : facts.premises ≡ map (fact_at values) rule.facts.premises
    pub actions : facts.actions ≡ map (normal_action es) (map (action_at values) rule.facts.actions)
    pub conclusions : facts.conclusions ≡ map (normal_fact es) (map (fact_at values) rule.facts.conclusions)

  pub normal_step : (r : List ℕ) (facts : Facts ⊥) → IsRuleInstance theory r facts → NormalStep facts
  normal_step r facts s =
      let own = s.0.facts in
      let forms = good.forms.normal_forms in
      let only : facts ≡ normal_facts es (facts_at s.3 own) = facts_normal_form_only es forms (facts_at s.3 own) facts s.5 in
      record {
        rule = s.0;
        is_rule = s.1;
        values = normals es s.3;
        sorts = normals_respect es s.3 (λ x. (s.4 x).0);
        premises = ap (λ (f : Facts ⊥). f.premises) only ∙ plain_facts es forms s.3 own.premises (every_member (HasPlainPremises es) theory.rules s.0 s.1 good.premises);
        actions = ap (λ (f : Facts ⊥). f.actions) (only ∙ facts_value es forms s.3 own);
        conclusions = ap (λ (f : Facts ⊥). f.conclusions) (only ∙ facts_value es forms s.3 own);
      }

  module _ (facts : Facts ⊥) (s : NormalStep facts) (n : ℕ) where
    -- a premise Fr in which the name stands is that of the name
    fr_args : (f : Fact ⊥) → Member f facts.premises → is_fr f ≡ true → IsPartOfOne (name n) f.args → f.args ≡ more (name n) none
    fr_args f m e p =
        let own = s.rule.facts.premises in
        let g = member_mapped (fact_at s.values) f own (subst (λ (fs : List (Fact ⊥)). Member f fs) s.premises m) in
        let takes = every_member TakesFreshNames theory.rules s.rule s.is_rule fresh in
        let x = every_member (λ (h : Fact Variable). is_fr h ≡ true → IsFreshVariable h.args) own g.0 g.1 takes (subst (λ (h : Fact ⊥). is_fr h ≡ true) (sym g.2) e) in
        let args : f.args ≡ more (s.values x.0) none = ap (λ (h : Fact ⊥). h.args) (sym g.2) ∙ ap (valued_all s.values) x.2 in
        let only = subst (λ (ts : Grounds). IsPartOfOne (name n) ts) args p in
        let whole = in_fresh n (s.values x.0) (subst (λ (z : Sort). HasSort z (s.values x.0)) x.1 (s.sorts x.0)) (⊎_elim (λ k. k) (λ k. absurd k) only) in
        args ∙ ap (λ (t : Ground). let ts : Grounds = more t none in ts) whole

    pub fr_premise : (f : Fact ⊥) → Member f facts.premises → is_fr f ≡ true → IsPartOfOne (name n) f.args → (f ≡ fr (name n)) × Member (name n) (fresh_of facts.premises)
    fr_premise f m e p = let args = fr_args f m e p in (is_fr_of f (name n) e args, fr_used facts.premises f m e (name n) args)

    not_public : (x : Variable) → IsPart (name n) (s.values x) → x.sort ≡ Pub → ⊥
    not_public x p e = in_public n (s.values x) (subst (λ (z : Sort). HasSort z (s.values x)) e (s.sorts x)) p

    of_instance : (f : Fact Variable) → Member f s.rule.facts.premises → Member (fact_at s.values f) facts.premises
    of_instance f m = subst (λ (fs : List (Fact ⊥)). Member (fact_at s.values f) fs) (sym s.premises) (member_map (fact_at s.values) f s.rule.facts.premises m)

    -- a name in the normal form of what the rule has bound stands in a premise
    bound_name : (ts : Terms Variable) → AreBound s.rule.facts.premises ts → IsPartOfOne (name n) (normal_all es (valued_all s.values ts))
        → (g : Fact ⊥) × Member g facts.premises × IsPartOfOne (name n) g.args
    bound_name ts binds p =
        let v = s.values in
        let own = s.rule.facts.premises in
        let is_bound : Variable → Type 0 = λ x. (x.sort ≡ Pub → ⊥) → HasVariable x own in
        let inside = normal_names_all es good.forms.normal_forms good.forms.nameless n (valued_all v ts) p in
        let x = from_variables v n is_bound ts binds inside in
        let r = in_premise v n x.0 x.2 own (x.1 (not_public x.0 x.2)) in
        (fact_at v r.0, of_instance r.0 r.1, r.2)

    pub conclusion_from : (f : Fact ⊥) → Member f facts.conclusions → IsPartOfOne (name n) f.args → (g : Fact ⊥) × Member g facts.premises × IsPartOfOne (name n) g.args
    conclusion_from f m p =
        let own = s.rule.facts.conclusions in
        let a = member_mapped (normal_fact es) f (map (fact_at s.values) own) (subst (λ (fs : List (Fact ⊥)). Member f fs) s.conclusions m) in
        let b = member_mapped (fact_at s.values) a.0 own a.1 in
        let binds = every_member BindsConclusions theory.rules s.rule s.is_rule bound in
        bound_name b.0.args (every_member (λ (g : Fact Variable). AreBound s.rule.facts.premises g.args) own b.0 b.1 binds)
        (subst (λ (h : Fact ⊥). IsPartOfOne (name n) (normal_all es h.args)) (sym b.2) (subst (λ (h : Fact ⊥). IsPartOfOne (name n) h.args) (sym a.2) p))

    pub action_from : (a : Action ⊥) → Member a facts.actions → IsPartOfOne (name n) a.args → (g : Fact ⊥) × Member g facts.premises × IsPartOfOne (name n) g.args
    action_from f m p =
        let own = s.rule.facts.actions in
        let a = member_mapped (normal_action es) f (map (action_at s.values) own) (subst (λ (xs : List (Action ⊥)). Member f xs) s.actions m) in
        let b = member_mapped (action_at s.values) a.0 own a.1 in
        let binds = every_member BindsActions theory.rules s.rule s.is_rule shown in
        bound_name b.0.args (every_member (λ (g : Action Variable). AreBound s.rule.facts.premises g.args) own b.0 b.1 binds)
        (subst (λ (h : Action ⊥). IsPartOfOne (name n) (normal_all es h.args)) (sym b.2) (subst (λ (h : Action ⊥). IsPartOfOne (name n) h.args) (sym a.2) p))
