-- A public symbol over learnt messages: the normal form of the application can be learnt.
use Rattle.std.proofs.Common.{◌≡◌, ⊎_elim, inl, inr, ℕ, List, [], ◌∷◌, Option, Some, None, option_map, unwrap_or, refl, sym, ap, ◌∙◌, subst}
use Rattle.sp_spec.specs.Lists.{Member}
use Rattle.sp_spec.specs.Term.{app, none, Ground, Grounds, count, Values, valued, valued_all}
use Rattle.sp_spec.specs.Signature.{Equation, HasPublic, RespectsSorts}
use Rattle.sp_spec.specs.Equal.{IsNormal, AreNormal}
use Rattle.sp_spec.specs.Theory.{Theory, signature_of}
use Rattle.sp_spec.specs.Destruction.{Fork, way_to}
use Rattle.sp_spec.specs.Log.{constructed, Log, IsLearnt, AreLearnt, IsLog}
use Rattle.sp_law_equal.specs.Matching.{Bound, value_in, IsMatch, matched}
use Rattle.sp_law_equal.specs.NormalForms.{HaveNormalForms}
use Rattle.sp_law_equal.specs.Normal.{found_or, reduced}
use Rattle.sp_law_equal.proofs.Parts.{proper_is_part}
use Rattle.sp_law_equal.proofs.Forms.{normal_all_of_normal}
use Rattle.sp_law_log.specs.Ways.{args_with, IsWay}
use Rattle.sp_law_equal.specs.Right.{KeepPublic}
use Rattle.sp_law_log.proofs.Ways.{way_found, way_leads}
use Rattle.sp_law_adversary.proofs.Absorb.{Learned, learned_one, learned_unless, learned_by, absorb}
use Rattle.sp_law_run.proofs.Over.{count_valued}
use Rattle.sp_law_adversary.proofs.Walk.{IsHeldChain, walk}
use Rattle.std.specs.Option.{option_or}
use Rattle.sp_law_equal.proofs.Matches.{is_match}
use Rattle.sp_law_adversary.specs.Learning.{learnt_by, Chain, chain_down, by_chain_or_made, equation_for, reduced_or_made, applied}

-- what the equation gives that is used
abbrev given_by : Ground → Option (Equation × List Bound) → Ground
given_by t None = t
given_by t (Some used) = valued (value_in used.1) used.0.right

reduced_given : (es : List Equation) (t : Ground) → reduced es t ≡ given_by t (equation_for es t)
reduced_given [] t = refl
reduced_given (e ∷ es) t = at (matched e.left t []) (reduced_given es t)
  where
    at : (o : Option (List Bound)) → reduced es t ≡ given_by t (equation_for es t)
        → found_or o e.right (reduced es t) ≡ given_by t (option_or (option_map (λ bs. (e, bs)) o) (equation_for es t))
    at (Some bs) k = refl
    at None k = k

equation_found : (es : List Equation) (t : Ground) (used : Equation × List Bound) → equation_for es t ≡ Some used
    → Member used.0 es × IsMatch used.0.left t used.1
equation_found [] t used k = absurd cc
equation_found (e ∷ es) t used k = at (matched e.left t []) refl (λ h. equation_found es t used h) k
  where
    at : (o : Option (List Bound)) → matched e.left t [] ≡ o → (equation_for es t ≡ Some used → Member used.0 es × IsMatch used.0.left t used.1)
        → option_or (option_map (λ bs. (e, bs)) o) (equation_for es t) ≡ Some used → Member used.0 (e ∷ es) × IsMatch used.0.left t used.1
    at (Some bs) m later k =
        subst (λ (x : Equation × List Bound). Member x.0 (e ∷ es) × IsMatch x.0.left t x.1) (let g : (e, bs) ≡ used = cc in g)
        (inl refl, is_match e.left t bs m)
    at None m later k = let h = later k in (inr h.0, h.1)

module _ (theory : Theory) (good : HaveNormalForms (signature_of theory).equations)
    (keeps : KeepPublic (signature_of theory).symbols (signature_of theory).equations) (log : Log) (l : IsLog theory log) where
  module _ (f : List ℕ) (us : Grounds) (public : HasPublic (signature_of theory).symbols f (count us)) (learnt : AreLearnt log us) where
    make_whole : IsNormal (signature_of theory).equations (app f us) → Learned theory log (learnt_by log (app f us) constructed) (app f us)
    make_whole n = learned_by theory log (app f us) constructed l tt (λ new. ((f, us, refl, public, learnt, n), tt, tt))

    module _ (e : Equation) (v : Values) (m : Member e (signature_of theory).equations) (respects : RespectsSorts v) (gives : valued v e.left ≡ app f us)
        (n : IsNormal (signature_of theory).equations (valued v e.right)) (new : IsLearnt log (valued v e.right) → ⊥) where
      -- by the way from the root of an equation's left side to where the right side stands
      make_down : (forks : List Fork) → way_to e.right e.left ≡ Some forks → IsWay e.left forks e.right
          → IsHeldChain theory log l e m v respects new (chain_down log v (valued v e.right) forks)
      make_down [] found way =
          let whole : IsNormal (signature_of theory).equations (app f us) =
          subst (λ (t : Ground). IsNormal (signature_of theory).equations t) (sym (ap (valued v) way) ∙ gives) n in
          absurd (whole.1 e m v respects gives)
      make_down (g ∷ rest) found way =
          let is : app g.symbol (valued_all v (args_with g g.entered)) ≡ app f us = sym (ap (valued v) way.0) ∙ gives in
          let same_symbol : f ≡ g.symbol = cc in
          let same_args : us ≡ valued_all v (args_with g g.entered) = cc in
          let public_g : HasPublic (signature_of theory).symbols g.symbol (count (args_with g g.entered)) =
          subst (λ (h : List ℕ). HasPublic (signature_of theory).symbols h (count (args_with g g.entered))) same_symbol
          (subst (λ (k : ℕ). HasPublic (signature_of theory).symbols f k) (ap count same_args ∙ count_valued v (args_with g g.entered)) public) in
          let args_g = subst (λ (ts : Grounds). AreLearnt log ts) same_args learnt in
          walk theory log l e m v respects new rest [] g found way.1 tt public_g tt args_g

      make_out : (o : Option (List Fork)) → way_to e.right e.left ≡ o
          → Learned theory log (by_chain_or_made (signature_of theory).symbols (valued v e.right) log (chain_down log v (valued v e.right) (unwrap_or o [])))
          (valued v e.right)
      make_out (Some forks) found =
          let c = make_down forks found (way_leads e.right e.left forks found) in
          subst (λ (o : Option Chain). Learned theory log (by_chain_or_made (signature_of theory).symbols (valued v e.right) log o) (valued v e.right))
          (sym c.1)
          (absorb theory (valued v e.right) log c.0 l (λ k. c.2) n)
      make_out None found =
          ⊎_elim (λ p. let way = way_found e.right e.left (proper_is_part e.right e.left p) in let none_found = sym found ∙ way.1 in absurd cc)
          (λ c. learned_one theory log (valued v e.right) constructed l tt new ((c.0, none, ap (valued v) c.1, c.2, tt, n), tt, tt))
          (keeps.each e m)

    by_equation : (o : Option (Equation × List Bound)) → equation_for (signature_of theory).equations (app f us) ≡ o
        → IsNormal (signature_of theory).equations (given_by (app f us) o)
        → Learned theory log (reduced_or_made (signature_of theory).symbols (app f us) log o) (given_by (app f us) o)
    by_equation None found n = make_whole n
    by_equation (Some used) found n =
        let e = used.0 in
        let v = value_in used.1 in
        let h = equation_found (signature_of theory).equations (app f us) used found in
        learned_unless theory log _ (valued v e.right) l (λ new. make_out e v h.0 h.1.respects h.1.gives n new (way_to e.right e.left) refl)

    pub make : AreNormal (signature_of theory).equations us
        → Learned theory log (applied (signature_of theory) f us log) (reduced (signature_of theory).equations (app f us))
    make n =
        let es = (signature_of theory).equations in
        let is = reduced_given es (app f us) in
        let all_normal : IsNormal es (reduced es (app f us)) =
        subst (λ (ts : Grounds). IsNormal es (reduced es (app f ts))) (normal_all_of_normal es us n) (good.is_normal (app f us)) in
        subst (λ (t : Ground). Learned theory log (applied (signature_of theory) f us log) t) (sym is)
        (by_equation (equation_for es (app f us)) refl (subst (λ (t : Ground). IsNormal es t) is all_normal))
