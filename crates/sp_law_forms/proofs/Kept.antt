-- What is kept on all ways: a property of terms that the sides of the equations have over new variables is had by what is narrowed, and by the pairs
-- that are made the same.
use Rattle.std.proofs.Common.{inl, inr, ℕ, ◌+◌, List, [], ◌∷◌, map, Option, Some, None, subst}
use Rattle.sp_spec.specs.Lists.{Member, Every}
use Rattle.sp_spec.specs.Term.{Variable, Term, var, constant, name, app, Terms, none, more}
use Rattle.sp_spec.specs.Signature.{Equation}
use Rattle.sp_spec.specs.Substitution.{Binding}
use Rattle.sp_spec.specs.Unifier.{Pair, mgu}
use Rattle.sp_spec.specs.Rule.{Fact, Action, Facts, OfArguments}
use Rattle.sp_spec.proofs.Lists.{member_mapped}
use Rattle.sp_spec_forms.specs.Shifted.{above, shifted}
use Rattle.sp_spec_forms.specs.Narrowing.{Chosen, Ways, in_turn, both, each, if_unified, by_equation, choices, narrow, narrow_all, narrow_fact, narrow_action, narrow_facts}
use Rattle.sp_law_forms.proofs.Lists.{member_flat_mapped}

-- the property of terms, of arguments, and of arguments beside those that they come from
pub record IsKept (es : List Equation) (P : Term Variable → Type 0) (Ps : Terms Variable → Type 0) (Fits : Terms Variable → Terms Variable → Type 0) : Type 0 where
  pub arguments : (f : List ℕ) (ts : Terms Variable) → P (app f ts) → Ps ts
  pub first : (t : Term Variable) (ts : Terms Variable) → Ps (more t ts) → P t
  pub rest : (t : Term Variable) (ts : Terms Variable) → Ps (more t ts) → Ps ts
  pub end : Fits none none
  pub beside : (t u : Term Variable) (ts us : Terms Variable) → P u → Fits ts us → Fits (more t ts) (more u us)
  pub under : (f : List ℕ) (ts us : Terms Variable) → P (app f ts) → Fits ts us → P (app f us)
  pub fitting : (ts us : Terms Variable) → Fits ts us → Ps us
  pub left : (e : Equation) → Member e es → (n : ℕ) → P (shifted n e.left)
  pub right : (e : Equation) → Member e es → (n : ℕ) → P (shifted n e.right)

module _ (P : Term Variable → Type 0) where
  abbrev pub PairsKept : Chosen → Type 0
  PairsKept s = Every (λ (p : Pair). P p.0 × P p.1) s.pairs

  -- where the pairs have it, they have it with each result, and of this one F holds
  abbrev pub Stays : {A : Type 0} → Ways A → (A → Type 0) → Type 0
  Stays {A} m F = (s : Chosen) (r : A × Chosen) → Member r (m s) → PairsKept s → PairsKept r.1 × F r.0

  abbrev Good : {A : Type 0} → (A → Type 0) → A × Chosen → Type 0
  Good F r = PairsKept r.1 × F r.0

  stays_done : {A : Type 0} (F : A → Type 0) (a : A) → F a → Stays (λ s. (a, s) ∷ []) F
  stays_done {A} F a h s r (inl e) o = subst (λ (q : A × Chosen). Good F q) e (o, h)
  stays_done F a h s r (inr n) o = absurd n

  stays_in_turn : {A B : Type 0} (F : A → Type 0) (G : B → Type 0) (m : Ways A) (k : A → Ways B)
      → Stays m F → ((a : A) → F a → Stays (k a) G) → Stays (in_turn m k) G
  stays_in_turn {A} F G m k h g s r mem o =
      let c = member_flat_mapped (λ (q : A × Chosen). k q.0 q.1) r (m s) mem in
      let early = h s c.0 c.1 o in
      g c.0.0 early.1 c.0.1 r c.2 early.0

  stays_map : {A B : Type 0} (F : A → Type 0) (G : B → Type 0) (f : A → B) (m : Ways A)
      → Stays m F → ((a : A) → F a → G (f a)) → Stays (λ s. map (λ r. (f r.0, r.1)) (m s)) G
  stays_map {A} {B} F G f m h to s r mem o =
      let c = member_mapped (λ (q : A × Chosen). (f q.0, q.1)) r (m s) mem in
      let k = h s c.0 c.1 o in
      subst (λ (q : B × Chosen). Good G q) c.2 (k.0, to c.0.0 k.1)

  stays_both : {A B C : Type 0} (F : A → Type 0) (G : B → Type 0) (H : C → Type 0) (f : A → B → C) (m : Ways A) (k : Ways B)
      → Stays m F → Stays k G → ((a : A) (b : B) → F a → G b → H (f a b)) → Stays (both f m k) H
  stays_both {A} {B} {C} F G H f m k h g join s r mem o =
      let c = member_flat_mapped (λ (p : A × Chosen). map (λ (q : B × Chosen). (f p.0 q.0, q.1)) (k p.1)) r (m s) mem in
      let d = member_mapped (λ (q : B × Chosen). (f c.0.0 q.0, q.1)) r (k c.0.1) c.2 in
      let early = h s c.0 c.1 o in
      let late = g c.0.1 d.0 d.1 early.0 in
      subst (λ (q : C × Chosen). Good H q) d.2 (late.0, join c.0.0 d.0.0 early.1 late.1)

  stays_each : {A B : Type 0} (F : A → Type 0) (G : B → Type 0) (m : A → Ways B) → ((x : A) → F x → Stays (m x) G)
      → (xs : List A) → Every F xs → Stays (each m xs) (Every G)
  stays_each F G m h [] o = stays_done (Every G) [] tt
  stays_each F G m h (x ∷ xs) o =
      stays_both G (Every G) (Every G) (λ y ys. y ∷ ys) (m x) (each m xs) (h x o.0) (stays_each F G m h xs o.1) (λ y ys a b. (a, b))

  module _ (es : List Equation) (Ps : Terms Variable → Type 0) (Fits : Terms Variable → Terms Variable → Type 0) (kept : IsKept es P Ps Fits) where
    module _ (t : Term Variable) (t_kept : P t) (s : Chosen) (s_kept : PairsKept s) (e : Equation) (m : Member e es) (r : Term Variable × Chosen) where
      abbrev state : Chosen
      state = record { pairs = (t, shifted s.next e.left) ∷ s.pairs; next = s.next + (above e.left + above e.right) }

      by_answer : (o : Option (List Binding)) → Member {A = Term Variable × Chosen} r (if_unified o (shifted s.next e.right, state)) → Good P r
      by_answer None k = absurd k
      by_answer (Some bs) (inr k) = absurd k
      by_answer (Some bs) (inl k) =
          subst (λ (q : Term Variable × Chosen). Good P q) k (((t_kept, kept.left e m s.next), s_kept), kept.right e m s.next)

      kept_by_equation : Member r (by_equation t s e) → Good P r
      kept_by_equation = by_answer (mgu state.pairs)

    stays_choices : (t : Term Variable) → P t → Stays (choices es t) P
    stays_choices t h s r (inl e) o = subst (λ (q : Term Variable × Chosen). Good P q) e (o, h)
    stays_choices t h s r (inr m) o = let c = member_flat_mapped (by_equation t s) r es m in kept_by_equation t h s o c.0 c.1 r c.2

    mutual
      stays_narrow : (t : Term Variable) → P t → Stays (narrow es t) P
      stays_narrow (var x) h = stays_done P (var x) h
      stays_narrow (constant c) h = stays_done P (constant c) h
      stays_narrow (name n) h = stays_done P (name n) h
      stays_narrow (app f ts) h =
          stays_in_turn (Fits ts) P (narrow_all es ts) (λ us. choices es (app f us)) (stays_narrow_all ts (kept.arguments f ts h))
          (λ us o. stays_choices (app f us) (kept.under f ts us h o))

      stays_narrow_all : (ts : Terms Variable) → Ps ts → Stays (narrow_all es ts) (Fits ts)
      stays_narrow_all none h = stays_done (Fits none) none kept.end
      stays_narrow_all (more t ts) h =
          stays_both P (Fits ts) (Fits (more t ts)) more (narrow es t) (narrow_all es ts)
          (stays_narrow t (kept.first t ts h)) (stays_narrow_all ts (kept.rest t ts h)) (λ u us o k. kept.beside t u ts us o k)

    abbrev OfFact : Fact Variable → Type 0
    OfFact f = Ps f.args

    abbrev OfAction : Action Variable → Type 0
    OfAction a = Ps a.args

    stays_fact : (f : Fact Variable) → OfFact f → Stays (narrow_fact es f) OfFact
    stays_fact f h =
        stays_map (Fits f.args) OfFact (λ us. record { symbol = f.symbol; persistent = f.persistent; args = us }) (narrow_all es f.args)
        (stays_narrow_all f.args h) (kept.fitting f.args)

    stays_action : (a : Action Variable) → OfAction a → Stays (narrow_action es a) OfAction
    stays_action a h =
        stays_map (Fits a.args) OfAction (λ us. record { symbol = a.symbol; args = us }) (narrow_all es a.args) (stays_narrow_all a.args h) (kept.fitting a.args)

    pub stays_facts : (f : Facts Variable) → OfArguments Ps f → Stays (narrow_facts es f) (OfArguments Ps)
    stays_facts f h =
        let Rest : List (Action Variable) × List (Fact Variable) → Type 0 = λ r. Every OfAction r.0 × Every OfFact r.1 in
        stays_both (Every OfFact) Rest (OfArguments Ps)
        (λ ps (r : List (Action Variable) × List (Fact Variable)). record { premises = ps; actions = r.0; conclusions = r.1 })
        (each (narrow_fact es) f.premises)
        (both (λ as' cs. (as', cs)) (each (narrow_action es) f.actions) (each (narrow_fact es) f.conclusions))
        (stays_each OfFact OfFact (narrow_fact es) stays_fact f.premises h.premises)
        (stays_both (Every OfAction) (Every OfFact) Rest (λ as' cs. (as', cs)) (each (narrow_action es) f.actions) (each (narrow_fact es) f.conclusions)
        (stays_each OfAction OfAction (narrow_action es) stays_action f.actions h.actions)
        (stays_each OfFact OfFact (narrow_fact es) stays_fact f.conclusions h.conclusions)
        (λ as' cs a b. (a, b)))
        (λ ps r a b. record { premises = a; actions = b.0; conclusions = b.1 })
