-- Ways along which values reach a result: each step keeps the values that there are, and adds values of new variables.
use Rattle.std.proofs.Common.{inl, ℕ, ◌≤◌, List, [], ◌∷◌, map, refl, ◌∙◌, arith}
use Rattle.sp_spec.specs.Lists.{Member, Every}
use Rattle.sp_spec.specs.Term.{Values}
use Rattle.sp_spec.specs.Unifier.{MakesSame}
use Rattle.sp_spec.proofs.Lists.{member_map}
use Rattle.sp_law_equal.specs.Pointwise.{EachWith}
use Rattle.sp_spec_forms.specs.Narrowing.{Chosen, Ways, in_turn, both, each}
use Rattle.sp_law_forms.proofs.Lists.{member_flat_map}
use Rattle.sp_law_forms.proofs.Shifted.{AgreeBelow}

-- the pairs are made the same, and it holds, at all values that agree on the variables that there are
abbrev pub Holds : Chosen → Values → (Values → Type 0) → Type 0
Holds s v P = (w : Values) → AgreeBelow s.next v w → MakesSame w s.pairs × P w

-- values that are good, and agree with the first ones on the first variables
module _ (Good : Values → Type 0) (first : ℕ) (given : Values) where
  pub record Begun (s : Chosen) (v : Values) (P : Values → Type 0) : Type 0 where
    pub good : Good v
    pub starts : AgreeBelow first given v
    pub enough : first ≤ s.next
    pub holds : Holds s v P

  pub record Reached {A : Type 0} (m : List (A × Chosen)) (s : Chosen) (v : Values) (F : Values → A → Type 0) : Type 0 where
    pub result : A × Chosen
    pub among : Member result m
    pub values : Values
    pub begun : Begun result.1 values (λ w. F w result.0)
    pub agree : AgreeBelow s.next v values
    pub later : s.next ≤ result.1.next

  -- from values of which P holds one of the ways leads to a result of which F holds
  abbrev pub Completes : {A : Type 0} → (Values → Type 0) → Ways A → (Values → A → Type 0) → Type 0
  Completes P m F = (s : Chosen) (v : Values) → Begun s v P → Reached (m s) s v F

  abbrev pub Nothing : Values → Type 0
  Nothing w = Unit {0}

  -- nothing is chosen
  pub completes_done : {A : Type 0} (P : Values → Type 0) (F : Values → A → Type 0) (a : A)
      → ((w : Values) → AgreeBelow first given w → P w → F w a) → Completes P (λ s. (a, s) ∷ []) F
  completes_done P F a h s v b = record {
    result = (a, s);
    among = inl refl;
    values = v;
    begun = record {
      good = b.good;
      starts = b.starts;
      enough = b.enough;
      holds = λ w g.
          let k = b.holds w g in
          (k.0, h w (λ x lt. b.starts x lt ∙ g x (let le = b.enough in omega (arith, lt, le))) k.1);
    };
    agree = λ x lt. refl;
    later = omega arith;
  }

  pub completes_in_turn : {A B : Type 0} (P : Values → Type 0) (F : Values → A → Type 0) (G : Values → B → Type 0) (m : Ways A) (k : A → Ways B)
      → Completes P m F → ((a : A) → Completes (λ w. F w a) (k a) G) → Completes P (in_turn m k) G
  completes_in_turn P F G m k h g s v b =
      let r = h s v b in
      let q = g r.result.0 r.result.1 r.values r.begun in
      record {
        result = q.result;
        among = member_flat_map (λ p. k p.0 p.1) r.result q.result (m s) r.among q.among;
        values = q.values;
        begun = q.begun;
        agree = λ x lt. r.agree x lt ∙ q.agree x (let le = r.later in omega (arith, lt, le));
        later = let le = r.later in let le' = q.later in omega (arith, le, le');
      }

  pub completes_both : {A B C : Type 0} (F : Values → A → Type 0) (G : Values → B → Type 0) (H : Values → C → Type 0) (f : A → B → C) (m : Ways A) (k : Ways B)
      → Completes Nothing m F → Completes Nothing k G → ((w : Values) (a : A) (b : B) → F w a → G w b → H w (f a b)) → Completes Nothing (both f m k) H
  completes_both F G H f m k h g join s v b =
      let r = h s v b in
      let early = r.begun in
      let q = g r.result.1 r.values (record { good = early.good; starts = early.starts; enough = early.enough; holds = λ w a. ((early.holds w a).0, tt) }) in
      let late = q.begun in
      record {
        result = (f r.result.0 q.result.0, q.result.1);
        among =
            member_flat_map (λ p. map (λ o. (f p.0 o.0, o.1)) (k p.1)) r.result (f r.result.0 q.result.0, q.result.1) (m s) r.among
            (member_map (λ o. (f r.result.0 o.0, o.1)) q.result (k r.result.1) q.among);
        values = q.values;
        begun = record {
          good = late.good;
          starts = late.starts;
          enough = late.enough;
          holds = λ w a.
              let l = late.holds w a in
              let e = early.holds w (λ x lt. q.agree x lt ∙ a x (let le = q.later in omega (arith, lt, le))) in
              (l.0, join w r.result.0 q.result.0 e.1 l.1);
        };
        agree = λ x lt. r.agree x lt ∙ q.agree x (let le = r.later in omega (arith, lt, le));
        later = let le = r.later in let le' = q.later in omega (arith, le, le');
      }

  pub completes_map : {A B : Type 0} (P : Values → Type 0) (F : Values → A → Type 0) (G : Values → B → Type 0) (f : A → B) (m : Ways A)
      → Completes P m F → ((w : Values) (a : A) → F w a → G w (f a)) → Completes P (λ s. map (λ r. (f r.0, r.1)) (m s)) G
  completes_map P F G f m h to s v b =
      let r = h s v b in
      let c = r.begun in
      record {
        result = (f r.result.0, r.result.1);
        among = member_map (λ p. (f p.0, p.1)) r.result (m s) r.among;
        values = r.values;
        begun = record { good = c.good; starts = c.starts; enough = c.enough; holds = λ w a. let k = c.holds w a in (k.0, to w r.result.0 k.1) };
        agree = r.agree;
        later = r.later;
      }

  pub completes_each : {A B : Type 0} (F : A → Values → B → Type 0) (m : A → Ways B) (xs : List A)
      → Every (λ x. Completes Nothing (m x) (F x)) xs → Completes Nothing (each m xs) (λ w ys. EachWith (λ x y. F x w y) xs ys)
  completes_each F m [] h = completes_done Nothing (λ w ys. EachWith (λ x y. F x w y) [] ys) [] (λ w a p. tt)
  completes_each F m (x ∷ xs) h =
      completes_both (F x) (λ w ys. EachWith (λ z y. F z w y) xs ys) (λ w ys. EachWith (λ z y. F z w y) (x ∷ xs) ys)
      (λ y ys. y ∷ ys) (m x) (each m xs) h.0 (completes_each F m xs h.1) (λ w y ys f e. (f, e))
