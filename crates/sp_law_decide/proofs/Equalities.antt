-- What comes of the equalities of a guard: each gives a bound message its value where the other side is known.
use Rattle.std.proofs.Common.{◌≡◌, ◌⊎◌, inl, inr, ℕ, Bool, true, false, ◌&&◌, ◌||◌, if◌then◌else◌, List, [], ◌∷◌, Option, Some, None, option_and_then, refl, sym, ap, ◌∙◌, subst}
use Rattle.std.proofs.lemmas.Bool.{and_parts, eqb-true}
use Rattle.sp_spec.specs.Lists.{Member, Every}
use Rattle.sp_spec.proofs.Lists.{member_left, member_right, member_either}
use Rattle.sp_spec.specs.Term.{Term, var, constant, name, app, Ground, valued}
use Rattle.sp_spec.specs.Signature.{Signature}
use Rattle.sp_spec.specs.Guarded.{Place, free, bound, Atom, acts, same, same_time, before, last}
use Rattle.sp_law_equal.specs.NormalForms.{HaveNormalForms}
use Rattle.sp_law_guard.specs.IsGuarded.{is_variable, is_given, by_equality}
use Rattle.sp_spec.proofs.Options.{then_some}
use Rattle.sp_law_decide.specs.Deciding.{nothing, Environment, environment, is_filled, with_message, is_known, term_value, given_to, by_equalities, with_times, each_by_equalities}
use Rattle.sp_law_decide.specs.Normal.{IsConstructorTerm, IsConstructorAtom}
use Rattle.sp_spec.proofs.Slots.{AreGood}
use Rattle.sp_law_decide.proofs.Slots.{grown_same, grown_twice}
use Rattle.sp_law_decide.proofs.Matched.{Messages, value_by, either_is, IsGood, MessagesFit, MessagesGrown, message_grown, message_found}
use Rattle.sp_law_decide.proofs.Terms.{constructor_normal, places_normal, known_value, Given, given_known}
use Rattle.sp_law_decide.proofs.Actions.{Reached}

module _ (signature : Signature) (good : HaveNormalForms signature.equations) where
  abbrev AreGoodMessages : Messages → Type 0
  AreGoodMessages = AreGood (IsGood signature)

  -- the slots grow, and the term, if it's a variable, has a value where the other is known
  abbrev GrownBy : Term Place → Term Place → Messages → Messages → Type 0
  GrownBy t u a b = MessagesGrown signature a b × ((k : ℕ) → is_variable k t ≡ true → is_known a u ≡ true → is_filled b k ≡ true)

  unchanged : (t u : Term Place) (a b : Messages) → Some a ≡ Some b → ((k : ℕ) → is_variable k t ≡ false) → GrownBy t u a b
  unchanged t u a b e none = (grown_same (IsGood signature) nothing a b (let g : b ≡ a = cc in g), λ k h l. absurd (let x = none k in cc))

  variable_grown : (j : ℕ) (u : Term Place) → IsConstructorTerm signature u → (a b : Messages) → AreGoodMessages a → given_to (var (bound j)) u a ≡ Some b → GrownBy (var (bound j)) u a b
  variable_grown j u constructors a b goods e = at (is_known a u) refl e
    where
      at : (c : Bool) → is_known a u ≡ c → (if c then with_message j (term_value a u) a else Some a) ≡ Some b → GrownBy (var (bound j)) u a b
      at true l e =
          let r = message_grown signature j (term_value a u) (constructor_normal signature good (value_by _) (places_normal signature good a goods) u constructors) a b e in
          (r.0, λ k h known. subst (λ (i : ℕ). is_filled b i ≡ true) (eqb-true j k h) r.1)
      at false l e = (grown_same (IsGood signature) nothing a b (let g : b ≡ a = cc in g), λ k h known. absurd (let x = known in let y = l in cc))

  given_grown : (t u : Term Place) → IsConstructorTerm signature u → (a b : Messages) → AreGoodMessages a → given_to t u a ≡ Some b → GrownBy t u a b
  given_grown (var (bound j)) u constructors a b goods e = variable_grown j u constructors a b goods e
  given_grown (var (free x)) u constructors a b goods e = unchanged (var (free x)) u a b e (λ k. refl)
  given_grown (constant c) u constructors a b goods e = unchanged (constant c) u a b e (λ k. refl)
  given_grown (name n) u constructors a b goods e = unchanged (name n) u a b e (λ k. refl)
  given_grown (app f ts) u constructors a b goods e = unchanged (app f ts) u a b e (λ k. refl)

  module _ (n : ℕ) (guard : List Atom) where
    given_kept : (a b : Messages) → MessagesGrown signature a b → Given n guard a → Given n guard b
    given_kept a b g h = record { outside = λ k e. g.keeps k (h.outside k e); inside = λ k e. g.keeps k (h.inside k e) }

    -- by one equality, from both sides
    abbrev GivesOne : Term Place → Term Place → Messages → Type 0
    GivesOne t u b = (k : ℕ) → ((is_variable k t && is_given n guard u) || (is_variable k u && is_given n guard t)) ≡ true → is_filled b k ≡ true

    same_grown : (t u : Term Place) → IsConstructorTerm signature t → IsConstructorTerm signature u → (a b : Messages) → AreGoodMessages a → Given n guard a
        → option_and_then (given_to u t) (given_to t u a) ≡ Some b → MessagesGrown signature a b × GivesOne t u b
    same_grown t u p q a b goods given e =
        let r = then_some (given_to u t) (given_to t u a) b e in
        let c = r.0 in
        let first = given_grown t u q a c goods r.1 in
        let second = given_grown u t p c b (first.0.good goods) r.2 in (
          grown_twice (IsGood signature) nothing a c b first.0 second.0,
          λ k h. either_is (is_variable k t && is_given n guard u) (is_variable k u && is_given n guard t) h
              (λ x. let y = and_parts (is_variable k t) (is_given n guard u) x in second.0.keeps k (first.1 k y.0 (given_known n guard a given u y.1)))
              (λ x. let y = and_parts (is_variable k u) (is_given n guard t) x in second.1 k y.0 (given_known n guard c (given_kept a c first.0 given) t y.1)),
        )

    abbrev GivesAll : List Atom → Messages → Type 0
    GivesAll atoms b = (k : ℕ) → by_equality n guard k atoms ≡ true → is_filled b k ≡ true

    pub equalities_grown : (atoms : List Atom) → Every (IsConstructorAtom signature) atoms → (a b : Messages) → AreGoodMessages a → Given n guard a
        → by_equalities atoms a ≡ Some b → MessagesGrown signature a b × GivesAll atoms b
    equalities_grown [] constructors a b goods given e = (grown_same (IsGood signature) nothing a b (let g : b ≡ a = cc in g), λ k h. absurd cc)
    equalities_grown (same t u ∷ atoms) constructors a b goods given e =
        let r = then_some (by_equalities atoms) (option_and_then (given_to u t) (given_to t u a)) b e in
        let c = r.0 in
        let first = same_grown t u constructors.0.0 constructors.0.1 a c goods given r.1 in
        let rest = equalities_grown atoms constructors.1 c b (first.0.good goods) (given_kept a c first.0 given) r.2 in (
          grown_twice (IsGood signature) nothing a c b first.0 rest.0,
          λ k h. either_is ((is_variable k t && is_given n guard u) || (is_variable k u && is_given n guard t)) (by_equality n guard k atoms) h
              (λ x. rest.0.keeps k (first.1 k x)) (rest.1 k),
        )
    equalities_grown (acts action i ∷ atoms) constructors a b goods given e = equalities_grown atoms constructors.1 a b goods given e
    equalities_grown (same_time i j ∷ atoms) constructors a b goods given e = equalities_grown atoms constructors.1 a b goods given e
    equalities_grown (before i j ∷ atoms) constructors a b goods given e = equalities_grown atoms constructors.1 a b goods given e
    equalities_grown (last i ∷ atoms) constructors a b goods given e = equalities_grown atoms constructors.1 a b goods given e

-- an environment that is reached comes of one of the list, at the same times
abbrev pub Comes : List Atom → Environment → List Environment → Type 0
Comes guard c envs = (env : Environment) × Member env envs × (by_equalities guard env.messages ≡ Some c.messages) × (env.times ≡ c.times)

pub equalities_reached : (guard : List Atom) (envs : List Environment) (c : Environment) → Member c (each_by_equalities guard envs) → Comes guard c envs
equalities_reached guard [] c m = absurd m
equalities_reached guard (env ∷ envs) c m =
    at (member_either c (with_times env.times (by_equalities guard env.messages)) (each_by_equalities guard envs) m) (equalities_reached guard envs c)
  where
    here : (o : Option Messages) → by_equalities guard env.messages ≡ o → Member c (with_times env.times o) → Comes guard c (env ∷ envs)
    here None e m = absurd m
    here (Some b) e (inr m) = absurd m
    here (Some b) e (inl m) = (env, inl refl, e ∙ ap (λ (x : Environment). Some x.messages) m, ap (λ (x : Environment). x.times) m)

    at : Member c (with_times env.times (by_equalities guard env.messages)) ⊎ Member c (each_by_equalities guard envs) → (Member c (each_by_equalities guard envs) → Comes guard c envs) → Comes guard c (env ∷ envs)
    at (inl m) below = here (by_equalities guard env.messages) refl m
    at (inr m) below = let r = below m in (r.0, inr r.1, r.2, r.3)

-- Values of all places that make the equalities true are those of some environment that is reached.
module _ (signature : Signature) (f : ℕ → Ground) where
  abbrev Found : Option Messages → Type 0
  Found o = (b : Messages) × (o ≡ Some b) × MessagesFit signature b f

  then_found : (o : Option Messages) (next : Messages → Option Messages) → Found o → ((b : Messages) → MessagesFit signature b f → Found (next b)) → Found (option_and_then next o)
  then_found o next r h = let q = h r.0 r.2 in (q.0, ap (option_and_then next) r.1 ∙ q.1, q.2)

  variable_found : (j : ℕ) (u : Term Place) (a : Messages) → MessagesFit signature a f → f j ≡ valued (value_by f) u → Found (given_to (var (bound j)) u a)
  variable_found j u a fits e = at (is_known a u) refl
    where
      at : (c : Bool) → is_known a u ≡ c → Found (if c then with_message j (term_value a u) a else Some a)
      at true l = subst (λ (t : Ground). Found (with_message j t a)) (e ∙ sym (known_value signature a f fits u l)) (message_found signature j a f fits)
      at false l = (a, refl, fits)

  given_found : (t u : Term Place) (a : Messages) → MessagesFit signature a f → valued (value_by f) t ≡ valued (value_by f) u → Found (given_to t u a)
  given_found (var (bound j)) u a fits e = variable_found j u a fits e
  given_found (var (free x)) u a fits e = (a, refl, fits)
  given_found (constant c) u a fits e = (a, refl, fits)
  given_found (name n) u a fits e = (a, refl, fits)
  given_found (app g ts) u a fits e = (a, refl, fits)

  -- the sides are the same
  abbrev pub AreSame : Atom → Type 0
  AreSame (same t u) = valued (value_by f) t ≡ valued (value_by f) u
  AreSame a = Unit {0}

  pub equalities_found : (atoms : List Atom) → Every AreSame atoms → (a : Messages) → MessagesFit signature a f → Found (by_equalities atoms a)
  equalities_found [] h a fits = (a, refl, fits)
  equalities_found (same t u ∷ atoms) h a fits =
      then_found (option_and_then (given_to u t) (given_to t u a)) (by_equalities atoms)
      (then_found (given_to t u a) (given_to u t) (given_found t u a fits h.0) (λ b fit. given_found u t b fit (sym h.0))) (equalities_found atoms h.1)
  equalities_found (acts action i ∷ atoms) h a fits = equalities_found atoms h.1 a fits
  equalities_found (same_time i j ∷ atoms) h a fits = equalities_found atoms h.1 a fits
  equalities_found (before i j ∷ atoms) h a fits = equalities_found atoms h.1 a fits
  equalities_found (last i ∷ atoms) h a fits = equalities_found atoms h.1 a fits

  module _ (n : ℕ) (g : ℕ → ℕ) where
    pub each_found : (guard : List Atom) → Every AreSame guard → (envs : List Environment) → Reached signature n f g envs → Reached signature n f g (each_by_equalities guard envs)
    each_found guard h envs r = go envs r.member
      where
        go : (xs : List Environment) → Member r.reached xs → Reached signature n f g (each_by_equalities guard xs)
        go [] m = absurd m
        go (x ∷ xs) (inl m) =
            let q = equalities_found guard h r.reached.messages r.messages in
            record {
              reached = environment q.0 r.reached.times;
              member = member_left _ (with_times x.times (by_equalities guard x.messages)) (each_by_equalities guard xs)
                  (subst (λ (y : Environment). Member (environment q.0 r.reached.times) (with_times y.times (by_equalities guard y.messages))) (sym m)
                  (subst (λ (o : Option Messages). Member (environment q.0 r.reached.times) (with_times r.reached.times o)) (sym q.1) (inl refl)));
              messages = q.2;
              times = r.times;
            }
        go (x ∷ xs) (inr m) =
            let q = go xs m in
            record {
              reached = q.reached;
              member = member_right q.reached (with_times x.times (by_equalities guard x.messages)) (each_by_equalities guard xs) q.member;
              messages = q.messages;
              times = q.times;
            }
