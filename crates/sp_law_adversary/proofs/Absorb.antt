-- A message that a held chain leads to can be learnt: pairs by their parts, public names and public constants as such, others by the chain.
use Rattle.std.proofs.Common.{◌≡◌, Bool, true, false, true≢false, if◌then◌else◌, ⊎_elim, inl, inr, ℕ, zero, suc, List, [], ◌∷◌, length, refl, sym, subst}
use Rattle.std.specs.Prelude.{codes}
use Rattle.sp_spec.specs.Lists.{Member}
use Rattle.sp_spec.specs.Term.{Sort, Msg, Fresh, Pub, var, constant, name, app, none, more, Ground, Grounds, Values}
use Rattle.sp_spec.specs.Signature.{HasPublic, HasSort, pair, msg}
use Rattle.sp_spec.specs.Equal.{IsNormal}
use Rattle.sp_spec.specs.Theory.{Theory, signature_of}
use Rattle.sp_spec.specs.Destruction.{Destruction, is_public, destructions}
use Rattle.sp_spec.specs.Log.{How, public_name, constructed, learn, Log, IsLearnt, IsDestructed, IsMadeAlone, IsLog}
use Rattle.sp_law_equal.proofs.Decided.{same_text_or_not}
use Rattle.std.specs.Bool.{Decides}
use Rattle.std.specs.Str.{bytes_eq}
use Rattle.std.proofs.lemmas.Bool.{false_from_ne_true}
use Rattle.std.proofs.lemmas.Slice.Eq.{bytes_eq-Decides}
use Rattle.sp_law_adversary.specs.Learning.{is_learnt, unless_learnt, learnt_by, Chain, with_message, by, absorbed}
use Rattle.sp_law_adversary.specs.Held.{HeldChain, UsesNone, Grows}
use Rattle.sp_law_log.proofs.Destructions.{is_public_tells, is_public_from}
use Rattle.sp_law_adversary.proofs.Held.{learnt_later, held_later, held_end}
use Rattle.sp_law_adversary.proofs.Grown.{LearnsBy, learnt_tells, grows_not, grows_again, grows_keep, grows_one}

-- values of the variables of the pairs' equations
abbrev pair_value : Ground → Ground → Sort → ℕ → Ground
pair_value t u Msg zero = t
pair_value t u Msg (suc n) = u
pair_value t u Fresh n = name 0
pair_value t u Pub n = constant []

abbrev pub pair_values : Ground → Ground → Values
pair_values t u x = pair_value t u x.sort x.number

pub pair_value_sort : (t u : Ground) (s : Sort) (n : ℕ) → HasSort s (pair_value t u s n)
pair_value_sort t u Msg n = tt
pair_value_sort t u Fresh n = tt
pair_value_sort t u Pub n = tt

abbrev first_destruction : Destruction
first_destruction = record { pattern = pair (msg 0) (msg 1); sides = none; result = msg 0 }

abbrev second_destruction : Destruction
second_destruction = record { pattern = pair (msg 0) (msg 1); sides = none; result = msg 1 }

module _ (theory : Theory) where
  pair_is_public : HasPublic (signature_of theory).symbols (codes "pair") 2
  pair_is_public = inl refl

  first_listed : Member first_destruction (destructions (signature_of theory))
  first_listed = inl refl

  second_listed : Member second_destruction (destructions (signature_of theory))
  second_listed = inr (inl refl)

  module _ (log : Log) (t u : Ground) where
    to_first : IsDestructed (signature_of theory) log (pair t u) t
    to_first = (first_destruction, first_listed, pair_values t u, (λ x. pair_value_sort t u x.sort x.number), refl, tt, refl)

    to_second : IsDestructed (signature_of theory) log (pair t u) u
    to_second = (second_destruction, second_listed, pair_values t u, (λ x. pair_value_sort t u x.sort x.number), refl, tt, refl)

  -- the second log is the first, gone on by learning, and the message is learnt in it
  abbrev pub Learned : Log → Log → Ground → Type 0
  Learned log later m = Grows theory log later × IsLearnt later m

  pub learned_one : (log : Log) (m : Ground) (how : How) → IsLog theory log → UsesNone how → (IsLearnt log m → ⊥) → LearnsBy theory log m how
      → Learned log (learn m how ∷ log) m
  learned_one log m how l u n by = (grows_one theory log m how l u n by, (length log, (how, inl (refl, refl))))

  pub learned_unless : (log later : Log) (m : Ground) → IsLog theory log → ((IsLearnt log m → ⊥) → Learned log later m)
      → Learned log (unless_learnt log m later) m
  learned_unless log later m l way = at (is_learnt log m) (learnt_tells log m)
    where
      at : (b : Bool) → Decides b (IsLearnt log m) → Learned log (if b then log else later) m
      at true d = (grows_not theory log l, d.0 refl)
      at false d = way (λ h. true≢false (sym (d.1 h)))

  pub learned_by : (log : Log) (m : Ground) (how : How) → IsLog theory log → UsesNone how → ((IsLearnt log m → ⊥) → LearnsBy theory log m how)
      → Learned log (learnt_by log m how) m
  learned_by log m how l u by = learned_unless log (learn m how ∷ log) m l (λ n. learned_one log m how l u n (by n))

  abbrev pub IsHeldBy : Log → Chain → Ground → Type 0
  IsHeldBy log chain m = HeldChain (signature_of theory) log chain.position chain.place chain.messages m

  held_by_later : (log later : Log) (chain : Chain) (m : Ground) → Grows theory log later → IsHeldBy log chain m → IsHeldBy later chain m
  held_by_later log later chain m g h =
      grows_keep theory (λ (x : Log). IsHeldBy x chain m)
      (λ new x k. held_later (signature_of theory) new x chain.position chain.place chain.messages m k) log later g h

  pub held_by_end : (log : Log) (chain : Chain) (m u : Ground) → IsHeldBy log chain m → IsDestructed (signature_of theory) log m u → (IsLearnt log u → ⊥)
      → IsHeldBy log (with_message chain u) u
  held_by_end log chain m u h d n = held_end (signature_of theory) log chain.position chain.place chain.messages m u h d n

  not_alone : (m : Ground) → ((t u : Ground) → m ≡ pair t u → ⊥) → ((c : List ℕ) → HasPublic (signature_of theory).symbols c zero → m ≡ app c none → ⊥)
      → (HasSort Pub m → ⊥) → IsMadeAlone (signature_of theory) m → ⊥
  not_alone m no_pair no_constant no_name alone = ⊎_elim (λ p. no_pair p.0 p.1 p.2) (λ q. ⊎_elim (λ c. no_constant c.0 c.1 c.2) no_name q) alone

  -- what is held can be learnt
  abbrev Absorbs : Ground → Type 0
  Absorbs m = (log : Log) (chain : Chain) → IsLog theory log → ((IsLearnt log m → ⊥) → IsHeldBy log chain m) → IsNormal (signature_of theory).equations m
      → Learned log (absorbed (signature_of theory).symbols chain m log) m

  abbrev AbsorbsAll : Grounds → Type 0
  AbsorbsAll none = Unit {0}
  AbsorbsAll (more t ts) = Absorbs t × AbsorbsAll ts

  chain_learns : (log : Log) (chain : Chain) (m : Ground) → (IsMadeAlone (signature_of theory) m → ⊥) → IsHeldBy log chain m → LearnsBy theory log m (by chain)
  chain_learns log chain m alone c = ((c.called, c.facts, c.sources, c.there, c.first, c.out, c.chained), alone, c.not_before)

  absorb_by_chain : (m : Ground) → (IsMadeAlone (signature_of theory) m → ⊥) → (log : Log) (chain : Chain) → IsLog theory log
      → ((IsLearnt log m → ⊥) → IsHeldBy log chain m)
      → Learned log (learnt_by log m (by chain)) m
  absorb_by_chain m alone log chain l h = learned_by log m (by chain) l tt (λ n. chain_learns log chain m alone (h n))

  absorb_pair : (t u : Ground) → Absorbs t → Absorbs u → Absorbs (pair t u)
  absorb_pair t u at_t at_u log chain l h normal =
      let symbols = (signature_of theory).symbols in
      let a : Log = absorbed symbols (with_message chain t) t log in
      let b : Log = absorbed symbols (with_message chain u) u a in
      learned_unless log (learnt_by b (pair t u) constructed) (pair t u) l
      (λ n.
      let one : Learned log a t = at_t log (with_message chain t) l (held_by_end log chain (pair t u) t (h n) (to_first log t u)) normal.0.0 in
      let later : IsHeldBy a chain (pair t u) = held_by_later log a chain (pair t u) one.0 (h n) in
      let two : Learned a b u = at_u a (with_message chain u) one.0.is_log (held_by_end a chain (pair t u) u later (to_second a t u)) normal.0.1.0 in
      let t_there : IsLearnt b t = grows_keep theory (λ (x : Log). IsLearnt x t) (λ new x k. learnt_later new x t k) a b two.0 one.1 in
      let three : Learned b (learnt_by b (pair t u) constructed) (pair t u) =
      learned_by b (pair t u) constructed two.0.is_log tt
      (λ k. ((codes "pair", more t (more u none), refl, pair_is_public, (t_there, (two.1, tt)), normal), tt, tt)) in
      (grows_again theory log b _ (grows_again theory log a b one.0 two.0) three.0, three.1))

  absorb_constant : (f : List ℕ) → Absorbs (app f none)
  absorb_constant f log chain l h normal =
      at (is_public (signature_of theory).symbols f zero)
      (is_public_tells (signature_of theory).symbols f zero, is_public_from (signature_of theory).symbols f zero)
    where
      at : (b : Bool) → Decides b (HasPublic (signature_of theory).symbols f zero)
          → Learned log (learnt_by log (app f none) (if b then constructed else by chain)) (app f none)
      at true d = learned_by log (app f none) constructed l tt (λ n. ((f, none, refl, d.0 refl, tt, normal), tt, tt))
      at false d =
          absorb_by_chain (app f none)
          (not_alone (app f none) (λ t u e. absurd cc)
          (λ c p e. true≢false (sym (d.1 (subst (λ (g : List ℕ). HasPublic (signature_of theory).symbols g zero) (let k : c ≡ f = cc in k) p)))) (λ s. s))
          log chain l h

  absorb_two : (f : List ℕ) (t u : Ground) → Absorbs t → Absorbs u → Absorbs (app f (more t (more u none)))
  absorb_two f t u at_t at_u =
      ⊎_elim (λ e. subst (λ (g : List ℕ). Absorbs (app g (more t (more u none)))) (sym e) (absorb_pair t u at_t at_u))
      (λ not_pair log chain l h normal.
      let m : Ground = app f (more t (more u none)) in
      let other = false_from_ne_true (bytes_eq f (codes "pair")) (λ e. not_pair ((bytes_eq-Decides f (codes "pair")).0 e)) in
      rw other (absorb_by_chain m (not_alone m (λ v w e. not_pair cc) (λ c p e. absurd cc) (λ s. s)) log chain l h))
      (same_text_or_not f (codes "pair"))

  absorb_args : (f : List ℕ) (ts : Grounds) → AbsorbsAll ts → Absorbs (app f ts)
  absorb_args f none all = absorb_constant f
  absorb_args f (more t none) all =
      λ log chain l h normal. absorb_by_chain (app f (more t none)) (not_alone _ (λ v w e. absurd cc) (λ c p e. absurd cc) (λ s. s)) log chain l h
  absorb_args f (more t (more u none)) all = absorb_two f t u all.0 all.1.0
  absorb_args f (more t (more u (more w ws))) all =
      λ log chain l h normal.
      absorb_by_chain (app f (more t (more u (more w ws)))) (not_alone _ (λ v w e. absurd cc) (λ c p e. absurd cc) (λ s. s)) log chain l h

  mutual
    pub absorb : (m : Ground) → Absorbs m
    absorb (var x) = absurd x
    absorb (constant c) = λ log chain l h normal. learned_by log (constant c) public_name l tt (λ n. (tt, tt, tt))
    absorb (name k) = λ log chain l h normal. absorb_by_chain (name k) (not_alone _ (λ v w e. absurd cc) (λ c p e. absurd cc) (λ s. s)) log chain l h
    absorb (app f ts) = absorb_args f ts (absorb_all ts)

    absorb_all : (ts : Grounds) → AbsorbsAll ts
    absorb_all none = tt
    absorb_all (more t ts) = (absorb t, absorb_all ts)
