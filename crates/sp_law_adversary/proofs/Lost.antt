-- The private constant is known in an execution, and learnt in no log.
use Rattle.std.proofs.Common.{◌≡◌, ⊎_elim, inl, inr, ℕ, true, List, [], ◌∷◌, refl, ap, subst, true≢false}
use Rattle.std.specs.Prelude.{codes}
use Rattle.sp_spec.specs.Lists.{AtPosition}
use Rattle.sp_spec.specs.Term.{constant, app, none, more, Ground, Grounds, count, Values}
use Rattle.sp_spec.specs.Signature.{HasPublic, Symbol}
use Rattle.sp_spec.specs.Equal.{Equal, at_root, back, end}
use Rattle.sp_spec.specs.Rule.{Fact, Action, Facts, sends, knows, in_of}
use Rattle.sp_spec.specs.Theory.{signature_of}
use Rattle.sp_spec.specs.Execution.{put_in, know_public, apply_symbol, State, Leads}
use Rattle.sp_spec.specs.Log.{Source, How, public_name, own_name, constructed, by_chain, step, send, learn, Log, IsLearnt, rule_instance, sent_is_learnt, IsLog, visible_trace}
use Rattle.sp_law_equal.specs.Matching.{any_of}
use Rattle.sp_law_equal.proofs.Pairs.{names_apart}
use Rattle.sp_law_adversary.specs.Lost.{secret_theory, secret, secret_trace, SecretsAreLost}
use Rattle.sp_law_adversary.proofs.Walk.{IsKnownBy, known}
use Rattle.sp_law_adversary.proofs.Absorb.{pair_values, pair_value_sort}

not_public : HasPublic (signature_of secret_theory).symbols (codes "s") 0 → ⊥
not_public m =
    ⊎_elim (λ e. names_apart (codes "pair") (codes "s") refl (ap (λ (x : Symbol). x.name) e))
    (λ m1. ⊎_elim (λ e. names_apart (codes "fst") (codes "s") refl (ap (λ (x : Symbol). x.name) e))
    (λ m2. ⊎_elim (λ e. names_apart (codes "snd") (codes "s") refl (ap (λ (x : Symbol). x.name) e))
    (λ m3. ⊎_elim (λ e. names_apart (codes "d") (codes "s") refl (ap (λ (x : Symbol). x.name) e))
    (λ m4. ⊎_elim (λ e. true≢false (ap (λ (x : Symbol). x.private) e)) (λ h. h) m4) m3) m2) m1) m

-- no rule, no step
no_step : (log : Log) (p : ℕ) (r : List ℕ) (facts : Facts ⊥) (sources : List Source) → IsLog secret_theory log → AtPosition log p (step r facts sources) → ⊥
no_step [] p r facts sources l at = at
no_step (step r' facts' sources' ∷ past) p r facts sources l at = (l.1 rule_instance).1
no_step (send m ∷ past) p r facts sources l at = ⊎_elim (λ here. let e = here.1 in absurd cc) (λ k. no_step past p r facts sources l.0 k) at
no_step (learn m how ∷ past) p r facts sources l at = ⊎_elim (λ here. let e = here.1 in absurd cc) (λ k. no_step past p r facts sources l.0 k) at

not_known : (log : Log) → IsLog secret_theory log → (how : How) → IsKnownBy secret_theory log secret how → ⊥
not_known log l public_name h = h
not_known log l own_name h = h
not_known log l constructed made =
    let e : app (codes "s") none ≡ app made.0 made.1 = made.2 in
    let same_symbol : made.0 ≡ codes "s" = cc in
    let same_args : made.1 ≡ none = cc in
    not_public
    (subst (λ (f : List ℕ). HasPublic (signature_of secret_theory).symbols f 0) same_symbol
    (subst (λ (ts : Grounds). HasPublic (signature_of secret_theory).symbols made.0 (count ts)) same_args made.3))
not_known log l (by_chain p k chain) held = no_step log p held.called held.facts held.sources l held.there

not_learnt : (log : Log) → IsLog secret_theory log → IsLearnt log secret → ⊥
not_learnt log l h = let k = known secret_theory log secret l h in not_known log l k.0 k.2

not_shown : (log : Log) → IsLog secret_theory log → visible_trace log ≡ secret_trace → ⊥
not_shown [] l e = absurd cc
not_shown (step r facts sources ∷ past) l e = (l.1 rule_instance).1
not_shown (send m ∷ past) l e =
    let one : sends m ≡ sends secret = cc in
    let args : more m none ≡ more secret none = ap (λ (x : Action ⊥). x.args) one in
    let same : m ≡ secret = cc in
    not_learnt past l.0 (subst (λ (t : Ground). IsLearnt past t) same (l.1 sent_is_learnt))
not_shown (learn m how ∷ past) l e = not_shown past l.0 e

abbrev a : Ground
a = constant (codes "a")

abbrev d_of_a : Ground
d_of_a = app (codes "d") (more a none)

any_values : Values
any_values x = any_of x.sort

secret_is : Equal (signature_of secret_theory).equations secret d_of_a
secret_is = back (at_root (record { left = _; right = _ }) (inr (inr (inl refl))) (pair_values a a) (λ x. pair_value_sort a a x.sort x.number) refl refl) end

abbrev state_with : List (Fact ⊥) → State
state_with facts = record { facts = facts; made = [] }

abbrev facts_with : List (Fact ⊥) → List (Action ⊥) → Fact ⊥ → Facts ⊥
facts_with premises actions g = record { premises = premises; actions = actions; conclusions = g ∷ [] }

first_step : Leads secret_theory (know_public a) (facts_with [] [] (knows a)) (state_with []) (state_with (knows a ∷ []))
first_step = record { values = any_values; rest = []; named = tt; is_instance = refl; takes = refl; is_new = tt; sorts = (tt, tt); adds = refl }

second_step : Leads secret_theory (apply_symbol (codes "d") (more a none)) (facts_with (knows a ∷ []) [] (knows d_of_a)) (state_with (knows a ∷ []))
    (state_with (knows d_of_a ∷ knows a ∷ []))
second_step = record {
  values = any_values;
  rest = knows a ∷ [];
  named = inr (inr (inr (inl refl)));
  is_instance = refl;
  takes = ([], knows a, [], refl, (refl, refl, (end, tt)), refl);
  is_new = tt;
  sorts = (tt, tt);
  adds = refl;
}

third_step : Leads secret_theory (put_in secret) (facts_with (knows secret ∷ []) (sends secret ∷ []) (in_of secret)) (state_with (knows d_of_a ∷ knows a ∷ []))
    (state_with (in_of secret ∷ knows d_of_a ∷ knows a ∷ []))
third_step = record {
  values = any_values;
  rest = knows d_of_a ∷ knows a ∷ [];
  named = tt;
  is_instance = refl;
  takes = ([], knows d_of_a, knows a ∷ [], refl, (refl, refl, (secret_is, tt)), refl);
  is_new = tt;
  sorts = (tt, ((true, inr (inr (inr (inr (inl refl))))), tt));
  adds = refl;
}

pub secrets_lost : SecretsAreLost
secrets_lost = record {
  executed = (_, (_, [], _, (_, [], _, (_, [], _, (refl, refl), first_step, refl), second_step, refl), third_step, refl));
  no_log = λ log h. not_shown log h.is_log h.shows;
}
