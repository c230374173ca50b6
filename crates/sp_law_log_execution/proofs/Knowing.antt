-- Each way to know a message, as steps of the adversary's behind an execution that carries the log.
use Rattle.std.proofs.Common.{◌≡◌, ⊎_elim, ℕ, Bool, true, false, if◌then◌else◌, List, [], ◌∷◌, ◌++◌, inl, inr, refl, sym, ap, ◌∙◌, subst}
use Rattle.sp_spec.specs.Lists.{Member, AtPosition}
use Rattle.sp_spec.proofs.Lists.{member_left, member_right, member_either, position_one, place_one}
use Rattle.sp_spec.specs.Term.{Pub, Fresh, var, constant, name, app, none, more, Ground, Grounds, count}
use Rattle.sp_spec.specs.Signature.{Signature, Equation, HasPublic, HasSort, IsValue, IsOver}
use Rattle.sp_spec.specs.Rule.{Fact, Facts, fr, out_of, knows}
use Rattle.sp_spec.specs.Theory.{Theory, signature_of}
use Rattle.sp_spec.specs.Execution.{Step, make_fresh, take_out, know_public, make_own, apply_symbol, Takes, Leads, Runs}
use Rattle.sp_spec.specs.Log.{fresh_rule, conclusion, Entry, step, send, learn, Log, Concludes, AreLearnt, all_fresh_uses}
use Rattle.sp_law_equal.proofs.Chains.{same_fact_refl}
use Rattle.sp_law_run.proofs.Taking.{map_append}
use Rattle.sp_law_log_steps.proofs.Alike.{AreAlike, alike_itself, alike_append, takes_alike, persistent_stays}
use Rattle.sp_law_log_steps.proofs.Labels.{Labelled, facts_in, member_split}
use Rattle.sp_law_log_steps.proofs.FreshRuns.{state_of, fresh_is_value, run_fresh}
use Rattle.sp_law_log_execution.proofs.Lifted.{Persists, AreKnownIn, known_now, Reaches, reaches_app}
use Rattle.sp_law_log_execution.proofs.Kept.{Taken, and_taken, known_label, out_label, HasOut, Carried, WithKnown, has_later, has_taken}

-- facts that aren't the log's
abbrev loose : List (Fact ⊥) → List Labelled
loose [] = []
loose (f ∷ fs) = (fresh_rule, f) ∷ loose fs

loose_facts : (fs : List (Fact ⊥)) → facts_in (loose fs) ≡ fs
loose_facts [] = refl
loose_facts (f ∷ fs) = ap (λ gs. f ∷ gs) (loose_facts fs)

-- a public name is over each signature
public_is_value : (signature : Signature) (t : Ground) → HasSort Pub t → IsValue signature Pub t
public_is_value signature (var x) h = absurd x
public_is_value signature (constant c) h = (tt, tt)
public_is_value signature (name n) h = absurd h
public_is_value signature (app f ts) h = absurd h

-- all but the one in the middle
but_one : (y x : Labelled) (front back : List Labelled) → (x ≡ y → ⊥) → Member y (front ++ x ∷ back) → Member y (front ++ back)
but_one y x front back other m =
    ⊎_elim (λ k. member_left y front back k) (λ k. ⊎_elim (λ e. absurd (other e)) (λ behind. member_right y front back behind) k)
    (member_either y front (x ∷ back) m)

-- an entry gives one fact as its conclusion of a place
abbrev first_or_any : Grounds → Ground
first_or_any none = constant []
first_or_any (more t ts) = t

one_out : (e : Entry) (k : ℕ) (t u : Ground) → Concludes e k (out_of t) → Concludes e k (out_of u) → t ≡ u
one_out e k t u a b = ap (λ (f : Fact ⊥). first_or_any f.args) (one_fact e (out_of t) (out_of u) a b)
  where
    one_fact : (e : Entry) (f g : Fact ⊥) → Concludes e k f → Concludes e k g → f ≡ g
    one_fact (step r facts os) f g a b = place_one facts.conclusions k f g a b
    one_fact (send m) f g a b = a.1 ∙ sym b.1
    one_fact (learn m how) f g a b = absurd a

module _ (theory : Theory) (past : Log) (taken : Taken) (steps : List Step) (c : Carried theory taken past (all_fresh_uses past) steps) where
  abbrev es : List Equation
  es = (signature_of theory).equations

  abbrev actual : List (Fact ⊥)
  actual = c.run.actual

  -- an execution that goes on by these steps to where the message is known, and all that was there is there still
  with_known : (uses : List Ground) (m : Ground) → IsOver (signature_of theory).symbols m → (up : List Step) (made : List Ground)
      → Runs theory (up ++ c.run.steps) (state_of (knows m ∷ actual) made) c.run.trace → ((t : Ground) → Member t made → Member t uses)
      → WithKnown theory taken past uses (up ++ steps) m
  with_known uses m over up made runs used = record {
    carried = record {
      run = record {
        steps = up ++ c.run.steps;
        state = known_label m ∷ c.run.state;
        actual = knows m ∷ actual;
        alike = (same_fact_refl es (knows m), c.run.alike);
        made = made;
        trace = c.run.trace;
        shown = c.run.shown;
        runs = runs;
        used = used;
      };
      steps_are = ap (λ (xs : List Step). up ++ xs) c.steps_are;
      has = has_later theory taken past actual (knows m ∷ actual) (λ g k p. inr k) c.run.state (known_label m ∷ c.run.state) (λ y k. inr k) c.has;
    };
    known = known_now theory actual m over;
  }

  pub public_known : (m : Ground) → HasSort Pub m → WithKnown theory taken past (all_fresh_uses past) (know_public m ∷ steps) m
  public_known m sort =
      let value = public_is_value (signature_of theory) m sort in
      let facts : Facts ⊥ = record { premises = []; actions = []; conclusions = knows m ∷ [] } in
      let leads : Leads theory (know_public m) facts (state_of actual c.run.made) (state_of (knows m ∷ actual) c.run.made) = record {
        values = λ x. constant [];
        rest = actual;
        named = tt;
        is_instance = refl;
        takes = refl;
        is_new = tt;
        sorts = value;
        adds = refl;
      } in
      with_known (all_fresh_uses past) m value.1 (know_public m ∷ []) c.run.made
      (state_of actual c.run.made, c.run.trace, facts, c.run.runs, leads, refl) c.run.used

  -- the name is made, and then it is the adversary's own
  pub own_known : (m : Ground) → HasSort Fresh m → (Member m (all_fresh_uses past) → ⊥)
      → WithKnown theory taken past (m ∷ all_fresh_uses past) (make_own m ∷ make_fresh m ∷ steps) m
  own_known m sort new =
      let value = fresh_is_value (signature_of theory) m sort in
      let apart : (t : Ground) → Member t (m ∷ []) → Member t c.run.made → ⊥ =
      λ t k old. new (⊎_elim (λ e. subst (λ (u : Ground). Member u (all_fresh_uses past)) (sym e) (c.run.used t old)) (λ wrong. absurd wrong) k) in
      let making = run_fresh theory (m ∷ []) c.run.steps actual c.run.made c.run.trace c.run.runs (sort, tt) ((λ k. k), tt) apart in
      let between = state_of (fr m ∷ actual) (m ∷ c.run.made) in
      let facts : Facts ⊥ = record { premises = fr m ∷ []; actions = []; conclusions = knows m ∷ [] } in
      let leads : Leads theory (make_own m) facts between (state_of (knows m ∷ actual) (m ∷ c.run.made)) = record {
        values = λ x. constant [];
        rest = actual;
        named = tt;
        is_instance = refl;
        takes = ([], fr m, actual, refl, same_fact_refl es (fr m), refl);
        is_new = tt;
        sorts = value;
        adds = refl;
      } in
      with_known (m ∷ all_fresh_uses past) m value.1 (make_own m ∷ make_fresh m ∷ []) (m ∷ c.run.made)
      (between, c.run.trace, facts, making, leads, refl)
      (λ t k. ⊎_elim (λ e. inl e) (λ old. inr (c.run.used t old)) k)

  -- the adversary's steps that lead there
  pub reached : (m : Ground) (up : List Step) → Reaches theory actual c.run.made up m → WithKnown theory taken past (all_fresh_uses past) (up ++ steps) m
  reached m up r =
      let state = loose r.added ++ c.run.state in
      let there : AreAlike es (r.added ++ actual) (facts_in (loose r.added) ++ facts_in c.run.state) =
      alike_append es r.added (facts_in (loose r.added)) actual (facts_in c.run.state)
      (subst (AreAlike es r.added) (sym (loose_facts r.added)) (alike_itself es r.added)) c.run.alike in
      let still : (g : Fact ⊥) → Member g actual → Member g r.later =
      λ g k. subst (λ (fs : List (Fact ⊥)). Member g fs) (sym r.is) (member_right g r.added actual k) in
      record {
        carried = record {
          run = record {
            steps = up ++ c.run.steps;
            state = state;
            actual = r.later;
            alike =
                subst (λ (fs : List (Fact ⊥)). AreAlike es fs (facts_in state)) (sym r.is)
                (subst (AreAlike es (r.added ++ actual)) (sym (map_append (λ (x : Labelled). x.1) (loose r.added) c.run.state)) there);
            made = c.run.made;
            trace = c.run.trace;
            shown = c.run.shown;
            runs = r.runs c.run.steps c.run.trace c.run.runs;
            used = c.run.used;
          };
          steps_are = ap (λ (xs : List Step). up ++ xs) c.steps_are;
          has = has_later theory taken past actual r.later (λ g k p. still g k) c.run.state state (λ y k. member_right y (loose r.added) c.run.state k) c.has;
        };
        known = r.known;
      }

  all_learnt : (ts : Grounds) → AreLearnt past ts → AreKnownIn theory actual ts
  all_learnt none h = tt
  all_learnt (more t ts) h = (c.has.learnt t h.0, all_learnt ts h.1)

  -- a public symbol is applied to learnt messages
  pub constructed_known : (f : List ℕ) (ts : Grounds) → HasPublic (signature_of theory).symbols f (count ts) → AreLearnt past ts
      → WithKnown theory taken past (all_fresh_uses past) (apply_symbol f ts ∷ steps) (app f ts)
  constructed_known f ts public learnt =
      reached (app f ts) (apply_symbol f ts ∷ []) (reaches_app theory c.run.made actual f ts public (all_learnt ts learnt))

  -- the argument of an Out
  module _ (p k : ℕ) (e : Entry) (first : Ground) (over : IsOver (signature_of theory).symbols first) (at : AtPosition past p e)
      (con : Concludes e k (out_of first)) where
    -- no other is put out there
    one : (d : Entry) (t : Ground) → AtPosition past p d → Concludes d k (out_of t) → first ≡ t
    one d t there its = one_out d k first t (subst (λ (x : Entry). Concludes x k (out_of first)) (position_one past p e d at there) con) its

    -- what was put out is taken
    taken_out : Member (out_label (conclusion p k) first) c.run.state
        → WithKnown theory (and_taken taken p k) past (all_fresh_uses past) (take_out first ∷ steps) first
    taken_out m =
        let o = conclusion p k in
        let s = member_split (out_label o first) c.run.state m in
        let front = s.0 in
        let back = s.1 in
        let there : Takes es (out_of first ∷ []) (facts_in c.run.state) (facts_in (front ++ back)) = (
          facts_in front,
          out_of first,
          facts_in back,
          ap facts_in s.2 ∙ map_append (λ (z : Labelled). z.1) front (out_label o first ∷ back),
          same_fact_refl es (out_of first),
          sym (map_append (λ (z : Labelled). z.1) front back),
        ) in
        let t = takes_alike es (out_of first ∷ []) actual (facts_in c.run.state) (facts_in (front ++ back)) c.run.alike there in
        let later = knows first ∷ t.0 in
        let state = known_label first ∷ front ++ back in
        let persists : Persists actual later = λ g was persistent. inr (persistent_stays es (out_of first ∷ []) actual t.0 t.1 g was persistent) in
        let known = known_now theory t.0 first over in
        let facts : Facts ⊥ = record { premises = out_of first ∷ []; actions = []; conclusions = knows first ∷ [] } in
        let leads : Leads theory (take_out first) facts (state_of actual c.run.made) (state_of later c.run.made) = record {
          values = λ x. constant [];
          rest = t.0;
          named = tt;
          is_instance = refl;
          takes = t.1;
          is_new = tt;
          sorts = (tt, over);
          adds = refl;
        } in
        let stays : (y : Labelled) → Member y c.run.state → (out_label o first ≡ y → ⊥) → Member y state =
        λ y was other. inr (but_one y (out_label o first) front back other (subst (λ (zs : List Labelled). Member y zs) s.2 was)) in
        record {
          carried = record {
            run = record {
              steps = take_out first ∷ c.run.steps;
              state = state;
              actual = later;
              alike = (same_fact_refl es (knows first), t.2);
              made = c.run.made;
              trace = c.run.trace;
              shown = c.run.shown;
              runs = (state_of actual c.run.made, c.run.trace, facts, c.run.runs, leads, refl);
              used = c.run.used;
            };
            steps_are = ap (λ (xs : List Step). take_out first ∷ xs) c.steps_are;
            has = has_taken theory taken past actual later persists c.run.state state p k first known one stays c.has;
          };
          known = known;
        }

    -- unless it was taken before
    known_by : (b : Bool) → HasOut theory b c.run.state actual (conclusion p k) first
        → WithKnown theory (and_taken taken p k) past (all_fresh_uses past) ((if b then [] else take_out first ∷ []) ++ steps) first
    known_by true h = record {
      carried = record {
        run = c.run;
        steps_are = c.steps_are;
        has = has_taken theory taken past actual actual (λ g m persistent. m) c.run.state c.run.state p k first h one (λ y m other. m) c.has;
      };
      known = h;
    }
    known_by false m = taken_out m

    pub out_known : WithKnown theory (and_taken taken p k) past (all_fresh_uses past) ((if taken p k then [] else take_out first ∷ []) ++ steps) first
    out_known = known_by (taken p k) (c.has.outs p k e first at con)
