-- What the state of an execution has of a log, and what keeps it.
use Rattle.std.proofs.Common.{◌≡◌, ℕ, Bool, true, false, ◌&&◌, ◌||◌, ◌==◌, List, refl, sym, ap, subst}
use Rattle.std.specs.Prelude.{codes}
use Rattle.std.proofs.lemmas.Bool.{and_parts, and_from, eqb-true, eq-eqb}
use Rattle.sp_spec.specs.Lists.{Member, AtPosition}
use Rattle.sp_spec.specs.Term.{Ground}
use Rattle.sp_spec.specs.Rule.{Fact, out_of, knows}
use Rattle.sp_spec.specs.Theory.{Theory}
use Rattle.sp_spec.specs.Execution.{Step}
use Rattle.sp_spec.specs.Log.{Source, fresh_rule, conclusion, Entry, Log, Concludes, IsLearnt, visible_trace}
use Rattle.sp_law_log_steps.proofs.Labels.{Labelled}
use Rattle.sp_law_log_steps.proofs.Premises.{HasConclusions}
use Rattle.sp_law_log_steps.proofs.Stepped.{RunShowing}
use Rattle.sp_law_log_execution.specs.Executed.{is_taken}
use Rattle.sp_law_log_execution.proofs.Lifted.{Persists, IsKnownIn, known_stays}

-- what is put out is left aside: no rule takes it, and the adversary does so for the first chain from it
abbrev pub IsOut : Fact ⊥ → Type 0
IsOut f = f.symbol ≡ codes "Out"

abbrev pub known_label : Ground → Labelled
known_label t = (fresh_rule, knows t)

abbrev pub out_label : Source → Ground → Labelled
out_label o t = (o, out_of t)

-- whether the adversary has taken the conclusion of the entry at a position, by its place
abbrev pub Taken : Type 0
Taken = ℕ → ℕ → Bool

abbrev pub taken_in : Log → Taken
taken_in log = λ p k. is_taken log p k

-- this conclusion too
abbrev pub and_taken : Taken → ℕ → ℕ → Taken
and_taken taken p k = λ q j. ((p == q) && (k == j)) || taken q j

module _ (theory : Theory) where
  -- an Out that isn't taken is there, and what was put out in one that is taken is known
  abbrev pub HasOut : Bool → List Labelled → List (Fact ⊥) → Source → Ground → Type 0
  HasOut true state actual o t = IsKnownIn theory actual t
  HasOut false state actual o t = Member (out_label o t) state

  -- The conclusions of the log that aren't Outs are there, but those that are linear and named; of each Out itself or its knowledge; what was learnt is known.
  pub record Has (taken : Taken) (log : Log) (state : List Labelled) (actual : List (Fact ⊥)) : Type 0 where
    pub others : HasConclusions IsOut log state
    pub outs : (p k : ℕ) (e : Entry) (t : Ground) → AtPosition log p e → Concludes e k (out_of t) → HasOut (taken p k) state actual (conclusion p k) t
    pub learnt : (m : Ground) → IsLearnt log m → IsKnownIn theory actual m

  -- these steps are an execution that carries the log, where the names that were made are among these
  pub record Carried (taken : Taken) (log : Log) (uses : List Ground) (steps : List Step) : Type 0 where
    pub run : RunShowing theory (visible_trace log) uses
    pub steps_are : run.steps ≡ steps
    pub has : Has taken log run.state run.actual

  -- one in which the message is known
  pub record WithKnown (taken : Taken) (log : Log) (uses : List Ground) (steps : List Step) (m : Ground) : Type 0 where
    pub carried : Carried taken log uses steps
    pub known : IsKnownIn theory carried.run.actual m

  module _ (facts later : List (Fact ⊥)) (persists : Persists facts later) (before after : List Labelled) (o : Source) (t : Ground) where
    -- a conclusion that is taken is known still, and another stays where its fact does
    pub out_later : (b : Bool) → (Member (out_label o t) before → Member (out_label o t) after) → HasOut b before facts o t → HasOut b after later o t
    out_later true stays h = known_stays theory facts later persists t h
    out_later false stays h = stays h

  module _ (taken : Taken) (log : Log) (facts later : List (Fact ⊥)) (persists : Persists facts later) (before after : List Labelled) where
    -- where more is there
    pub has_later : ((y : Labelled) → Member y before → Member y after) → Has taken log before facts → Has taken log after later
    has_later stays h = record {
      others = record { there = λ p k e f at con other free. stays (conclusion p k, f) (h.others.there p k e f at con other free) };
      outs = λ p k e t at con.
          out_later facts later persists before after (conclusion p k) t (taken p k) (stays (out_label (conclusion p k) t)) (h.outs p k e t at con);
      learnt = λ m l. known_stays theory facts later persists m (h.learnt m l);
    }

    -- where what was put out is known from then on, and all but that fact stays
    module _ (p k : ℕ) (u : Ground) (known : IsKnownIn theory later u)
        (one : (e : Entry) (t : Ground) → AtPosition log p e → Concludes e k (out_of t) → u ≡ t)
        (stays : (y : Labelled) → Member y before → (out_label (conclusion p k) u ≡ y → ⊥) → Member y after) where
      apart : (q j : ℕ) (t : Ground) → (p == q) && (k == j) ≡ false → out_label (conclusion p k) u ≡ out_label (conclusion q j) t → ⊥
      apart q j t e same =
          let source : conclusion p k ≡ conclusion q j = ap (λ (z : Labelled). z.0) same in
          let position : p ≡ q = cc in
          let place : k ≡ j = cc in
          let both = and_from (p == q) (k == j) (eq-eqb p q position) (eq-eqb k j place) in
          absurd cc

      out_taken : (q j : ℕ) (t : Ground) → (p ≡ q → k ≡ j → u ≡ t) → (here b : Bool) → (p == q) && (k == j) ≡ here
          → HasOut b before facts (conclusion q j) t → HasOut (here || b) after later (conclusion q j) t
      out_taken q j t same true b e h =
          let parts = and_parts (p == q) (k == j) e in
          subst (IsKnownIn theory later) (same (eqb-true p q parts.0) (eqb-true k j parts.1)) known
      out_taken q j t same false b e h =
          out_later facts later persists before after (conclusion q j) t b (λ m. stays (out_label (conclusion q j) t) m (apart q j t e)) h

      pub has_taken : Has taken log before facts → Has (and_taken taken p k) log after later
      has_taken h = record {
        others = record {
          there = λ q j e f at con other free.
              stays (conclusion q j, f) (h.others.there q j e f at con other free) (λ same. other (sym (ap (λ (z : Labelled). z.1.symbol) same)));
        };
        outs = λ q j e t at con.
            out_taken q j t
            (λ position place.
            one e t (subst (λ (n : ℕ). AtPosition log n e) (sym position) at) (subst (λ (n : ℕ). Concludes e n (out_of t)) (sym place) con))
            ((p == q) && (k == j)) (taken q j) refl (h.outs q j e t at con);
        learnt = λ m l. known_stays theory facts later persists m (h.learnt m l);
      }
