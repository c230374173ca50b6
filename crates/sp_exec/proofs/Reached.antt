-- What is reached by steps, one after the other, follows each state to which they lead.
use Rattle.std.proofs.Common.{◌≡◌, ◌<◌, ◌≤◌, ◌+◌, ℕ, suc, take, drop, get_or, arith, List, [], ◌∷◌, ◌++◌, Result, Ok, Err, refl, sym, ap, ap₂, ◌∙◌, subst, map, length}
use Rattle.sp_spec.specs.Lists.{Member, newest_first}
use Rattle.sp_spec.specs.Term.{Ground}
use Rattle.sp_spec.specs.Signature.{Equation, Signature}
use Rattle.sp_spec.specs.Rule.{Rule}
use Rattle.sp_spec.specs.Theory.{Theory, signature_of}
use Rattle.sp_spec.specs.Execution.{Step, State, Trace, with_entry, Runs, Cause}
use Rattle.sp_law_equal.specs.NormalForms.{HaveNormalForms}
use Rattle.sp_law_run.specs.NormalStep.{normal_trace}
use Rattle.sp_law_equal.specs.Right.{AreRight}
use Rattle.sp_law_run.proofs.Counted.{same_facts_itself, same_facts_then}
use Rattle.sp_law_run.proofs.Taking.{normals}
use Rattle.sp_law_run.proofs.Runs.{runs_alike}
use Rattle.sp_exec.proofs.Lists.{images, images_at, images_more, images_all, images_before}
use Rattle.sp_exec.specs.Next.{Reached, nothing, next}
use Rattle.sp_exec.specs.Replay.{IsReplayed, IsFirstFault}
use Rattle.sp_exec.proofs.Instances.{IsFault}
use Rattle.sp_exec.proofs.Steps.{Follows, IsRightNext, next_right}
use Rattle.sp_spec.proofs.Lists.{newest_last}

-- the steps, the oldest first, are an execution, and this follows its state
pub record Reaches (theory : Theory) (steps : List Step) (m : Reached) : Type 0 where
  pub state : State
  pub trace : Trace
  pub runs : Runs theory (newest_first steps) state trace
  pub follows : Follows (signature_of theory).equations m state trace

starts : (theory : Theory) → Reaches theory [] nothing
starts theory = record {
  state = record { facts = []; made = [] };
  trace = [];
  runs = (refl, refl);
  follows = record { facts = same_facts_itself []; there = λ t m. m; back = λ t m. m; shown = refl };
}

module _ (theory : Theory) (good : HaveNormalForms (signature_of theory).equations) (right : AreRight theory.rules) where
  -- it follows each state to which they lead
  each_state : (steps : List Step) (m : Reached) → Reaches theory steps m → (state : State) (trace : Trace) → Runs theory (newest_first steps) state trace →
      Follows (signature_of theory).equations m state trace
  each_state steps m r state trace runs =
      let es : List Equation = (signature_of theory).equations in
      let same = runs_alike theory good right (newest_first steps) r.state state r.trace trace r.runs runs in
      record {
        facts = same_facts_then m.facts (normals es r.state.facts) (normals es state.facts) r.follows.facts same.0.facts;
        there = λ t k. subst (λ (ts : List Ground). Member t ts) same.0.made (r.follows.there t k);
        back = λ t k. r.follows.back t (subst (λ (ts : List Ground). Member t ts) (sym same.0.made) k);
        shown = r.follows.shown ∙ ap (normal_trace es) same.1;
      }

  steps_on : (steps : List Step) (step : Step) (m m' : Reached) → Reaches theory steps m → next (signature_of theory) theory.rules step m ≡ Ok m' →
      Reaches theory (steps ++ step ∷ []) m'
  steps_on steps step m m' r e =
      let n : IsRightNext theory step r.state r.trace (Ok m') =
      subst (λ (k : Result Reached Cause). IsRightNext theory step r.state r.trace k) e (next_right theory good right step m r.state r.trace r.follows) in
      let shown : Trace = with_entry n.0.actions r.trace in
      record {
        state = n.1;
        trace = shown;
        runs = subst (λ (zs : List Step). Runs theory zs n.1 shown) (sym (newest_last steps step)) (r.state, r.trace, n.0, r.runs, n.2, refl);
        follows = n.3;
      }

  stops : (steps : List Step) (step : Step) (rest : List Step) (m : Reached) (cause : Cause) → Reaches theory steps m →
      next (signature_of theory) theory.rules step m ≡ Err cause → IsFirstFault theory (steps ++ step ∷ rest) (suc (length steps)) cause
  stops steps step rest m cause r e =
      let fault : (state : State) (trace : Trace) → Runs theory (newest_first steps) state trace → IsFault theory step state cause = λ state trace runs.
      subst (λ (k : Result Reached Cause). IsRightNext theory step state trace k) e
      (next_right theory good right step m state trace (each_state steps m r state trace runs)) in
      record {
        front = steps;
        step = step;
        back = rest;
        splits = refl;
        counted = refl;
        reached = (r.state, r.trace, r.runs);
        fails = λ state trace runs. (fault state trace runs).fails;
        least = λ state trace runs. (fault state trace runs).least;
      }

  ends : (steps : List Step) (m : Reached) → Reaches theory steps m → IsReplayed theory steps (newest_first m.entries)
  ends steps m r = record {
    shown = r.trace;
    executed = (r.state, r.runs);
    each = λ other k. sym (each_state steps m r k.0 other k.1).shown;
  }

-- the same for each theory of these symbols, equations and rules
pub record ReachesEach (signature : Signature) (rules : List Rule) (steps : List Step) (m : Reached) : Type 0 where
  pub each : (theory : Theory) → theory.rules ≡ rules → signature_of theory ≡ signature → Reaches theory steps m

pub starts_each : (signature : Signature) (rules : List Rule) → ReachesEach signature rules [] nothing
starts_each signature rules = record { each = λ theory a b. starts theory }

module _ (signature : Signature) (rules : List Rule) (good : HaveNormalForms signature.equations) (right : AreRight rules) where
  module _ (theory : Theory) (a : theory.rules ≡ rules) (b : signature_of theory ≡ signature) where
    good_of : HaveNormalForms (signature_of theory).equations
    good_of = subst (λ (s : Signature). HaveNormalForms s.equations) (sym b) good

    right_of : AreRight theory.rules
    right_of = subst AreRight (sym a) right

    next_of : (step : Step) (m : Reached) → next (signature_of theory) theory.rules step m ≡ next signature rules step m
    next_of step m = ap₂ (λ (s : Signature) (rs : List Rule). next s rs step m) b a

  pub steps_on_each : (steps : List Step) (step : Step) (m m' : Reached) → ReachesEach signature rules steps m → next signature rules step m ≡ Ok m' →
      ReachesEach signature rules (steps ++ step ∷ []) m'
  steps_on_each steps step m m' r e = record {
    each = λ theory a b. steps_on theory (good_of theory a b) (right_of theory a b) steps step m m' (r.each theory a b) (next_of theory a b step m ∙ e);
  }

  pub stops_each : (steps : List Step) (step : Step) (rest : List Step) (m : Reached) (cause : Cause) → ReachesEach signature rules steps m →
      next signature rules step m ≡ Err cause → (theory : Theory) → theory.rules ≡ rules → signature_of theory ≡ signature →
      IsFirstFault theory (steps ++ step ∷ rest) (suc (length steps)) cause
  stops_each steps step rest m cause r e theory a b =
      stops theory (good_of theory a b) (right_of theory a b) steps step rest m cause (r.each theory a b) (next_of theory a b step m ∙ e)

  pub ends_each : (steps : List Step) (m : Reached) → ReachesEach signature rules steps m → (theory : Theory) → theory.rules ≡ rules → signature_of theory ≡ signature →
      IsReplayed theory steps (newest_first m.entries)
  ends_each steps m r theory a b = ends theory (good_of theory a b) (right_of theory a b) steps m (r.each theory a b)

  -- over steps of a list, each in some form
  module _ {A : Type 0} (f : A → Step) (g : Step → Step) (xs : List A) (i : ℕ) where
    pub goes_on : (x : A) → i < length xs → x ≡ get_or xs i x → (m m' : Reached) → ReachesEach signature rules (map g (map f (take i xs))) m →
        next signature rules (g (f x)) m ≡ Ok m' → ReachesEach signature rules (map g (map f (take (i + 1) xs))) m'
    goes_on x l e m m' r n =
        let number : suc i ≡ i + 1 = omega arith in
        let more = steps_on_each (images f g (take i xs)) (g (f x)) m m' r n in
        subst (λ (k : ℕ). ReachesEach signature rules (images f g (take k xs)) m') number
        (subst (λ (zs : List Step). ReachesEach signature rules zs m') (sym (images_more f g xs i x l e)) more)

    pub is_refused : (x : A) → i < length xs → x ≡ get_or xs i x → (m : Reached) (cause : Cause) → ReachesEach signature rules (map g (map f (take i xs))) m →
        next signature rules (g (f x)) m ≡ Err cause → (theory : Theory) → theory.rules ≡ rules → signature_of theory ≡ signature →
        IsFirstFault theory (map g (map f xs)) (i + 1) cause
    is_refused x l e m cause r n theory a b =
        let front = images f g (take i xs) in
        let before : length front ≡ i = images_before f g xs i l in
        let number : suc (length front) ≡ i + 1 = omega (arith, before) in
        let fault = stops_each front (g (f x)) (images f g (drop (suc i) xs)) m cause r n theory a b in
        subst (λ (k : ℕ). IsFirstFault theory (images f g xs) k cause) number
        (subst (λ (zs : List Step). IsFirstFault theory zs (suc (length front)) cause) (sym (images_at f g xs i x l e)) fault)

    pub is_done : length xs ≤ i → (m : Reached) → ReachesEach signature rules (map g (map f (take i xs))) m →
        (theory : Theory) → theory.rules ≡ rules → signature_of theory ≡ signature → IsReplayed theory (map g (map f xs)) (newest_first m.entries)
    is_done l m r theory a b =
        subst (λ (zs : List Step). IsReplayed theory zs (newest_first m.entries)) (images_all f g xs i l) (ends_each (images f g (take i xs)) m r theory a b)
