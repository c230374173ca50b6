-- The way up: from a message at its end and the messages beside it the adversary gets the one where it begins, by applying the symbols above.
use Rattle.std.proofs.Common.{◌≡◌, inl, ℕ, Bool, true, false, List, [], ◌∷◌, ◌++◌, map, refl, sym, ap, ◌∙◌, subst, append_assoc, if◌then◌else◌}
use Rattle.sp_spec.specs.Lists.{Member}
use Rattle.sp_spec.specs.Term.{Variable, Term, constant, app, Terms, none, more, Ground, Grounds, joined, count, Values, valued, valued_all}
use Rattle.sp_spec.specs.Signature.{HasPublic, IsOver, AreOver}
use Rattle.sp_spec.specs.Equal.{Equal}
use Rattle.sp_spec.specs.Rule.{Fact, Facts, SameFact, knows}
use Rattle.sp_spec.specs.Theory.{Theory, signature_of}
use Rattle.sp_spec.specs.Execution.{Step, apply_symbol, known_all, Takes, Leads, Trace, Runs}
use Rattle.sp_spec.specs.Destruction.{Fork}
use Rattle.sp_spec.proofs.Lists.{member_right}
use Rattle.sp_law_equal.specs.Parts.{IsPart}
use Rattle.sp_law_equal.proofs.Chains.{equal_all_trans, same_fact_refl}
use Rattle.sp_law_equal.proofs.Parts.{part_over}
use Rattle.sp_law_log.specs.Ways.{args_with, sides, ArePublic, IsWay}
use Rattle.sp_law_run.proofs.Over.{count_valued}
use Rattle.sp_law_log_steps.proofs.Labels.{member_split}
use Rattle.sp_law_log_steps.proofs.FreshRuns.{state_of}
use Rattle.sp_law_log_execution.specs.Executed.{level_of, raising}
use Rattle.sp_law_log_execution.proofs.Raised.{shown, raising_is}

-- what is persistent stays
abbrev pub Persists : List (Fact ⊥) → List (Fact ⊥) → Type 0
Persists facts later = (g : Fact ⊥) → Member g facts → g.persistent ≡ true → Member g later

module _ (theory : Theory) where
  -- the message is over the symbols, and is known modulo the equations
  abbrev pub IsKnownIn : List (Fact ⊥) → Ground → Type 0
  IsKnownIn facts t = IsOver (signature_of theory).symbols t × ((g : Fact ⊥) × Member g facts × SameFact (signature_of theory).equations (knows t) g)

  abbrev pub AreKnownIn : List (Fact ⊥) → Grounds → Type 0
  AreKnownIn facts none = Unit {0}
  AreKnownIn facts (more t ts) = IsKnownIn facts t × AreKnownIn facts ts

  pub are_over : (facts : List (Fact ⊥)) (ts : Grounds) → AreKnownIn facts ts → AreOver (signature_of theory).symbols ts
  are_over facts none h = tt
  are_over facts (more t ts) h = (h.0.0, are_over facts ts h.1)

  -- so what is known is known still
  pub known_stays : (facts later : List (Fact ⊥)) → Persists facts later → (t : Ground) → IsKnownIn facts t → IsKnownIn later t
  known_stays facts later stays t h = (h.0, (h.1.0, stays h.1.0 h.1.1 (sym h.1.2.1), h.1.2))

  all_known_stay : (facts later : List (Fact ⊥)) → Persists facts later → (ts : Grounds) → AreKnownIn facts ts → AreKnownIn later ts
  all_known_stay facts later stays none h = tt
  all_known_stay facts later stays (more t ts) h = (known_stays facts later stays t h.0, all_known_stay facts later stays ts h.1)

  -- what is known by a fact that is there
  pub known_now : (facts : List (Fact ⊥)) (t : Ground) → IsOver (signature_of theory).symbols t → IsKnownIn (knows t ∷ facts) t
  known_now facts t over = (over, (knows t, inl refl, same_fact_refl (signature_of theory).equations (knows t)))

  module _ (facts : List (Fact ⊥)) (v : Values) where
    known_parts : (ts us : Terms Variable) → AreKnownIn facts (valued_all v (joined ts us))
        → AreKnownIn facts (valued_all v ts) × AreKnownIn facts (valued_all v us)
    known_parts none us h = (tt, h)
    known_parts (more t ts) us h = let r = known_parts ts us h.1 in ((h.0, r.0), r.1)

    known_among : (front : Terms Variable) (t : Term Variable) (back : Terms Variable) → AreKnownIn facts (valued_all v (joined front back))
        → IsKnownIn facts (valued v t) → AreKnownIn facts (valued_all v (joined front (more t back)))
    known_among none t back h k = (k, h)
    known_among (more u front) t back h k = (h.0, known_among front t back h.1 k)

  -- what is known stays when it is taken
  pub takes_known : (facts : List (Fact ⊥)) (ts : Grounds) → AreKnownIn facts ts → Takes (signature_of theory).equations (known_all ts) facts facts
  takes_known facts none h = refl
  takes_known facts (more t ts) h =
      let g = h.0.1.0 in
      let s = member_split g facts h.0.1.1 in (
        s.0,
        g,
        s.1,
        s.2,
        h.0.1.2,
        subst (λ (b : Bool). Takes (signature_of theory).equations (known_all ts) (s.0 ++ (if b then g ∷ s.1 else s.1)) facts) h.0.1.2.1
            (subst (λ (xs : List (Fact ⊥)). Takes (signature_of theory).equations (known_all ts) xs facts) s.2 (takes_known facts ts h.1)),
      )

  -- these steps of the adversary's lead to where the message is known too
  pub record Reaches (facts : List (Fact ⊥)) (made : List Ground) (steps : List Step) (t : Ground) : Type 0 where
    pub later : List (Fact ⊥)
    pub runs : (past : List Step) (trace : Trace) → Runs theory past (state_of facts made) trace → Runs theory (steps ++ past) (state_of later made) trace
    pub added : List (Fact ⊥)
    pub is : later ≡ added ++ facts
    pub known : IsKnownIn later t

  module _ (made : List Ground) where
    pub reaches_known : (facts : List (Fact ⊥)) (t : Ground) → IsKnownIn facts t → Reaches facts made [] t
    reaches_known facts t h = record { later = facts; runs = λ past trace r. r; added = []; is = refl; known = h }

    -- what was there is there still
    pub reaches_keeps : (facts : List (Fact ⊥)) (steps : List Step) (t : Ground) (a : Reaches facts made steps t) (g : Fact ⊥) → Member g facts
        → Member g a.later
    reaches_keeps facts steps t a g m = subst (λ (fs : List (Fact ⊥)). Member g fs) (sym a.is) (member_right g a.added facts m)

    pub reaches_then : (facts : List (Fact ⊥)) (before after : List Step) (t u : Ground) (a : Reaches facts made before t) → Reaches a.later made after u
        → Reaches facts made (after ++ before) u
    reaches_then facts before after t u a b = record {
      later = b.later;
      runs = λ past trace r.
          subst (λ (xs : List Step). Runs theory xs (state_of b.later made) trace) (sym (append_assoc after before past))
          (b.runs (before ++ past) trace (a.runs past trace r));
      added = b.added ++ a.added;
      is = b.is ∙ ap (λ (fs : List (Fact ⊥)). b.added ++ fs) a.is ∙ sym (append_assoc b.added a.added facts);
      known = b.known;
    }

    -- a public symbol is applied
    pub reaches_app : (facts : List (Fact ⊥)) (f : List ℕ) (ts : Grounds) → HasPublic (signature_of theory).symbols f (count ts) → AreKnownIn facts ts
        → Reaches facts made (apply_symbol f ts ∷ []) (app f ts)
    reaches_app facts f ts public h =
        let applied : Facts ⊥ = record { premises = known_all ts; actions = []; conclusions = knows (app f ts) ∷ [] } in
        let leads : Leads theory (apply_symbol f ts) applied (state_of facts made) (state_of (knows (app f ts) ∷ facts) made) = record {
          values = λ x. constant [];
          rest = facts;
          named = public;
          is_instance = refl;
          takes = takes_known facts ts h;
          is_new = tt;
          sorts = are_over facts ts h;
          adds = refl;
        } in
        record {
          later = knows (app f ts) ∷ facts;
          runs = λ past trace r. (state_of facts made, trace, applied, r, leads, refl);
          added = knows (app f ts) ∷ [];
          is = refl;
          known = known_now facts (app f ts) ((false, public), are_over facts ts h);
        }

    -- up a way of public symbols, from the place at its end
    pub lift : (v : Values) (t : Term Variable) (forks : List Fork) (q : Term Variable) → IsWay t forks q → ArePublic (signature_of theory).symbols forks
        → (facts : List (Fact ⊥)) → AreKnownIn facts (valued_all v (sides forks)) → IsKnownIn facts (valued v q)
        → Reaches facts made (raising (map level_of forks) (shown v (sides forks)) (valued v q)) (valued v t)
    lift v t [] q way publics facts beside h = reaches_known facts (valued v t) (subst (λ (u : Term Variable). IsKnownIn facts (valued v u)) (sym way) h)
    lift v t (f ∷ forks) q way publics facts beside h =
        let parts = known_parts facts v (joined f.front f.back) (sides forks) beside in
        let up = raising (map level_of forks) (shown v (sides forks)) (valued v q) in
        let inner = lift v f.entered forks q way.1 publics.1 facts parts.1 h in
        let args = args_with f f.entered in
        let persists : Persists facts inner.later = λ g m persistent. reaches_keeps facts up (valued v f.entered) inner g m in
        let beside_known = all_known_stay facts inner.later persists (valued_all v (joined f.front f.back)) parts.0 in
        let args_known : AreKnownIn inner.later (valued_all v args) = known_among inner.later v f.front f.entered f.back beside_known inner.known in
        let public : HasPublic (signature_of theory).symbols f.symbol (count (valued_all v args)) =
        subst (λ (n : ℕ). HasPublic (signature_of theory).symbols f.symbol n) (sym (count_valued v args)) publics.0 in
        let whole =
        reaches_then facts up (apply_symbol f.symbol (valued_all v args) ∷ []) (valued v f.entered) (valued v (app f.symbol args)) inner
        (reaches_app inner.later f.symbol (valued_all v args) public args_known) in
        subst (λ (u : Term Variable). Reaches facts made (raising (map level_of (f ∷ forks)) (shown v (sides (f ∷ forks))) (valued v q)) (valued v u)) (sym way.0)
        (subst (λ (steps : List Step). Reaches facts made steps (valued v (app f.symbol args))) (sym (raising_is v f forks q way.1)) whole)

    -- what is equal to a message, and stands in it, is known with it
    pub reaches_equal : (facts : List (Fact ⊥)) (steps : List Step) (t u : Ground) → Equal (signature_of theory).equations u t → IsPart u t
        → Reaches facts made steps t → Reaches facts made steps u
    reaches_equal facts steps t u e p a =
        let h = a.known in
        record {
          later = a.later;
          runs = a.runs;
          added = a.added;
          is = a.is;
          known = (
            part_over (signature_of theory).symbols u t p h.0,
            (h.1.0, h.1.1, (h.1.2.0, h.1.2.1, equal_all_trans (signature_of theory).equations (more u none) (more t none) h.1.0.args (e, tt) h.1.2.2)),
          );
        }
