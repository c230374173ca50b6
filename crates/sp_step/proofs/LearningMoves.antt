-- The moves on messages that are learnt, at one event.
use Rattle.std.proofs.Common.{◌≡◌, ℕ, Bool, true, false, List, [], ◌∷◌, map, Option, Some, None, option_map, is_none, is_some, refl, sym, ap, subst, ◌∙◌}
use Rattle.std.specs.Prelude.{if◌then◌else◌}
use Rattle.sp_spec.specs.Term.{Variable, Term}
use Rattle.sp_spec_system.specs.System.{System, Event}
use Rattle.sp_spec_system.specs.Move.{Move, know, chain, Context}
use Rattle.sp_spec_know.specs.Know.{learnt_anyhow, is_message_variable}
use Rattle.sp_spec_proof.specs.Cases.{raw_cases, simple_case}
use Rattle.sp_spec_proof.specs.Choice.{is_instance, first_instance}
use Rattle.sp_spec_proof.specs.Kinds.{passed_last, no_message_variable, is_fresh_variable, is_application, if_of_kind}
use Rattle.sp_moves.specs.Clause.{Clause}
use Rattle.sp_moves_know.specs.WhyNot.{why_not_learning}
use Rattle.sp_moves_know.proofs.Exact.{exactly}
use Rattle.sp_step.specs.declared.learning.LearningKind.{LearningKind}
use Rattle.sp_step.specs.declared.learning.LearningKind.TheVariants as kind
use Rattle.sp_step.specs.Learning.{moves_at}
use Rattle.sp_step.proofs.Choosing.{is_some_map}

-- no clause of the move's condition fails
abbrev is_free : Context → System → Move → Bool
is_free context s m = is_none (why_not_learning context.rules.signature.symbols s m)

known : (context : Context) (s : System) (i : ℕ) → is_instance context s (know i) ≡ is_free context s (know i)
known context s i = is_some_map (map (simple_case context.rules)) (raw_cases context s (know i)) ∙ sym (exactly context.rules s (know i)).exact

chained : (context : Context) (s : System) (i : ℕ) → is_instance context s (chain i) ≡ is_free context s (chain i)
chained context s i = is_some_map (map (simple_case context.rules)) (raw_cases context s (chain i)) ∙ sym (exactly context.rules s (chain i)).exact

of_kind : (context : Context) (s : System) (move : ℕ → Move) (test : Term Variable → Bool) (i : ℕ) (o : Option (Term Variable)) (m : Move)
    → is_instance context s (move i) ≡ is_free context s (move i) → m ∷ [] ≡ if_of_kind move test i o → is_instance context s m ≡ is_free context s m
of_kind context s move test i None m here e = absurd cc
of_kind context s move test i (Some t) m here e = by_test (test t) e
  where
    by_test : (b : Bool) → m ∷ [] ≡ (let r : List Move = if b then move i ∷ [] else [] in r) → is_instance context s m ≡ is_free context s m
    by_test true h = let same : move i ≡ m = cc in subst (λ (n : Move). is_instance context s n ≡ is_free context s n) same here
    by_test false h = absurd cc

instance_at : (context : Context) (s : System) (k : LearningKind) (e : Event) (m : Move) → m ∷ [] ≡ moves_at k e → is_instance context s m ≡ is_free context s m
instance_at context s kind.Chain e m is = of_kind context s chain no_message_variable e.time (passed_last e.happening) m (chained context s e.time) is
instance_at context s kind.Fresh e m is = of_kind context s know is_fresh_variable e.time (learnt_anyhow e.happening) m (known context s e.time) is
instance_at context s kind.Application e m is = of_kind context s know is_application e.time (learnt_anyhow e.happening) m (known context s e.time) is
instance_at context s kind.VariableChain e m is = of_kind context s chain is_message_variable e.time (passed_last e.happening) m (chained context s e.time) is

-- the kind's move at the event is taken, if no clause of its condition fails
pub taken_at : (context : Context) (s : System) (k : LearningKind) (e : Event) (m : Move) (why : Option Clause) → m ∷ [] ≡ moves_at k e
    → why ≡ why_not_learning context.rules.signature.symbols s m → (let r : Option Move = if is_none why then Some m else None in r) ≡ first_instance context s (moves_at k e)
taken_at context s k e m why is told =
    ap (λ (b : Bool). let r : Option Move = if b then Some m else None in r) (ap is_none told ∙ sym (instance_at context s k e m is))
    ∙ ap (first_instance context s) is

-- where some clause fails the move isn't taken
pub refused : {X Y : Type 0} (f : X → Y) (o : Option X) (m : Move) → is_some o ≡ true → None ≡ (let r : Option Move = if is_none (option_map f o) then Some m else None in r)
refused f None m e = absurd cc
refused f (Some x) m e = refl
