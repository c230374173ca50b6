-- The move on a chain: it is done with what was passed last, or goes on by a destruction. Source: CSF 2012, "Constraint solving" (the rules on destruction
-- chains); Meier's thesis, chapter 3.
use Rattle.std.specs.Prelude.{ℕ, suc, Bool, true, false, if◌then◌else◌, ◌+◌, List, [], ◌∷◌, ◌++◌, length, codes, decimal, Option, Some, None, option_map, option_and_then}
use Rattle.std.specs.Str.{bytes_eq}
use Rattle.sp_spec.specs.Term.{Sort, Msg, Fresh, Pub, Variable, Term, var, constant, name, app, none, more, valued, valued_all, in_term, in_terms}
use Rattle.sp_spec.specs.Same.{same_variable}
use Rattle.sp_spec.specs.Destruction.{Destruction}
use Rattle.sp_spec.specs.Unifier.{mgu}
use Rattle.sp_spec.specs.Substitution.{bound_to}
use Rattle.sp_spec_forms.specs.Numbering.{without_repeats, place}
use Rattle.sp_spec_system.specs.System.{chain_begun, chain_done, Happening, learning, Event, System, with_next}
use Rattle.sp_spec_system.specs.MakingOne.{event_at}
use Rattle.sp_spec_system.specs.Equating.{system_changed}
use Rattle.sp_spec_system.specs.Cases.{case_if}
use Rattle.sp_spec_system.specs.Move.{Case}
use Rattle.sp_spec_know.specs.Know.{with_way, with_learnings}

-- ---- the chain

-- what is learnt by a chain that has begun, from that conclusion of the event at that time; what it has passed, and the last of these
pub record Begun : Type 0 where
  pub message : Term Variable
  pub from : ℕ
  pub conclusion : ℕ
  pub passed : List (Term Variable)
  pub last : Term Variable

abbrev pub last_of : Term Variable → List (Term Variable) → Term Variable
last_of t [] = t
last_of t (u ∷ us) = last_of u us

abbrev pub begun : Happening → Option Begun
begun (learning m (chain_begun j k (t ∷ ts))) = Some (record { message = m; from = j; conclusion = k; passed = t ∷ ts; last = last_of t ts })
begun h = None

abbrev pub begun_at : System → ℕ → Option Begun
begun_at s i = option_and_then (λ (e : Event). begun e.happening) (event_at i s.events)

-- ---- cases

abbrev pub with_same : System → Term Variable → Term Variable → Option System
with_same s t u = option_map (λ bs. system_changed (bound_to bs) (λ j. j) s) (mgu ((t, u) ∷ []))

abbrev pub is_pub_sort : Sort → Bool
is_pub_sort Pub = true
is_pub_sort Msg = false
is_pub_sort Fresh = false

-- a pair or a public name, to which no chain leads
abbrev pub is_no_end : Term Variable → Bool
is_no_end (var x) = is_pub_sort x.sort
is_no_end (constant c) = true
is_no_end (name n) = false
is_no_end (app f none) = false
is_no_end (app f (more t none)) = false
is_no_end (app f (more t (more u none))) = bytes_eq f (codes "pair")
is_no_end (app f (more t (more u (more w ws)))) = false

-- the last message is the one that is learnt
abbrev pub done_case : System → ℕ → Begun → List Case
done_case s i b =
    if is_no_end b.last then [] else case_if (codes "done") (with_same (with_way s i (chain_done b.from b.conclusion b.passed)) b.last b.message)

-- the destruction's variables, from that number on, as they are first seen
abbrev pub numbered_from : ℕ → Destruction → Variable → Term Variable
numbered_from n d x =
    var (record { sort = x.sort; number = n + place (without_repeats same_variable (in_term d.pattern ++ (in_terms d.sides ++ in_term d.result))) x })

abbrev pub variables_of : Destruction → ℕ
variables_of d = length (without_repeats same_variable (in_term d.pattern ++ (in_terms d.sides ++ in_term d.result)))

-- the chain goes on by the destruction, whose side messages are learnt before
abbrev pub with_link : System → ℕ → Begun → Destruction → System
with_link s i b d =
    with_learnings i (valued_all (numbered_from s.next d) d.sides)
    (with_next (with_way s i (chain_begun b.from b.conclusion (b.passed ++ valued (numbered_from s.next d) d.result ∷ []))) (s.next + variables_of d))

-- by each of these destructions, from that number on, whose pattern may be the last message
abbrev pub by_destructions : System → ℕ → Begun → ℕ → List Destruction → List Case
by_destructions s i b n [] = []
by_destructions s i b n (d ∷ ds) =
    case_if (codes "chain_" ++ decimal n) (with_same (with_link s i b d) b.last (valued (numbered_from s.next d) d.pattern)) ++ by_destructions s i b (suc n) ds

-- of the destructions of the signature
abbrev pub chain_cases : List Destruction → System → ℕ → Option (List Case)
chain_cases ds s i = option_map (λ (b : Begun). done_case s i b ++ by_destructions s i b 1 ds) (begun_at s i)
