-- The moves of a proof, and what a proof is made in. Source: Tamarin manual, "Proofs"; CSF 2012, "Constraint solving" (case distinctions on a
-- disjunction, on the rules that may have done an action or given a premise, and on how a message is learnt).
use Rattle.std.specs.Prelude.{ℕ, Bool, List, [], ◌∷◌, ◌++◌, map, Option, None, Some, option_and_then}
use Rattle.sp_spec.specs.Guarded.{Guarded}
use Rattle.sp_spec.specs.Log.{Log}
use Rattle.sp_spec_system.specs.System.{System, formulas_alone}
use Rattle.sp_spec_system.specs.Head.{Head}
use Rattle.sp_spec_system.specs.Rules.{Rules}

-- a side of the move `same`: a variable of sort fresh or pub, by its number, or a public name
pub data Side : Type 0 where
  fresh_side : ℕ → Side
  public_side : ℕ → Side
  constant_side : List ℕ → Side

pub data Move : Type 0 where
  simplify : Move
  contradiction : Move
  unproved : Move
  -- the search ends here: a log has been found
  solved : Move
  -- one of the parts of a formula
  or : ℕ → Move
  action : ℕ → Move
  -- a premise, by its event's time and its place
  premise : ℕ → ℕ → Move
  -- a message that is learnt, by its event's time
  know : ℕ → Move
  -- a chain that leads to a message that is learnt, by its event's time
  chain : ℕ → Move
  -- the empty trace, and one that isn't
  induction : Move
  -- a message that is learnt, by its event's time and the source table
  source : ℕ → Move
  -- two times
  compare : ℕ → ℕ → Move
  -- a message variable, by its number
  top : ℕ → Move
  -- two terms that stand for names
  same : Side → Side → Move
  -- nothing more happens, or something does
  more_events : Move
  -- the search ends here: nothing is left to decide, and no log has been found
  finish : Move

-- a case without a name has the empty one
pub record Case : Type 0 where
  pub name : List ℕ
  pub system : System

-- the systems of cases
abbrev pub systems_in : List Case → List System
systems_in cs = map (λ c. c.system) cs

-- The formulas with which the two cases of an induction begin: of the empty trace, and of one that isn't empty.
pub record InductionCases : Type 0 where
  pub empty_trace : List Guarded
  pub non_empty_trace : List Guarded

-- What a proof of a lemma begins from: the guarded forms of the restrictions, in the order of the text, and those of the lemmas that are taken; what is
-- looked for (the negation of the form of a lemma on all traces, and the form of one on some trace); whether its first move is to be `induction`;
-- whether the kinds of moves on premises and messages count as one; and the cases of its induction, which a lemma on all traces may have.
pub record Root : Type 0 where
  pub restrictions : List Guarded
  pub taken : List Guarded
  pub sought : Guarded
  pub begins_with_induction : Bool
  pub consecutive : Bool
  pub cases : Option InductionCases

-- the formulas that are to be true of the whole log
abbrev pub root_formulas : Root → List Guarded
root_formulas r = r.restrictions ++ (r.taken ++ r.sought ∷ [])

-- those that a log has to make true with which the search ends: what is taken was shown
abbrev pub asked_formulas : Root → List Guarded
asked_formulas r = r.restrictions ++ r.sought ∷ []

-- the system in which the proof begins
abbrev pub root_system : Root → System
root_system r = formulas_alone (root_formulas r)

-- An entry of the source table: what it is of, the system that it begins from, and its cases.
pub record TableEntry : Type 0 where
  pub head : Head
  pub start : System
  pub cases : List Case

-- What a proof is made in: the theory's rules, the public names that stand in its text, what it begins from, if from anything, the source table, and of
-- each system the log that is looked for, if it suggests one. (Where an answer is given, the context is one of the theory and of its lemma, and
-- says which function that is.)
pub record Context : Type 0 where
  pub rules : Rules
  pub public_names : List (List ℕ)
  pub root : Option Root
  pub table : List TableEntry
  pub found : System → Option Log

-- the log with which the search ends at the system: none where it began from nothing
abbrev pub end_log : Context → System → Option Log
end_log context s = option_and_then (λ (r : Root). context.found s) context.root

-- the formulas over which a log is admitted: none are asked where the proof began from nothing
abbrev pub formulas_from : Option Root → List Guarded
formulas_from None = []
formulas_from (Some r) = root_formulas r
