-- How a learning log is checked: of each entry a test for each clause of the definition, over the entries before it. Lists of entries have the oldest
-- first here. Source of what is checked: CSF 2012, "Normal message deduction" (dependency graphs with construction, destruction and chains).
use Rattle.std.specs.Prelude.{ℕ, Bool, true, false, not, ◌&&◌, if◌then◌else◌, List, [], ◌∷◌, ◌++◌, take, length, Option, Some, None}
use Rattle.sp_spec.specs.Signature.{Signature}
use Rattle.sp_spec.specs.Destruction.{destructions}
use Rattle.sp_spec.specs.Log.{by_chain, Entry, step, send, learn, all_sources, sources_of}
use Rattle.sp_spec_forms.specs.Forms.{RuleForms}
use Rattle.sp_destruct.specs.Links.{is_link}
use Rattle.sp_log.specs.Checking.{step_is_instance, have_sources, same_source, are_new, names_are_new}
use Rattle.sp_learn.specs.declared.check.Clause.{Clause}
use Rattle.sp_learn.specs.declared.check.Clause.TheVariants.{Instance, Sources, Freshness, SentLearnt, LearntOnce, Way, MadeAlone, ChainIsNew}
use Rattle.sp_learn.specs.declared.check.Checked.{Checked}
use Rattle.sp_learn.specs.declared.check.Checked.TheVariants.{Fine, Fails}
use Rattle.sp_learn.specs.Learning.{learnt_in, is_among, may_learn, is_made_alone, none_among}

-- a step's premises have their sources, and no linear source is named twice
abbrev pub step_has_sources : Entry → List Entry → Bool
step_has_sources (step r facts sources) earlier =
    have_sources facts.premises sources earlier && are_new same_source (all_sources earlier) (sources_of (step r facts sources))
step_has_sources e earlier = true

-- what is sent is learnt
abbrev pub sent_is_learnt : Entry → List Entry → Bool
sent_is_learnt (send m) earlier = is_among (learnt_in earlier) m
sent_is_learnt e earlier = true

-- what is learnt wasn't yet
abbrev pub learnt_is_new : Entry → List Entry → Bool
learnt_is_new (learn m how) earlier = not (is_among (learnt_in earlier) m)
learnt_is_new e earlier = true

-- and may be learnt in that way
abbrev pub way_is_right : Signature → Entry → List Entry → Bool
way_is_right signature (learn m how) earlier = may_learn signature (is_link (destructions signature) (learnt_in earlier)) earlier m how
way_is_right signature e earlier = true

-- what a chain gives isn't made alone
abbrev pub chain_is_wanted : Signature → Entry → Bool
chain_is_wanted signature (learn m (by_chain p k chain)) = not (is_made_alone signature m)
chain_is_wanted signature e = true

-- no message of a chain was learnt before the chain's step
abbrev pub chain_is_new : Entry → List Entry → Bool
chain_is_new (learn m (by_chain p k chain)) earlier = none_among (learnt_in (take p earlier)) chain
chain_is_new e earlier = true

-- the entry keeps the clause
abbrev pub keeps : Signature → List RuleForms → List Entry → Entry → Clause → Bool
keeps signature rules earlier e Instance = step_is_instance signature rules e
keeps signature rules earlier e Sources = step_has_sources e earlier
keeps signature rules earlier e Freshness = names_are_new e earlier
keeps signature rules earlier e SentLearnt = sent_is_learnt e earlier
keeps signature rules earlier e LearntOnce = learnt_is_new e earlier
keeps signature rules earlier e Way = way_is_right signature e earlier
keeps signature rules earlier e MadeAlone = chain_is_wanted signature e
keeps signature rules earlier e ChainIsNew = chain_is_new e earlier

-- the clauses in their order
abbrev pub all_clauses : List Clause
all_clauses = Instance ∷ Sources ∷ Freshness ∷ SentLearnt ∷ LearntOnce ∷ Way ∷ MadeAlone ∷ ChainIsNew ∷ []

-- the first of these clauses that isn't kept
abbrev pub first_failing : (Clause → Bool) → List Clause → Option Clause
first_failing kept [] = None
first_failing kept (clause ∷ clauses) = if kept clause then first_failing kept clauses else Some clause

-- the least clause that the entry breaks
abbrev pub broken : Signature → List RuleForms → List Entry → Entry → Option Clause
broken signature rules earlier e = first_failing (keeps signature rules earlier e) all_clauses

-- what is answered of an entry that breaks this, or else of the later ones
abbrev pub fails_or : ℕ → Option Clause → Checked → Checked
fails_or n None later = later
fails_or n (Some clause) later = Fails n clause

-- the first entry that breaks a clause, behind these
abbrev pub check_behind : Signature → List RuleForms → List Entry → List Entry → Checked
check_behind signature rules earlier [] = Fine
check_behind signature rules earlier (e ∷ later) =
    fails_or (length earlier) (broken signature rules earlier e) (check_behind signature rules (earlier ++ e ∷ []) later)

abbrev pub check_of : Signature → List RuleForms → List Entry → Checked
check_of signature rules entries = check_behind signature rules [] entries

abbrev pub is_fine : Checked → Bool
is_fine Fine = true
is_fine (Fails n clause) = false

-- the entries, the oldest first, are a log
abbrev pub is_log : Signature → List RuleForms → List Entry → Bool
is_log signature rules entries = is_fine (check_of signature rules entries)
