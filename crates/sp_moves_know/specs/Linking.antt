-- The parts of the move on a chain: the variables of a destruction, and the system in which a chain goes on by it.
use Rattle.std.specs.Prelude.{ℕ, ◌+◌, List, [], ◌∷◌, ◌++◌, Option}
use Rattle.sp_spec.specs.Term.{Variable, Term, var, Terms, valued, in_term, in_terms}
use Rattle.sp_spec.specs.Same.{same_variable}
use Rattle.sp_spec.specs.Destruction.{Destruction}
use Rattle.sp_spec_forms.specs.Numbering.{without_repeats, place}
use Rattle.sp_spec_system.specs.System.{chain_begun, System, with_next}
use Rattle.sp_spec_know.specs.Know.{with_way, with_learnings}
use Rattle.sp_spec_know.specs.Chain.{Begun, numbered_from, with_link, with_same}

-- its variables, as they are first seen
abbrev pub seen_in : Destruction → List Variable
seen_in d = without_repeats same_variable (in_term d.pattern ++ (in_terms d.sides ++ in_term d.result))

-- a variable, numbered from that number on by its place among these
abbrev pub placed_from : ℕ → List Variable → Variable → Term Variable
placed_from n xs x = var (record { sort = x.sort; number = n + place xs x })

-- what the chain has passed has one message more, after the side messages are learnt
abbrev pub with_longer : System → ℕ → ℕ → ℕ → List (Term Variable) → Terms Variable → Term Variable → ℕ → System
with_longer s i from conclusion passed sides result next =
    with_learnings i sides (with_next (with_way s i (chain_begun from conclusion (passed ++ result ∷ []))) next)

-- the system in which the chain goes on by the destruction, if its pattern may be the last message
abbrev pub by_destruction : System → ℕ → Begun → Destruction → Option System
by_destruction s i b d = with_same (with_link s i b d) b.last (valued (numbered_from s.next d) d.pattern)
