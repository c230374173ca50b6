-- Source used twice. Source: CSF 2012, "Dependency graphs" (a linear fact is taken once, each premise has one source).
use Rattle.std.specs.Prelude.{◌==◌, ◌&&◌, ◌||◌, not, Bool, List, false, [], ◌∷◌}
use Rattle.sp_spec_system.specs.System.{Event, Link, System}
use Rattle.sp_spec_system.specs.Equating.{same_premise}
use Rattle.sp_spec_graph.specs.LinearOnce.{one_linear_source}
use Rattle.sp_spec.specs.Term.{Variable, Term}
use Rattle.sp_spec_graph.specs.Fresh.{stands_in, happening_fresh}
use Rattle.sp_spec_system.specs.Picked.{some_two}

-- Source used twice: two premises of one event have one linear source, one premise has two conclusions of one event, or two premises of
-- one event are the same Fr.
abbrev pub used_twice : List Event → Link → Link → Bool
used_twice events l m =
    one_linear_source events l m && (l.to == m.to) && not (l.premise == m.premise) || same_premise l m && (l.from == m.from) && not (l.conclusion == m.conclusion)

abbrev pub repeats : List (Term Variable) → Bool
repeats [] = false
repeats (t ∷ ts) = stands_in t ts || repeats ts

abbrev pub takes_fr_twice : List Event → Bool
takes_fr_twice [] = false
takes_fr_twice (e ∷ es) = repeats (happening_fresh e.happening) || takes_fr_twice es

abbrev pub has_source_twice : System → Bool
has_source_twice s = some_two (used_twice s.events) s.links || takes_fr_twice s.events
