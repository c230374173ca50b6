-- Linear source once: premises and sources of links. Source: CSF 2012, "Constraint solving" (linear facts are consumed once).
-- The elementary move and its contradiction, where events can't be one.
use Rattle.std.specs.Prelude.{not, Bool, false, Option, Some, None, ◌&&◌, List, ◌==◌, ℕ, option_map, option_and_then, ◌||◌, is_none}
use Rattle.std.specs.Option.{option_or}
use Rattle.sp_spec.specs.Term.{Variable}
use Rattle.sp_spec.specs.Rule.{Fact}
use Rattle.sp_spec_system.specs.System.{Event, Link, System}
use Rattle.sp_spec_system.specs.Equating.{same_source, same_premise}
use Rattle.sp_spec_system.specs.MakingOne.{premise_at, made_one}
use Rattle.sp_spec_system.specs.Picked.{first_two, some_two}

abbrev pub is_linear : Option (Fact Variable) → Bool
is_linear None = false
is_linear (Some f) = not f.persistent

-- the links have one source, which is linear
abbrev pub one_linear_source : List Event → Link → Link → Bool
one_linear_source events l m = same_source l m && is_linear (premise_at events l.to l.premise)

-- two links whose premises have to be one, and two whose sources have to be one, while their times differ
abbrev pub premises_clash : List Event → Link → Link → Bool
premises_clash events l m = one_linear_source events l m && not (l.to == m.to)

abbrev pub sources_clash : Link → Link → Bool
sources_clash l m = same_premise l m && not (l.from == m.from)

abbrev pub premise_times : Link × Link → ℕ × ℕ
premise_times p = (p.0.to, p.1.to)

abbrev pub source_times : Link × Link → ℕ × ℕ
source_times p = (p.0.from, p.1.from)

abbrev pub times_of_links : List Event → List Link → Option (ℕ × ℕ)
times_of_links events links = option_or (option_map premise_times (first_two (premises_clash events) links)) (option_map source_times (first_two sources_clash links))

abbrev pub linear_once : System → Option System
linear_once s = option_and_then (made_one s) (times_of_links s.events s.links)

abbrev pub cannot_link : System → Link → Link → Bool
cannot_link s l m =
    premises_clash s.events l m && is_none (made_one s (premise_times (l, m))) || sources_clash l m && is_none (made_one s (source_times (l, m)))

abbrev pub fails_to_link : System → Bool
fails_to_link s = some_two (cannot_link s) s.links
