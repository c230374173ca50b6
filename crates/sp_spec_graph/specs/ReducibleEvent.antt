-- Reducible event term: an equation could be used inside a term of an event, whose facts the log has in normal form. Source: CSF 2012, "Constraint
-- solving" (terms of nodes are in normal form); Schmidt's thesis, chapter 3 (normal form condition).
use Rattle.std.specs.Prelude.{Bool, false, not, ◌||◌, List, [], ◌∷◌}
use Rattle.sp_spec.specs.Signature.{Equation}
use Rattle.sp_spec_forms.specs.Reducible.{irreducible_facts}
use Rattle.sp_spec_system.specs.System.{Event, happening_facts}

abbrev pub has_reducible : List Equation → List Event → Bool
has_reducible es [] = false
has_reducible es (e ∷ events) = not (irreducible_facts es (happening_facts e.happening)) || has_reducible es events
