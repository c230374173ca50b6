-- Facts that are taken from a state one after the other, as the functions do.
use Rattle.std.specs.Prelude.{Vec, List, [], ◌∷◌, if◌then◌else◌, map, Option, Some, None, option_map}
use Rattle.std.specs.Global.{Global}
use Rattle.sp_spec.specs.Rule.{Fact}
use Rattle.sp_law_run.specs.Taken.{same_fact}
use Rattle.sp_fact.specs.GroundView.{ground_fact}
use Rattle.sp_log.specs.View.{source_of}
use Rattle.sp_log.specs.declared.log.Source.{Source}
use Rattle.sp_transfer.specs.Construction as spec
use Rattle.sp_transfer.specs.Construction.{Taking}
use Rattle.sp_transfer.specs.declared.state.Given.{Given}

abbrev pub given_of : Given → spec.Given
given_of g = record { fact = ground_fact g.fact; source = source_of g.source }

-- the fact at the first place where it stands, and the others
abbrev pub found : Fact ⊥ → List spec.Given → Option Taking
found f [] = None
found f (g ∷ gs) =
    if same_fact f g.fact then Some (record { sources = g.source ∷ []; left = gs })
    else option_map (λ (t : Taking). record { sources = t.sources; left = g ∷ t.left }) (found f gs)

-- a source, if the fact was there, and what is left
abbrev pub one_taken : Option Source → List Given → Option Taking
one_taken None left = None
one_taken (Some source) left = Some (record { sources = source_of source ∷ []; left = map given_of left })

-- sources, if the facts were there, and what is left
abbrev pub all_taken : Option (Vec Source Global) → List Given → Option Taking
all_taken None left = None
all_taken (Some sources) left = Some (record { sources = map source_of sources.items; left = map given_of left })
