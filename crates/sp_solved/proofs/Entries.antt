-- One event after the other gets its entry.
use Rattle.std.proofs.Common.{◌≡◌, List, [], ◌∷◌, ◌++◌, Option, Some, map, sym, ap, ◌∙◌}
use Rattle.std.proofs.lemmas.List.{map-append}
use Rattle.sp_spec.specs.Term.{Values}
use Rattle.sp_spec.specs.Log as log
use Rattle.sp_spec_system.specs.System.{Event, Link}
use Rattle.sp_learn.specs.View.{entry_of}
use Rattle.sp_learn.specs.declared.log.Entry.{Entry}
use Rattle.sp_spec_solved.specs.Candidate as spec
use Rattle.sp_spec.proofs.Options.{behind}
use Rattle.sp_solved.proofs.Firsts.{first_put}

pub entry_put : (listed : List Event) (links : List Link) (v : Values) (events others : List Event) (e : Event) (made now : List Entry) (d : Entry) (sources : List log.Source) (target : Option (List log.Entry))
    → events ≡ e ∷ others → Some sources ≡ spec.event_sources listed links e → entry_of d ≡ spec.entry_at listed v e.happening sources → now ≡ made ++ d ∷ []
    → behind (map entry_of made) (spec.entries_of listed links v events) ≡ target → behind (map entry_of now) (spec.entries_of listed links v others) ≡ target
entry_put listed links v events others e made now d sources target there h is put inv =
    let rest = spec.entries_of listed links v others in
    ap (λ (ds : List log.Entry). behind ds rest)
    (ap (map entry_of) put ∙ map-append entry_of made (d ∷ []) ∙ ap (λ (x : log.Entry). map entry_of made ++ x ∷ []) is)
    ∙ first_put (spec.entry_at listed v e.happening) (map entry_of made) sources (spec.event_sources listed links e) rest target (sym h)
    (ap (λ (es : List Event). behind (map entry_of made) (spec.entries_of listed links v es)) (sym there) ∙ inv)
