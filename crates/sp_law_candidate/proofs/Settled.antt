-- Events of which it is settled how what they learn is learnt.
use Rattle.std.proofs.Common.{◌≡◌, true, List, [], ◌∷◌, refl}
use Rattle.std.proofs.lemmas.Bool.{and_parts, and_from}
use Rattle.sp_spec.specs.Lists.{Every}
use Rattle.sp_spec_system.specs.System.{Event}
use Rattle.sp_spec_solved.specs.Candidate.{is_settled, are_settled}

abbrev pub IsSettled : Event → Type 0
IsSettled d = is_settled d.happening ≡ true

pub all_are_settled : (es : List Event) → Every IsSettled es → are_settled es ≡ true
all_are_settled [] h = refl
all_are_settled (d ∷ es) h = and_from (is_settled d.happening) (are_settled es) h.0 (all_are_settled es h.1)

pub each_is_settled : (es : List Event) → are_settled es ≡ true → Every IsSettled es
each_is_settled [] e = tt
each_is_settled (d ∷ es) e = let both = and_parts (is_settled d.happening) (are_settled es) e in (both.0, each_is_settled es both.1)
