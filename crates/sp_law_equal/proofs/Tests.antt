-- What the test of a sort tells.
use Rattle.std.proofs.Common.{◌≡◌, true, refl}
use Rattle.std.specs.Bool.{Decides}
use Rattle.sp_spec.specs.Term.{Sort, Msg, Fresh, Pub, var, constant, name, app, Ground}
use Rattle.sp_spec.specs.Signature.{HasSort}
use Rattle.sp_law_equal.specs.Matching.{has_sort}

has_sort_tells : (s : Sort) (t : Ground) → has_sort s t ≡ true → HasSort s t
has_sort_tells Msg t e = tt
has_sort_tells Fresh (var x) e = absurd x
has_sort_tells Fresh (constant c) e = absurd cc
has_sort_tells Fresh (name n) e = tt
has_sort_tells Fresh (app f ts) e = absurd cc
has_sort_tells Pub (var x) e = absurd x
has_sort_tells Pub (constant c) e = tt
has_sort_tells Pub (name n) e = absurd cc
has_sort_tells Pub (app f ts) e = absurd cc

has_sort_from : (s : Sort) (t : Ground) → HasSort s t → has_sort s t ≡ true
has_sort_from Msg t h = refl
has_sort_from Fresh (var x) h = absurd x
has_sort_from Fresh (constant c) h = absurd h
has_sort_from Fresh (name n) h = refl
has_sort_from Fresh (app f ts) h = absurd h
has_sort_from Pub (var x) h = absurd x
has_sort_from Pub (constant c) h = refl
has_sort_from Pub (name n) h = absurd h
has_sort_from Pub (app f ts) h = absurd h

pub has_sort_decides : (s : Sort) (t : Ground) → Decides (has_sort s t) (HasSort s t)
has_sort_decides s t = (has_sort_tells s t, has_sort_from s t)
